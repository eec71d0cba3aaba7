-- What an expression is used for, and whether nobody takes its value, along the nodes above it.
use Rattle.std.proofs.Common.{◌≡◌, ◌∙◌, ◌<◌, ◌≤◌, ◌+◌, ◌==◌, ℕ, zero, suc, List, [], ◌∷◌, true, false, ◌||◌, length, drop, slice_index_or, refl, sym, ap, drop-cons, add-one, true≢false, arith}
use Rattle.std.proofs.lemmas.List.{drop_all}
use Rattle.min_context.specs.declared.ancestor.Ancestor.{Ancestor}
use Rattle.min_context.specs.declared.ancestor.Ancestor.TheVariants as ancestor
use Rattle.min_context.specs.declared.ancestor.Parent.{Parent}
use Rattle.min_context.specs.declared.ancestor.Parent.TheVariants as parent
use Rattle.steps.specs.Allowed.Unused.{Taker, somebody}
use Rattle.steps.specs.Allowed.Uses.{Use, as_value, first_as_callee}
use Rattle.rules.specs.DeadCode.Rules.{has_with, is_field_of_with}
use Rattle.rules.specs.Expressions.Uses.{use_in, use_from, taken_under, taken_in, taken_from}
use Rattle.min_expressions.specs.Uses.{hands_on_under, hands_on}

pub behind_callee : (n : ℕ) → (n == 0) ≡ false → first_as_callee n ≡ as_value
behind_callee zero e = absurd (true≢false e)
behind_callee (suc n) e = refl

pub next_use : (xs : List Ancestor) (i : ℕ) (d : Ancestor) (u : Use) → i < length xs → use_from u (drop i xs) ≡ use_from (use_in u (slice_index_or xs i d)) (drop (i + 1) xs)
next_use xs i d u h = ap (use_from u) (drop-cons xs i d h) ∙ ap (λ k. use_from (use_in u (slice_index_or xs i d)) (drop k xs)) (sym (add-one i))

pub last_use : (xs : List Ancestor) (i : ℕ) (u : Use) → length xs ≤ i → use_from u (drop i xs) ≡ u
last_use xs i u h = ap (use_from u) (drop_all i xs h)

pub next_taken : (xs : List Ancestor) (i : ℕ) (d : Ancestor) (t : Taker) → i < length xs → taken_from t (drop i xs) ≡ taken_from (taken_in t (slice_index_or xs i d)) (drop (i + 1) xs)
next_taken xs i d t h = ap (taken_from t) (drop-cons xs i d h) ∙ ap (λ k. taken_from (taken_in t (slice_index_or xs i d)) (drop k xs)) (sym (add-one i))

pub last_taken : (xs : List Ancestor) (i : ℕ) (t : Taker) → length xs ≤ i → taken_from t (drop i xs) ≡ t
last_taken xs i t h = ap (taken_from t) (drop_all i xs h)

-- ---- who takes a value is told by the nearest nodes above

told_under : (p : Parent) (at : ℕ) (t u : Taker) → hands_on_under p ≡ false → taken_under t p at ≡ taken_under u p at
told_under parent.ParenthesizedExpression at t u h = absurd (true≢false h)
told_under parent.SequenceExpression at t u h = absurd (true≢false h)
told_under (parent.Expressions more) at t u h = absurd (true≢false h)
told_under parent.LogicalExpression at t u h = absurd (true≢false h)
told_under parent.ConditionalExpression at t u h = absurd (true≢false h)
told_under p at t u h = refl

told_in : (a : Ancestor) (t u : Taker) → hands_on a ≡ false → taken_in t a ≡ taken_in u a
told_in (ancestor.Field p at) t u h = told_under p at t u h
told_in ancestor.None t u h = refl

pub told_from : (xs : List Ancestor) (i : ℕ) (d : Ancestor) (t : Taker) → i < length xs → hands_on (slice_index_or xs i d) ≡ false → taken_from somebody (drop i xs) ≡ taken_from t xs
told_from [] i d t h e = absurd (omega (arith, h))
told_from (a ∷ above) zero d t h e = ap (λ u. taken_from u above) (told_in a somebody t e)
told_from (a ∷ above) (suc i) d t h e = told_from above i d (taken_in t a) (omega (arith, h)) e

-- ---- `with` statements

pub with_found : (xs : List Ancestor) (i : ℕ) (d : Ancestor) → i < length xs → is_field_of_with (slice_index_or xs i d) ≡ true → has_with (drop i xs) ≡ true
with_found xs i d h e = ap has_with (drop-cons xs i d h) ∙ ap (λ b. b || has_with (drop (suc i) xs)) e

pub with_passed : (xs : List Ancestor) (i : ℕ) (d : Ancestor) → i < length xs → is_field_of_with (slice_index_or xs i d) ≡ false → has_with (drop i xs) ≡ has_with (drop (i + 1) xs)
with_passed xs i d h e = ap has_with (drop-cons xs i d h) ∙ ap (λ b. b || has_with (drop (suc i) xs)) e ∙ ap (λ k. has_with (drop k xs)) (sym (add-one i))

pub with_nowhere : (xs : List Ancestor) (i : ℕ) → length xs ≤ i → has_with (drop i xs) ≡ false
with_nowhere xs i h = ap has_with (drop_all i xs h)
