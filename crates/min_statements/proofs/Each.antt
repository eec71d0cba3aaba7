-- What is asked of the nodes of a row one by one, and of those above a place.
use Rattle.std.proofs.Common.{◌≡◌, ◌<◌, ◌≤◌, ◌+◌, ◌∙◌, ℕ, suc, List, [], ◌∷◌, Bool, true, false, ◌||◌, not, Option, Some, None, length, drop, slice_index_or, refl, sym, ap, drop-cons, add-one}
use Rattle.std.proofs.lemmas.List.{drop_all}
use Rattle.js_syntax.specs.Node.{Tree, row}
use Rattle.js_syntax.specs.declared.kind.VariableKind.{VariableKind}
use Rattle.js_tree.proofs.Search.{AsksEach}
use Rattle.js_syntax.proofs.Truth.{or_false}
use Rattle.min_context.specs.declared.ancestor.Ancestor.{Ancestor}
use Rattle.rules.specs.DeadCode.Rules.{Facts, Where, declarator_goes, one_goes, one_stays, item_has_dead, has_dead, has_with, is_field_of_with, has_class, is_field_of_class}
use Rattle.rules.specs.Imports.Rules as imports
use Rattle.min_statements.specs.Shed.{is_unused_specifier}

module _ (f : Facts) (w : Where) where
  pub goes_each : (how : VariableKind) → AsksEach (one_goes f w how)
  goes_each how None ts = refl
  goes_each how (Some t) ts = ap (λ (b : Bool). b || one_goes f w how (row ts)) (sym (or_false (declarator_goes f w how t.kind t.below)))

  pub stays_each : (how : VariableKind) → AsksEach (one_stays f w how)
  stays_each how None ts = refl
  stays_each how (Some t) ts = ap (λ (b : Bool). b || one_stays f w how (row ts)) (sym (or_false (not (declarator_goes f w how t.kind t.below))))

  pub dead_each : AsksEach (has_dead f w)
  dead_each None ts = refl
  dead_each (Some t) ts = ap (λ (b : Bool). b || has_dead f w (row ts)) (sym (or_false (item_has_dead f w t.kind t.below)))

  pub one_specifier : (x : Option Tree) → imports.one_goes f w (row (x ∷ [])) ≡ is_unused_specifier f w x
  one_specifier None = refl
  one_specifier (Some t) = or_false (imports.specifier_goes f w t.kind t.below)

  pub specifiers_each : AsksEach (imports.one_goes f w)
  specifiers_each None ts = refl
  specifiers_each (Some t) ts = ap (λ (b : Bool). b || imports.one_goes f w (row ts)) (sym (or_false (imports.specifier_goes f w t.kind t.below)))

pub with_found : (xs : List Ancestor) (i : ℕ) (d : Ancestor) → i < length xs → is_field_of_with (slice_index_or xs i d) ≡ true → has_with (drop i xs) ≡ true
with_found xs i d h e = ap has_with (drop-cons xs i d h) ∙ ap (λ b. b || has_with (drop (suc i) xs)) e

pub with_passed : (xs : List Ancestor) (i : ℕ) (d : Ancestor) → i < length xs → is_field_of_with (slice_index_or xs i d) ≡ false → has_with (drop i xs) ≡ has_with (drop (i + 1) xs)
with_passed xs i d h e = ap has_with (drop-cons xs i d h) ∙ ap (λ b. b || has_with (drop (suc i) xs)) e ∙ ap (λ k. has_with (drop k xs)) (sym (add-one i))

pub with_nowhere : (xs : List Ancestor) (i : ℕ) → length xs ≤ i → has_with (drop i xs) ≡ false
with_nowhere xs i h = ap has_with (drop_all i xs h)

pub class_found : (xs : List Ancestor) (i : ℕ) (d : Ancestor) → i < length xs → is_field_of_class (slice_index_or xs i d) ≡ true → has_class (drop i xs) ≡ true
class_found xs i d h e = ap has_class (drop-cons xs i d h) ∙ ap (λ b. b || has_class (drop (suc i) xs)) e

pub class_passed : (xs : List Ancestor) (i : ℕ) (d : Ancestor) → i < length xs → is_field_of_class (slice_index_or xs i d) ≡ false → has_class (drop i xs) ≡ has_class (drop (i + 1) xs)
class_passed xs i d h e = ap has_class (drop-cons xs i d h) ∙ ap (λ b. b || has_class (drop (suc i) xs)) e ∙ ap (λ k. has_class (drop k xs)) (sym (add-one i))

pub class_nowhere : (xs : List Ancestor) (i : ℕ) → length xs ≤ i → has_class (drop i xs) ≡ false
class_nowhere xs i h = ap has_class (drop_all i xs h)
