-- Marks of one more.
use Rattle.std.proofs.Common.{◌≡◌, ◌∙◌, ◌<◌, ◌+◌, ℕ, Bool, true, false, ◌||◌, List, [], ◌∷◌, ◌++◌, Option, Some, None, length, take, get_or, refl, ap, arith}
use Rattle.std.specs.Prelude.{nat_lt}
use Rattle.std.proofs.lemmas.List.{take_more}
use Rattle.js_syntax.specs.Node.{Tree, row}
use Rattle.scope_counts.specs.Counts.{ids}
use Rattle.symbol_sets.specs.Numbers.{has}
use Rattle.min_symbols.specs.Changes.{Changes}
use Rattle.min_context.specs.Edited.{evals}
use Rattle.min_context.specs.Left.{Left}

gone_twice : (b : Bool) (m n f : ℕ) → f ≡ m + n → (b || nat_lt 0 m) || nat_lt 0 n ≡ b || nat_lt 0 f
gone_twice true m n f e = refl
gone_twice false m n f e = Prim.grind arith

none_gone : (b : Bool) → b ≡ b || nat_lt 0 0
none_gone true = refl
none_gone false = refl

pub left_none : (m : Changes) → Left m (λ r. 0) 0 m
left_none m = record { room = refl; marks = λ r h. none_gone (has m.marked r); evals = none_gone m.eval_dropped; same = refl }

pub left_more : {k k' k'' : Changes} {g h f : ℕ → ℕ} {a b c : ℕ} → ((r : ℕ) → f r ≡ g r + h r) → c ≡ a + b → Left k g a k' → Left k' h b k'' → Left k f c k''
left_more {k = k} {g = g} {h = h} {f = f} {a = a} {b = b} {c = c} e i m n = record {
  room = n.room ∙ m.room;
  marks = λ r l. n.marks r (omega (arith, l, m.room)) ∙ ap (λ x. x || nat_lt 0 (h r)) (m.marks r l) ∙ gone_twice (has k.marked r) (g r) (h r) (f r) (e r);
  evals = n.evals ∙ ap (λ x. x || nat_lt 0 b) m.evals ∙ gone_twice k.eval_dropped a b c i;
  same = n.same ∙ m.same;
}

ids_push : (r : ℕ) (ts : List (Option Tree)) (x : Option Tree) → ids r (row (ts ++ x ∷ [])) ≡ ids r (row ts) + ids r (row (x ∷ []))
ids_push r [] x = omega arith
ids_push r (None ∷ ts) x = ids_push r ts x
ids_push r (Some t ∷ ts) x = omega (arith, ids_push r ts x)

evals_push : (ts : List (Option Tree)) (x : Option Tree) → evals (row (ts ++ x ∷ [])) ≡ evals (row ts) + evals (row (x ∷ []))
evals_push [] x = omega arith
evals_push (None ∷ ts) x = evals_push ts x
evals_push (Some t ∷ ts) x = omega (arith, evals_push ts x)

pub ids_next : (r : ℕ) (ts : List (Option Tree)) (i : ℕ) (x : Option Tree) → i < length ts → x ≡ get_or ts i x → ids r (row (take (i + 1) ts)) ≡ ids r (row (take i ts)) + ids r (row (x ∷ []))
ids_next r ts i x h is = rw (take_more ts i x h, ← is) (ids_push r (take i ts) x)

pub evals_next : (ts : List (Option Tree)) (i : ℕ) (x : Option Tree) → i < length ts → x ≡ get_or ts i x → evals (row (take (i + 1) ts)) ≡ evals (row (take i ts)) + evals (row (x ∷ []))
evals_next ts i x h is = rw (take_more ts i x h, ← is) (evals_push (take i ts) x)
