-- The first node that is found is the least.
use Rattle.std.proofs.Common.{◌≡◌, ◌+◌, ◌≤◌, ◌⊎◌, inl, inr, ℕ, Bool, true, false, Option, Some, None, if◌then◌else◌, refl, subst, arith}
use Rattle.js_syntax.specs.declared.node_kind.NodeKind.{NodeKind as Kind}
use Rattle.js_syntax.specs.Facts.{is_core}
use Rattle.js_syntax.specs.Node.{Forest, nothing, node, absent}
use Rattle.js_tree.specs.Count.{one_each, node_count}
use Rattle.run_covered.specs.Covered.{either, first_in, Stands, here, beneath, behind, past, IsLeast}

-- a place stands between those of its row
pub from_below : {k : Kind} {p from : ℕ} {t : Forest} → Stands k p from t → from ≤ p
from_below here = omega arith
from_below (beneath s) = omega (arith, from_below s)
from_below (behind s) = omega (arith, from_below s)
from_below (past s) = from_below s

pub up_to : {k : Kind} {p from : ℕ} {t : Forest} → Stands k p from t → p ≤ from + node_count t
up_to here = omega arith
up_to (beneath s) = omega (arith, up_to s)
up_to (behind s) = omega (arith, up_to s)
up_to (past s) = up_to s

-- ---- where none is found

none_of : (b : Bool) (x y : Option ℕ) (p : ℕ) → (if b then either x y else Some p) ≡ None → (b ≡ true) × (x ≡ None) × (y ≡ None)
none_of true None y p h = (refl, refl, h)
none_of true (Some z) y p h = absurd (cc h)
none_of false x y p h = absurd (cc h)

pub all_inside : {k : Kind} {p from : ℕ} {t : Forest} → first_in from t ≡ None → is_core k ≡ false → Stands k p from t → ⊥
all_inside {k = k} {p = p} h out (here {n = n} {below = a} {rest = r}) = absurd (cc ((none_of (is_core k) (first_in (p + one_each k) a) (first_in (p + node_count (node k n a nothing)) r) p h).0, out))
all_inside h out (beneath s) = all_inside (none_of _ _ _ _ h).1 out s
all_inside h out (behind s) = all_inside (none_of _ _ _ _ h).2 out s
all_inside h out (past s) = all_inside h out s

-- ---- where one is found

abbrev Found : (from place : ℕ) → Forest → Type 0
Found from place t = (k : Kind) × (is_core k ≡ false) × Stands k place from t

three_of : (b : Bool) (x y : Option ℕ) (p f : ℕ) → (if b then either x y else Some p) ≡ Some f
    → ((b ≡ false) × (p ≡ f)) ⊎ (((b ≡ true) × (x ≡ Some f)) ⊎ ((b ≡ true) × (x ≡ None) × (y ≡ Some f)))
three_of true None y p f h = inr (inr (refl, refl, h))
three_of true (Some z) y p f h = inr (inl (refl, h))
three_of false x y p f h = inl (refl, cc h)

pub stands : (from f : ℕ) (t : Forest) → first_in from t ≡ Some f → Found from f t
stands from f nothing h = absurd (cc h)
stands from f (absent r) h = let s = stands from f r h in (s.0, s.1, past s.2)
stands from f (node k n a r) h = elim (three_of (is_core k) (first_in (from + one_each k) a) (first_in (from + node_count (node k n a nothing)) r) from f h) [
  | inl e ↦ (k, e.0, subst (λ q. Stands k q from (node k n a r)) e.1 here)
  | inr (inl e) ↦ let s = stands (from + one_each k) f a e.1 in (s.0, s.1, beneath s.2)
  | inr (inr e) ↦ let s = stands (from + node_count (node k n a nothing)) f r e.2 in (s.0, s.1, behind s.2)
]

pub least : (l : Kind) (other f : ℕ) → is_core l ≡ false → (from : ℕ) (t : Forest) → first_in from t ≡ Some f → Stands l other from t → f ≤ other
least l other f out from t h (here {n = n} {below = a} {rest = r}) =
    elim (three_of (is_core l) (first_in (from + one_each l) a) (first_in (from + node_count (node l n a nothing)) r) from f h) [
      | inl e ↦ omega (arith, e.1)
      | inr (inl e) ↦ absurd (cc (e.0, out))
      | inr (inr e) ↦ absurd (cc (e.0, out))
    ]
least l other f out from t h (beneath {l = k} {n = n} {below = a} {rest = r} s) =
    elim (three_of (is_core k) (first_in (from + one_each k) a) (first_in (from + node_count (node k n a nothing)) r) from f h) [
      | inl e ↦ omega (arith, e.1, from_below s)
      | inr (inl e) ↦ least l other f out (from + one_each k) a e.1 s
      | inr (inr e) ↦ absurd (all_inside e.1 out s)
    ]
least l other f out from t h (behind {l = k} {n = n} {below = a} {rest = r} s) =
    elim (three_of (is_core k) (first_in (from + one_each k) a) (first_in (from + node_count (node k n a nothing)) r) from f h) [
      | inl e ↦ omega (arith, e.1, from_below s)
      | inr (inl e) ↦ omega (arith, up_to (stands (from + one_each k) f a e.1).2, from_below s)
      | inr (inr e) ↦ least l other f out (from + node_count (node k n a nothing)) r e.2 s
    ]
least l other f out from t h (past {rest = r} s) = least l other f out from r h s

pub the_least : (t : Forest) (f : ℕ) → first_in 0 t ≡ Some f → IsLeast t f
the_least t f h = let s = stands 0 f t h in record { kind = s.0; outside = s.1; stands = s.2; least = λ l other out. least l other f out 0 t h }
