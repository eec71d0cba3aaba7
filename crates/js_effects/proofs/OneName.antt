-- A name alone, by what stands first.
use Rattle.std.proofs.Common.{◌≡◌, ℕ, suc, Bool, false, ◌&&◌, ◌==◌, Some, None, refl, sym, ap, arith}
use Rattle.std.proofs.lemmas.Bool.{ne_eqb}
use Rattle.js_syntax.specs.Node.{Forest, nothing, node, absent, Tree}
use Rattle.js_effects.specs.Each.{width, child_of}
use Rattle.js_effects.specs.Silence.{names_one, is_one_name}

more : (w : ℕ) → suc (suc w) ≡ 1 → ⊥
more w e = absurd (omega (arith, e))

not_one : (w : ℕ) (x : Bool) → false ≡ ((suc (suc w) == 1) && x)
not_one w x = ap (λ b. b && x) (sym (ne_eqb (suc (suc w)) 1 (more w)))

pub one_name_some : (a : Forest) (t : Tree) → child_of a 0 ≡ Some t → is_one_name a ≡ ((width a == 1) && names_one t.kind t.below)
one_name_some nothing t e = absurd (cc e)
one_name_some (absent r) t e = absurd (cc e)
one_name_some (node k n a nothing) t e = let same : record { kind = k; note = n; below = a } ≡ t = cc e in rw (← same) refl
one_name_some (node k n a (absent r)) t e = not_one (width r) (names_one t.kind t.below)
one_name_some (node k n a (node j m b r)) t e = not_one (width r) (names_one t.kind t.below)

pub one_name_none : (a : Forest) → child_of a 0 ≡ None → is_one_name a ≡ false
one_name_none nothing e = refl
one_name_none (absent r) e = refl
one_name_none (node k n a r) e = absurd (cc e)
