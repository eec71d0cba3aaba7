-- How it is known that an expression has no effect.
use Rattle.std.proofs.Common.{◌≡◌, ◌⊎◌, inl, inr, List, Bool, true, false, not, ◌&&◌, ◌||◌, if◌then◌else◌, refl, sym, true≢false}
use Rattle.js_syntax.specs.declared.node_kind.NodeKind.{NodeKind as Kind}
use Rattle.js_syntax.specs.Node.{Forest, Note}
use Rattle.js_effects.specs.declared.surroundings.Surroundings.{Surroundings}
use Rattle.js_effects.specs.Silence.{is_known_name, is_this, is_known}

-- it is a value, or is known, or runs its parts
pub by_sort : (v k r b : Bool) → (if v || k then false else not r || b) ≡ false → (v ≡ true) ⊎ ((k ≡ true) ⊎ ((r ≡ true) × (b ≡ false)))
by_sort true k r b e = inl refl
by_sort false true r b e = inr (inl refl)
by_sort false false true b e = inr (inr (refl, e))
by_sort false false false b e = absurd (true≢false e)

known_parts : (w x c y : Bool) → (not w && x) || (not c && y) ≡ true → ((w ≡ false) × (x ≡ true)) ⊎ ((c ≡ false) × (y ≡ true))
known_parts false true c y e = inl (refl, refl)
known_parts false false false y e = inr (refl, e)
known_parts false false true y e = absurd (true≢false (sym e))
known_parts true x false y e = inr (refl, e)
known_parts true x true y e = absurd (true≢false (sym e))

-- what is known is a name outside of `with`, or `this` outside of classes
pub known_by : (bound : List Bool) (s : Surroundings) (k : Kind) (n : Note) (a : Forest) → is_known bound s k n a ≡ true → ((s.in_with ≡ false) × (is_known_name bound k n a ≡ true)) ⊎ ((s.in_class ≡ false) × (is_this k ≡ true))
known_by bound s k n a e = known_parts s.in_with (is_known_name bound k n a) s.in_class (is_this k) e
