-- What may not act is silent, and what has no effects by its marks may not act.
use Rattle.std.proofs.Common.{◌≡◌, ◌⊎◌, inl, inr, List, Bool, true, false, not, ◌||◌, if◌then◌else◌, bytes_eq, codes, refl, sym, true≢false}
use Rattle.js_syntax.specs.declared.node_kind.NodeKind.{NodeKind as Kind}
use Rattle.js_syntax.specs.Node.{Forest, nothing, node, absent, Note}
use Rattle.js_syntax.specs.declared.operator.UnaryOperator.TheVariants as unary
use Rattle.js_effects.specs.declared.surroundings.Surroundings.{Surroundings}
use Rattle.js_effects.specs.Still.{is_value}
use Rattle.js_effects.specs.Silence.{runs_its_parts, is_marked, is_known_name, is_this, is_known, has_effect, may_have_effects}
use Rattle.js_meaning.specs.Value.{Text, Env, this_name}
use Rattle.js_effects_quiet.specs.Silent.{HasBinding, IsFound, IsSilent, SilentRow, HoldsAt, HoldsOfBound}
use Rattle.js_effects.proofs.Sorts.{by_sort, known_by}
use Rattle.js_effects_quiet.proofs.Marks.{holds_below, found}
use Rattle.steps.specs.Names.{is_among, is_named, acts_at, may_act}
use Rattle.js_syntax.proofs.Truth.{neither, first_of_neither, second_of_neither}

-- a value, or a name that is declared, or what runs parts that may not act
abbrev IsIdle : (v k r b : Bool) → Type 0
IsIdle v k r b = (v ≡ true) ⊎ ((k ≡ true) ⊎ ((r ≡ true) × (b ≡ false)))

idle_back : (v k r b : Bool) → IsIdle v k r b → (if v || k then false else not r || b) ≡ false
idle_back true k r b h = refl
idle_back false true r b h = refl
idle_back false false true b (inr (inr h)) = h.1
idle_back false false true b (inr (inl h)) = absurd (true≢false (sym h))
idle_back false false true b (inl h) = absurd (true≢false (sym h))
idle_back false false false b (inr (inr h)) = absurd (true≢false (sym h.0))
idle_back false false false b (inr (inl h)) = absurd (true≢false (sym h))
idle_back false false false b (inl h) = absurd (true≢false (sym h))

-- in an environment that binds the names

abbrev Binds : List Text → Env → Type 0
Binds names env = (x : Text) → is_among names x ≡ true → HasBinding env x

named_found : (names : List Text) (env : Env) (k : Kind) (a : Forest) → Binds names env → is_named names k a ≡ true → IsFound env k a
named_found names env (Kind.ReferenceName x) a h e = found env x (is_among names x) (bytes_eq x (codes "undefined")) e (h x)
named_found names env (Kind.UnaryExpression unary.Typeof) a h e = e
named_found names env Kind.ThisExpression a h e = h this_name e
named_found names env k a h e = absurd (true≢false (sym e))

silent_node : (names : List Text) (env : Env) (k : Kind) (a : Forest) → Binds names env → (may_act names a ≡ false → SilentRow env a) → IsIdle (is_value k) (is_named names k a) (runs_its_parts k a) (may_act names a) → IsSilent env k a (SilentRow env a)
silent_node names env k a h below (inl v) = inl v
silent_node names env k a h below (inr (inl v)) = inr (inl (named_found names env k a h v))
silent_node names env k a h below (inr (inr v)) = inr (inr (v.0, below v.1))

pub silent_row : (names : List Text) (env : Env) (t : Forest) → Binds names env → may_act names t ≡ false → SilentRow env t
silent_row names env nothing h e = tt
silent_row names env (absent r) h e = silent_row names env r h e
silent_row names env (node k n a r) h e = (
  silent_node names env k a h (silent_row names env a h) (by_sort (is_value k) (is_named names k a) (runs_its_parts k a) (may_act names a) (first_of_neither _ _ e)),
  silent_row names env r h (second_of_neither (acts_at names k a (may_act names a)) _ e),
)

-- by marks

abbrev Among : List Text → Text → Type 0
Among names x = is_among names x ≡ true

named : (b c d : Bool) → (b || c) ≡ true → (b ≡ true → d ≡ true) → (d || c) ≡ true
named true c true e h = refl
named true c false e h = absurd (true≢false (sym (h refl)))
named false c true e h = refl
named false c false e h = e

known_named : (names : List Text) (bound : List Bool) (k : Kind) (n : Note) (a : Forest) (below : Type 0) → is_known_name bound k n a ≡ true → HoldsAt (Among names) bound k n below → is_named names k a ≡ true
known_named names bound (Kind.ReferenceName x) n a below e h = named (is_marked bound n.id) (bytes_eq x (codes "undefined")) (is_among names x) e h
known_named names bound (Kind.UnaryExpression unary.Typeof) n a below e h = e
known_named names bound k n a below e h = absurd (true≢false (sym e))

this_named : (names : List Text) (k : Kind) (a : Forest) → is_this k ≡ true → is_among names this_name ≡ true → is_named names k a ≡ true
this_named names Kind.ThisExpression a e h = h
this_named names k a e h = absurd (true≢false (sym e))

module _ (names : List Text) (bound : List Bool) (s : Surroundings) (this : s.in_class ≡ false → Among names this_name) where
  idle_node : (k : Kind) (n : Note) (a : Forest) → HoldsAt (Among names) bound k n (HoldsOfBound (Among names) bound a)
      → (HoldsOfBound (Among names) bound a → may_have_effects bound s a ≡ false → may_act names a ≡ false) → has_effect bound s k n a (may_have_effects bound s a) ≡ false → IsIdle (is_value k) (is_named names k a) (runs_its_parts k a) (may_act names a)
  idle_node k n a h below e = by (by_sort (is_value k) (is_known bound s k n a) (runs_its_parts k a) (may_have_effects bound s a) e)
    where
      by : IsIdle (is_value k) (is_known bound s k n a) (runs_its_parts k a) (may_have_effects bound s a) → IsIdle (is_value k) (is_named names k a) (runs_its_parts k a) (may_act names a)
      by (inl v) = inl v
      by (inr (inl v)) = elim (known_by bound s k n a v) [
        | inl b ↦ inr (inl (known_named names bound k n a (HoldsOfBound (Among names) bound a) b.1 h))
        | inr b ↦ inr (inl (this_named names k a b.1 (this b.0)))
      ]
      by (inr (inr v)) = inr (inr (v.0, below (holds_below (Among names) bound k n a (HoldsOfBound (Among names) bound a) v.0 h) v.1))

  pub marked_idle : (t : Forest) → HoldsOfBound (Among names) bound t → may_have_effects bound s t ≡ false → may_act names t ≡ false
  marked_idle nothing h e = refl
  marked_idle (absent r) h e = marked_idle r h e
  marked_idle (node k n a r) h e =
      neither (acts_at names k a (may_act names a)) _
      (idle_back (is_value k) (is_named names k a) (runs_its_parts k a) (may_act names a) (idle_node k n a h.0 (marked_idle a) (first_of_neither _ _ e)))
      (marked_idle r h.1 (second_of_neither (has_effect bound s k n a (may_have_effects bound s a)) _ e))
