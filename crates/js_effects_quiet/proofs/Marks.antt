-- What may have no effects by its marks is silent where the marks are true.
use Rattle.std.proofs.Common.{◌≡◌, ◌⊎◌, inl, inr, List, Bool, true, false, ◌||◌, bytes_eq, codes, refl, sym, true≢false}
use Rattle.js_syntax.specs.declared.node_kind.NodeKind.{NodeKind as Kind}
use Rattle.js_syntax.specs.Node.{Forest, nothing, node, absent, Note}
use Rattle.js_syntax.specs.declared.operator.UnaryOperator.TheVariants as unary
use Rattle.js_effects.specs.Still.{is_value}
use Rattle.js_effects.specs.declared.surroundings.Surroundings.{Surroundings}
use Rattle.js_effects.specs.Silence.{runs_its_parts, is_marked, is_known_name, is_this, is_known, has_effect, may_have_effects}
use Rattle.js_effects.proofs.Sorts.{by_sort, known_by}
use Rattle.js_meaning.specs.Value.{Text, Env, this_name}
use Rattle.js_effects_quiet.specs.Silent.{HasBinding, IsFound, IsSilent, SilentRow, HoldsAt, HoldsOfBound, Known}
use Rattle.js_syntax.proofs.Truth.{first_of_neither, second_of_neither}

pub found : (env : Env) (x : Text) (b c : Bool) → (b || c) ≡ true → (b ≡ true → HasBinding env x) → HasBinding env x ⊎ (c ≡ true)
found env x true c e h = inl (h refl)
found env x false c e h = inr e

-- what is known

name_found : (bound : List Bool) (env : Env) (k : Kind) (n : Note) (a : Forest) (below : Type 0) → is_known_name bound k n a ≡ true → HoldsAt (HasBinding env) bound k n below → IsFound env k a
name_found bound env (Kind.ReferenceName x) n a below e h = found env x (is_marked bound n.id) (bytes_eq x (codes "undefined")) e h
name_found bound env (Kind.UnaryExpression unary.Typeof) n a below e h = e
name_found bound env k n a below e h = absurd (true≢false (sym e))

this_found : (env : Env) (k : Kind) (a : Forest) → is_this k ≡ true → HasBinding env this_name → IsFound env k a
this_found env Kind.ThisExpression a e h = h
this_found env k a e h = absurd (true≢false (sym e))

known_found : (bound : List Bool) (s : Surroundings) (env : Env) (k : Kind) (n : Note) (a : Forest) (below : Type 0) → is_known bound s k n a ≡ true → (s.in_with ≡ false → HoldsAt (HasBinding env) bound k n below)
    → (s.in_class ≡ false → HasBinding env this_name) → IsFound env k a
known_found bound s env k n a below e h this = elim (known_by bound s k n a e) [
  | inl b ↦ name_found bound env k n a below b.1 (h b.0)
  | inr b ↦ this_found env k a b.1 (this b.0)
]

-- what runs its parts asks for the names below it
pub holds_below : (Holds : Text → Type 0) (bound : List Bool) (k : Kind) (n : Note) (a : Forest) (below : Type 0) → runs_its_parts k a ≡ true → HoldsAt Holds bound k n below → below
holds_below Holds bound (Kind.ReferenceName x) n a below e h = absurd (true≢false (sym e))
holds_below Holds bound (Kind.Function f pure) n a below e h = absurd (true≢false (sym e))
holds_below Holds bound k n a below e h = h

module _ (bound : List Bool) (s : Surroundings) (env : Env) (this : s.in_class ≡ false → HasBinding env this_name) where
  silent_node : (k : Kind) (n : Note) (a : Forest) → has_effect bound s k n a (may_have_effects bound s a) ≡ false → (s.in_with ≡ false → HoldsAt (HasBinding env) bound k n (Known bound env a))
      → (may_have_effects bound s a ≡ false → (s.in_with ≡ false → Known bound env a) → SilentRow env a) → IsSilent env k a (SilentRow env a)
  silent_node k n a e h below = by (by_sort (is_value k) (is_known bound s k n a) (runs_its_parts k a) (may_have_effects bound s a) e)
    where
      by : ((is_value k ≡ true) ⊎ ((is_known bound s k n a ≡ true) ⊎ ((runs_its_parts k a ≡ true) × (may_have_effects bound s a ≡ false)))) → IsSilent env k a (SilentRow env a)
      by (inl v) = inl v
      by (inr (inl v)) = inr (inl (known_found bound s env k n a (Known bound env a) v h this))
      by (inr (inr v)) = inr (inr (v.0, below v.1 (λ w. holds_below (HasBinding env) bound k n a (Known bound env a) v.0 (h w))))

  -- inside of `with` no name is known, so nothing is asked of names there
  pub silent_row : (t : Forest) → may_have_effects bound s t ≡ false → (s.in_with ≡ false → Known bound env t) → SilentRow env t
  silent_row nothing e h = tt
  silent_row (absent r) e h = silent_row r e h
  silent_row (node k n a r) e h = (
    silent_node k n a (first_of_neither _ _ e) (λ w. (h w).0) (silent_row a),
    silent_row r (second_of_neither (has_effect bound s k n a (may_have_effects bound s a)) _ e) (λ w. (h w).1),
  )

-- names

holds_at : {P Q : Text → Type 0} {A B : Type 0} (bound : List Bool) → ((x : Text) → P x → Q x) → (A → B) → (k : Kind) (n : Note) → HoldsAt P bound k n A → HoldsAt Q bound k n B
holds_at bound f g (Kind.ReferenceName x) n h = λ e. f x (h e)
holds_at bound f g (Kind.Function how pure) n h = tt
holds_at bound f g k n h = g h

pub holds_too : (P Q : Text → Type 0) (bound : List Bool) → ((x : Text) → P x → Q x) → (t : Forest) → HoldsOfBound P bound t → HoldsOfBound Q bound t
holds_too P Q bound f nothing h = tt
holds_too P Q bound f (absent r) h = holds_too P Q bound f r h
holds_too P Q bound f (node k n a r) h = (holds_at bound f (holds_too P Q bound f a) k n h.0, holds_too P Q bound f r h.1)
