-- What becomes of operations of which the value is known.
use Rattle.std.proofs.Common.{◌≡◌, inl, inr, ◌≤◌, ℕ, Bool, true, false, not, ◌||◌, Option, Some, None, if◌then◌else◌, refl, ap, ap₂, subst, arith}
use Rattle.js_syntax.specs.declared.node_kind.NodeKind.{NodeKind as Kind}
use Rattle.js_syntax.specs.declared.node_kind.NodeKind.TheVariants.{Literal as literal, UnaryExpression as unary_expression, BinaryExpression as binary_expression}
use Rattle.js_syntax.specs.declared.value.LiteralValue.{LiteralValue}
use Rattle.js_syntax.specs.Node.{Forest, Tree, Note, nothing, alone, bare, forest_of}
use Rattle.scope_counts.specs.Counts.{ids}
use Rattle.js_effects.specs.Answers.{bare_answers}
use Rattle.js_effects.specs.Values.{value_of}
use Rattle.scope_laws.specs.Place as places
use Rattle.steps.specs.Allowed.KnownOperation.{has_operand, as_literal, known_literal, known_negative, less_than_zero, KnownOperation, value_is_known, negative_is_known}
use Rattle.steps.proofs.Owed.KnownOperation.{Negative, under_one, under_two, is_negative_known, negative_is, known_operation_owes}
use Rattle.min_traverse.specs.Lawful.{or_else}
use Rattle.steps.specs.Allowed.UnusedOperation.{acts}
use Rattle.rules.specs.Expressions.Lists.{new_note}
use Rattle.rules.specs.Expressions.Operations.{literal_there, minus_there, known_becomes}
use Rattle.rules.proofs.Expressions.Becoming.{no_answer, same_answer, either_of, IsLess}

-- ---- an answer is a literal of the value, or unary minus on one

record IsLiteral (n : Note) (o : Option LiteralValue) (y : Tree) : Type 0 where
  value : LiteralValue
  known : o ≡ Some value
  is : (let x : Tree = record { kind = literal value; note = new_note n; below = nothing } in x ≡ y)

is_literal_there : (n : Note) (o : Option LiteralValue) (y : Tree) → literal_there n o ≡ Some y → IsLiteral n o y
is_literal_there n None y e = no_answer e
is_literal_there n (Some v) y e = record { value = v; known = refl; is = same_answer e }

record IsMinus (n : Note) (o : Option ℕ) (y : Tree) : Type 0 where
  below_minus_one : ℕ
  known : o ≡ Some below_minus_one
  is : less_than_zero (new_note n) (new_note n) below_minus_one ≡ y

is_minus_there : (n : Note) (o : Option ℕ) (y : Tree) → minus_there n o ≡ Some y → IsMinus n o y
is_minus_there n None y e = no_answer e
is_minus_there n (Some i) y e = record { below_minus_one = i; known = refl; is = same_answer e }

-- ---- the answer is an edit, and where an edit applies there is an answer

pub known_edits : (a : places.Around) (x y : Tree) → known_becomes x.note x.kind x.below ≡ Some y → KnownOperation a x y
known_edits a x y e =
    elim (either_of (literal_there x.note (known_literal x.kind x.note x.below)) (minus_there x.note (known_negative x.kind x.note x.below)) y e) [
      | inl f ↦
          let h = is_literal_there x.note (known_literal x.kind x.note x.below) y f in
          subst (λ z. KnownOperation a x z) h.is (value_is_known (new_note x.note) h.value x h.known)
      | inr f ↦
          let h = is_minus_there x.note (known_negative x.kind x.note x.below) y f in
          subst (λ z. KnownOperation a x z) h.is (negative_is_known (new_note x.note) (new_note x.note) h.below_minus_one x h.known)
    ]

-- a negative number has no literal
no_literal : (b : Bool) (o : Option LiteralValue) → o ≡ None → (if b then None else o) ≡ None
no_literal true o e = refl
no_literal false o e = e

literal_unknown : (k : Kind) (n : Note) (below : Forest) (i : ℕ) → Negative k n below i → known_literal k n below ≡ None
literal_unknown _ n below i (under_one o _ _ _ idle may is) =
    no_literal (acts (unary_expression o) n below || not (has_operand below)) (as_literal (value_of bare_answers (alone (unary_expression o) n below))) (ap as_literal (negative_is (value_of bare_answers (alone (unary_expression o) n below)) i is))
literal_unknown _ n below i (under_two o _ _ _ idle may is) =
    no_literal (acts (binary_expression o) n below) (as_literal (value_of bare_answers (alone (binary_expression o) n below))) (ap as_literal (negative_is (value_of bare_answers (alone (binary_expression o) n below)) i is))

pub known_answers : (a : places.Around) (x z : Tree) → KnownOperation a x z → (y : Tree) × (known_becomes x.note x.kind x.below ≡ Some y) × (bare (forest_of y) ≡ bare (forest_of z))
known_answers a _ _ (value_is_known i v x known) =
    let y : Tree = record { kind = literal v; note = new_note x.note; below = nothing } in
    (y, ap (λ o. or_else (literal_there x.note o) (minus_there x.note (known_negative x.kind x.note x.below))) known, refl)
known_answers a _ _ (negative_is_known i j m x known) =
    let unknown = literal_unknown x.kind x.note x.below m (is_negative_known x.kind x.note x.below m known) in
    (less_than_zero (new_note x.note) (new_note x.note) m, ap₂ (λ o p. or_else (literal_there x.note o) (minus_there x.note p)) unknown known, refl)

-- ---- it is lighter than the operation, and takes no more references out

pub known_is_less : (n : Note) (k : Kind) (parts : Forest) (y : Tree) → known_becomes n k parts ≡ Some y → IsLess (record { kind = k; note = n; below = parts }) y
known_is_less n k parts y e =
    let x : Tree = record { kind = k; note = n; below = parts } in
    let owed = known_operation_owes (places.first nothing) x y (known_edits (places.first nothing) x y e) in
    record { thins = few_ids x y (known_edits (places.first nothing) x y e); lighter = Prim.omega (arith, owed.lighter) }
  where
    few_ids : (x y : Tree) → KnownOperation (places.first nothing) x y → (r : ℕ) → ids r (forest_of y) ≤ ids r (forest_of x)
    few_ids _ _ (value_is_known i v x known) r = Prim.omega arith
    few_ids _ _ (negative_is_known i j m x known) r = Prim.omega arith
