-- What becomes of conditionals of which nobody takes the value, and of which one branch alone acts.
use Rattle.std.proofs.Common.{◌≡◌, ◌∙◌, Bool, true, false, Option, Some, None, if◌then◌else◌, refl, sym, ap, subst, arith}
use Rattle.js_syntax.specs.declared.node_kind.NodeKind.{NodeKind as Kind}
use Rattle.js_syntax.specs.declared.node_kind.NodeKind.TheVariants.{ConditionalExpression as conditional_expression}
use Rattle.js_syntax.specs.declared.operator.LogicalOperator.TheVariants as logical
use Rattle.js_syntax.specs.Node.{Forest, Tree, Note, nothing, node, bare, forest_of}
use Rattle.min_context.specs.Place.{place_at, goes_on}
use Rattle.scope_laws.specs.Place as places
use Rattle.scope_counts.specs.Edits.{Around}
use Rattle.steps.specs.Allowed.UnusedOperation.{acts}
use Rattle.steps.specs.Allowed.OneSidedChoice.{sides, one_side, one_sided, OneSidedChoice, one_branch_acts}
use Rattle.rules.specs.DeadCode.Before.{before}
use Rattle.rules.specs.Expressions.Uses.{Spot, spot_of}
use Rattle.rules.specs.Expressions.Lists.{new_note}
use Rattle.rules.specs.Expressions.OneSided.{one_sided_becomes}
use Rattle.rules.proofs.Expressions.Uses.{spot_at, spot_before}
use Rattle.rules.proofs.Expressions.Becoming.{no_answer, same_answer, IsLess}
use Rattle.rules.proofs.Expressions.Lists.{HasAnswer, answer, IsTaken, taken}

-- ---- by which branches act

abbrev one_of_both : (n : Note) → (first second : Bool) → (test consequent alternate : Tree) → Option Tree
one_of_both n first second test consequent alternate =
    if first then (if second then None else Some (sides n logical.And test consequent)) else (if second then Some (sides n logical.Or test alternate) else None)

-- ---- whether a conditional becomes anything doesn't depend on notes

sides_as : (n m : Note) (first second : Bool) (test consequent alternate y : Tree) → one_of_both n first second test consequent alternate ≡ Some y → HasAnswer (one_of_both m first second test consequent alternate) y
sides_as n m true true test consequent alternate y e = no_answer e
sides_as n m true false test consequent alternate y e =
    subst (λ z. HasAnswer (Some (sides m logical.And test consequent)) z) (same_answer e) (answer (sides m logical.And test consequent) (sides n logical.And test consequent) refl)
sides_as n m false true test consequent alternate y e =
    subst (λ z. HasAnswer (Some (sides m logical.Or test alternate)) z) (same_answer e) (answer (sides m logical.Or test alternate) (sides n logical.Or test alternate) refl)
sides_as n m false false test consequent alternate y e = no_answer e

side_as : (n m : Note) (parts : Forest) (y : Tree) → one_side n parts ≡ Some y → HasAnswer (one_side m parts) y
side_as n m (node k i a (node l j b (node z o c nothing))) y e =
    sides_as n m (acts l j b) (acts z o c) (record { kind = k; note = i; below = a }) (record { kind = l; note = j; below = b }) (record { kind = z; note = o; below = c }) y e
side_as n m parts y e = no_answer e

one_sided_as : (n m : Note) (k : Kind) (parts : Forest) (y : Tree) → one_sided n k parts ≡ Some y → HasAnswer (one_sided m k parts) y
one_sided_as n m conditional_expression parts y e = side_as n m parts y e
one_sided_as n m k parts y e = no_answer e

-- ---- the answer is an edit, and where an edit applies there is an answer

one_sided_at : (s : Spot) (n : Note) (k : Kind) (parts : Forest) (y : Tree) → one_sided_becomes s n k parts ≡ Some y → IsTaken s.is_unused (one_sided (new_note n) k parts) y
one_sided_at s n k parts y e = taken s.is_unused (one_sided (new_note n) k parts) y e

pub one_sided_edits : (a : places.Around) (x y : Tree) → one_sided_becomes (spot_at a) x.note x.kind x.below ≡ Some y → OneSidedChoice a x y
one_sided_edits a x y e = let h = one_sided_at (spot_at a) x.note x.kind x.below y e in one_branch_acts (new_note x.note) x y h.holds h.answers

pub one_sided_answers : (a : places.Around) (x z : Tree) → OneSidedChoice a x z → (y : Tree) × (one_sided_becomes (spot_at a) x.note x.kind x.below ≡ Some y) × (bare (forest_of y) ≡ bare (forest_of z))
one_sided_answers a _ _ (one_branch_acts n x z unused e) =
    let h = one_sided_as n (new_note x.note) x.kind x.below z e in
    (h.left, ap (λ b. if b then one_sided (new_note x.note) x.kind x.below else None) unused ∙ h.answers, h.same)

-- at a place of a walk
pub one_sided_edits_there : (a : Around) (x y : Tree) (rest : Forest) → one_sided_becomes (spot_of (place_at a (goes_on rest))) x.note x.kind x.below ≡ Some y → OneSidedChoice (before a rest) x y
one_sided_edits_there a x y rest e = one_sided_edits (before a rest) x y (ap (λ s. one_sided_becomes s x.note x.kind x.below) (sym (spot_before a rest)) ∙ e)

pub one_sided_answers_there : (a : Around) (x z : Tree) (rest : Forest) → OneSidedChoice (before a rest) x z → (y : Tree) × (one_sided_becomes (spot_of (place_at a (goes_on rest))) x.note x.kind x.below ≡ Some y) × (bare (forest_of y) ≡ bare (forest_of z))
one_sided_answers_there a x z rest o = let w = one_sided_answers (before a rest) x z o in (w.0, ap (λ s. one_sided_becomes s x.note x.kind x.below) (spot_before a rest) ∙ w.1, w.2)

-- ---- the conditional weighs more than `&&` and `||`

abbrev a_choice : (n : Note) → (test consequent alternate : Tree) → Tree
a_choice n test consequent alternate = record {
  kind = conditional_expression;
  note = n;
  below = node test.kind test.note test.below (node consequent.kind consequent.note consequent.below (node alternate.kind alternate.note alternate.below nothing));
}

sides_less : (i n : Note) (first second : Bool) (test consequent alternate y : Tree) → one_of_both i first second test consequent alternate ≡ Some y → IsLess (a_choice n test consequent alternate) y
sides_less i n true true test consequent alternate y e = no_answer e
sides_less i n true false test consequent alternate y e = subst (λ z. IsLess (a_choice n test consequent alternate) z) (same_answer e) (record { thins = λ r. Prim.omega arith; lighter = Prim.omega arith })
sides_less i n false true test consequent alternate y e = subst (λ z. IsLess (a_choice n test consequent alternate) z) (same_answer e) (record { thins = λ r. Prim.omega arith; lighter = Prim.omega arith })
sides_less i n false false test consequent alternate y e = no_answer e

side_less : (i n : Note) (parts : Forest) (y : Tree) → one_side i parts ≡ Some y → IsLess (record { kind = conditional_expression; note = n; below = parts }) y
side_less i n (node k j a (node l h b (node z o c nothing))) y e =
    sides_less i n (acts l h b) (acts z o c) (record { kind = k; note = j; below = a }) (record { kind = l; note = h; below = b }) (record { kind = z; note = o; below = c }) y e
side_less i n parts y e = no_answer e

one_sided_less : (i n : Note) (k : Kind) (parts : Forest) (y : Tree) → one_sided i k parts ≡ Some y → IsLess (record { kind = k; note = n; below = parts }) y
one_sided_less i n conditional_expression parts y e = side_less i n parts y e
one_sided_less i n k parts y e = no_answer e

pub one_sided_is_less : (s : Spot) (n : Note) (k : Kind) (parts : Forest) (y : Tree) → one_sided_becomes s n k parts ≡ Some y → IsLess (record { kind = k; note = n; below = parts }) y
one_sided_is_less s n k parts y e = one_sided_less (new_note n) n k parts y (one_sided_at s n k parts y e).answers
