-- What becomes of statements `if` whose branches are empty.
use Rattle.std.proofs.Common.{◌≡◌, not, ◌&&◌, Some, refl, ap, subst, arith}
use Rattle.js_syntax.specs.declared.node_kind.NodeKind.{NodeKind as Kind}
use Rattle.js_syntax.specs.declared.node_kind.NodeKind.TheVariants.{IfStatement as if_statement}
use Rattle.js_syntax.specs.Node.{Forest, Tree, Note, nothing, node, absent, bare, forest_of}
use Rattle.js_syntax.proofs.Truth.{both, not_true, first_of_both, second_of_both}
use Rattle.steps.specs.Allowed.EmptyIf.{are_empty, begins_no_statement, statement_of, EmptyIf, test_stays}
use Rattle.rules.specs.Expressions.EmptyIfs.{test_left}
use Rattle.rules.specs.Expressions.Ifs.{given_if}
use Rattle.rules.specs.Expressions.Lists.{new_note}
use Rattle.rules.proofs.Expressions.Becoming.{no_answer, chosen, chosen_if, IsLess}

-- an answer is what an edit leaves
edits_at : (n : Note) (k : Kind) (below : Forest) (y : Tree) → test_left n k below ≡ Some y → EmptyIf (record { kind = k; note = n; below = below }) y
edits_at n if_statement (node t m d branches) y e =
    elim (chosen_if (are_empty branches && not (begins_no_statement t)) (statement_of (new_note n) m t d) y e) [
      | chosen may same ↦
          subst (EmptyIf (record { kind = if_statement; note = n; below = node t m d branches })) same
          (test_stays n m (new_note n) t d branches (first_of_both (are_empty branches) (not (begins_no_statement t)) may) (not_true (begins_no_statement t) (second_of_both (are_empty branches) (not (begins_no_statement t)) may)))
    ]
edits_at n if_statement nothing y e = no_answer e
edits_at n if_statement (absent r) y e = no_answer e
edits_at n k below y e = no_answer e

pub empty_if_edits : (x y : Tree) → test_left x.note x.kind x.below ≡ Some y → EmptyIf x y
empty_if_edits x y e = edits_at x.note x.kind x.below y e

-- and where an edit applies there is an answer
pub empty_if_answers : (x z : Tree) → EmptyIf x z → (y : Tree) × (test_left x.note x.kind x.below ≡ Some y) × (bare (forest_of y) ≡ bare (forest_of z))
empty_if_answers _ _ (test_stays n m o t d branches empty unnamed) =
    let y = statement_of (new_note n) m t d in
    (y, ap (λ b. given_if b y) (both (are_empty branches) (not (begins_no_statement t)) empty (ap not unnamed)), refl)

-- what comes is less
empty_if_less : (x y : Tree) → EmptyIf x y → IsLess x y
empty_if_less _ _ (test_stays n m o t d branches empty unnamed) = record { thins = λ r. Prim.omega arith; lighter = Prim.omega arith }

pub empty_if_is_less : (x y : Tree) → test_left x.note x.kind x.below ≡ Some y → IsLess x y
empty_if_is_less x y e = empty_if_less x y (empty_if_edits x y e)
