-- What a choice owes of which it is known which part counts, which becomes the part that counts behind a zero, or behind its test.
use Rattle.std.proofs.Common.{◌≡◌, ◌≤◌, ◌<◌, [], ◌++◌, pos, Bool, true, false, ◌&&◌, Option, Some, None, arith, refl, subst}
use Rattle.js_syntax.specs.Class.{root}
use Rattle.js_syntax.specs.declared.node_kind.NodeKind.{NodeKind as Kind}
use Rattle.js_syntax.specs.declared.node_kind.NodeKind.TheVariants.{ConditionalExpression as conditional_expression, LogicalExpression as logical_expression, SequenceExpression as sequence_expression, Literal as literal}
use Rattle.js_syntax.specs.declared.operator.LogicalOperator.{LogicalOperator}
use Rattle.js_syntax.specs.declared.value.LiteralValue.TheVariants as value
use Rattle.js_syntax.specs.Facts.{weight}
use Rattle.js_syntax.specs.Node.{Note, Forest, Tree, nothing, node, forest_of, total}
use Rattle.js_syntax.specs.Table.{a_literal, a_sequence_expression}
use Rattle.js_syntax.proofs.Truth.{both}
use Rattle.js_tree.specs.Count.{levels}
use Rattle.js_rebuilt.specs.Rebuilt.{MayBeBuilt, Rebuilt, ends, stays, leaves, opened, built}
use Rattle.js_meaning.specs.Scope.{names_of, bound_names, import_decls}
use Rattle.js_meaning_near.specs.Purpose.{Purpose}
use Rattle.js_meaning_near.specs.Local.{Stands, for_part}
use Rattle.json_shape.specs.Shape.{Fits}
use Rattle.scope_laws.specs.Place.{Around, plug}
use Rattle.steps.specs.Steps.{all_core}
use Rattle.steps.specs.Allowed.IndirectChoice.{one_of, if_so, part_counts, behind_zero, IndirectChoice, value_alone_counts, part_counts_behind_test}
use Rattle.steps.specs.Allowed.KnownConditional.{truth_known, a_conditional}
use Rattle.steps.specs.Allowed.KnownSide.{side_known, a_logical}
use Rattle.steps.specs.Allowed.Wanted.{wanted_at}
use Rattle.steps.proofs.KeepForm.Rules.{first_empty, both_empty}
use Rattle.steps.specs.Owed.Comes.{Comes}
use Rattle.steps.specs.Owed.TakesPlace.{anywhere}
use Rattle.steps.specs.Owed.Owed.{ByParts, by_coming}
use Rattle.steps.proofs.Owed.BehindZero.{consequent_behind_zero, alternate_behind_zero, right_side_behind_zero}
use Rattle.steps.proofs.Owed.BehindTest.{part_follows, follows_owes}
use Rattle.steps.proofs.Owed.BranchKinds.{IsExpression}
use Rattle.steps.proofs.Owed.ChoiceParts.{parts_of_conditional, sides_of_logical}
use Rattle.steps.proofs.Owed.Choices.{IsChoice, a_conditional_is, a_logical_is, choice_calm, choice_is_other, choice_ends, choice_may_change, choice_no_name, choice_unasked, choice_expression, choice_takes, choice_declares}
use Rattle.steps.proofs.Owed.ChoiceRuns.{consequent_core, alternate_core, imports_before}
use Rattle.steps.proofs.Owed.KnownTests.{test_tells, side_tells, test_weighs, side_weighs, test_counts, side_counts}
use Rattle.steps.proofs.Owed.Undeclared.{DeclaresNothing, nothing_behind, both_plainly}
use Rattle.steps.proofs.Owed.UnusedList.{list_is_built, sequence_is_built}

abbrev tree : Kind → Note → (below : Forest) → Tree
tree k n below = record { kind = k; note = n; below = below }

abbrev pub number_zero : Kind
number_zero = literal (value.Number (pos 0))

-- ---- which part counts

pub data Counts : (x z : Tree) → Type 0 where
  consequent_counts : (o p i j : Note) (t k l : Kind) (d b c : Forest) → truth_known t p d ≡ Some true → Counts (a_conditional o t p d (node k i b (node l j c nothing))) (tree k i b)
  alternate_counts : (o p i j : Note) (t k l : Kind) (d b c : Forest) → truth_known t p d ≡ Some false → Counts (a_conditional o t p d (node k i b (node l j c nothing))) (tree l j c)
  right_side_counts : (q : LogicalOperator) (o p i : Note) (t k : Kind) (d b : Forest) → side_known q t p d ≡ Some true → Counts (a_logical q o t p d (node k i b nothing)) (tree k i b)

branch_that_counts : (o p i j : Note) (t k l : Kind) (d b c : Forest) (known : Option Bool) (z : Tree) → truth_known t p d ≡ known → one_of known (tree k i b) (tree l j c) ≡ Some z → Counts (a_conditional o t p d (node k i b (node l j c nothing))) z
branch_that_counts o p i j t k l d b c (Some true) z truth is = subst (Counts (a_conditional o t p d (node k i b (node l j c nothing)))) (cc is) (consequent_counts o p i j t k l d b c truth)
branch_that_counts o p i j t k l d b c (Some false) z truth is = subst (Counts (a_conditional o t p d (node k i b (node l j c nothing)))) (cc is) (alternate_counts o p i j t k l d b c truth)
branch_that_counts o p i j t k l d b c None z truth is = absurd cc

side_that_counts : (q : LogicalOperator) (o p i : Note) (t k : Kind) (d b : Forest) (known : Option Bool) (z : Tree) → side_known q t p d ≡ known → if_so known (tree k i b) ≡ Some z → Counts (a_logical q o t p d (node k i b nothing)) z
side_that_counts q o p i t k d b (Some true) z goes is = subst (Counts (a_logical q o t p d (node k i b nothing))) (cc is) (right_side_counts q o p i t k d b goes)
side_that_counts q o p i t k d b (Some false) z e is = absurd cc
side_that_counts q o p i t k d b None z e is = absurd cc

pub part_that_counts : (o : Note) (k : Kind) (below : Forest) (z : Tree) → part_counts k below ≡ Some z → Counts (tree k o below) z
part_that_counts o conditional_expression (node t p d (node k i b (node l j c nothing))) z is = branch_that_counts o p i j t k l d b c (truth_known t p d) z refl is
part_that_counts o (logical_expression q) (node t p d (node k i b nothing)) z is = side_that_counts q o p i t k d b (side_known q t p d) z refl is
part_that_counts o k below z is = absurd cc

counted_choice : {x z : Tree} → Counts x z → IsChoice x
counted_choice (consequent_counts o p i j t k l d b c truth) = a_conditional_is o p i j t k l d b c
counted_choice (alternate_counts o p i j t k l d b c truth) = a_conditional_is o p i j t k l d b c
counted_choice (right_side_counts q o p i t k d b goes) = a_logical_is q o p i t k d b

-- ---- rebuilt

pub zero_is_built : MayBeBuilt number_zero nothing
zero_is_built = record { operation = refl; calls_none = refl; breaks_none = λ c place. refl }

part_is_left : {x z : Tree} → Counts x z → Rebuilt (forest_of x) (forest_of z)
part_is_left (consequent_counts o p i j t k l d b c truth) = opened refl (leaves (stays (leaves ends)))
part_is_left (alternate_counts o p i j t k l d b c truth) = opened refl (leaves (leaves (stays ends)))
part_is_left (right_side_counts q o p i t k d b goes) = opened refl (leaves (stays ends))

part_is_behind : (n m i : Note) (x z : Tree) → Rebuilt (forest_of x) (forest_of z) → Rebuilt (forest_of x) (forest_of (behind_zero n m i z))
part_is_behind n m i x z h = built (sequence_is_built m number_zero z.kind i z.note nothing z.below nothing) (built (list_is_built (node number_zero i nothing (forest_of z))) (built zero_is_built h))

-- ---- what it weighs, and how many levels there are

behind_lighter : (n m i : Note) {x z : Tree} → Counts x z → total weight (forest_of (behind_zero n m i z)) < total weight (forest_of x)
behind_lighter n m i (consequent_counts o p h j t k l d b c truth) = let test = test_weighs t p d true truth in Prim.omega (arith, test)
behind_lighter n m i (alternate_counts o p h j t k l d b c truth) = let test = test_weighs t p d false truth in Prim.omega (arith, test)
behind_lighter n m i (right_side_counts q o p h t k d b goes) = let side = side_weighs t p d q true goes in Prim.omega (arith, side)

behind_no_deeper : (n m i : Note) {x z : Tree} → Counts x z → levels (forest_of (behind_zero n m i z)) ≤ levels (forest_of x)
behind_no_deeper n m i (consequent_counts o p h j t k l d b c truth) = let test = test_counts t p d true truth in Prim.omega (arith, test)
behind_no_deeper n m i (alternate_counts o p h j t k l d b c truth) = let test = test_counts t p d false truth in Prim.omega (arith, test)
behind_no_deeper n m i (right_side_counts q o p h t k d b goes) = let side = side_counts t p d q true goes in Prim.omega (arith, side)

-- ---- by the table of node types

counted_expression : (a : Around) {x z : Tree} → Counts x z → Fits root (plug a (Some x)) → IsExpression z.kind z.below
counted_expression a {x = x} (consequent_counts o p i j t k l d b c truth) fits = (parts_of_conditional a o x.below fits).1.0
counted_expression a {x = x} (alternate_counts o p i j t k l d b c truth) fits = (parts_of_conditional a o x.below fits).1.1.0
counted_expression a {x = x} (right_side_counts q o p i t k d b goes) fits = (sides_of_logical a q o x.below fits).1.0

zero_expression : IsExpression number_zero nothing
zero_expression = (a_literal, (value.Number (pos 0), tt), refl, tt, refl, tt)

pub behind_expression : (n m i : Note) (z : Tree) → IsExpression z.kind z.below → IsExpression sequence_expression (behind_zero n m i z).below
behind_expression n m i z of = (a_sequence_expression, tt, refl, tt, refl, ((refl, (zero_expression, (of, tt))), tt))

-- ---- runs

counted_core : {x z : Tree} → Counts x z → all_core (forest_of x) ≡ true → all_core (forest_of z) ≡ true
counted_core (consequent_counts o p i j t k l d b c truth) core = consequent_core conditional_expression k o p i t d b (node l j c nothing) core
counted_core (alternate_counts o p i j t k l d b c truth) core = alternate_core conditional_expression k l o p i j t d b c core
counted_core (right_side_counts q o p i t k d b goes) core = consequent_core (logical_expression q) k o p i t d b nothing core

pub behind_core : (n m i : Note) (z : Tree) → all_core (forest_of z) ≡ true → all_core (forest_of (behind_zero n m i z)) ≡ true
behind_core n m i z core = both (all_core (forest_of z) && true) true (both (all_core (forest_of z)) true core refl) refl

-- what counts declares nothing, if no part does
nothing_before : (k : Kind) (n : Note) (a r : Forest) → DeclaresNothing (node k n a r) → DeclaresNothing (node k n a nothing)
nothing_before k n a r h = record {
  bound = both_empty (names_of k (bound_names a)) [] (first_empty (names_of k (bound_names a)) (bound_names r) h.bound) refl;
  imports = λ source. imports_before source k n a r (h.imports source);
}

counted_declares : {x z : Tree} → Counts x z → DeclaresNothing x.below → DeclaresNothing (forest_of z)
counted_declares (consequent_counts o p i j t k l d b c truth) h =
    nothing_before k i b (node l j c nothing) (nothing_behind t p d (node k i b (node l j c nothing)) h)
counted_declares (alternate_counts o p i j t k l d b c truth) h =
    nothing_behind k i b (node l j c nothing) (nothing_behind t p d (node k i b (node l j c nothing)) h)
counted_declares (right_side_counts q o p i t k d b goes) h = nothing_behind t p d (node k i b nothing) h

pub behind_declares : (n m i : Note) (z : Tree) → DeclaresNothing (forest_of z) → DeclaresNothing (forest_of (behind_zero n m i z))
behind_declares n m i z h =
    let part = forest_of z in
    record {
      bound = both_empty (bound_names part ++ []) [] (both_empty (bound_names part) [] h.bound refl) refl;
      imports = λ source. both_empty (import_decls source part ++ []) [] (both_empty (import_decls source part) [] (h.imports source) refl) refl;
    }

behind_stands : (u : Purpose) (n m i : Note) {x z : Tree} → Counts x z → Stands u x.kind x.below sequence_expression (behind_zero n m i z).below
behind_stands u n m i (consequent_counts o p h j t k l d b c truth) = for_part (λ st. consequent_behind_zero u st p h j m i h t k l d b c (test_tells t p d true truth))
behind_stands u n m i (alternate_counts o p h j t k l d b c truth) = for_part (λ st. alternate_behind_zero u st p h j m i j t k l d b c (test_tells t p d false truth))
behind_stands u n m i (right_side_counts q o p h t k d b goes) = for_part (λ st. right_side_behind_zero u st q p h m i h t k d b (side_tells t p d q true goes).0)

behind_comes : (a : Around) (n m i : Note) {x z : Tree} → Counts x z → DeclaresNothing x.below → Comes a x (behind_zero n m i z)
behind_comes a n m i {x = x} {z = z} counts h =
    let y = behind_zero n m i z in
    record {
      inner = y.below;
      same = refl;
      stands = behind_stands (wanted_at a) n m i counts;
      old_calm = choice_calm (counted_choice counts);
      declares = both_plainly x.kind x.below sequence_expression n y.below nothing (choice_calm (counted_choice counts)) h (behind_declares n m i z (counted_declares counts h));
      core = λ c. behind_core n m i z (counted_core counts c);
    }

-- ---- all of it

counted_owes : (a : Around) (n m i : Note) {x z : Tree} → Counts x z → ByParts a x (behind_zero n m i z)
counted_owes a n m i {x = x} {z = z} counts =
    let y = behind_zero n m i z in
    record {
      rebuilt = λ fits. part_is_behind n m i x z (part_is_left counts);
      lighter = behind_lighter n m i counts;
      no_deeper = behind_no_deeper n m i counts;
      no_call = choice_is_other (counted_choice counts);
      ends = choice_ends (counted_choice counts);
      may_change = choice_may_change a (counted_choice counts);
      fits_expression = λ fits. (choice_expression a (counted_choice counts) fits, tt);
      takes = λ fits. anywhere (choice_takes y (counted_choice counts) (behind_expression n m i z (counted_expression a counts fits)));
      no_name = choice_no_name (counted_choice counts);
      old_unasked = λ fits. choice_unasked (counted_choice counts);
      unasked = λ fits. refl;
      comes_out = record { undeleted = λ e. refl; uncalled = λ e. refl };
      runs = by_coming (λ q s program is fits form core. behind_comes a n m i counts (choice_declares q s program a y fits form core (counted_choice counts) is));
    }

pub indirect_choice_owes : (a : Around) (x y : Tree) → IndirectChoice a x y → ByParts a x y
indirect_choice_owes a x _ (value_alone_counts n m i _ z counts matters) = counted_owes a n m i (part_that_counts x.note x.kind x.below z counts)
indirect_choice_owes a x y (part_counts_behind_test n m _ _ is) = follows_owes a (part_follows n m x.note x.kind x.below y is)
