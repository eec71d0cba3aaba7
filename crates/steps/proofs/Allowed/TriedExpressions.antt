-- The definitions, tried on small programs: operations, and what is left of expressions.
use Rattle.std.proofs.Common.{negsuc, ◌≡◌, ◌∙◌, ℕ, Some, None, List, [], ◌∷◌, pos, Bool, true, false, true≢false, codes, refl, sym, ap}
use Rattle.js_syntax.specs.declared.node_kind.NodeKind.{NodeKind as Kind}
use Rattle.js_syntax.specs.declared.kind.VariableKind.{VariableKind}
use Rattle.js_syntax.specs.declared.kind.VariableKind.TheVariants as variable
use Rattle.js_syntax.specs.declared.operator.BinaryOperator.TheVariants as binary
use Rattle.js_syntax.specs.declared.operator.LogicalOperator.TheVariants as operator
use Rattle.js_syntax.specs.declared.operator.UnaryOperator.TheVariants as unary
use Rattle.js_syntax.specs.declared.value.LiteralValue.{LiteralValue}
use Rattle.js_syntax.specs.declared.value.LiteralValue.TheVariants as value
use Rattle.js_syntax.specs.Node.{Forest, Tree, Note, nothing, node, absent, nowhere, joined}
use Rattle.form_rules.specs.Samples.{over, a_module, a, binds, reads, listed, no, one, does, declares, let_, var_, block}
use Rattle.scope_laws.specs.Place.{Around, first, behind, under}
use Rattle.min_pass.specs.Around.{outermost as asked_of_program}
use Rattle.steps.specs.Allowed.Uses.{use_at, matters}
use Rattle.steps.specs.Allowed.Places.{asked_at}
use Rattle.steps.specs.Allowed.KnownIf.{an_if}
use Rattle.steps.specs.Allowed.Unreached.{Unreached, never_runs}
use Rattle.steps.specs.Allowed.Untaken.{Untaken, never_taken}
use Rattle.steps.specs.Allowed.IdleTry.{IdleTry, finalizer_is_run, finalizer_is_run_alone, block_is_run}
use Rattle.steps.specs.Allowed.IdleStatement.{IdleStatement, idle_leaves}
use Rattle.steps.specs.Allowed.IdleBody.{IdleBody, idle_body_empties}
use Rattle.js_syntax.specs.declared.kind.FunctionKind.TheVariants as function_kind
use Rattle.steps.specs.Allowed.EmptyIf.{EmptyIf, test_stays}
use Rattle.steps.specs.Allowed.EmptyAlternate.{EmptyAlternate, alternate_goes}
use Rattle.steps.specs.Allowed.UnrunValue.{UnrunValue, value_never_given}
use Rattle.steps.specs.Allowed.EmptyBlock.{EmptyBlock, empty_block_leaves}
use Rattle.steps.specs.Allowed.UnusedOperation.{needed_at, one_operand_acts}
use Rattle.steps.specs.Allowed.UnusedList.{list_becomes, acting_parts_stay}
use Rattle.steps.specs.Allowed.IndirectChoice.{value_alone_counts, part_counts_behind_test}
use Rattle.steps.specs.Allowed.OneSidedChoice.{one_branch_acts}
use Rattle.steps.specs.Allowed.IdleParts.{idle_parts_leave}
use Rattle.steps.specs.Allowed.TwoSides.{both_sides_act}
use Rattle.steps.specs.Allowed.UnusedObject.{acting_values_stay}
use Rattle.steps.specs.Allowed.KnownOperation.{known_literal, value_is_known, negative_is_known}
use Rattle.steps.specs.Allowed.Edits.{Edit, leaves, becomes, empty_block, unreached, untaken, idle_statement, unused_operation, unused_list, indirect_choice, one_sided_choice, idle_parts, two_sides, unused_object, known_operation, unrun_value, idle_try, idle_body, empty_if, empty_alternate}
use Rattle.steps.specs.Allowed.Rows.{breaks_label, labeled_too, labeled, branch_of_if, in_branch, in_function, in_function_by, value_of_a, zero, loop, debugger, throwing_block, throwing_branch, broken_label, past, in_list, before, throws, behind_throw, call_of_a, null, if_one, if_null, either_way, conditional, logical, o_f, parenthesized, in_statement, called, argument, second_part, operand, applied, equals, difference, sum, text, empty_text, template, tagged, statement, StaysUnused, array, spread, hole, sequence, ListStays, ChoiceStays, PartsStay, SidesStay, object, a_is, b_is, getter_of_a, keyed_by, method_by, not_a, ObjectStays, literal, operation, OperationStays, behind_zero, placed, StaysDirect, FollowsNone, empty, tried, tried_finally, finally_alone, while_, for_, loop}
use Rattle.steps.proofs.Allowed.Tried.{consequent, member, there}

-- ---- operations of which nobody takes the value

becomes_first : (k : Kind) (l : Kind) (m : Note) (b rest : Forest) → needed_at k (node l m b rest) ≡ Some 0 → Edit (a_module (does (node k nowhere (node l m b rest) nothing) ∷ [])) (a_module (does (node l m b nothing) ∷ []))
becomes_first k l m b rest h = becomes there _ _ (unused_operation (one_operand_acts 0 _ _ refl h refl))

pub negation_goes : Edit (a_module (does (applied unary.LogicalNot call_of_a) ∷ [])) (a_module (does call_of_a ∷ []))
negation_goes = becomes_first (Kind.UnaryExpression unary.LogicalNot) _ _ _ _ refl

pub typeof_goes : Edit (a_module (does (applied unary.Typeof call_of_a) ∷ [])) (a_module (does call_of_a ∷ []))
typeof_goes = becomes_first (Kind.UnaryExpression unary.Typeof) _ _ _ _ refl

pub sign_goes : Edit (a_module (does (applied unary.UnaryNegation not_a) ∷ [])) (a_module (does not_a ∷ []))
sign_goes = becomes_first (Kind.UnaryExpression unary.UnaryNegation) _ _ _ _ refl

pub first_side_stays : Edit (a_module (does (equals call_of_a one) ∷ [])) (a_module (does call_of_a ∷ []))
first_side_stays = becomes_first (Kind.BinaryExpression binary.StrictEquality) _ _ _ _ refl

pub second_side_stays : Edit (a_module (does (equals null o_f) ∷ [])) (a_module (does o_f ∷ []))
second_side_stays = becomes there _ _ (unused_operation (one_operand_acts 1 _ _ refl refl refl))

pub left_side_stays : Edit (a_module (does (logical operator.Coalesce (reads a) one) ∷ [])) (a_module (does (reads a) ∷ []))
left_side_stays = becomes_first (Kind.LogicalExpression operator.Coalesce) _ _ _ _ refl

pub condition_stays : Edit (a_module (does (conditional call_of_a one null) ∷ [])) (a_module (does call_of_a ∷ []))
condition_stays = becomes_first Kind.ConditionalExpression _ _ _ _ refl

abbrev parenthesis : Around
parenthesis = in_statement (under Kind.ParenthesizedExpression nowhere (first nothing) nothing)

pub operand_in_parentheses : Edit (a_module (does (parenthesized (equals call_of_a one)) ∷ [])) (a_module (does (parenthesized call_of_a) ∷ []))
operand_in_parentheses = becomes parenthesis _ _ (unused_operation (one_operand_acts 0 _ _ refl refl refl))

no_index : {i : ℕ} → None ≡ Some i → ⊥
no_index e = cc

pub both_sides_stay : StaysUnused statement (equals call_of_a (reads a))
both_sides_stay y (one_operand_acts i _ _ unused at child) = no_index at

pub right_side_stays : StaysUnused statement (logical operator.And (reads a) call_of_a)
right_side_stays y (one_operand_acts i _ _ unused at child) = no_index at

pub idle_sides_stay : StaysUnused statement (equals one null)
idle_sides_stay y (one_operand_acts i _ _ unused at child) = no_index at

pub used_negation_stays : StaysUnused argument (applied unary.LogicalNot call_of_a)
used_negation_stays y (one_operand_acts i _ _ unused at child) = true≢false (sym unused)

pub typeof_name_stays : StaysUnused statement (applied unary.Typeof (reads a))
typeof_name_stays y (one_operand_acts i _ _ unused at child) = no_index at

pub conversion_stays : StaysUnused statement (applied unary.UnaryPlus call_of_a)
conversion_stays y (one_operand_acts i _ _ unused at child) = no_index at

-- ---- lists of which nobody takes the value

becomes_list : (k l : Kind) (b c : Forest) → list_becomes nowhere nowhere k b ≡ Some (record { kind = l; note = nowhere; below = c }) → Edit (a_module (does (node k nowhere b nothing) ∷ [])) (a_module (does (node l nowhere c nothing) ∷ []))
becomes_list k l b c h = becomes there _ _ (unused_list (acting_parts_stay nowhere nowhere _ _ refl h))

pub acting_elements_stay : Edit (a_module (does (array (call_of_a ∷ one ∷ o_f ∷ [])) ∷ [])) (a_module (does (sequence (call_of_a ∷ o_f ∷ [])) ∷ []))
acting_elements_stay = becomes_list Kind.ArrayExpression Kind.SequenceExpression _ _ refl

pub acting_element_stays : Edit (a_module (does (array (call_of_a ∷ one ∷ [])) ∷ [])) (a_module (does call_of_a ∷ []))
acting_element_stays = becomes_list Kind.ArrayExpression (Kind.CallExpression false false) _ _ refl

pub hole_goes : Edit (a_module (does (array (hole ∷ call_of_a ∷ [])) ∷ [])) (a_module (does call_of_a ∷ []))
hole_goes = becomes_list Kind.ArrayExpression (Kind.CallExpression false false) _ _ refl

pub elements_stay : Edit (a_module (does (array (call_of_a ∷ o_f ∷ [])) ∷ [])) (a_module (does (sequence (call_of_a ∷ o_f ∷ [])) ∷ []))
elements_stay = becomes_list Kind.ArrayExpression Kind.SequenceExpression _ _ refl

pub spread_and_part_stay : Edit (a_module (does (array (call_of_a ∷ one ∷ spread (reads a) ∷ [])) ∷ [])) (a_module (does (array (call_of_a ∷ spread (reads a) ∷ [])) ∷ []))
spread_and_part_stay = becomes_list Kind.ArrayExpression Kind.ArrayExpression _ _ refl

pub hole_goes_from_spread : Edit (a_module (does (array (hole ∷ spread (reads a) ∷ [])) ∷ [])) (a_module (does (array (spread (reads a) ∷ [])) ∷ []))
hole_goes_from_spread = becomes_list Kind.ArrayExpression Kind.ArrayExpression _ _ refl

pub silent_spread_goes : Edit (a_module (does (array (spread (array (one ∷ [])) ∷ call_of_a ∷ [])) ∷ [])) (a_module (does call_of_a ∷ []))
silent_spread_goes = becomes_list Kind.ArrayExpression (Kind.CallExpression false false) _ _ refl

pub acting_parts_of_sequence_stay : Edit (a_module (does (sequence (one ∷ call_of_a ∷ o_f ∷ [])) ∷ [])) (a_module (does (sequence (call_of_a ∷ o_f ∷ [])) ∷ []))
acting_parts_of_sequence_stay = becomes_list Kind.SequenceExpression Kind.SequenceExpression _ _ refl

-- a part of a sequence, behind which more stand
pub array_part_becomes : Edit (placed (second_part (one ∷ [])) (array (call_of_a ∷ null ∷ []))) (placed (second_part (one ∷ [])) call_of_a)
array_part_becomes = becomes (second_part (one ∷ [])) _ _ (unused_list (acting_parts_stay nowhere nowhere _ _ refl refl))

no_list : {y : Tree} → None ≡ Some y → ⊥
no_list e = cc

pub spread_stays : ListStays statement (array (spread (reads a) ∷ []))
spread_stays y (acting_parts_stay n m _ _ unused is) = no_list is

pub acting_array_stays : ListStays statement (array (call_of_a ∷ spread (reads a) ∷ []))
acting_array_stays y (acting_parts_stay n m _ _ unused is) = no_list is

pub used_spread_stays : ListStays argument (array (one ∷ spread (reads a) ∷ []))
used_spread_stays y (acting_parts_stay n m _ _ unused is) = true≢false (sym unused)

pub used_array_stays : ListStays argument (array (call_of_a ∷ []))
used_array_stays y (acting_parts_stay n m _ _ unused is) = true≢false (sym unused)

pub last_array_stays : ListStays (second_part []) (array (call_of_a ∷ []))
last_array_stays y (acting_parts_stay n m _ _ unused is) = true≢false (sym unused)

pub acting_sequence_stays : ListStays statement (sequence (call_of_a ∷ o_f ∷ []))
acting_sequence_stays y (acting_parts_stay n m _ _ unused is) = no_list is

-- ---- choices of which the value alone counts

pub called_member_behind_zero : Edit (placed called (conditional one o_f null)) (placed called (behind_zero o_f))
called_member_behind_zero = becomes called _ _ (indirect_choice (value_alone_counts nowhere nowhere nowhere _ _ refl refl))

pub alternate_behind_zero : Edit (placed called (conditional null (reads a) o_f)) (placed called (behind_zero o_f))
alternate_behind_zero = becomes called _ _ (indirect_choice (value_alone_counts nowhere nowhere nowhere _ _ refl refl))

pub right_side_behind_zero : Edit (placed called (logical operator.Or null o_f)) (placed called (behind_zero o_f))
right_side_behind_zero = becomes called _ _ (indirect_choice (value_alone_counts nowhere nowhere nowhere _ _ refl refl))

pub typed_name_behind_zero : Edit (placed (operand unary.Typeof) (conditional one (reads a) null)) (placed (operand unary.Typeof) (behind_zero (reads a)))
typed_name_behind_zero = becomes (operand unary.Typeof) _ _ (indirect_choice (value_alone_counts nowhere nowhere nowhere _ _ refl refl))

pub deleted_member_behind_zero : Edit (placed (operand unary.Delete) (conditional one o_f null)) (placed (operand unary.Delete) (behind_zero o_f))
deleted_member_behind_zero = becomes (operand unary.Delete) _ _ (indirect_choice (value_alone_counts nowhere nowhere nowhere _ _ refl refl))

-- what follows a test that acts
pub consequent_behind_test : Edit (placed argument (conditional (array (call_of_a ∷ [])) o_f null)) (placed argument (sequence (array (call_of_a ∷ []) ∷ o_f ∷ [])))
consequent_behind_test = becomes argument _ _ (indirect_choice (part_counts_behind_test nowhere nowhere _ _ refl))

pub alternate_behind_test : Edit (placed called (conditional (logical operator.And (reads a) null) one o_f)) (placed called (sequence (logical operator.And (reads a) null ∷ o_f ∷ [])))
alternate_behind_test = becomes called _ _ (indirect_choice (part_counts_behind_test nowhere nowhere _ _ refl))

pub right_side_behind_test : Edit (placed statement (logical operator.And (array (call_of_a ∷ [])) call_of_a)) (placed statement (sequence (array (call_of_a ∷ []) ∷ call_of_a ∷ [])))
right_side_behind_test = becomes statement _ _ (indirect_choice (part_counts_behind_test nowhere nowhere _ _ refl))

pub unknown_test_follows_none : FollowsNone argument (conditional call_of_a one null)
unknown_test_follows_none y (value_alone_counts _ _ _ _ z counts it_matters) = cc counts
unknown_test_follows_none y (part_counts_behind_test _ _ _ _ follows) = cc follows

pub silent_test_follows_none : FollowsNone argument (conditional one (reads a) null)
silent_test_follows_none y (value_alone_counts _ _ _ _ z counts it_matters) =
    let part : Tree = record { kind = Kind.ReferenceName a; note = nowhere; below = nothing } in
    let is : part ≡ z = cc counts in
    true≢false (sym it_matters ∙ ap (λ (x : Tree). matters (use_at argument) (asked_at (asked_of_program true) argument).in_with x.kind x.below) (sym is))
silent_test_follows_none y (part_counts_behind_test _ _ _ _ follows) = cc follows

pub left_side_follows_none : FollowsNone argument (logical operator.Or (array (call_of_a ∷ [])) (reads a))
left_side_follows_none y (value_alone_counts _ _ _ _ z counts it_matters) = cc counts
left_side_follows_none y (part_counts_behind_test _ _ _ _ follows) = cc follows

-- what may stand there itself does
stays_direct : (place : Around) (k : Kind) (n : Note) (b : Forest) → matters (use_at place) (asked_at (asked_of_program true) place).in_with k b ≡ false → StaysDirect place (node k n b nothing)
stays_direct place k n b h y (value_alone_counts _ _ _ _ z counts it_matters) =
    let part : Tree = record { kind = k; note = n; below = b } in
    let is : part ≡ z = cc counts in
    true≢false (sym it_matters ∙ (ap (λ (x : Tree). matters (use_at place) (asked_at (asked_of_program true) place).in_with x.kind x.below) (sym is) ∙ h))
stays_direct place k n b h y (part_counts_behind_test _ _ _ _ follows) = cc follows

pub argument_name_stays_direct : StaysDirect argument (reads a)
argument_name_stays_direct = stays_direct argument (Kind.ReferenceName a) nowhere nothing refl

pub typed_member_stays_direct : StaysDirect (operand unary.Typeof) o_f
typed_member_stays_direct = stays_direct (operand unary.Typeof) member nowhere (reads (codes "o")) refl

pub called_name_stays_direct : StaysDirect called (reads a)
called_name_stays_direct = stays_direct called (Kind.ReferenceName a) nowhere nothing refl

-- ---- conditionals of which one branch acts

pub acting_consequent_stays : Edit (a_module (does (conditional (reads a) call_of_a one) ∷ [])) (a_module (does (logical operator.And (reads a) call_of_a) ∷ []))
acting_consequent_stays = becomes there _ _ (one_sided_choice (one_branch_acts nowhere _ _ refl refl))

pub acting_alternate_stays : Edit (a_module (does (conditional (reads a) one call_of_a) ∷ [])) (a_module (does (logical operator.Or (reads a) call_of_a) ∷ []))
acting_alternate_stays = becomes there _ _ (one_sided_choice (one_branch_acts nowhere _ _ refl refl))

pub acting_branches_stay : ChoiceStays statement (conditional (reads a) call_of_a o_f)
acting_branches_stay y (one_branch_acts n _ _ unused is) = no_list is

pub idle_branches_stay : ChoiceStays statement (conditional (reads a) one null)
idle_branches_stay y (one_branch_acts n _ _ unused is) = no_list is

pub used_choice_stays : ChoiceStays argument (conditional (reads a) call_of_a one)
used_choice_stays y (one_branch_acts n _ _ unused is) = true≢false (sym unused)

-- ---- parts of a sequence that don't act

pub last_part_stays : Edit (placed argument (sequence (one ∷ reads a ∷ []))) (placed argument (reads a))
last_part_stays = becomes argument _ _ (idle_parts (idle_parts_leave nowhere nowhere _ _ refl))

pub acting_parts_and_last_stay : Edit (placed argument (sequence (call_of_a ∷ one ∷ reads a ∷ []))) (placed argument (sequence (call_of_a ∷ reads a ∷ [])))
acting_parts_and_last_stay = becomes argument _ _ (idle_parts (idle_parts_leave nowhere nowhere _ _ refl))

pub member_keeps_a_zero : Edit (placed called (sequence (one ∷ o_f ∷ []))) (placed called (behind_zero o_f))
member_keeps_a_zero = becomes called _ _ (idle_parts (idle_parts_leave nowhere nowhere _ _ refl))

pub member_keeps_one_zero : Edit (placed called (sequence (one ∷ zero ∷ o_f ∷ []))) (placed called (behind_zero o_f))
member_keeps_one_zero = becomes called _ _ (idle_parts (idle_parts_leave nowhere nowhere _ _ refl))

pub typed_name_keeps_a_zero : Edit (placed (operand unary.Typeof) (sequence (null ∷ reads a ∷ []))) (placed (operand unary.Typeof) (behind_zero (reads a)))
typed_name_keeps_a_zero = becomes (operand unary.Typeof) _ _ (idle_parts (idle_parts_leave nowhere nowhere _ _ refl))

pub called_member_stays_behind : PartsStay called (sequence (zero ∷ o_f ∷ []))
called_member_stays_behind y (idle_parts_leave n m _ _ is) = no_list is

pub acting_parts_all_stay : PartsStay argument (sequence (call_of_a ∷ one ∷ []))
acting_parts_all_stay y (idle_parts_leave n m _ _ is) = no_list is

-- ---- operations of which both sides act

pub acting_sides_stay : Edit (a_module (does (equals call_of_a o_f) ∷ [])) (a_module (does (sequence (call_of_a ∷ o_f ∷ [])) ∷ []))
acting_sides_stay = becomes there _ _ (two_sides (both_sides_act nowhere nowhere _ _ refl refl))

pub one_acting_side_stays : SidesStay statement (equals call_of_a one)
one_acting_side_stays y (both_sides_act n m _ _ unused is) = no_list is

pub primitive_sides_stay : Edit (a_module (does (difference not_a not_a) ∷ [])) (a_module (does (sequence (not_a ∷ not_a ∷ [])) ∷ []))
primitive_sides_stay = becomes there _ _ (two_sides (both_sides_act nowhere nowhere _ _ refl refl))

pub converting_sides_stay : SidesStay statement (difference not_a call_of_a)
converting_sides_stay y (both_sides_act n m _ _ unused is) = no_list is

pub used_comparison_stays : SidesStay argument (equals call_of_a o_f)
used_comparison_stays y (both_sides_act n m _ _ unused is) = true≢false (sym unused)

-- ---- sums of a text and what acts

pub text_before_becomes_empty : Edit (a_module (does (sum text call_of_a) ∷ [])) (a_module (does (sum empty_text call_of_a) ∷ []))
text_before_becomes_empty = becomes there _ _ (two_sides (both_sides_act nowhere nowhere _ _ refl refl))

pub text_behind_becomes_empty : Edit (a_module (does (sum call_of_a text) ∷ [])) (a_module (does (sum call_of_a empty_text) ∷ []))
text_behind_becomes_empty = becomes there _ _ (two_sides (both_sides_act nowhere nowhere _ _ refl refl))

pub empty_text_stays : SidesStay statement (sum empty_text call_of_a)
empty_text_stays y (both_sides_act n m _ _ unused is) = no_list is

pub used_text_stays : SidesStay argument (sum text call_of_a)
used_text_stays y (both_sides_act n m _ _ unused is) = true≢false (sym unused)

pub number_in_a_sum_stays : SidesStay statement (sum one call_of_a)
number_in_a_sum_stays y (both_sides_act n m _ _ unused is) = no_list is

pub silent_text_becomes_empty : Edit (a_module (does (sum (applied unary.Typeof one) call_of_a) ∷ [])) (a_module (does (sum empty_text call_of_a) ∷ []))
silent_text_becomes_empty = becomes there _ _ (two_sides (both_sides_act nowhere nowhere _ _ refl refl))

pub silent_text_behind_becomes_empty : Edit (a_module (does (sum call_of_a (applied unary.Typeof one)) ∷ [])) (a_module (does (sum call_of_a empty_text) ∷ []))
silent_text_behind_becomes_empty = becomes there _ _ (two_sides (both_sides_act nowhere nowhere _ _ refl refl))

pub silent_truth_stays : SidesStay statement (sum (applied unary.LogicalNot one) call_of_a)
silent_truth_stays y (both_sides_act n m _ _ unused is) = no_list is

pub template_loses_its_text : Edit (a_module (does (template (codes "a") call_of_a) ∷ [])) (a_module (does (template [] call_of_a) ∷ []))
template_loses_its_text = becomes there _ _ (two_sides (both_sides_act nowhere nowhere _ _ refl refl))

pub empty_template_stays : SidesStay statement (template [] call_of_a)
empty_template_stays y (both_sides_act n m _ _ unused is) = no_list is

pub used_template_stays : SidesStay argument (template (codes "a") call_of_a)
used_template_stays y (both_sides_act n m _ _ unused is) = true≢false (sym unused)

pub tagged_template_stays : SidesStay tagged (template (codes "a") call_of_a)
tagged_template_stays y (both_sides_act n m _ _ unused is) = true≢false (sym unused)

-- ---- object literals of which nobody takes the value

pub acting_value_stays : Edit (a_module (does (object (a_is call_of_a ∷ b_is one ∷ [])) ∷ [])) (a_module (does call_of_a ∷ []))
acting_value_stays = becomes there _ _ (unused_object (acting_values_stay nowhere nowhere _ _ refl refl))

pub acting_values_all_stay : Edit (a_module (does (object (a_is call_of_a ∷ b_is o_f ∷ [])) ∷ [])) (a_module (does (sequence (call_of_a ∷ o_f ∷ [])) ∷ []))
acting_values_all_stay = becomes there _ _ (unused_object (acting_values_stay nowhere nowhere _ _ refl refl))

pub computed_keys_stay : Edit (a_module (does (object (keyed_by not_a o_f ∷ keyed_by (applied unary.Typeof one) call_of_a ∷ [])) ∷ [])) (a_module (does (sequence (not_a ∷ o_f ∷ call_of_a ∷ [])) ∷ []))
computed_keys_stay = becomes there _ _ (unused_object (acting_values_stay nowhere nowhere _ _ refl refl))

pub computed_key_stays_alone : Edit (a_module (does (object (keyed_by not_a one ∷ b_is one ∷ [])) ∷ [])) (a_module (does not_a ∷ []))
computed_key_stays_alone = becomes there _ _ (unused_object (acting_values_stay nowhere nowhere _ _ refl refl))

pub computed_prototype_leaves : Edit (a_module (does (object (keyed_by (literal (value.Text (codes "__proto__"))) call_of_a ∷ [])) ∷ [])) (a_module (does call_of_a ∷ []))
computed_prototype_leaves = becomes there _ _ (unused_object (acting_values_stay nowhere nowhere _ _ refl refl))

pub computed_method_leaves : Edit (a_module (does (object (method_by (literal (value.Text (codes "m"))) ∷ b_is call_of_a ∷ [])) ∷ [])) (a_module (does call_of_a ∷ []))
computed_method_leaves = becomes there _ _ (unused_object (acting_values_stay nowhere nowhere _ _ refl refl))

pub used_object_stays : ObjectStays argument (object (a_is one ∷ []))
used_object_stays y (acting_values_stay n m _ _ unused is) = true≢false (sym unused)

pub idle_object_stays : ObjectStays statement (object (a_is one ∷ []))
idle_object_stays y (acting_values_stay n m _ _ unused is) = no_list is

pub getter_stays : ObjectStays statement (object (getter_of_a ∷ []))
getter_stays y (acting_values_stay n m _ _ unused is) = no_list is

pub spread_object_stays : ObjectStays statement (object (spread (reads a) ∷ []))
spread_object_stays y (acting_values_stay n m _ _ unused is) = no_list is

pub unknown_key_stays : ObjectStays statement (object (keyed_by (reads a) call_of_a ∷ []))
unknown_key_stays y (acting_values_stay n m _ _ unused is) = no_list is

pub acting_method_key_stays : ObjectStays statement (object (method_by not_a ∷ []))
acting_method_key_stays y (acting_values_stay n m _ _ unused is) = no_list is

-- ---- operations on literals

becomes_literal : (k : Kind) (below : Forest) (v : LiteralValue) → known_literal k nowhere below ≡ Some v → Edit (placed argument (node k nowhere below nothing)) (placed argument (literal v))
becomes_literal k below v h = becomes argument _ _ (known_operation (value_is_known nowhere v (record { kind = k; note = nowhere; below = below }) h))

pub negation_is_known : Edit (placed argument (applied unary.LogicalNot (literal (value.Number (pos 0))))) (placed argument (literal (value.Boolean true)))
negation_is_known = becomes_literal (Kind.UnaryExpression unary.LogicalNot) _ _ refl

pub type_is_known : Edit (placed argument (applied unary.Typeof one)) (placed argument (literal (value.Text (codes "number"))))
type_is_known = becomes_literal (Kind.UnaryExpression unary.Typeof) _ _ refl

pub sum_is_known : Edit (placed argument (operation binary.Addition (value.Number (pos 1)) (value.Number (pos 2)))) (placed argument (literal (value.Number (pos 3))))
sum_is_known = becomes_literal (Kind.BinaryExpression binary.Addition) _ _ refl

pub comparison_is_known : Edit (placed argument (operation binary.LessThan (value.Number (pos 1)) (value.Number (pos 2)))) (placed argument (literal (value.Boolean true)))
comparison_is_known = becomes_literal (Kind.BinaryExpression binary.LessThan) _ _ refl

pub texts_are_joined : Edit (placed argument (operation binary.Addition (value.Text (codes "a")) (value.Text (codes "b")))) (placed argument (literal (value.Text (codes "ab"))))
texts_are_joined = becomes_literal (Kind.BinaryExpression binary.Addition) _ _ refl

pub difference_is_known : Edit (placed argument (operation binary.Subtraction (value.Number (pos 1)) (value.Number (pos 3)))) (placed argument (applied unary.UnaryNegation (literal (value.Number (pos 2)))))
difference_is_known = becomes argument _ _ (known_operation (negative_is_known nowhere nowhere 1 (record { kind = Kind.BinaryExpression binary.Subtraction; note = nowhere; below = joined (literal (value.Number (pos 1))) (literal (value.Number (pos 3))) }) refl))

no_literal : {v : LiteralValue} → None ≡ Some v → ⊥
no_literal e = cc

no_negative : {n : ℕ} → None ≡ Some n → ⊥
no_negative e = cc

pub negative_stays : OperationStays argument (applied unary.UnaryNegation one)
negative_stays _ (value_is_known i v _ is) = no_literal is
negative_stays _ (negative_is_known i j n _ is) = no_negative is

pub signed_stays : OperationStays argument (applied unary.UnaryPlus (literal (value.Number (negsuc 1))))
signed_stays _ (value_is_known i v _ is) = no_literal is
signed_stays _ (negative_is_known i j n _ is) = no_negative is

pub zero_stays : OperationStays argument (applied unary.UnaryNegation (literal (value.Number (pos 0))))
zero_stays _ (value_is_known i v _ is) = no_literal is
zero_stays _ (negative_is_known i j n _ is) = no_negative is

pub fraction_stays : OperationStays argument (operation binary.Division (value.Number (pos 1)) (value.Number (pos 2)))
fraction_stays _ (value_is_known i v _ is) = no_literal is
fraction_stays _ (negative_is_known i j n _ is) = no_negative is

pub text_and_number_stay : OperationStays argument (operation binary.Addition (value.Text (codes "a")) (value.Number (pos 1)))
text_and_number_stay _ (value_is_known i v _ is) = no_literal is
text_and_number_stay _ (negative_is_known i j n _ is) = no_negative is

pub type_of_name_stays : OperationStays argument (applied unary.Typeof (reads a))
type_of_name_stays _ (value_is_known i v _ is) = no_literal is
type_of_name_stays _ (negative_is_known i j n _ is) = no_negative is

pub block_leaves : Edit (a_module (block [] ∷ [])) (a_module [])
block_leaves = leaves (before []) _ (empty_block (empty_block_leaves refl refl))

pub nested_block_leaves : Edit (a_module (throws one ∷ block (block [] ∷ empty ∷ []) ∷ let_ a ∷ [])) (a_module (throws one ∷ let_ a ∷ []))
nested_block_leaves = leaves (in_list (behind Kind.ThrowStatement nowhere one (first (let_ a)))) _ (empty_block (empty_block_leaves refl refl))

pub labeled_block_leaves : Edit (a_module (labeled (labeled (block [])) ∷ [])) (a_module [])
labeled_block_leaves = leaves (before []) _ (empty_block (empty_block_leaves refl refl))

pub labeled_empty_leaves : Edit (a_module (labeled empty ∷ [])) (a_module [])
labeled_empty_leaves = leaves (before []) _ (empty_block (empty_block_leaves refl refl))

pub block_of_call_stays : (items : List Forest) (n : Note) → EmptyBlock (before items) (record { kind = Kind.BlockStatement; note = n; below = listed Kind.Statements (block (does call_of_a ∷ []) ∷ []) }) → ⊥
block_of_call_stays items n (empty_block_leaves item nothing_held) = true≢false (sym nothing_held)

pub block_of_let_stays : (items : List Forest) (n : Note) → EmptyBlock (before items) (record { kind = Kind.BlockStatement; note = n; below = listed Kind.Statements (let_ a ∷ []) }) → ⊥
block_of_let_stays items n (empty_block_leaves item nothing_held) = true≢false (sym nothing_held)

pub branch_stays : (x : Tree) → EmptyBlock branch_of_if x → ⊥
branch_stays x (empty_block_leaves item nothing_held) = absurd cc

pub unreached_call_leaves : Edit (a_module (throws one ∷ does call_of_a ∷ [])) (a_module (throws one ∷ []))
unreached_call_leaves = leaves behind_throw _ (unreached (never_runs refl refl refl refl))

pub unreached_further_leaves : Edit (a_module (throws one ∷ let_ a ∷ block (does call_of_a ∷ []) ∷ [])) (a_module (throws one ∷ let_ a ∷ []))
unreached_further_leaves = leaves (in_list (behind Kind.ThrowStatement nowhere one (behind (Kind.VariableDeclaration variable.Let) nowhere _ (first nothing)))) _ (unreached (never_runs refl refl refl refl))

pub unreached_debugger_leaves : Edit (a_module (throws one ∷ debugger ∷ [])) (a_module (throws one ∷ []))
unreached_debugger_leaves = leaves behind_throw _ (unreached (never_runs refl refl refl refl))

pub unreached_by_block_leaves : Edit (a_module (throwing_block ∷ does call_of_a ∷ [])) (a_module (throwing_block ∷ []))
unreached_by_block_leaves = leaves (in_list (past throwing_block (first nothing))) _ (unreached (never_runs refl refl refl refl))

pub unreached_by_branches_leaves : Edit (a_module (throwing_branch throwing_block ∷ does call_of_a ∷ [])) (a_module (throwing_branch throwing_block ∷ []))
unreached_by_branches_leaves = leaves (in_list (past (throwing_branch throwing_block) (first nothing))) _ (unreached (never_runs refl refl refl refl))

pub behind_one_branch_stays : (x : Tree) → Unreached (in_list (past (throwing_branch no) (first nothing))) x → ⊥
behind_one_branch_stays x (never_runs item jump runs none) = true≢false (sym jump)

pub behind_label_stays : (x : Tree) → Unreached (in_list (past broken_label (first nothing))) x → ⊥
behind_label_stays x (never_runs item jump runs none) = true≢false (sym jump)

pub unreached_declaration_stays : (n : Note) (below : Forest) → Unreached behind_throw (record { kind = Kind.VariableDeclaration variable.Let; note = n; below = below }) → ⊥
unreached_declaration_stays n below (never_runs item jump runs none) = true≢false (sym runs)

pub unreached_declares_stays : (n : Note) → Unreached behind_throw (record { kind = Kind.BlockStatement; note = n; below = listed Kind.Statements (var_ a ∷ []) }) → ⊥
unreached_declares_stays n (never_runs item jump runs none) = true≢false (sym none)

pub front_stays : (items : List Forest) (x : Tree) → Unreached (before items) x → ⊥
front_stays items x (never_runs item jump runs none) = true≢false (sym jump)

pub untaken_consequent_leaves : Edit (a_module (if_null (block (var_ a ∷ does call_of_a ∷ [])) no ∷ [])) (a_module (if_null (block (var_ a ∷ [])) no ∷ []))
untaken_consequent_leaves = leaves (in_branch null (past (var_ a) (first nothing))) _ (untaken (never_taken refl refl refl refl))

-- of a test that acts
pub untaken_acting_leaves : Edit (a_module (either_way (logical operator.And (reads a) null) (block (var_ a ∷ does call_of_a ∷ [])) no ∷ [])) (a_module (either_way (logical operator.And (reads a) null) (block (var_ a ∷ [])) no ∷ []))
untaken_acting_leaves = leaves (in_branch (logical operator.And (reads a) null) (past (var_ a) (first nothing))) _ (untaken (never_taken refl refl refl refl))

-- if (1) ; else { a(); var a; }
abbrev in_alternate : Around
in_alternate =
    in_list (under Kind.IfStatement nowhere (past one (past empty (under Kind.BlockStatement nowhere (under Kind.Statements nowhere (first (var_ a)) nothing) nothing))) nothing)

pub untaken_alternate_leaves : Edit (a_module (either_way one empty (block (does call_of_a ∷ var_ a ∷ [])) ∷ [])) (a_module (either_way one empty (block (var_ a ∷ [])) ∷ []))
untaken_alternate_leaves = leaves in_alternate _ (untaken (never_taken refl refl refl refl))

abbrev further_in : Around
further_in =
    in_branch null (under Kind.IfStatement nowhere (past one (under Kind.BlockStatement nowhere (under Kind.Statements nowhere (first (var_ a)) nothing) no)) nothing)

pub untaken_further_leaves : Edit (a_module (if_null (block (if_one (block (does call_of_a ∷ var_ a ∷ [])) ∷ [])) no ∷ [])) (a_module (if_null (block (if_one (block (var_ a ∷ [])) ∷ [])) no ∷ []))
untaken_further_leaves = leaves further_in _ (untaken (never_taken refl refl refl refl))

pub untaken_declaration_stays : (how : VariableKind) (n : Note) (below : Forest) → Untaken (in_branch null (first nothing)) (record { kind = Kind.VariableDeclaration how; note = n; below = below }) → ⊥
untaken_declaration_stays how n below (never_taken item never runs none) = true≢false (sym runs)

pub taken_stays : (x : Tree) → Untaken (in_branch one (first nothing)) x → ⊥
taken_stays x (never_taken item never runs none) = true≢false (sym never)

pub may_be_taken_stays : (x : Tree) → Untaken (in_branch (reads a) (first nothing)) x → ⊥
may_be_taken_stays x (never_taken item never runs none) = true≢false (sym never)

pub function_code_stays : (x : Tree) → Untaken (in_function null) x → ⊥
function_code_stays x (never_taken item never runs none) = true≢false (sym never)

-- ---- what does nothing

pub idle_while_leaves : Edit (a_module (while_ null (block (does call_of_a ∷ let_ a ∷ [])) ∷ [])) (a_module [])
idle_while_leaves = leaves (before []) _ (idle_statement (idle_leaves refl refl refl))

pub idle_for_leaves : Edit (a_module (for_ null (does call_of_a) ∷ [])) (a_module [])
idle_for_leaves = leaves (before []) _ (idle_statement (idle_leaves refl refl refl))

pub idle_label_leaves : Edit (a_module (labeled (while_ null (does call_of_a)) ∷ [])) (a_module [])
idle_label_leaves = leaves (before []) _ (idle_statement (idle_leaves refl refl refl))

pub idle_try_leaves : Edit (a_module (tried (does call_of_a ∷ []) ∷ [])) (a_module [])
idle_try_leaves = leaves (before []) _ (idle_statement (idle_leaves refl refl refl))

pub idle_finally_leaves : Edit (a_module (tried_finally (does call_of_a ∷ []) (empty ∷ []) ∷ [])) (a_module [])
idle_finally_leaves = leaves (before []) _ (idle_statement (idle_leaves refl refl refl))

pub while_of_variable_stays : (items : List Forest) (n : Note) → IdleStatement (before items) (record { kind = Kind.WhileStatement; note = n; below = joined null (block (var_ a ∷ [])) }) → ⊥
while_of_variable_stays items n (idle_leaves item idle none) = true≢false (sym none)

pub turning_stays : (items : List Forest) (n : Note) (body : Forest) → IdleStatement (before items) (record { kind = Kind.WhileStatement; note = n; below = joined one body }) → ⊥
turning_stays items n body (idle_leaves item idle none) = true≢false (sym idle)

pub may_turn_stays : (items : List Forest) (n : Note) (body : Forest) → IdleStatement (before items) (record { kind = Kind.WhileStatement; note = n; below = joined (reads a) body }) → ⊥
may_turn_stays items n body (idle_leaves item idle none) = true≢false (sym idle)

pub test_at_end_stays : (items : List Forest) (n : Note) (body : Forest) → IdleStatement (before items) (record { kind = Kind.DoWhileStatement; note = n; below = joined body null }) → ⊥
test_at_end_stays items n body (idle_leaves item idle none) = true≢false (sym idle)

pub finally_stays : (items : List Forest) (n : Note) → IdleStatement (before items) (record { kind = Kind.TryStatement; note = n; below = joined (block []) (joined no (block (does call_of_a ∷ []))) }) → ⊥
finally_stays items n (idle_leaves item idle none) = true≢false (sym idle)

pub tried_call_stays : (items : List Forest) (n : Note) → IdleStatement (before items) (record { kind = Kind.TryStatement; note = n; below = joined (block (does call_of_a ∷ [])) (joined no (block [])) }) → ⊥
tried_call_stays items n (idle_leaves item idle none) = true≢false (sym idle)

pub idle_branch_stays : (x : Tree) → IdleStatement branch_of_if x → ⊥
idle_branch_stays x (idle_leaves item idle none) = absurd cc

pub label_left_at_once_leaves : Edit (a_module (labeled breaks_label ∷ [])) (a_module [])
label_left_at_once_leaves = leaves (before []) _ (idle_statement (idle_leaves refl refl refl))

pub block_left_at_once_leaves : Edit (a_module (labeled (block (breaks_label ∷ let_ a ∷ does call_of_a ∷ [])) ∷ [])) (a_module [])
block_left_at_once_leaves = leaves (before []) _ (idle_statement (idle_leaves refl refl refl))

pub labels_left_at_once_leave : Edit (a_module (labeled (labeled_too (block (block (breaks_label ∷ []) ∷ does call_of_a ∷ []))) ∷ [])) (a_module [])
labels_left_at_once_leave = leaves (before []) _ (idle_statement (idle_leaves refl refl refl))

pub other_label_stays : (items : List Forest) (n : Note) → IdleStatement (before items) (record { kind = Kind.LabeledStatement (codes "m"); note = n; below = block (breaks_label ∷ []) }) → ⊥
other_label_stays items n (idle_leaves item idle none) = true≢false (sym idle)

pub late_jump_stays : (items : List Forest) (n : Note) → IdleStatement (before items) (record { kind = Kind.LabeledStatement (codes "l"); note = n; below = block (does call_of_a ∷ breaks_label ∷ []) }) → ⊥
late_jump_stays items n (idle_leaves item idle none) = true≢false (sym idle)

pub inner_jump_stays : (items : List Forest) (n : Note) → IdleStatement (before items) (record { kind = Kind.LabeledStatement (codes "m"); note = n; below = block (broken_label ∷ does call_of_a ∷ []) }) → ⊥
inner_jump_stays items n (idle_leaves item idle none) = true≢false (sym idle)

pub finally_behind_jump_stays : (items : List Forest) (n : Note) → IdleStatement (before items) (record { kind = Kind.LabeledStatement (codes "l"); note = n; below = over Kind.TryStatement (joined (block (breaks_label ∷ [])) (joined no (block (does call_of_a ∷ [])))) }) → ⊥
finally_behind_jump_stays items n (idle_leaves item idle none) = true≢false (sym idle)

pub jump_with_variable_stays : (items : List Forest) (n : Note) → IdleStatement (before items) (record { kind = Kind.LabeledStatement (codes "l"); note = n; below = block (breaks_label ∷ var_ a ∷ []) }) → ⊥
jump_with_variable_stays items n (idle_leaves item idle none) = true≢false (sym none)

-- ---- and is a branch or a body

abbrev body_of_while : Around
body_of_while = in_list (under Kind.WhileStatement nowhere (past (reads a) (first nothing)) nothing)

pub idle_block_empties : Edit (a_module (if_one (block []) ∷ [])) (a_module (if_one empty ∷ []))
idle_block_empties = becomes consequent _ _ (idle_body (idle_body_empties _ nowhere refl refl refl))

pub idle_while_empties : Edit (a_module (if_one (while_ null (block (does call_of_a ∷ let_ a ∷ []))) ∷ [])) (a_module (if_one empty ∷ []))
idle_while_empties = becomes consequent _ _ (idle_body (idle_body_empties _ nowhere refl refl refl))

pub idle_label_empties : Edit (a_module (if_one (labeled (block (breaks_label ∷ does call_of_a ∷ []))) ∷ [])) (a_module (if_one empty ∷ []))
idle_label_empties = becomes consequent _ _ (idle_body (idle_body_empties _ nowhere refl refl refl))

pub idle_body_of_while_empties : Edit (a_module (while_ (reads a) (tried (does call_of_a ∷ [])) ∷ [])) (a_module (while_ (reads a) empty ∷ []))
idle_body_of_while_empties = becomes body_of_while _ _ (idle_body (idle_body_empties _ nowhere refl refl refl))

pub acting_body_stays : (n : Note) (y : Tree) → IdleBody body_of_while (record { kind = Kind.BlockStatement; note = n; below = listed Kind.Statements (does call_of_a ∷ []) }) y → ⊥
acting_body_stays n y (idle_body_empties _ m body idle none) = true≢false (sym idle)

pub body_with_variable_stays : (n : Note) (y : Tree) → IdleBody body_of_while (record { kind = Kind.WhileStatement; note = n; below = joined null (block (var_ a ∷ [])) }) y → ⊥
body_with_variable_stays n y (idle_body_empties _ m body idle none) = true≢false (sym none)

pub block_of_try_stays : (x y : Tree) → IdleBody (in_list (under Kind.TryStatement nowhere (first (absent (block []))) nothing)) x y → ⊥
block_of_try_stays x y (idle_body_empties _ m body idle none) = true≢false (sym body)

pub block_behind_label_stays : (x y : Tree) → IdleBody (in_list (under (Kind.LabeledStatement (codes "l")) nowhere (first nothing) nothing)) x y → ⊥
block_behind_label_stays x y (idle_body_empties _ m body idle none) = true≢false (sym body)

-- ---- an `if` whose branches are empty

pub empty_if_comes : Edit (a_module (either_way call_of_a empty no ∷ [])) (a_module (does call_of_a ∷ []))
empty_if_comes = becomes (before []) _ _ (empty_if (test_stays nowhere nowhere nowhere _ _ _ refl refl))

pub empty_branches_come : Edit (a_module (either_way (reads a) empty empty ∷ [])) (a_module (does (reads a) ∷ []))
empty_branches_come = becomes (before []) _ _ (empty_if (test_stays nowhere nowhere nowhere _ _ _ refl refl))

pub empty_if_in_a_branch_comes : Edit (a_module (if_one (either_way call_of_a empty no) ∷ [])) (a_module (if_one (does call_of_a) ∷ []))
empty_if_in_a_branch_comes = becomes consequent _ _ (empty_if (test_stays nowhere nowhere nowhere _ _ _ refl refl))

pub full_alternate_stays : (y : Tree) → EmptyIf (an_if nowhere (Kind.ReferenceName a) nowhere nothing (joined empty (does call_of_a))) y → ⊥
full_alternate_stays y (test_stays n m o t d branches empty unnamed) = true≢false (sym empty)

pub full_consequent_stays : (y : Tree) → EmptyIf (an_if nowhere (Kind.ReferenceName a) nowhere nothing (joined (does call_of_a) empty)) y → ⊥
full_consequent_stays y (test_stays n m o t d branches empty unnamed) = true≢false (sym empty)

pub if_on_a_function_stays : (pure : Bool) (d branches : Forest) (y : Tree) → EmptyIf (an_if nowhere (Kind.Function function_kind.Arrow pure) nowhere d branches) y → ⊥
if_on_a_function_stays pure d branches y (test_stays n m o t e b empty unnamed) = true≢false unnamed

-- ---- an `if` with an empty alternate

pub empty_alternate_goes : Edit (a_module (either_way (reads a) (does call_of_a) empty ∷ [])) (a_module (either_way (reads a) (does call_of_a) no ∷ []))
empty_alternate_goes = becomes (before []) _ _ (empty_alternate (alternate_goes nowhere nowhere nowhere nowhere _ _ _ _ refl))

abbrev alternate_of_an_if : Around
alternate_of_an_if = in_list (under Kind.IfStatement nowhere (past one (past (does call_of_a) (first nothing))) nothing)

pub chained_alternate_goes : Edit (a_module (either_way one (does call_of_a) (either_way (reads a) (does call_of_a) empty) ∷ [])) (a_module (either_way one (does call_of_a) (either_way (reads a) (does call_of_a) no) ∷ []))
chained_alternate_goes = becomes alternate_of_an_if _ _ (empty_alternate (alternate_goes nowhere nowhere nowhere nowhere _ _ _ _ refl))

pub alternate_of_branch_stays : (x y : Tree) → EmptyAlternate branch_of_if x y → ⊥
alternate_of_branch_stays x y (alternate_goes n i j o t l d b last) = true≢false (sym last)

pub alternate_of_body_stays : (x y : Tree) → EmptyAlternate (in_list (under Kind.WhileStatement nowhere (past (reads a) (first nothing)) nothing)) x y → ⊥
alternate_of_body_stays x y (alternate_goes n i j o t l d b last) = true≢false (sym last)

pub full_alternate_of_if_stays : (place : Around) (y : Tree) → EmptyAlternate place (an_if nowhere (Kind.ReferenceName a) nowhere nothing (joined (does call_of_a) (does call_of_a))) y → ⊥
full_alternate_of_if_stays place y h = elim h [ ]

-- ---- a `try` around nothing

pub finally_comes : Edit (a_module (finally_alone (does call_of_a ∷ []) ∷ [])) (a_module (block (does call_of_a ∷ []) ∷ []))
finally_comes = becomes (before []) _ _ (idle_try (finalizer_is_run nowhere nowhere nowhere _ _ refl refl))

pub handled_finally_comes : Edit (a_module (tried_finally (let_ a ∷ []) (does call_of_a ∷ []) ∷ [])) (a_module (block (does call_of_a ∷ []) ∷ []))
handled_finally_comes = becomes (before []) _ _ (idle_try (finalizer_is_run_alone nowhere nowhere nowhere nowhere _ _ _ _ refl refl refl))

pub branch_finally_comes : Edit (a_module (if_one (finally_alone (does call_of_a ∷ [])) ∷ [])) (a_module (if_one (block (does call_of_a ∷ [])) ∷ []))
branch_finally_comes = becomes consequent _ _ (idle_try (finalizer_is_run nowhere nowhere nowhere _ _ refl refl))

pub block_comes : Edit (a_module (if_one (tried (does call_of_a ∷ [])) ∷ [])) (a_module (if_one (block []) ∷ []))
block_comes = becomes consequent _ _ (idle_try (block_is_run nowhere nowhere nowhere _ _ _ refl refl))

pub trying_stays : (n : Note) (y : Tree) → IdleTry (record { kind = Kind.TryStatement; note = n; below = joined (block (does call_of_a ∷ [])) (joined no (block (does call_of_a ∷ []))) }) y → ⊥
trying_stays n y (finalizer_is_run _ _ _ _ _ idle loops) = true≢false (sym idle)

pub handler_with_variable_stays : (n : Note) (y : Tree) → IdleTry (record { kind = Kind.TryStatement; note = n; below = joined (block []) (joined (over Kind.CatchClause (joined (binds a) (block (var_ a ∷ [])))) (block (does call_of_a ∷ []))) }) y → ⊥
handler_with_variable_stays n y (finalizer_is_run_alone _ _ _ _ _ _ _ _ idle none loops) = true≢false (sym none)

pub loop_finally_stays : (n : Note) (y : Tree) → IdleTry (record { kind = Kind.TryStatement; note = n; below = joined (block []) (joined no (block (while_ (reads a) (does call_of_a) ∷ []))) }) y → ⊥
loop_finally_stays n y (finalizer_is_run _ _ _ _ _ idle loops) = true≢false (sym loops)

-- ---- values that are never given

pub unrun_variable_drops : Edit (a_module (if_null (block (declares variable.Var (binds a) call_of_a ∷ [])) no ∷ [])) (a_module (if_null (block (declares variable.Var (binds a) zero ∷ [])) no ∷ []))
unrun_variable_drops = becomes (in_branch null (value_of_a variable.Var nothing)) _ _ (unrun_value (value_never_given nowhere _ refl refl refl))

pub unrun_head_drops : Edit (a_module (if_null (loop (declares variable.Let (binds a) call_of_a) empty) no ∷ [])) (a_module (if_null (loop (declares variable.Let (binds a) zero) empty) no ∷ []))
unrun_head_drops =
    becomes (in_list (under Kind.IfStatement nowhere (past null (under Kind.ForStatement nowhere (value_of_a variable.Let (joined no (joined no empty))) no)) nothing)) _ _ (unrun_value (value_never_given nowhere _ refl refl refl))

pub unrun_name_stays : (n : Note) (y : Tree) → UnrunValue (in_branch null (value_of_a variable.Var nothing)) (record { kind = Kind.ReferenceName a; note = n; below = nothing }) y → ⊥
unrun_name_stays n y (value_never_given m x value unrun drops) = true≢false (sym drops)

pub run_value_stays : (x y : Tree) → UnrunValue (in_branch one (value_of_a variable.Var nothing)) x y → ⊥
run_value_stays x y (value_never_given m z value unrun drops) = true≢false (sym unrun)

pub may_run_value_stays : (x y : Tree) → UnrunValue (in_branch (reads a) (value_of_a variable.Var nothing)) x y → ⊥
may_run_value_stays x y (value_never_given m z value unrun drops) = true≢false (sym unrun)

pub function_value_stays : (x y : Tree) → UnrunValue (in_function_by null (value_of_a variable.Var nothing)) x y → ⊥
function_value_stays x y (value_never_given m z value unrun drops) = true≢false (sym unrun)

pub statement_is_no_value : (x y : Tree) → UnrunValue (in_branch null (under Kind.ExpressionStatement nowhere (first nothing) nothing)) x y → ⊥
statement_is_no_value x y (value_never_given m z value unrun drops) = true≢false (sym value)
