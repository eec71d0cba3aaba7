-- What shaking may leave of a small module.
use Rattle.std.proofs.Common.{◌≡◌, inl, inr, [], ◌∷◌, pos, true, false, codes, refl}
use Rattle.js_syntax.specs.Class.{root, module_item, expression, argument, object_item}
use Rattle.js_syntax.specs.declared.node_kind.NodeKind.{NodeKind as Kind}
use Rattle.js_syntax.specs.declared.scalar.SourceType.TheVariants as source_type
use Rattle.js_syntax.specs.declared.kind.PropertyKind.TheVariants as property
use Rattle.js_syntax.specs.declared.operator.BinaryOperator.TheVariants as binary
use Rattle.js_syntax.specs.declared.operator.UnaryOperator.TheVariants as unary
use Rattle.js_syntax.specs.declared.value.Key.TheVariants as key
use Rattle.js_syntax.specs.declared.value.LiteralValue.{LiteralValue as Literal}
use Rattle.js_syntax.specs.Node.{Forest, nothing, nowhere, joined, below_of}
use Rattle.js_syntax.specs.Table.{a_program, an_expression_statement, a_call_expression, a_unary_expression, a_binary_expression, a_conditional_expression, a_member_expression, an_array_expression, a_sequence_expression, an_object_expression, a_property, a_reference_name, a_literal}
use Rattle.form_rules.specs.Form.{IsWellFormed}
use Rattle.form_rules.specs.Samples as form
use Rattle.js_meaning.specs.Samples as sample
use Rattle.js_meaning.specs.Examples.{g, says_number}
use Rattle.json_text.specs.Text.{is_identifier_name}
use Rattle.json_shape.specs.Shape.{one, these, all, all_or_holes, all_of_body, Stand, Fits}
use Rattle.scope_laws.specs.Place.{Around, first}
use Rattle.steps.specs.Allowed.EmptyStatement.{empty_statement_leaves}
use Rattle.steps.specs.Allowed.SilentStatement.{silent_statement_empties}
use Rattle.steps.specs.Allowed.UnusedOperation.{one_operand_acts}
use Rattle.steps.specs.Allowed.UnusedList.{acting_parts_stay}
use Rattle.steps.specs.Allowed.IndirectChoice.{value_alone_counts}
use Rattle.steps.specs.Allowed.OneSidedChoice.{one_branch_acts}
use Rattle.steps.specs.Allowed.IdleParts.{idle_parts_leave}
use Rattle.steps.specs.Allowed.TwoSides.{both_sides_act}
use Rattle.steps.specs.Allowed.UnusedObject.{acting_values_stay}
use Rattle.steps.specs.Allowed.KnownOperation.{value_is_known}
use Rattle.steps.specs.Allowed.Edits.{no_tree_edit, one_tree_edit, leaves, becomes, empty_statement, silent_statement, unused_operation, unused_list, indirect_choice, one_sided_choice, idle_parts, two_sides, unused_object, known_operation}
use Rattle.steps.specs.Allowed.Rows.{in_list, past, statement, called, call_of_a, sequence, applied, equals, null}
use Rattle.steps.proofs.Allowed.Composing.{tree_edits_are_edits}
use Rattle.headline.specs.Clean.{Clean}
use Rattle.headline.specs.Headline.{Edits, Headline}
use Rattle.headline.proofs.Headline.{headline_of}
use Rattle.headline_text.specs.Written.{written}
use Rattle.min_peephole.proofs.Quieted.{quiet_clean}
use Rattle.test_headline.specs.Rows as row
use Rattle.test_headline.proofs.Dead.{name_stands, member_stands, call_is_clean as a_is_clean, sequence_is_clean, receiver_is_clean, behind_one_fits, other_stands, given, guarded_is_clean, use_is_clean, true_is_clean}

number_stands : Stand (all argument) (sample.number_of 1)
number_stands = ((a_literal, (Literal.Number (pos 1), tt), refl, tt, refl, tt), tt)

call_stands : Stand (these (one expression ∷ [])) (sample.call (sample.name (codes "f")) (sample.number_of 1 ∷ []))
call_stands = ((a_call_expression, (false, (false, tt)), refl, tt, refl, ((a_reference_name, (codes "f", tt), refl, tt, refl, tt), ((refl, number_stands), tt))), tt)

two_stands : Stand (these (one expression ∷ [])) (sample.number_of 2)
two_stands = ((a_literal, (Literal.Number (pos 2), tt), refl, tt, refl, tt), tt)

both_stand : Stand (all_of_body module_item) (sample.row (says_number 1 ∷ sample.does_it (sample.number_of 2) ∷ []))
both_stand = (inr (refl, (an_expression_statement, tt, refl, tt, refl, call_stands)), ((an_expression_statement, tt, refl, tt, refl, two_stands), tt))

one_stands : Stand (all_of_body module_item) (sample.row (says_number 1 ∷ []))
one_stands = (inr (refl, (an_expression_statement, tt, refl, tt, refl, call_stands)), tt)

fits : Fits root row.with_dead
fits = ((a_program, (source_type.Module, tt), refl, tt, refl, ((refl, both_stand), tt)), tt)

left_fits : Fits root row.calls_host
left_fits = ((a_program, (source_type.Module, tt), refl, tt, refl, ((refl, one_stands), tt)), tt)

well_formed : IsWellFormed row.with_dead
unfolding is_identifier_name
well_formed = refl

-- ---- the last of two statements becomes empty, and leaves

abbrev last : (call : Forest) → Around
last call = in_list (past call (first nothing))

two_goes : Edits row.with_dead row.calls_host
two_goes =
    tree_edits_are_edits (one_tree_edit _ (sample.a_module (says_number 1 ∷ sample.leaf Kind.EmptyStatement ∷ [])) _ (becomes (last (says_number 1)) _ _ (silent_statement (silent_statement_empties nowhere nowhere nowhere _ nothing (inl refl, tt))))
    (one_tree_edit _ _ _ (leaves (last (says_number 1)) _ (empty_statement (empty_statement_leaves nowhere refl))) (no_tree_edit _)))

pub negative_stays : Edits row.with_negative row.less_four
negative_stays =
    tree_edits_are_edits (one_tree_edit _ (sample.a_module (row.says_less_four ∷ sample.leaf Kind.EmptyStatement ∷ [])) _ (becomes (last row.says_less_four) _ _ (silent_statement (silent_statement_empties nowhere nowhere nowhere _ nothing (inl refl, tt))))
    (one_tree_edit _ _ _ (leaves (last row.says_less_four) _ (empty_statement (empty_statement_leaves nowhere refl))) (no_tree_edit _)))

call_is_clean : Clean row.calls_host
call_is_clean = quiet_clean row.calls_host left_fits refl

pub headline : Headline row.with_dead row.calls_host
headline = headline_of row.with_dead row.calls_host fits well_formed two_goes call_is_clean

-- ---- of a negated comparison the call on its left is left, and then it stands alone

compares_stands : Stand (these (one expression ∷ [])) (equals call_of_a form.one)
compares_stands = ((a_binary_expression, (binary.StrictEquality, tt), refl, refl, refl, (name_stands.0, ((a_literal, (Literal.Number (pos 1), tt), refl, tt, refl, tt), tt))), tt)

compares_fits : Fits root row.compares_call
compares_fits = (
  (
    a_program,
    (source_type.Module, tt),
    refl,
    tt,
    refl,
    (
      (
        refl,
        (inr (refl, (an_expression_statement, tt, refl, tt, refl, ((a_unary_expression, (unary.LogicalNot, tt), refl, tt, refl, compares_stands), tt))), tt),
      ),
      tt,
    ),
  ),
  tt,
)

compares_well_formed : IsWellFormed row.compares_call
unfolding is_identifier_name
compares_well_formed = refl

operations_go : Edits row.compares_call row.calls_a
operations_go =
    tree_edits_are_edits (one_tree_edit _ (form.a_module (form.does (equals call_of_a form.one) ∷ [])) _ (becomes statement _ _ (unused_operation (one_operand_acts 0 _ _ refl refl refl)))
    (one_tree_edit _ _ _ (becomes statement _ _ (unused_operation (one_operand_acts 0 _ _ refl refl refl))) (no_tree_edit _)))

pub operand_left : Headline row.compares_call row.calls_a
operand_left = headline_of row.compares_call row.calls_a compares_fits compares_well_formed operations_go a_is_clean

-- ---- of an array the calls are left: one alone, or two in a sequence

call_is_argument : Stand (all argument) call_of_a
call_is_argument = ((a_call_expression, (false, (false, tt)), refl, tt, refl, ((a_reference_name, (form.a, tt), refl, tt, refl, tt), ((refl, tt), tt))), tt)

other_is_argument : Stand (all argument) row.call_of_b
other_is_argument = ((a_call_expression, (false, (false, tt)), refl, tt, refl, ((a_reference_name, (codes "b", tt), refl, tt, refl, tt), ((refl, tt), tt))), tt)

one_element : Stand (all_or_holes argument) (joined call_of_a form.one)
one_element = (inr call_is_argument.0, (inr number_stands.0, tt))

two_elements : Stand (all_or_holes argument) (joined call_of_a (joined form.one row.call_of_b))
two_elements = (inr call_is_argument.0, (inr number_stands.0, (inr other_is_argument.0, tt)))

lists_fit : Fits root row.lists_call
lists_fit = (
  (
    a_program,
    (source_type.Module, tt),
    refl,
    tt,
    refl,
    (
      (
        refl,
        (inr (refl, (an_expression_statement, tt, refl, tt, refl, ((an_array_expression, tt, refl, tt, refl, ((refl, one_element), tt)), tt))), tt),
      ),
      tt,
    ),
  ),
  tt,
)

both_fit : Fits root row.lists_calls
both_fit = (
  (
    a_program,
    (source_type.Module, tt),
    refl,
    tt,
    refl,
    (
      (
        refl,
        (inr (refl, (an_expression_statement, tt, refl, tt, refl, ((an_array_expression, tt, refl, tt, refl, ((refl, two_elements), tt)), tt))), tt),
      ),
      tt,
    ),
  ),
  tt,
)

lists_well_formed : IsWellFormed row.lists_call
unfolding is_identifier_name
lists_well_formed = refl

both_well_formed : IsWellFormed row.lists_calls
unfolding is_identifier_name
both_well_formed = refl

list_goes : Edits row.lists_call row.calls_a
list_goes = tree_edits_are_edits (one_tree_edit _ _ _ (becomes statement _ _ (unused_list (acting_parts_stay nowhere nowhere _ _ refl refl))) (no_tree_edit _))

both_stay : Edits row.lists_calls row.calls_both
both_stay = tree_edits_are_edits (one_tree_edit _ _ _ (becomes statement _ _ (unused_list (acting_parts_stay nowhere nowhere _ _ refl refl))) (no_tree_edit _))

pub part_left : Headline row.lists_call row.calls_a
part_left = headline_of row.lists_call row.calls_a lists_fit lists_well_formed list_goes a_is_clean

pub parts_left : Headline row.lists_calls row.calls_both
parts_left = headline_of row.lists_calls row.calls_both both_fit both_well_formed both_stay sequence_is_clean

-- ---- of a choice on a literal that is called the part that counts is left, behind a zero

branches_stand : Stand (these (one expression ∷ one expression ∷ one expression ∷ [])) (joined form.one (joined row.member_g null))
branches_stand = (
  (a_literal, (Literal.Number (pos 1), tt), refl, tt, refl, tt),
  ((a_member_expression, (key.Name g, (false, tt)), refl, tt, refl, member_stands), ((a_literal, (Literal.Null, tt), refl, tt, refl, tt), tt)),
)

chosen_fits : Fits root row.calls_chosen
chosen_fits = (
  (
    a_program,
    (source_type.Module, tt),
    refl,
    tt,
    refl,
    (
      (
        refl,
        (
          inr (
            refl,
            (
              an_expression_statement,
              tt,
              refl,
              tt,
              refl,
              (
                (
                  a_call_expression,
                  (false, (false, tt)),
                  refl,
                  tt,
                  refl,
                  ((a_conditional_expression, tt, refl, tt, refl, branches_stand), ((refl, tt), tt)),
                ),
                tt,
              ),
            ),
          ),
          tt,
        ),
      ),
      tt,
    ),
  ),
  tt,
)

chosen_well_formed : IsWellFormed row.calls_chosen
unfolding is_identifier_name
chosen_well_formed = refl

choice_goes : Edits row.calls_chosen row.calls_without_receiver
choice_goes = tree_edits_are_edits (one_tree_edit _ _ _ (becomes called _ _ (indirect_choice (value_alone_counts nowhere nowhere nowhere _ _ refl refl))) (no_tree_edit _))

pub value_left : Headline row.calls_chosen row.calls_without_receiver
value_left = headline_of row.calls_chosen row.calls_without_receiver chosen_fits chosen_well_formed choice_goes receiver_is_clean

-- ---- of a conditional the branch that acts is left, behind the condition

test_stands : Stand (these (one expression ∷ one expression ∷ one expression ∷ [])) (joined (form.reads form.a) (joined row.call_of_b form.one))
test_stands = ((a_reference_name, (form.a, tt), refl, tt, refl, tt), (other_stands.0, ((a_literal, (Literal.Number (pos 1), tt), refl, tt, refl, tt), tt)))

chooses_fits : Fits root row.chooses_call
chooses_fits = (
  (
    a_program,
    (source_type.Module, tt),
    refl,
    tt,
    refl,
    (
      (
        refl,
        (inr (refl, (an_expression_statement, tt, refl, tt, refl, ((a_conditional_expression, tt, refl, tt, refl, test_stands), tt))), tt),
      ),
      tt,
    ),
  ),
  tt,
)

chooses_well_formed : IsWellFormed row.chooses_call
unfolding is_identifier_name
chooses_well_formed = refl

branch_goes : Edits row.chooses_call row.calls_behind_a
branch_goes = tree_edits_are_edits (one_tree_edit _ _ _ (becomes statement _ _ (one_sided_choice (one_branch_acts nowhere _ _ refl refl))) (no_tree_edit _))

pub branch_left : Headline row.chooses_call row.calls_behind_a
branch_left = headline_of row.chooses_call row.calls_behind_a chooses_fits chooses_well_formed branch_goes guarded_is_clean

-- ---- of a sequence that is given to a call the last part is left

parts_stand : Stand (all expression) (joined form.one (form.reads form.a))
parts_stand = ((a_literal, (Literal.Number (pos 1), tt), refl, tt, refl, tt), ((a_reference_name, (form.a, tt), refl, tt, refl, tt), tt))

given_stands : Stand (these (one expression ∷ [])) (sample.call (form.reads (codes "use")) (sequence (form.one ∷ form.reads form.a ∷ []) ∷ []))
given_stands = (
  (
    a_call_expression,
    (false, (false, tt)),
    refl,
    tt,
    refl,
    (
      (a_reference_name, (codes "use", tt), refl, tt, refl, tt),
      ((refl, ((a_sequence_expression, tt, refl, tt, refl, ((refl, parts_stand), tt)), tt)), tt),
    ),
  ),
  tt,
)

uses_fits : Fits root row.uses_sequence
uses_fits = (
  (
    a_program,
    (source_type.Module, tt),
    refl,
    tt,
    refl,
    (
      (
        refl,
        (inr (refl, (an_expression_statement, tt, refl, tt, refl, given_stands)), tt),
      ),
      tt,
    ),
  ),
  tt,
)

uses_well_formed : IsWellFormed row.uses_sequence
unfolding is_identifier_name
uses_well_formed = refl

first_goes : Edits row.uses_sequence row.uses_a
first_goes = tree_edits_are_edits (one_tree_edit _ _ _ (becomes given _ _ (idle_parts (idle_parts_leave nowhere nowhere _ _ refl))) (no_tree_edit _))

pub last_left : Headline row.uses_sequence row.uses_a
last_left = headline_of row.uses_sequence row.uses_a uses_fits uses_well_formed first_goes use_is_clean

-- and a zero before it where it may not stand there itself

behind_one_well_formed : IsWellFormed row.calls_behind_one
unfolding is_identifier_name
behind_one_well_formed = refl

one_goes : Edits row.calls_behind_one row.calls_without_receiver
one_goes = tree_edits_are_edits (one_tree_edit _ _ _ (becomes called _ _ (idle_parts (idle_parts_leave nowhere nowhere _ _ refl))) (no_tree_edit _))

pub behind_zero_left : Headline row.calls_behind_one row.calls_without_receiver
behind_zero_left = headline_of row.calls_behind_one row.calls_without_receiver behind_one_fits behind_one_well_formed one_goes receiver_is_clean

-- ---- of a comparison of two calls these are left, and of an object literal the call that it holds

sides_stand : Stand (these (one expression ∷ one expression ∷ [])) (joined call_of_a row.call_of_b)
sides_stand = (name_stands.0, other_stands)

sides_fit : Fits root row.compares_calls
sides_fit = (
  (
    a_program,
    (source_type.Module, tt),
    refl,
    tt,
    refl,
    (
      (
        refl,
        (inr (refl, (an_expression_statement, tt, refl, tt, refl, ((a_binary_expression, (binary.StrictEquality, tt), refl, refl, refl, sides_stand), tt))), tt),
      ),
      tt,
    ),
  ),
  tt,
)

sides_well_formed : IsWellFormed row.compares_calls
unfolding is_identifier_name
sides_well_formed = refl

sides_stay : Edits row.compares_calls row.calls_both
sides_stay = tree_edits_are_edits (one_tree_edit _ _ _ (becomes statement _ _ (two_sides (both_sides_act nowhere nowhere _ _ refl refl))) (no_tree_edit _))

pub sides_left : Headline row.compares_calls row.calls_both
sides_left = headline_of row.compares_calls row.calls_both sides_fit sides_well_formed sides_stay sequence_is_clean

property_stands : Stand (all object_item) (below_of (below_of (row.object_of form.a call_of_a)))
property_stands = ((a_property, (property.Init, (false, (key.Name form.a, tt))), refl, refl, refl, (refl, name_stands)), tt)

object_fits : Fits root row.holds_call
object_fits = (
  (
    a_program,
    (source_type.Module, tt),
    refl,
    tt,
    refl,
    (
      (
        refl,
        (inr (refl, (an_expression_statement, tt, refl, tt, refl, ((an_object_expression, tt, refl, tt, refl, ((refl, property_stands), tt)), tt))), tt),
      ),
      tt,
    ),
  ),
  tt,
)

object_well_formed : IsWellFormed row.holds_call
unfolding is_identifier_name
object_well_formed = refl

object_goes : Edits row.holds_call row.calls_a
object_goes = tree_edits_are_edits (one_tree_edit _ _ _ (becomes statement _ _ (unused_object (acting_values_stay nowhere nowhere _ _ refl refl))) (no_tree_edit _))

pub held_left : Headline row.holds_call row.calls_a
held_left = headline_of row.holds_call row.calls_a object_fits object_well_formed object_goes a_is_clean

-- ---- of a negated number its truth value is left

negation_stands : Stand (these (one expression ∷ [])) (sample.call (form.reads (codes "use")) (applied unary.LogicalNot (sample.number_of 0) ∷ []))
negation_stands = ((a_call_expression, (false, (false, tt)), refl, tt, refl, ((a_reference_name, (codes "use", tt), refl, tt, refl, tt), ((refl, ((a_unary_expression, (unary.LogicalNot, tt), refl, tt, refl, ((a_literal, (Literal.Number (pos 0), tt), refl, tt, refl, tt), tt)), tt)), tt))), tt)

negation_fits : Fits root row.uses_negation
negation_fits = (
  (
    a_program,
    (source_type.Module, tt),
    refl,
    tt,
    refl,
    (
      (
        refl,
        (inr (refl, (an_expression_statement, tt, refl, tt, refl, negation_stands)), tt),
      ),
      tt,
    ),
  ),
  tt,
)

negation_well_formed : IsWellFormed row.uses_negation
unfolding is_identifier_name
negation_well_formed = refl

negation_goes : Edits row.uses_negation row.uses_true
negation_goes = tree_edits_are_edits (one_tree_edit _ _ _ (becomes given _ _ (known_operation (value_is_known nowhere (Literal.Boolean true) _ refl))) (no_tree_edit _))

pub known_left : Headline row.uses_negation row.uses_true
known_left = headline_of row.uses_negation row.uses_true negation_fits negation_well_formed negation_goes true_is_clean

pub written_left : written row.less_four ≡ row.with_minus
written_left = refl
