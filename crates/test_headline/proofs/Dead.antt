-- Which small programs have dead code.
use Rattle.std.proofs.Common.{◌≡◌, ◌∙◌, inl, inr, ℕ, [], ◌∷◌, pos, Bool, true, false, ◌||◌, true≢false, Option, Some, None, bytes_eq, codes, refl, sym, ap, arith}
use Rattle.std.proofs.lemmas.Bool.{or_cases, or_left, or_right}
use Rattle.js_syntax.specs.Class.{root, expression, object_item, callee, declared_name, binding_element, function_block}
use Rattle.js_syntax.specs.declared.node_kind.NodeKind.{NodeKind as Kind}
use Rattle.js_syntax.specs.declared.scalar.SourceType.TheVariants as source_type
use Rattle.js_syntax.specs.declared.kind.VariableKind.TheVariants as variable
use Rattle.js_syntax.specs.declared.kind.PropertyKind.TheVariants as property
use Rattle.js_syntax.specs.declared.operator.BinaryOperator.TheVariants as binary
use Rattle.js_syntax.specs.declared.operator.LogicalOperator.TheVariants as logical
use Rattle.js_syntax.specs.declared.operator.UnaryOperator.TheVariants as unary
use Rattle.js_syntax.specs.declared.value.Key.TheVariants as key
use Rattle.js_syntax.specs.declared.value.LiteralValue.{LiteralValue as Literal}
use Rattle.js_syntax.specs.Node.{Forest, Tree, Note, nothing, node, absent, nowhere, joined, below_of}
use Rattle.js_syntax.specs.Table.{a_program, an_expression_statement, a_call_expression, a_member_expression, a_reference_name, a_literal, a_unary_expression, a_binary_expression, a_logical_expression, a_sequence_expression, an_object_expression, a_property, a_binding_name, a_function_declaration, a_function_body, an_export_declaration, a_variable_declaration, a_variable_declarator}
use Rattle.form_rules.specs.Samples.{leaf, listed, no, reads, a_module, a_script, a, binds, one, does, declares, let_, function_a, block}
use Rattle.js_meaning.specs.Samples as sample
use Rattle.js_meaning.specs.Examples.{g, o}
use Rattle.json_shape.specs.Shape.{one as one_of, key_apart, list, these, all, Stand, Fits}
use Rattle.scope_rules.specs.Context.{body_of}
use Rattle.scope_rules.specs.Site.{BindingSite, ReferenceSite, sites_of, bindings_among, references_among}
use Rattle.scope_rules.specs.Samples.{imports}
use Rattle.scope_rules.specs.Binding.{Binding, named_in, declared_by, binding_of}
use Rattle.scope_laws.specs.Exact.{Among}
use Rattle.scope_laws.specs.Place.{Around, first, behind, behind_none, under, plug}
use Rattle.steps.specs.Naming.Standing.{exported_declarations}
use Rattle.steps.specs.Steps.{binds_import}
use Rattle.steps.specs.Allowed.Rows.{null, logical as either, value_of_a, in_list, in_statement, past, throws, statement, called, argument, before, sequence, applied, call_of_a, call_of_eval, exports_declaration, empty, only_import, behind_import}
use Rattle.steps.specs.Allowed.KnownConditional.{consequent_is_taken, alternate_is_taken}
use Rattle.steps.specs.Allowed.KnownSide.{right_side_counts, left_side_decides}
use Rattle.steps.specs.Allowed.UnusedOperation.{needed_at, one_operand_acts}
use Rattle.steps.specs.Allowed.UnusedList.{list_becomes, acting_parts_stay}
use Rattle.steps.specs.Allowed.IndirectChoice.{part_counts, behind_test, value_alone_counts, part_counts_behind_test}
use Rattle.steps.specs.Allowed.OneSidedChoice.{one_sided, one_branch_acts}
use Rattle.steps.specs.Allowed.IdleParts.{sequence_becomes, idle_parts_leave}
use Rattle.steps.specs.Allowed.TwoSides.{two_sides as two_sides_at, both_sides_act}
use Rattle.steps.specs.Allowed.UnusedObject.{object_becomes, acting_values_stay}
use Rattle.steps.specs.Allowed.KnownOperation.{known_literal, value_is_known, negative_is_known}
use Rattle.steps.proofs.Owed.KnownOperation.{Negative, under_one, under_two, is_negative_known}
use Rattle.steps.specs.Allowed.KnownIf.{consequent_is_run, alternate_is_run}
use Rattle.steps.specs.Allowed.DeadIf.{nothing_is_run}
use Rattle.steps.specs.Allowed.EmptyBlock.{holds_nothing, empty_block_leaves}
use Rattle.steps.specs.Allowed.Unreached.{only_runs, never_runs}
use Rattle.steps.specs.Allowed.KeptNames.{names_stay}
use Rattle.steps.specs.Allowed.Untaken.{never_taken}
use Rattle.steps.specs.KeepForm.Part.{leaves_names_of}
use Rattle.steps.specs.Allowed.RepeatedImport.{repeated_import_leaves}
use Rattle.steps.specs.Allowed.MergedImports.{MergesIn, merges_here, merges_behind, MergedImports, imports_merge}
use Rattle.steps.specs.Allowed.PassedExports.{PassesIn, passes_here, passes_behind, PassedExports, exports_pass}
use Rattle.steps.specs.Allowed.IdleStatement.{idle_leaves}
use Rattle.steps.specs.Allowed.IdleTry.{finalizer_is_run, finalizer_is_run_alone, block_is_run}
use Rattle.steps.specs.Allowed.EmptyIf.{test_stays}
use Rattle.steps.specs.Allowed.EmptyAlternate.{alternate_goes}
use Rattle.steps.specs.Allowed.IdleBody.{is_idle_statement, idle_body_empties}
use Rattle.steps.specs.Allowed.UnrunValue.{is_value_of, is_value, value_never_given}
use Rattle.steps.specs.Allowed.ValueStays.{value_is_stated}
use Rattle.steps.specs.Allowed.Uses.{Use}
use Rattle.steps.proofs.Owed.IdleStatement.{idle_runs}
use Rattle.steps.proofs.KeepForm.Asked.{idle_kinds}
use Rattle.steps.proofs.Owed.IdleBody.{body_kind}
use Rattle.headline.specs.Headline.{ImportsAreUsed}
use Rattle.headline.specs.Clean.{IsDead, an_empty_statement, an_empty_block, a_silent_statement, an_unused_function, an_unused_declarator, a_value_of_an_unused_name, an_unused_import, a_known_conditional, a_known_side, an_unused_operation, an_unused_list, an_indirect_choice, a_one_sided_choice, idle_parts, two_sides, an_unused_object, a_known_operation, a_known_if, a_dead_if, an_empty_if, an_empty_alternate, an_unreached_statement, an_untaken_statement, a_statement_of_names, an_unrun_value, an_idle_statement, a_repeated_import, an_idle_try, an_idle_body, Clean}
use Rattle.min_peephole.specs.Quiet.{is_quiet}
use Rattle.min_peephole.proofs.Quieted.{quiet_clean}
use Rattle.test_headline.specs.Rows as row

-- ---- what has dead code

-- 1;
pub number_is_dead : Clean (a_module (does one ∷ [])) → ⊥
number_is_dead c = c.nothing_is_dead (before []) _ refl (a_silent_statement (before []) nowhere one (inl refl, tt))

-- { ; }
pub empty_is_dead : Clean (a_module (block (empty ∷ []) ∷ [])) → ⊥
empty_is_dead c =
    let a = in_list (under Kind.BlockStatement nowhere (under Kind.Statements nowhere (first nothing) nothing) nothing) in
    c.nothing_is_dead a _ refl (an_empty_statement a nowhere refl)

-- function a() {}
pub function_is_dead : Clean (a_module (function_a [] [] ∷ [])) → ⊥
function_is_dead c = c.nothing_is_dead (before []) _ refl (an_unused_function (before []) false nowhere nowhere a _ refl refl refl (record { unreferred = λ r h e. h; unexported = λ e h s d. h }))

-- import a from 'm';
pub import_is_dead : Clean (a_module (imports a ∷ [])) → ⊥
import_is_dead c = c.nothing_is_dead only_import _ refl (an_unused_import only_import Kind.ImportDefaultSpecifier nowhere nowhere a refl refl refl refl refl (record { unreferred = λ r h e. h; unexported = λ e h s d. h }))

-- import a from 'm'; import 'm';
pub repeated_is_dead : Clean row.imports_again → ⊥
repeated_is_dead c = c.nothing_is_dead behind_import _ refl (a_repeated_import behind_import _ (repeated_import_leaves (codes "m") nowhere nowhere refl refl))

-- to its name nothing refers
pub import_is_unused : ImportsAreUsed (a_module (imports a ∷ [])) → ⊥
import_is_unused used = used only_import Kind.ImportDefaultSpecifier nowhere nowhere a refl refl refl (record { unreferred = λ r h e. h; unexported = λ e h s d. h })

-- behind the first of them
abbrev second_declarator : Around
second_declarator =
    in_list (behind Kind.ExpressionStatement nowhere call_of_a
    (under (Kind.VariableDeclaration variable.Let) nowhere (under Kind.Declarators nowhere (behind Kind.VariableDeclarator nowhere (joined (binds a) no) (first nothing)) nothing) nothing))

abbrev is_b : Option Binding → Bool
is_b None = false
is_b (Some b) = bytes_eq b.name (codes "b")

b_is_unreferred : (r : ReferenceSite) → Among r (references_among (sites_of row.of_two)) → binding_of (bindings_among (sites_of row.of_two)) r ≡ Some (named_in (codes "b") (body_of 0)) → ⊥
b_is_unreferred r (inl e) is = true≢false (sym (ap is_b (ap (binding_of (bindings_among (sites_of row.of_two))) e ∙ is)))
b_is_unreferred r (inr h) is = h

pub declarator_is_dead : Clean row.of_two → ⊥
declarator_is_dead c =
    c.nothing_is_dead second_declarator _ refl (an_unused_declarator second_declarator nowhere nowhere (codes "b") (absent nothing) refl refl refl (refl, tt) (record { unreferred = b_is_unreferred; unexported = λ e h s d. h }))

-- a(true ? a : b);
pub conditional_is_dead : Clean row.takes_branch → ⊥
conditional_is_dead c =
    c.nothing_is_dead argument _ refl (a_known_conditional argument _ _ (consequent_is_taken nowhere nowhere nowhere nowhere (Kind.Literal (Literal.Boolean true)) (Kind.ReferenceName a) (Kind.ReferenceName (codes "b")) nothing nothing nothing refl refl))

-- a(a && null ? a : b);
pub tested_is_dead : Clean row.takes_behind_test → ⊥
tested_is_dead c = c.nothing_is_dead argument _ refl (an_indirect_choice argument _ _ (part_counts_behind_test nowhere nowhere _ _ refl))

-- a([] ? a : b);
pub tested_object_is_dead : Clean row.takes_by_object → ⊥
tested_object_is_dead c =
    c.nothing_is_dead argument _ refl
    (a_known_conditional argument _ _ (consequent_is_taken nowhere nowhere nowhere nowhere Kind.ArrayExpression (Kind.ReferenceName a) (Kind.ReferenceName (codes "b")) (listed Kind.Elements []) nothing nothing refl refl))

-- null && a();
pub side_is_dead : Clean row.never_calls → ⊥
side_is_dead c =
    let place = in_statement (first nothing) in
    c.nothing_is_dead place _ refl (a_known_side place _ _ (left_side_decides logical.And nowhere nowhere nowhere (Kind.Literal Literal.Null) (Kind.CallExpression false false) nothing (below_of call_of_a) refl refl))

-- !(a() === 1);
pub operation_is_dead : Clean row.compares_call → ⊥
operation_is_dead c = c.nothing_is_dead statement _ refl (an_unused_operation statement _ _ (one_operand_acts 0 _ _ refl refl refl))

-- [a(), 1];
pub list_is_dead : Clean row.lists_call → ⊥
list_is_dead c = c.nothing_is_dead statement _ refl (an_unused_list statement _ _ (acting_parts_stay nowhere nowhere _ _ refl refl))

-- (1 ? o.g : null)();
pub choice_is_dead : Clean row.calls_chosen → ⊥
choice_is_dead c = c.nothing_is_dead called _ refl (an_indirect_choice called _ _ (value_alone_counts nowhere nowhere nowhere _ _ refl refl))

-- a ? b() : 1;
pub branch_is_dead : Clean row.chooses_call → ⊥
branch_is_dead c = c.nothing_is_dead statement _ refl (a_one_sided_choice statement _ _ (one_branch_acts nowhere _ _ refl refl))

-- of use(e), the place of e
abbrev pub given : Around
given = in_statement (under (Kind.CallExpression false false) nowhere (past (reads (codes "use")) (under Kind.Arguments nowhere (first nothing) nothing)) nothing)

-- use((1, a));
pub part_is_dead : Clean row.uses_sequence → ⊥
part_is_dead c = c.nothing_is_dead given _ refl (idle_parts given _ _ (idle_parts_leave nowhere nowhere _ _ refl))

-- (1, o.g)();
pub behind_one_is_dead : Clean row.calls_behind_one → ⊥
behind_one_is_dead c = c.nothing_is_dead called _ refl (idle_parts called _ _ (idle_parts_leave nowhere nowhere _ _ refl))

-- a() === b();
pub sides_are_dead : Clean row.compares_calls → ⊥
sides_are_dead c = c.nothing_is_dead statement _ refl (two_sides statement _ _ (both_sides_act nowhere nowhere _ _ refl refl))

-- ({ a: a() });
pub object_is_dead : Clean row.holds_call → ⊥
object_is_dead c = c.nothing_is_dead statement _ refl (an_unused_object statement _ _ (acting_values_stay nowhere nowhere _ _ refl refl))

-- use(!0);
pub known_is_dead : Clean row.uses_negation → ⊥
known_is_dead c = c.nothing_is_dead given _ refl (a_known_operation given _ _ (value_is_known nowhere (Literal.Boolean true) _ refl))

-- if (1) a(); else b();
pub if_holds_is_dead : Clean row.runs_one_branch → ⊥
if_holds_is_dead c =
    c.nothing_is_dead (before []) _ refl
    (a_known_if (before []) _ _ (consequent_is_run nowhere nowhere nowhere (Kind.Literal (Literal.Number (pos 1))) Kind.ExpressionStatement nothing call_of_a (does row.call_of_b) refl refl tt refl))

-- if (null) a();
pub if_fails_is_dead : Clean row.runs_no_branch → ⊥
if_fails_is_dead c =
    c.nothing_is_dead (before []) _ refl (a_dead_if (before []) _ _ (nothing_is_run nowhere nowhere nowhere nowhere (Kind.Literal Literal.Null) Kind.ExpressionStatement nothing call_of_a refl refl))

-- throw 1; a();
abbrev behind_throw : Around
behind_throw = in_list (past (throws one) (first nothing))

pub block_is_dead : Clean row.labels_nothing → ⊥
block_is_dead c = c.nothing_is_dead (before []) _ refl (an_empty_block (before []) _ (empty_block_leaves refl refl))

pub unreached_is_dead : Clean row.calls_behind_throw → ⊥
unreached_is_dead c = c.nothing_is_dead behind_throw _ refl (an_unreached_statement behind_throw _ (never_runs refl refl refl refl))

-- l: while (null) a();
pub loop_is_dead : Clean row.never_turns → ⊥
loop_is_dead c = c.nothing_is_dead (before []) _ refl (an_idle_statement (before []) _ (idle_leaves refl refl refl))

-- l: { break l; a(); }
pub label_is_dead : Clean row.leaves_label → ⊥
label_is_dead c = c.nothing_is_dead (before []) _ refl (an_idle_statement (before []) _ (idle_leaves refl refl refl))

-- try {} finally { a(); }
pub try_is_dead : Clean row.runs_finalizer → ⊥
try_is_dead c = c.nothing_is_dead (before []) _ refl (an_idle_try (before []) _ _ (finalizer_is_run nowhere nowhere nowhere _ _ refl refl))

-- if (a) ;
pub test_is_dead : Clean row.tests_for_nothing → ⊥
test_is_dead c = c.nothing_is_dead (before []) _ refl (an_empty_if (before []) _ _ (test_stays nowhere nowhere nowhere _ _ _ refl refl))

-- if (a) a(); else ;
pub alternate_is_dead : Clean row.ends_in_nothing → ⊥
alternate_is_dead c = c.nothing_is_dead (before []) _ refl (an_empty_alternate (before []) _ _ (alternate_goes nowhere nowhere nowhere nowhere _ _ _ _ refl))

-- while (a) {}
pub body_is_dead : Clean row.turns_around_block → ⊥
body_is_dead c =
    let place = in_list (under Kind.WhileStatement nowhere (past (reads a) (first nothing)) nothing) in
    c.nothing_is_dead place _ refl (an_idle_body place _ _ (idle_body_empties _ nowhere refl refl refl))

-- if (null) var a = b(); use(a);
pub value_is_dead : Clean row.gives_call → ⊥
value_is_dead c =
    let place = in_list (under Kind.IfStatement nowhere (past null (value_of_a variable.Var no)) row.use_of_a) in
    c.nothing_is_dead place _ refl (an_unrun_value place _ _ (value_never_given nowhere _ refl refl refl))

-- if (null) { var a = 1; b(); } use(a);
abbrev behind_variable : Around
behind_variable =
    in_list (under Kind.IfStatement nowhere (past null (under Kind.BlockStatement nowhere (under Kind.Statements nowhere (past (declares variable.Var (binds a) one) (first nothing)) nothing) no)) row.use_of_a)

pub untaken_is_dead : Clean row.keeps_variable → ⊥
untaken_is_dead c = c.nothing_is_dead behind_variable _ refl (an_untaken_statement behind_variable _ (never_taken refl refl refl refl))

-- if (a && null) { b(); }
pub acting_is_dead : Clean row.never_holds → ⊥
acting_is_dead c =
    let place = in_list (under Kind.IfStatement nowhere (past (either logical.And (reads a) null) (under Kind.BlockStatement nowhere (under Kind.Statements nowhere (first nothing) nothing) no)) nothing) in
    c.nothing_is_dead place _ refl (an_untaken_statement place _ (never_taken refl refl refl refl))

-- ---- what has none

pub name_stands : Stand (these (one_of expression ∷ [])) call_of_a
name_stands = ((a_call_expression, (false, (false, tt)), refl, tt, refl, ((a_reference_name, (a, tt), refl, tt, refl, tt), ((refl, tt), tt))), tt)

eval_stands : Stand (these (one_of expression ∷ [])) call_of_eval
eval_stands = ((a_call_expression, (false, (false, tt)), refl, tt, refl, ((a_reference_name, (codes "eval", tt), refl, tt, refl, tt), ((refl, tt), tt))), tt)

function_parts : Stand (these (one_of declared_name ∷ list Kind.Parameters binding_element ∷ one_of function_block ∷ [])) (below_of (function_a [] []))
function_parts = ((a_binding_name, (a, tt), refl, tt, refl, tt), ((refl, tt), ((a_function_body, tt, refl, tt, refl, ((refl, tt), tt)), tt)))

-- a();
pub call_is_clean : Clean (a_module (does call_of_a ∷ []))
call_is_clean = quiet_clean _ ((a_program, (source_type.Module, tt), refl, tt, refl, ((refl, (inr (refl, (an_expression_statement, tt, refl, tt, refl, name_stands)), tt)), tt)), tt) refl

-- export function a() {}
exported_fits : Fits root (a_module (exports_declaration (function_a [] []) ∷ []))
exported_fits = (
  (
    a_program,
    (source_type.Module, tt),
    refl,
    tt,
    refl,
    (
      (
        refl,
        (
          inr (
            refl,
            (
              an_export_declaration,
              tt,
              refl,
              tt,
              refl,
              ((a_function_declaration, (false, tt), refl, tt, refl, function_parts), ((refl, tt), tt)),
            ),
          ),
          tt,
        ),
      ),
      tt,
    ),
  ),
  tt,
)

pub exported_is_clean : Clean (a_module (exports_declaration (function_a [] []) ∷ []))
exported_is_clean = quiet_clean _ exported_fits refl

-- let a = 1; eval();
evaluated_fits : Fits root (a_module (declares variable.Let (binds a) one ∷ does call_of_eval ∷ []))
evaluated_fits = (
  (
    a_program,
    (source_type.Module, tt),
    refl,
    tt,
    refl,
    (
      (
        refl,
        (
          inr (refl, (a_variable_declaration, (variable.Let, tt), refl, tt, refl, ((refl, ((a_variable_declarator, tt, refl, tt, refl, ((a_binding_name, (a, tt), refl, tt, refl, tt), ((a_literal, (Literal.Number (pos 1), tt), refl, tt, refl, tt), tt))), tt)), tt))),
          ((an_expression_statement, tt, refl, tt, refl, eval_stands), tt),
        ),
      ),
      tt,
    ),
  ),
  tt,
)

pub evaluated_is_clean : Clean (a_module (declares variable.Let (binds a) one ∷ does call_of_eval ∷ []))
evaluated_is_clean = quiet_clean _ evaluated_fits refl

-- function a() {} in a script
global_fits : Fits root (a_script (function_a [] [] ∷ []))
global_fits = ((a_program, (source_type.Script, tt), refl, tt, refl, ((refl, (inr (refl, (a_function_declaration, (false, tt), refl, tt, refl, function_parts)), tt)), tt)), tt)

pub global_is_clean : Clean (a_script (function_a [] [] ∷ []))
global_is_clean = quiet_clean _ global_fits refl

-- (0, o.g)();
pub member_stands : Stand (these (one_of callee ∷ key_apart true ∷ [])) (joined (sample.name o) no)
member_stands = ((a_reference_name, (o, tt), refl, tt, refl, tt), (refl, tt))

behind_zero_stands : Stand (all expression) (joined (leaf (Kind.Literal (Literal.Number (pos 0)))) row.member_g)
behind_zero_stands = ((a_literal, (Literal.Number (pos 0), tt), refl, tt, refl, tt), ((a_member_expression, (key.Name g, (false, tt)), refl, tt, refl, member_stands), tt))

receiver_fits : Fits root row.calls_without_receiver
receiver_fits = (
  (
    a_program,
    (source_type.Module, tt),
    refl,
    tt,
    refl,
    (
      (
        refl,
        (
          inr (
            refl,
            (
              an_expression_statement,
              tt,
              refl,
              tt,
              refl,
              (
                (
                  a_call_expression,
                  (false, (false, tt)),
                  refl,
                  tt,
                  refl,
                  ((a_sequence_expression, tt, refl, tt, refl, ((refl, behind_zero_stands), tt)), ((refl, tt), tt)),
                ),
                tt,
              ),
            ),
          ),
          tt,
        ),
      ),
      tt,
    ),
  ),
  tt,
)

pub receiver_is_clean : Clean row.calls_without_receiver
receiver_is_clean = quiet_clean _ receiver_fits refl

-- (1, o.g)();
behind_one_stands : Stand (all expression) (joined one row.member_g)
behind_one_stands = ((a_literal, (Literal.Number (pos 1), tt), refl, tt, refl, tt), behind_zero_stands.1)

behind_one_calls : Stand (these (one_of expression ∷ [])) (sample.call (sequence (one ∷ row.member_g ∷ [])) [])
behind_one_calls = ((a_call_expression, (false, (false, tt)), refl, tt, refl, ((a_sequence_expression, tt, refl, tt, refl, ((refl, behind_one_stands), tt)), ((refl, tt), tt))), tt)

pub behind_one_fits : Fits root row.calls_behind_one
behind_one_fits = (
  (
    a_program,
    (source_type.Module, tt),
    refl,
    tt,
    refl,
    (
      (
        refl,
        (inr (refl, (an_expression_statement, tt, refl, tt, refl, behind_one_calls)), tt),
      ),
      tt,
    ),
  ),
  tt,
)

-- a + b;
names_stand : Stand (these (one_of expression ∷ one_of expression ∷ [])) (joined (reads a) (reads (codes "b")))
names_stand = ((a_reference_name, (a, tt), refl, tt, refl, tt), ((a_reference_name, (codes "b", tt), refl, tt, refl, tt), tt))

names_fit : Fits root row.adds_names
names_fit = (
  (
    a_program,
    (source_type.Module, tt),
    refl,
    tt,
    refl,
    (
      (
        refl,
        (inr (refl, (an_expression_statement, tt, refl, tt, refl, ((a_binary_expression, (binary.Addition, tt), refl, refl, refl, names_stand), tt))), tt),
      ),
      tt,
    ),
  ),
  tt,
)

pub names_are_clean : Clean row.adds_names
names_are_clean = quiet_clean _ names_fit refl

-- a(), b();
pub other_stands : Stand (these (one_of expression ∷ [])) row.call_of_b
other_stands = ((a_call_expression, (false, (false, tt)), refl, tt, refl, ((a_reference_name, (codes "b", tt), refl, tt, refl, tt), ((refl, tt), tt))), tt)

calls_stand : Stand (all expression) (joined call_of_a row.call_of_b)
calls_stand = (name_stands.0, (other_stands.0, tt))

sequence_fits : Fits root row.calls_both
sequence_fits = (
  (
    a_program,
    (source_type.Module, tt),
    refl,
    tt,
    refl,
    (
      (
        refl,
        (inr (refl, (an_expression_statement, tt, refl, tt, refl, ((a_sequence_expression, tt, refl, tt, refl, ((refl, calls_stand), tt)), tt))), tt),
      ),
      tt,
    ),
  ),
  tt,
)

pub sequence_is_clean : Clean row.calls_both
sequence_is_clean = quiet_clean _ sequence_fits refl

-- a && b();
guarded_stands : Stand (these (one_of expression ∷ one_of expression ∷ [])) (joined (reads a) row.call_of_b)
guarded_stands = ((a_reference_name, (a, tt), refl, tt, refl, tt), other_stands)

guarded_fits : Fits root row.calls_behind_a
guarded_fits = (
  (
    a_program,
    (source_type.Module, tt),
    refl,
    tt,
    refl,
    (
      (
        refl,
        (inr (refl, (an_expression_statement, tt, refl, tt, refl, ((a_logical_expression, (logical.And, tt), refl, tt, refl, guarded_stands), tt))), tt),
      ),
      tt,
    ),
  ),
  tt,
)

pub guarded_is_clean : Clean row.calls_behind_a
guarded_is_clean = quiet_clean _ guarded_fits refl

-- use(a);
pub use_stands : Stand (these (one_of expression ∷ [])) (sample.call (reads (codes "use")) (reads a ∷ []))
use_stands = ((a_call_expression, (false, (false, tt)), refl, tt, refl, ((a_reference_name, (codes "use", tt), refl, tt, refl, tt), ((refl, ((a_reference_name, (a, tt), refl, tt, refl, tt), tt)), tt))), tt)

use_fits : Fits root row.uses_a
use_fits = (
  (
    a_program,
    (source_type.Module, tt),
    refl,
    tt,
    refl,
    (
      (
        refl,
        (inr (refl, (an_expression_statement, tt, refl, tt, refl, use_stands)), tt),
      ),
      tt,
    ),
  ),
  tt,
)

pub use_is_clean : Clean row.uses_a
use_is_clean = quiet_clean _ use_fits refl

-- use(true);
true_stands : Stand (these (one_of expression ∷ [])) (sample.call (reads (codes "use")) (leaf (Kind.Literal (Literal.Boolean true)) ∷ []))
true_stands = ((a_call_expression, (false, (false, tt)), refl, tt, refl, ((a_reference_name, (codes "use", tt), refl, tt, refl, tt), ((refl, ((a_literal, (Literal.Boolean true, tt), refl, tt, refl, tt), tt)), tt))), tt)

true_fits : Fits root row.uses_true
true_fits = (
  (
    a_program,
    (source_type.Module, tt),
    refl,
    tt,
    refl,
    (
      (
        refl,
        (inr (refl, (an_expression_statement, tt, refl, tt, refl, true_stands)), tt),
      ),
      tt,
    ),
  ),
  tt,
)

pub true_is_clean : Clean row.uses_true
true_is_clean = quiet_clean _ true_fits refl

-- use(-1);
minus_stands : Stand (these (one_of expression ∷ [])) (sample.call (reads (codes "use")) (applied unary.UnaryNegation one ∷ []))
minus_stands = ((a_call_expression, (false, (false, tt)), refl, tt, refl, ((a_reference_name, (codes "use", tt), refl, tt, refl, tt), ((refl, ((a_unary_expression, (unary.UnaryNegation, tt), refl, tt, refl, ((a_literal, (Literal.Number (pos 1), tt), refl, tt, refl, tt), tt)), tt)), tt))), tt)

minus_fits : Fits root row.uses_minus_one
minus_fits = (
  (
    a_program,
    (source_type.Module, tt),
    refl,
    tt,
    refl,
    (
      (
        refl,
        (inr (refl, (an_expression_statement, tt, refl, tt, refl, minus_stands)), tt),
      ),
      tt,
    ),
  ),
  tt,
)

pub minus_is_clean : Clean row.uses_minus_one
minus_is_clean = quiet_clean _ minus_fits refl

-- ({ __proto__: a() });
prototype_stands : Stand (all object_item) (below_of (below_of (row.object_of (codes "__proto__") call_of_a)))
prototype_stands = ((a_property, (property.Init, (false, (key.Name (codes "__proto__"), tt))), refl, refl, refl, (refl, name_stands)), tt)

prototype_fits : Fits root row.sets_prototype
prototype_fits = (
  (
    a_program,
    (source_type.Module, tt),
    refl,
    tt,
    refl,
    (
      (
        refl,
        (inr (refl, (an_expression_statement, tt, refl, tt, refl, ((an_object_expression, tt, refl, tt, refl, ((refl, prototype_stands), tt)), tt))), tt),
      ),
      tt,
    ),
  ),
  tt,
)

pub prototype_is_clean : Clean row.sets_prototype
prototype_is_clean = quiet_clean _ prototype_fits refl

-- ---- what the rules take

-- behind the export
abbrev behind_export : Around
behind_export =
    in_list (under Kind.BlockStatement nowhere (under Kind.Statements nowhere (behind (Kind.ExportNamedDeclaration None) nowhere (joined (let_ a) (listed Kind.Specifiers [])) (first nothing)) nothing) nothing)

-- The name is one of the block's, which exports nothing.
pub misplaced_goes : is_quiet row.misplaced_export ≡ false
misplaced_goes = refl

pub misplaced_is_dead : Clean row.misplaced_export → ⊥
misplaced_is_dead c = c.nothing_is_dead behind_export _ refl (an_unused_function behind_export false nowhere nowhere a _ refl refl refl (record { unreferred = λ r h e. h; unexported = not_exported }))
  where
    not_exported : (e : BindingSite) → Among e (exported_declarations row.misplaced_export) → e.layer.scope ≡ 0 → declared_by e ≡ named_in a (body_of 1) → ⊥
    not_exported e (inl is) outer same = Prim.omega (arith, ap (λ (x : BindingSite). x.layer.scope) is ∙ outer)
    not_exported e (inr h) outer same = h

-- kinds of which a part of a program may be dead code
abbrev is_suspect : Kind → Bool
is_suspect Kind.EmptyStatement = true
is_suspect Kind.ExpressionStatement = true
is_suspect Kind.IfStatement = true
is_suspect (Kind.Function how pure) = true
is_suspect Kind.VariableDeclarator = true
is_suspect Kind.ConditionalExpression = true
is_suspect (Kind.LogicalExpression o) = true
is_suspect (Kind.UnaryExpression o) = true
is_suspect (Kind.BinaryExpression o) = true
is_suspect Kind.ArrayExpression = true
is_suspect Kind.SequenceExpression = true
is_suspect Kind.TemplateLiteral = true
is_suspect Kind.ObjectExpression = true
is_suspect (Kind.ImportSpecifier name) = true
is_suspect Kind.ImportDefaultSpecifier = true
is_suspect Kind.ImportNamespaceSpecifier = true
is_suspect (Kind.ImportDeclaration source) = true
is_suspect k = only_runs k

abbrev has_suspect : Forest → Bool
has_suspect nothing = false
has_suspect (absent rest) = has_suspect rest
has_suspect (node k n below rest) = is_suspect k || (has_suspect below || has_suspect rest)

suspect_there : (a : Around) (x : Tree) → is_suspect x.kind ≡ true → has_suspect (plug a (Some x)) ≡ true
suspect_there (first rest) x h = or_left (is_suspect x.kind) (has_suspect x.below || has_suspect rest) h
suspect_there (behind k n b a) x h = or_right (is_suspect k) (has_suspect b || has_suspect (plug a (Some x))) (or_right (has_suspect b) (has_suspect (plug a (Some x))) (suspect_there a x h))
suspect_there (behind_none a) x h = suspect_there a x h
suspect_there (under k n a rest) x h = or_right (is_suspect k) (has_suspect (plug a (Some x)) || has_suspect rest) (or_left (has_suspect (plug a (Some x))) (has_suspect rest) (suspect_there a x h))

-- what stands further in
inner_suspect : (a : Around) (x : Tree) → has_suspect x.below ≡ true → has_suspect (plug a (Some x)) ≡ true
inner_suspect (first rest) x h = or_right (is_suspect x.kind) (has_suspect x.below || has_suspect rest) (or_left (has_suspect x.below) (has_suspect rest) h)
inner_suspect (behind k n b a) x h = or_right (is_suspect k) (has_suspect b || has_suspect (plug a (Some x))) (or_right (has_suspect b) (has_suspect (plug a (Some x))) (inner_suspect a x h))
inner_suspect (behind_none a) x h = inner_suspect a x h
inner_suspect (under k n a rest) x h = or_right (is_suspect k) (has_suspect (plug a (Some x)) || has_suspect rest) (or_left (has_suspect (plug a (Some x))) (has_suspect rest) (inner_suspect a x h))

-- a value stands in a declarator
declarator_suspect : (k : Kind) (a : Around) → is_value_of k a ≡ true → is_suspect k ≡ true
declarator_suspect Kind.VariableDeclarator a h = refl
declarator_suspect k a h = absurd (true≢false (sym h))

value_suspect : (a : Around) (x : Tree) → is_value a ≡ true → has_suspect (plug a (Some x)) ≡ true
value_suspect (first rest) x h = absurd (true≢false (sym h))
value_suspect (behind k n b a) x h = or_right (is_suspect k) (has_suspect b || has_suspect (plug a (Some x))) (or_right (has_suspect b) (has_suspect (plug a (Some x))) (value_suspect a x h))
value_suspect (behind_none a) x h = value_suspect a x h
value_suspect (under k n a rest) x h =
    let t = plug a (Some x) in
    elim (or_cases (is_value_of k a) (is_value a) h) [
      | inl here ↦ or_left (is_suspect k) (has_suspect t || has_suspect rest) (declarator_suspect k a here)
      | inr further ↦ or_right (is_suspect k) (has_suspect t || has_suspect rest) (or_left (has_suspect t) (has_suspect rest) (value_suspect a x further))
    ]

needed_suspect : (k : Kind) (below : Forest) (i : ℕ) → needed_at k below ≡ Some i → is_suspect k ≡ true
needed_suspect Kind.ConditionalExpression below i h = refl
needed_suspect (Kind.LogicalExpression o) below i h = refl
needed_suspect (Kind.UnaryExpression o) below i h = refl
needed_suspect (Kind.BinaryExpression o) below i h = refl
needed_suspect k below i h = absurd Prim.cc

list_suspect : (n m : Note) (k : Kind) (below : Forest) (y : Tree) → list_becomes n m k below ≡ Some y → is_suspect k ≡ true
list_suspect n m Kind.ArrayExpression below y h = refl
list_suspect n m Kind.SequenceExpression below y h = refl
list_suspect n m Kind.TemplateLiteral below y h = refl
list_suspect n m k below y h = absurd Prim.cc

choice_suspect : (k : Kind) (below : Forest) (z : Tree) → part_counts k below ≡ Some z → is_suspect k ≡ true
choice_suspect Kind.ConditionalExpression below z h = refl
choice_suspect (Kind.LogicalExpression o) below z h = refl
choice_suspect k below z h = absurd Prim.cc

follows_suspect : (n m : Note) (k : Kind) (below : Forest) (y : Tree) → behind_test n m k below ≡ Some y → is_suspect k ≡ true
follows_suspect n m Kind.ConditionalExpression below y h = refl
follows_suspect n m (Kind.LogicalExpression o) below y h = refl
follows_suspect n m k below y h = absurd Prim.cc

side_suspect : (n : Note) (k : Kind) (below : Forest) (y : Tree) → one_sided n k below ≡ Some y → is_suspect k ≡ true
side_suspect n Kind.ConditionalExpression below y h = refl
side_suspect n k below y h = absurd Prim.cc

sequence_suspect : (u : Use) (w : Bool) (n m : Note) (k : Kind) (below : Forest) (y : Tree) → sequence_becomes u w n m k below ≡ Some y → is_suspect k ≡ true
sequence_suspect u w n m Kind.SequenceExpression below y h = refl
sequence_suspect u w n m k below y h = absurd Prim.cc

both_suspect : (n m : Note) (k : Kind) (below : Forest) (y : Tree) → two_sides_at n m k below ≡ Some y → is_suspect k ≡ true
both_suspect n m (Kind.BinaryExpression o) below y h = refl
both_suspect n m Kind.TemplateLiteral below y h = refl
both_suspect n m k below y h = absurd Prim.cc

object_suspect : (n m : Note) (k : Kind) (below : Forest) (y : Tree) → object_becomes n m k below ≡ Some y → is_suspect k ≡ true
object_suspect n m Kind.ObjectExpression below y h = refl
object_suspect n m k below y h = absurd Prim.cc

known_suspect : (k : Kind) (n : Note) (below : Forest) (v : Literal) → known_literal k n below ≡ Some v → is_suspect k ≡ true
known_suspect (Kind.UnaryExpression o) n below v h = refl
known_suspect (Kind.BinaryExpression o) n below v h = refl
known_suspect k n below v h = absurd Prim.cc

negative_suspect : (k : Kind) (n : Note) (below : Forest) (i : ℕ) → Negative k n below i → is_suspect k ≡ true
negative_suspect _ n below i (under_one o _ _ _ idle may is) = refl
negative_suspect _ n below i (under_two o _ _ _ idle may is) = refl

leaving_runs : (k : Kind) → leaves_names_of k ≡ true → only_runs k ≡ true
leaving_runs (Kind.LabeledStatement label) h = refl
leaving_runs Kind.IfStatement h = refl
leaving_runs Kind.WithStatement h = refl
leaving_runs Kind.WhileStatement h = refl
leaving_runs Kind.DoWhileStatement h = refl
leaving_runs Kind.ForStatement h = refl
leaving_runs Kind.ForInStatement h = refl
leaving_runs Kind.ForOfStatement h = refl
leaving_runs Kind.SwitchStatement h = refl
leaving_runs Kind.TryStatement h = refl
leaving_runs k h = absurd (true≢false (sym h))

runs_suspect : (k : Kind) → only_runs k ≡ true → is_suspect k ≡ true
runs_suspect Kind.EmptyStatement h = refl
runs_suspect Kind.ExpressionStatement h = refl
runs_suspect Kind.IfStatement h = refl
runs_suspect (Kind.Function how pure) h = refl
runs_suspect Kind.VariableDeclarator h = refl
runs_suspect Kind.ConditionalExpression h = refl
runs_suspect (Kind.LogicalExpression o) h = refl
runs_suspect (Kind.UnaryExpression o) h = refl
runs_suspect (Kind.BinaryExpression o) h = refl
runs_suspect Kind.ArrayExpression h = refl
runs_suspect Kind.SequenceExpression h = refl
runs_suspect Kind.TemplateLiteral h = refl
runs_suspect Kind.ObjectExpression h = refl
runs_suspect (Kind.ImportSpecifier name) h = refl
runs_suspect Kind.ImportDefaultSpecifier h = refl
runs_suspect Kind.ImportNamespaceSpecifier h = refl
runs_suspect (Kind.ImportDeclaration source) h = refl
runs_suspect k h = h

leaving_suspect : (k : Kind) → leaves_names_of k ≡ true → is_suspect k ≡ true
leaving_suspect k h = runs_suspect k (leaving_runs k h)

block_suspect : (k : Kind) (below : Forest) → holds_nothing k below ≡ true → is_suspect k ≡ true
block_suspect Kind.BlockStatement below h = refl
block_suspect (Kind.LabeledStatement l) below h = refl
block_suspect k below h = absurd Prim.cc

body_suspect : (k : Kind) (below : Forest) → is_idle_statement k below ≡ true → is_suspect k ≡ true
body_suspect k below idle = idle_kinds (λ z. is_suspect z ≡ true) refl refl refl refl refl (λ label. refl) k (body_kind k below idle)

import_suspect : (k : Kind) → binds_import k ≡ true → is_suspect k ≡ true
import_suspect (Kind.ImportSpecifier name) h = refl
import_suspect Kind.ImportDefaultSpecifier h = refl
import_suspect Kind.ImportNamespaceSpecifier h = refl
import_suspect k h = absurd Prim.cc

dead_suspect : (t : Forest) (a : Around) (x : Option Tree) → t ≡ plug a x → IsDead false false t a x → has_suspect t ≡ true
dead_suspect t a x is (an_empty_statement b n item) = ap has_suspect is ∙ suspect_there b _ refl
dead_suspect t a x is (a_silent_statement b n below silent) = ap has_suspect is ∙ suspect_there b _ refl
dead_suspect t a x is (an_unused_function b pure n m y rest unkept item own free) = ap has_suspect is ∙ suspect_there b _ refl
dead_suspect t a x is (an_unused_declarator b n m y value unkept item own silent free) = ap has_suspect is ∙ suspect_there b _ refl
dead_suspect t a x is (a_value_of_an_unused_name b y z unkept (value_is_stated how n m l j i o v k inner may item without own free)) = ap has_suspect is ∙ inner_suspect b _ refl
dead_suspect t a x is (an_unused_import b k n m y unkept named binds imported own free) = ap has_suspect is ∙ suspect_there b _ (import_suspect k binds)
dead_suspect t a x is (a_known_conditional b y z (consequent_is_taken n m i j v k l c d e truth may)) = ap has_suspect is ∙ suspect_there b _ refl
dead_suspect t a x is (a_known_conditional b y z (alternate_is_taken n m i j v k l c d e truth may)) = ap has_suspect is ∙ suspect_there b _ refl
dead_suspect t a x is (a_known_side b y z (right_side_counts o n m i v k d e goes may)) = ap has_suspect is ∙ suspect_there b _ refl
dead_suspect t a x is (a_known_side b y z (left_side_decides o n m i v k d e stays may)) = ap has_suspect is ∙ suspect_there b _ refl
dead_suspect t a x is (an_unused_operation b _ _ (one_operand_acts i y z unused needed child)) = ap has_suspect is ∙ suspect_there b y (needed_suspect y.kind y.below i needed)
dead_suspect t a x is (an_unused_list b _ _ (acting_parts_stay n m y z unused becomes)) = ap has_suspect is ∙ suspect_there b y (list_suspect n m y.kind y.below z becomes)
dead_suspect t a x is (an_indirect_choice b _ _ (value_alone_counts n m i y z counts alone)) = ap has_suspect is ∙ suspect_there b y (choice_suspect y.kind y.below z counts)
dead_suspect t a x is (an_indirect_choice b _ _ (part_counts_behind_test n m y z follows)) = ap has_suspect is ∙ suspect_there b y (follows_suspect n m y.kind y.below z follows)
dead_suspect t a x is (a_one_sided_choice b _ _ (one_branch_acts n y z unused one_acts)) = ap has_suspect is ∙ suspect_there b y (side_suspect n y.kind y.below z one_acts)
dead_suspect t a x is (idle_parts b _ _ (idle_parts_leave n m y z leave)) = ap has_suspect is ∙ suspect_there b y (sequence_suspect _ _ n m y.kind y.below z leave)
dead_suspect t a x is (two_sides b _ _ (both_sides_act n m y z unused act)) = ap has_suspect is ∙ suspect_there b y (both_suspect n m y.kind y.below z act)
dead_suspect t a x is (an_unused_object b _ _ (acting_values_stay n m y z unused becomes)) = ap has_suspect is ∙ suspect_there b y (object_suspect n m y.kind y.below z becomes)
dead_suspect t a x is (a_known_operation b _ _ (value_is_known i v y known)) = ap has_suspect is ∙ suspect_there b y (known_suspect y.kind y.note y.below v known)
dead_suspect t a x is (a_known_operation b _ _ (negative_is_known i j m y known)) = ap has_suspect is ∙ suspect_there b y (negative_suspect y.kind y.note y.below m (is_negative_known y.kind y.note y.below m known))
dead_suspect t a x is (a_known_if b y z (consequent_is_run n m i v k c d e truth branch field none)) = ap has_suspect is ∙ suspect_there b _ refl
dead_suspect t a x is (a_known_if b y z (alternate_is_run n m i j v k l c d e truth branch none)) = ap has_suspect is ∙ suspect_there b _ refl
dead_suspect t a x is (a_dead_if b y z (nothing_is_run n m i j v k c d truth none)) = ap has_suspect is ∙ suspect_there b _ refl
dead_suspect t a x is (an_empty_block b y (empty_block_leaves item held)) = ap has_suspect is ∙ suspect_there b y (block_suspect y.kind y.below held)
dead_suspect t a x is (an_unreached_statement b y (never_runs item jump runs none)) = ap has_suspect is ∙ suspect_there b y (runs_suspect y.kind runs)
dead_suspect t a x is (an_untaken_statement b y (never_taken item untaken runs none)) = ap has_suspect is ∙ suspect_there b y (runs_suspect y.kind runs)
dead_suspect t a x is (a_statement_of_names b _ _ (names_stay y z item untaken leaves others plain made)) = ap has_suspect is ∙ suspect_there b y (leaving_suspect y.kind leaves)
dead_suspect t a x is (an_unrun_value b y _ (value_never_given n _ given unrun drops)) = ap has_suspect is ∙ value_suspect b y given
dead_suspect t a x is (an_idle_try b y z (finalizer_is_run n i j c d idle loops)) = ap has_suspect is ∙ suspect_there b _ refl
dead_suspect t a x is (an_idle_try b y z (finalizer_is_run_alone n i h j k c d e idle none loops)) = ap has_suspect is ∙ suspect_there b _ refl
dead_suspect t a x is (an_idle_try b y z (block_is_run n i h k c d idle none)) = ap has_suspect is ∙ suspect_there b _ refl
dead_suspect t a x is (an_empty_if b y z (test_stays n m o v d branches empty unnamed)) = ap has_suspect is ∙ suspect_there b _ refl
dead_suspect t a x is (an_empty_alternate b y z (alternate_goes n i j o v l d e last)) = ap has_suspect is ∙ suspect_there b _ refl
dead_suspect t a x is (an_idle_body b _ _ (idle_body_empties y m body idle none)) = ap has_suspect is ∙ suspect_there b y (body_suspect y.kind y.below idle)
dead_suspect t a x is (an_idle_statement b y (idle_leaves item idle none)) = ap has_suspect is ∙ suspect_there b y (runs_suspect y.kind (idle_runs y.kind y.below idle))
dead_suspect t a x is (a_repeated_import b _ (repeated_import_leaves source n m item asked)) = ap has_suspect is ∙ suspect_there b _ refl

-- and where imports may come together, one is there
row_suspect : {r s : Forest} → MergesIn r s → has_suspect r ≡ true
row_suspect (merges_here source n m names later r s may out) = refl
row_suspect (merges_behind k n b r s h) = or_right (is_suspect k) (has_suspect b || has_suspect r) (or_right (has_suspect b) (has_suspect r) (row_suspect h))

merged_suspect : {t u : Forest} → MergedImports t u → has_suspect t ≡ true
merged_suspect (imports_merge n m r s h quiet) = or_left (has_suspect r || false) false (or_left (has_suspect r) false (row_suspect h))

-- and where one may become an export
passing_suspect : {names r s z : Forest} → PassesIn names r s z → has_suspect r ≡ true
passing_suspect (passes_here source n m i listed k below r s on out) = refl
passing_suspect (passes_behind k n b r s z h) = or_right (is_suspect k) (has_suspect b || has_suspect r) (or_right (has_suspect b) (has_suspect r) (passing_suspect h))

passed_suspect : {t u : Forest} → PassedExports t u → has_suspect t ≡ true
passed_suspect (exports_pass n m names r s z h free quiet) = or_left (has_suspect r || false) false (or_left (has_suspect r) false (passing_suspect h))

-- A declaration goes with the last of its declarators, and stays where it has none.
pub nothing_declared_is_clean : Clean row.declares_nothing
nothing_declared_is_clean = record {
  nothing_is_dead = λ a x is dead. true≢false (sym (dead_suspect row.declares_nothing a x is dead));
  imports_are_together = λ u merged. true≢false (sym (merged_suspect merged));
  none_is_passed_on = λ u passed. true≢false (sym (passed_suspect passed));
}

pub nothing_declared_stays : is_quiet row.declares_nothing ≡ true
nothing_declared_stays = refl

pub nothing_declared_fits : Fits root row.declares_nothing
nothing_declared_fits = ((a_program, (source_type.Module, tt), refl, tt, refl, ((refl, (inr (refl, (a_variable_declaration, (variable.Let, tt), refl, tt, refl, ((refl, tt), tt))), tt)), tt)), tt)
