-- Small modules.
use Rattle.std.specs.Prelude.{negsuc, ℕ, List, [], ◌∷◌, true, false, None, codes}
use Rattle.js_syntax.specs.declared.node_kind.NodeKind.{NodeKind as Kind}
use Rattle.js_syntax.specs.declared.kind.VariableKind.TheVariants as variable
use Rattle.js_syntax.specs.declared.kind.PropertyKind.TheVariants as property
use Rattle.js_syntax.specs.declared.operator.BinaryOperator.TheVariants as binary
use Rattle.js_syntax.specs.declared.operator.LogicalOperator.TheVariants as logical
use Rattle.js_syntax.specs.declared.operator.UnaryOperator.TheVariants as unary
use Rattle.js_syntax.specs.declared.value.Key.TheVariants as key
use Rattle.js_syntax.specs.declared.value.LiteralValue.{LiteralValue as Literal}
use Rattle.js_syntax.specs.declared.value.ModuleName.TheVariants as module_name
use Rattle.js_syntax.specs.Node.{Forest, joined}
use Rattle.form_rules.specs.Samples as form
use Rattle.steps.specs.Allowed.Rows.{call_of_a, call_of_eval, exports_declaration, breaks_label, finally_alone, labeled, throws, null, if_null, either_way, imports_nothing, conditional, logical as either, applied, equals, array, sequence, behind_zero, while_, shows, shown_as, passes_from, passed_as}
use Rattle.steps.specs.Allowed.ValueRows.{takes_call}
use Rattle.scope_rules.specs.Samples.{b, imports}
use Rattle.js_meaning.specs.Samples as sample
use Rattle.js_meaning.specs.Examples.{g, o, function_g, says_number}

abbrev pub empty : Forest
empty = sample.a_module []

-- export let g = 1;
abbrev pub exports_one : Forest
exports_one = sample.a_module (sample.over (Kind.ExportNamedDeclaration None) (sample.row (sample.declared variable.Let g (sample.number_of 1) ∷ sample.leaf Kind.Specifiers ∷ [])) ∷ [])

-- f(1); where f is a function of the host
abbrev pub calls_host : Forest
calls_host = sample.a_module (says_number 1 ∷ [])

-- g();
abbrev pub call_of_g : Forest
call_of_g = sample.does_it (sample.call (sample.name g) [])

-- function g() {} g();
abbrev pub calls_own : Forest
calls_own = sample.a_module (function_g [] ∷ call_of_g ∷ [])

abbrev pub calls_nothing : Forest
calls_nothing = sample.a_module (call_of_g ∷ [])

-- for (;;) ;
abbrev pub never_ends : Forest
never_ends = sample.a_module (sample.over Kind.ForStatement (sample.row (sample.left_out_here ∷ sample.left_out_here ∷ sample.left_out_here ∷ sample.leaf Kind.EmptyStatement ∷ [])) ∷ [])

-- 1;
abbrev pub dead : Forest
dead = sample.a_module (sample.does_it (sample.number_of 1) ∷ [])

-- f(1); 2;
abbrev pub with_dead : Forest
with_dead = sample.a_module (says_number 1 ∷ sample.does_it (sample.number_of 2) ∷ [])

-- f(-4); with a literal that is negative
abbrev pub says_less_four : Forest
says_less_four = sample.says (sample.leaf (Kind.Literal (Literal.Number (negsuc 3))) ∷ [])

abbrev pub less_four : Forest
less_four = sample.a_module (says_less_four ∷ [])

-- f(-4); 2;
abbrev pub with_negative : Forest
with_negative = sample.a_module (says_less_four ∷ sample.does_it (sample.number_of 2) ∷ [])

-- f(-4); with unary minus
abbrev pub with_minus : Forest
with_minus = sample.a_module (sample.says (sample.over (Kind.UnaryExpression unary.UnaryNegation) (sample.number_of 4) ∷ []) ∷ [])

-- let a, b;
abbrev pub lets_two : Forest
lets_two = form.over (Kind.VariableDeclaration variable.Let) (form.listed Kind.Declarators (form.over Kind.VariableDeclarator (joined (form.binds form.a) form.no) ∷ form.over Kind.VariableDeclarator (joined (form.binds (codes "b")) form.no) ∷ []))

-- a(); let a, b;
abbrev pub of_two : Forest
of_two = form.a_module (form.does call_of_a ∷ lets_two ∷ [])

-- let a, b; eval();
abbrev pub of_two_evaluated : Forest
of_two_evaluated = form.a_module (lets_two ∷ form.does call_of_eval ∷ [])

-- let a; eval();
abbrev pub of_one_evaluated : Forest
of_one_evaluated = form.a_module (form.let_ form.a ∷ form.does call_of_eval ∷ [])

-- let a, b; in a script
abbrev pub of_two_in_script : Forest
of_two_in_script = form.a_script (lets_two ∷ [])

abbrev pub of_one_in_script : Forest
of_one_in_script = form.a_script (form.let_ form.a ∷ [])

-- { export let a; function a() {} }
abbrev pub misplaced_export : Forest
misplaced_export = form.a_module (form.block (exports_declaration (form.let_ form.a) ∷ form.function_a [] [] ∷ []) ∷ [])

-- let; with no declarator
abbrev pub declares_nothing : Forest
declares_nothing = form.a_module (form.over (Kind.VariableDeclaration variable.Let) (form.listed Kind.Declarators []) ∷ [])

-- a call of this with these
abbrev pub calls : (callee : Forest) → (given : List Forest) → Forest
calls callee given = form.does (form.over (Kind.CallExpression false false) (joined callee (form.listed Kind.Arguments given)))

-- a(true ? a : b);
abbrev pub takes_branch : Forest
takes_branch = form.a_module (calls (form.reads form.a) (conditional (form.leaf (Kind.Literal (Literal.Boolean true))) (form.reads form.a) (form.reads (codes "b")) ∷ []) ∷ [])

-- a([] ? a : b);
abbrev pub takes_by_object : Forest
takes_by_object = form.a_module (calls (form.reads form.a) (conditional (array []) (form.reads form.a) (form.reads (codes "b")) ∷ []) ∷ [])

-- a(a && null ? a : b);
abbrev pub takes_behind_test : Forest
takes_behind_test = form.a_module (calls (form.reads form.a) (conditional (either logical.And (form.reads form.a) null) (form.reads form.a) (form.reads (codes "b")) ∷ []) ∷ [])

-- null && a();
abbrev pub never_calls : Forest
never_calls = form.a_module (form.does (either logical.And null call_of_a) ∷ [])

-- !(a() === 1);
abbrev pub compares_call : Forest
compares_call = form.a_module (form.does (applied unary.LogicalNot (equals call_of_a form.one)) ∷ [])

-- a();
abbrev pub calls_a : Forest
calls_a = form.a_module (form.does call_of_a ∷ [])

-- [a(), 1];
abbrev pub lists_call : Forest
lists_call = form.a_module (form.does (array (call_of_a ∷ form.one ∷ [])) ∷ [])

-- b()
abbrev pub call_of_b : Forest
call_of_b = form.over (Kind.CallExpression false false) (joined (form.reads (codes "b")) (form.listed Kind.Arguments []))

-- [a(), 1, b()];
abbrev pub lists_calls : Forest
lists_calls = form.a_module (form.does (array (call_of_a ∷ form.one ∷ call_of_b ∷ [])) ∷ [])

-- a(), b();
abbrev pub calls_both : Forest
calls_both = form.a_module (form.does (sequence (call_of_a ∷ call_of_b ∷ [])) ∷ [])

-- a + b;
abbrev pub adds_names : Forest
adds_names = form.a_module (form.does (form.over (Kind.BinaryExpression binary.Addition) (joined (form.reads form.a) (form.reads (codes "b")))) ∷ [])

-- o.g
abbrev pub member_g : Forest
member_g = sample.member (sample.name o) g

-- (1 ? o.g : null)();
abbrev pub calls_chosen : Forest
calls_chosen = form.a_module (calls (conditional form.one member_g null) [] ∷ [])

-- (0, o.g)();
abbrev pub calls_without_receiver : Forest
calls_without_receiver = form.a_module (calls (behind_zero member_g) [] ∷ [])

-- o.g();
abbrev pub calls_member : Forest
calls_member = form.a_module (calls member_g [] ∷ [])

-- a ? b() : 1;
abbrev pub chooses_call : Forest
chooses_call = form.a_module (form.does (conditional (form.reads form.a) call_of_b form.one) ∷ [])

-- a && b();
abbrev pub calls_behind_a : Forest
calls_behind_a = form.a_module (form.does (either logical.And (form.reads form.a) call_of_b) ∷ [])

-- use((1, a));
abbrev pub uses_sequence : Forest
uses_sequence = form.a_module (calls (form.reads (codes "use")) (sequence (form.one ∷ form.reads form.a ∷ []) ∷ []) ∷ [])

-- use(a);
abbrev pub uses_a : Forest
uses_a = form.a_module (calls (form.reads (codes "use")) (form.reads form.a ∷ []) ∷ [])

-- (1, o.g)();
abbrev pub calls_behind_one : Forest
calls_behind_one = form.a_module (calls (sequence (form.one ∷ member_g ∷ [])) [] ∷ [])

-- l: { {} }
abbrev pub labels_nothing : Forest
labels_nothing = form.a_module (labeled (form.block (form.block [] ∷ [])) ∷ [])

-- throw 1; a();
abbrev pub calls_behind_throw : Forest
calls_behind_throw = form.a_module (throws form.one ∷ form.does call_of_a ∷ [])

-- a() === b();
abbrev pub compares_calls : Forest
compares_calls = form.a_module (form.does (equals call_of_a call_of_b) ∷ [])

-- { x: value }
abbrev pub object_of : (x : List ℕ) → (value : Forest) → Forest
object_of x value = form.over Kind.ObjectExpression (form.listed Kind.Properties (form.over (Kind.Property property.Init false (key.Name x)) (joined form.no value) ∷ []))

-- ({ a: a() });
abbrev pub holds_call : Forest
holds_call = form.a_module (form.does (object_of form.a call_of_a) ∷ [])

-- ({ __proto__: a() });
abbrev pub sets_prototype : Forest
sets_prototype = form.a_module (form.does (object_of (codes "__proto__") call_of_a) ∷ [])

-- use(!0);
abbrev pub uses_negation : Forest
uses_negation = form.a_module (calls (form.reads (codes "use")) (applied unary.LogicalNot (sample.number_of 0) ∷ []) ∷ [])

-- use(true);
abbrev pub uses_true : Forest
uses_true = form.a_module (calls (form.reads (codes "use")) (form.leaf (Kind.Literal (Literal.Boolean true)) ∷ []) ∷ [])

-- use(-1);
abbrev pub uses_minus_one : Forest
uses_minus_one = form.a_module (calls (form.reads (codes "use")) (applied unary.UnaryNegation form.one ∷ []) ∷ [])

-- if (1) a(); else b();
abbrev pub runs_one_branch : Forest
runs_one_branch = form.a_module (either_way form.one (form.does call_of_a) (form.does call_of_b) ∷ [])

-- if (null) a();
abbrev pub runs_no_branch : Forest
runs_no_branch = form.a_module (if_null (form.does call_of_a) form.no ∷ [])

abbrev pub use_of_a : Forest
use_of_a = calls (form.reads (codes "use")) (form.reads form.a ∷ [])

-- if (null) var a = b(); use(a);
abbrev pub gives_call : Forest
gives_call = form.a_module (if_null (form.declares variable.Var (form.binds form.a) call_of_b) form.no ∷ use_of_a ∷ [])

-- l: { break l; a(); }
abbrev pub leaves_label : Forest
leaves_label = form.a_module (labeled (form.block (breaks_label ∷ form.does call_of_a ∷ [])) ∷ [])

-- try {} finally { a(); }
abbrev pub runs_finalizer : Forest
runs_finalizer = form.a_module (finally_alone (form.does call_of_a ∷ []) ∷ [])

-- if (a) a(); else ;
abbrev pub ends_in_nothing : Forest
ends_in_nothing = form.a_module (either_way (form.reads form.a) (calls (form.reads form.a) []) (form.leaf Kind.EmptyStatement) ∷ [])

-- let x = a();
abbrev pub names_call : Forest
names_call = form.a_module (takes_call variable.Let ∷ [])

-- if (a) ;
abbrev pub tests_for_nothing : Forest
tests_for_nothing = form.a_module (either_way (form.reads form.a) (form.leaf Kind.EmptyStatement) form.no ∷ [])

-- while (a) {}
abbrev pub turns_around_block : Forest
turns_around_block = form.a_module (while_ (form.reads form.a) (form.block []) ∷ [])

-- l: while (null) a();
abbrev pub never_turns : Forest
never_turns = form.a_module (labeled (while_ null (form.does call_of_a)) ∷ [])

-- if (a && null) { b(); }
abbrev pub never_holds : Forest
never_holds = form.a_module (either_way (either logical.And (form.reads form.a) null) (form.block (form.does call_of_b ∷ [])) form.no ∷ [])

-- if (null) { var a = 1; b(); } use(a);
abbrev pub keeps_variable : Forest
keeps_variable = form.a_module (if_null (form.block (form.declares variable.Var (form.binds form.a) form.one ∷ form.does call_of_b ∷ [])) form.no ∷ use_of_a ∷ [])

-- if (null) { while (a) var a; } use(a);
abbrev pub keeps_loop : Forest
keeps_loop = form.a_module (if_null (form.block (while_ (form.reads form.a) (form.var_ form.a) ∷ [])) form.no ∷ use_of_a ∷ [])

-- if (null) { var a; } use(a);
abbrev pub keeps_name : Forest
keeps_name = form.a_module (if_null (form.block (form.var_ form.a ∷ [])) form.no ∷ use_of_a ∷ [])

-- import a from 'm'; import 'm';
abbrev pub imports_again : Forest
imports_again = form.a_module (imports form.a ∷ imports_nothing ∷ [])

-- import a from 'm'; export { a as a };
abbrev pub shows_import : Forest
shows_import = form.a_module (imports form.a ∷ shows (shown_as form.a form.a ∷ []) ∷ [])

-- export { default as a } from 'm';
abbrev pub passes_default : Forest
passes_default = form.a_module (passes_from (passed_as (module_name.Name (codes "default")) form.a ∷ []) ∷ [])

-- import a from 'm'; import b from 'm';
abbrev pub imports_twice : Forest
imports_twice = form.a_module (imports form.a ∷ imports b ∷ [])
