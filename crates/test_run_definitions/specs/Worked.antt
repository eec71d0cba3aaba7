-- Rows of the table once more, as trees and events: the definitions compute their runs.
use Rattle.std.specs.Prelude.{ℕ, pos, true, false, List, [], ◌∷◌, Some, None, codes}
use Rattle.js_syntax.specs.declared.node_kind.NodeKind.{NodeKind as Kind}
use Rattle.js_syntax.specs.Node.{Forest}
use Rattle.js_syntax.specs.declared.value.LiteralValue.{LiteralValue as Literal}
use Rattle.js_syntax.specs.declared.value.ModuleName.TheVariants.{Name as plain_name}
use Rattle.js_syntax.specs.declared.value.Key.TheVariants.{Below as key_below}
use Rattle.js_syntax.specs.declared.kind.VariableKind.TheVariants as variable
use Rattle.js_syntax.specs.declared.kind.FunctionKind.TheVariants as function_kind
use Rattle.js_syntax.specs.declared.operator.AssignmentOperator.{AssignmentOperator}
use Rattle.js_syntax.specs.declared.operator.AssignmentOperator.TheVariants as assignment
use Rattle.js_syntax.specs.declared.operator.BinaryOperator.TheVariants as binary
use Rattle.js_syntax.specs.declared.operator.UpdateOperator.TheVariants as update
use Rattle.js_syntax.specs.declared.operator.UnaryOperator.TheVariants as unary
use Rattle.js_syntax.specs.declared.operator.LogicalOperator.{LogicalOperator}
use Rattle.js_syntax.specs.declared.operator.LogicalOperator.TheVariants as logical
use Rattle.js_meaning.specs.Value.{Text, a_number, a_bigint, a_symbol, Plain, undefined, boolean, number, text, host, other, given, plainly, first, Sort, Parts}
use Rattle.js_meaning.specs.Trace.{Act, Event, Move, answer, call_own, set_global_to, set_import_to, Ending, ended, host_stopped, uncovered}
use Rattle.js_meaning.specs.Samples as sample
use Rattle.js_meaning.specs.Examples.{Example, said_number, case_of}

abbrev pub a : Text
a = codes "a"

abbrev pub e : Text
e = codes "e"

abbrev pub i : Text
i = codes "i"

abbrev pub m : Text
m = codes "m"

abbrev pub p : Text
p = codes "p"

abbrev pub r : Text
r = codes "r"

abbrev pub x : Text
x = codes "x"

-- a module with what the host does and a bound; its events, and its ending
abbrev pub worked : List Forest → List Move → ℕ → List Event → Ending → Example
worked items moves bound events ending =
    record { tree = sample.a_module items; script = sample.with_moves moves; bound = bound; run = record { trace = events; ending = ending } }

abbrev pub ends : Ending
ends = ended sample.no_exports

abbrev pub done : List Event
done = sample.bare Act.finished ∷ []

abbrev pub answers : Plain → Move
answers v = answer (given v)

abbrev pub number_of : ℕ → Plain
number_of n = number (pos n)

abbrev pub truth : Forest
truth = sample.leaf (Kind.Literal (Literal.Boolean true))

abbrev pub while_true : Forest → Forest
while_true body = sample.over Kind.WhileStatement (sample.row (truth ∷ body ∷ []))

abbrev pub tries : List Forest → List Forest → Forest
tries items finally = sample.over Kind.TryStatement (sample.row (sample.block items ∷ sample.left_out_here ∷ sample.block finally ∷ []))

abbrev pub returns : Forest → Forest
returns v = sample.over Kind.ReturnStatement v

abbrev pub counts_up : Text → Forest
counts_up y = sample.over (Kind.UpdateExpression update.Increment false) (sample.leaf (Kind.TargetName y))

abbrev pub below : Text → ℕ → Forest
below y n = sample.binary_of binary.LessThan (sample.name y) (sample.number_of n)

abbrev pub assigns : AssignmentOperator → Text → Forest → Forest
assigns o y v = sample.over (Kind.AssignmentExpression o) (sample.row (sample.leaf (Kind.TargetName y) ∷ v ∷ []))

abbrev pub says_name : Text → Forest
says_name y = sample.says (sample.name y ∷ [])

abbrev pub function_p : List Forest → Forest
function_p items = sample.function_of function_kind.Declaration (sample.leaf (Kind.BindingName p)) [] items

abbrev pub calls_p : Forest
calls_p = sample.call (sample.name p) []

abbrev pub throws_a_type_error : Event
throws_a_type_error = sample.bare (Act.failed (first 0 Sort.a_type_error Parts.no_parts))

-- let i = 0; a: while (i < 2) { i++; while (true) try { continue a; } finally { f(i); } }
abbrev pub continue_through_finally : Example
continue_through_finally = worked
    (sample.declared variable.Let i (sample.number_of 0)
    ∷ sample.over (Kind.LabeledStatement a) (sample.over Kind.WhileStatement (sample.row (below i 2
    ∷ sample.block (sample.does_it (counts_up i) ∷ while_true (tries (sample.leaf (Kind.ContinueStatement (Some a)) ∷ []) (says_name i ∷ [])) ∷ []) ∷ []))) ∷ [])
    (sample.fine ∷ sample.fine ∷ []) 4
    (said_number 1 ∷ said_number 2 ∷ done) ends

-- function p() { while (true) try { return 1; } finally { break; } return 4; } f(p());
abbrev pub break_over_return : Example
break_over_return = worked
    (function_p (while_true (tries (returns (sample.number_of 1) ∷ []) (sample.leaf (Kind.BreakStatement None) ∷ [])) ∷ returns (sample.number_of 4) ∷ [])
    ∷ sample.says (calls_p ∷ []) ∷ [])
    (sample.fine ∷ []) 2
    (said_number 4 ∷ done) ends

-- const x = 1; x ||= 2; f(x);
abbrev pub constant_not_written : Example
constant_not_written = worked
    (sample.declared variable.Const x (sample.number_of 1) ∷ sample.does_it (assigns assignment.LogicalOr x (sample.number_of 2)) ∷ says_name x ∷ [])
    (sample.fine ∷ []) 0
    (said_number 1 ∷ done) ends

-- let x = 1; function p() { x = 10; return 2; } x += p(); f(x);
abbrev pub old_value_first : Example
old_value_first = worked
    (sample.declared variable.Let x (sample.number_of 1)
    ∷ function_p (sample.does_it (sample.assigned x (sample.number_of 10)) ∷ returns (sample.number_of 2) ∷ [])
    ∷ sample.does_it (assigns assignment.Addition x calls_p) ∷ says_name x ∷ [])
    (sample.fine ∷ []) 1
    (said_number 3 ∷ done) ends

-- (function p() { p = 1; })();
abbrev pub own_name_written : Example
own_name_written = worked
    (sample.does_it (sample.call (sample.over Kind.ParenthesizedExpression (sample.function_of function_kind.Expression (sample.leaf (Kind.BindingName p)) []
    (sample.does_it (sample.assigned p (sample.number_of 1)) ∷ []))) []) ∷ [])
    [] 1
    (throws_a_type_error ∷ []) ends

-- import { a as x } from 'm'; f(x); f(x);
abbrev pub import_changes : Example
import_changes = worked
    (sample.over (Kind.ImportDeclaration m) (sample.listed Kind.Specifiers (sample.over (Kind.ImportSpecifier (plain_name a)) (sample.leaf (Kind.BindingName x)) ∷ []))
    ∷ says_name x ∷ says_name x ∷ [])
    (set_import_to m a (Some (given (number_of 7))) ∷ sample.fine ∷ set_import_to m a (Some (given (number_of 8))) ∷ sample.fine ∷ sample.fine ∷ []) 0
    (sample.bare (Act.load m) ∷ said_number 7 ∷ said_number 8 ∷ done) ends

-- f('a' in o, 1 instanceof o);
abbrev pub host_asked : Example
host_asked = worked
    (sample.says (sample.binary_of binary.In (sample.text_of a) (sample.name (codes "o")) ∷ sample.binary_of binary.Instanceof (sample.number_of 1) (sample.name (codes "o")) ∷ []) ∷ [])
    (answers (boolean true) ∷ answers (boolean false) ∷ sample.fine ∷ []) 0
    (sample.bare (Act.asks_in (plainly (text a)) (plainly (host 2 false)))
    ∷ sample.bare (Act.asks_instanceof (sample.shown_number 1) (plainly (host 2 false)))
    ∷ sample.said (plainly (boolean true) ∷ plainly (boolean false) ∷ []) ∷ done) ends

-- f(p); function p() { throw 7; }
abbrev pub call_back_throws : Example
call_back_throws = worked
    (says_name p ∷ function_p (sample.over Kind.ThrowStatement (sample.number_of 7) ∷ []) ∷ [])
    (call_own 0 (given undefined) [] ∷ sample.fine ∷ []) 1
    (sample.said (first 0 Sort.a_function Parts.no_parts ∷ []) ∷ sample.bare (Act.threw (sample.shown_number 7)) ∷ done) ends

-- x = f();
abbrev pub global_comes_too_late : Example
global_comes_too_late = worked
    (sample.does_it (sample.assigned x (sample.call (sample.name (codes "f")) [])) ∷ [])
    (set_global_to x (given (number_of 5)) ∷ answers (number_of 1) ∷ []) 0
    (sample.said [] ∷ sample.bare (Act.failed (first 0 Sort.a_reference_error Parts.no_parts)) ∷ []) ends

-- let p = 0; for (let i = 0, r = () => i; i < 1; i++) p = r; f(p());
abbrev pub cells_of_the_head : Example
cells_of_the_head = worked
    (sample.declared variable.Let p (sample.number_of 0)
    ∷ sample.over Kind.ForStatement (sample.row (sample.over (Kind.VariableDeclaration variable.Let) (sample.listed Kind.Declarators
    (sample.over Kind.VariableDeclarator (sample.row (sample.leaf (Kind.BindingName i) ∷ sample.number_of 0 ∷ []))
    ∷ sample.over Kind.VariableDeclarator (sample.row (sample.leaf (Kind.BindingName r)
    ∷ sample.over (Kind.Function function_kind.Arrow false) (sample.row (sample.left_out_here ∷ sample.leaf Kind.Parameters ∷ sample.name i ∷ [])) ∷ [])) ∷ []))
    ∷ below i 1 ∷ counts_up i ∷ sample.does_it (sample.assigned p (sample.name r)) ∷ []))
    ∷ sample.says (calls_p ∷ []) ∷ [])
    (sample.fine ∷ []) 2
    (said_number 0 ∷ done) ends

-- 'a' in o;
abbrev pub no_truth_value : Example
no_truth_value = worked
    (sample.does_it (sample.binary_of binary.In (sample.text_of a) (sample.name (codes "o"))) ∷ [])
    (answers (number_of 1) ∷ []) 0
    (sample.bare (Act.asks_in (plainly (text a)) (plainly (host 2 false))) ∷ []) host_stopped

-- Other primitive values of the host: f() gives one.

abbrev pub f_gives : Forest
f_gives = sample.call (sample.name (codes "f")) []

-- a fraction, 0.5 say; NaN; a bigint, 0n say; a symbol
abbrev pub fraction : Plain
fraction = other 1 a_number true

abbrev pub not_a_number : Plain
not_a_number = other 2 a_number false

abbrev pub zero_bigint : Plain
zero_bigint = other 3 a_bigint false

abbrev pub symbol : Plain
symbol = other 4 a_symbol true

-- f(f()); if (f()) f(1); else f(2); f(typeof f()); where the first answers are a fraction, NaN and a symbol
abbrev pub passed_on : Example
passed_on = worked
    (sample.says (f_gives ∷ [])
    ∷ sample.over Kind.IfStatement (sample.row (f_gives ∷ sample.says (sample.number_of 1 ∷ []) ∷ sample.says (sample.number_of 2 ∷ []) ∷ []))
    ∷ sample.says (sample.over (Kind.UnaryExpression unary.Typeof) f_gives ∷ []) ∷ [])
    (answers fraction ∷ sample.fine ∷ answers not_a_number ∷ sample.fine ∷ answers symbol ∷ sample.fine ∷ []) 0
    (sample.said [] ∷ sample.said (plainly fraction ∷ []) ∷ sample.said [] ∷ said_number 2 ∷ sample.said [] ∷ sample.said (plainly (text (codes "symbol")) ∷ []) ∷ done) ends

abbrev pub logical_of : LogicalOperator → Forest
logical_of o = sample.over (Kind.LogicalExpression o) (sample.row (f_gives ∷ sample.number_of 1 ∷ []))

-- f(f() ?? 1, f() && 1, f() || 1, !f());
abbrev pub logic_on_others : Example
logic_on_others = worked
    (sample.says (logical_of logical.Coalesce ∷ logical_of logical.And ∷ logical_of logical.Or ∷ sample.over (Kind.UnaryExpression unary.LogicalNot) f_gives ∷ []) ∷ [])
    (answers not_a_number ∷ answers zero_bigint ∷ answers fraction ∷ answers zero_bigint ∷ sample.fine ∷ []) 0
    (sample.said [] ∷ sample.said [] ∷ sample.said [] ∷ sample.said []
    ∷ sample.said (plainly not_a_number ∷ plainly zero_bigint ∷ plainly fraction ∷ plainly (boolean true) ∷ []) ∷ done) ends

-- f().x;
abbrev pub others_have_properties : Example
others_have_properties = worked
    (sample.does_it (sample.member f_gives x) ∷ [])
    (answers symbol ∷ sample.fine ∷ []) 0
    (sample.said [] ∷ sample.bare (Act.get (plainly symbol) (plainly (text x))) ∷ done) ends

-- f()();
abbrev pub others_are_not_called : Example
others_are_not_called = worked
    (sample.does_it (sample.call f_gives []) ∷ [])
    (answers symbol ∷ []) 0
    (sample.said [] ∷ throws_a_type_error ∷ []) ends

-- throw f();
abbrev pub others_are_thrown : Example
others_are_thrown = worked
    (sample.over Kind.ThrowStatement f_gives ∷ [])
    (answers zero_bigint ∷ []) 0
    (sample.said [] ∷ sample.bare (Act.failed (plainly zero_bigint)) ∷ []) ends

-- of what this does with a fraction nothing is said
abbrev pub says_nothing_of : Forest → Example
says_nothing_of t = worked (sample.does_it t ∷ []) (answers fraction ∷ sample.fine ∷ []) 0 (sample.said [] ∷ []) uncovered

-- f() + 1; f() === 1; f() == null; f() < 1; 'a' + f(); f() in o; -f(); new (f())(); o[f()];
abbrev pub added : Example
added = says_nothing_of (sample.binary_of binary.Addition f_gives (sample.number_of 1))

abbrev pub compared : Example
compared = says_nothing_of (sample.binary_of binary.StrictEquality f_gives (sample.number_of 1))

abbrev pub compared_with_null : Example
compared_with_null = says_nothing_of (sample.binary_of binary.Equality f_gives (sample.leaf (Kind.Literal Literal.Null)))

abbrev pub put_in_order : Example
put_in_order = says_nothing_of (sample.binary_of binary.LessThan f_gives (sample.number_of 1))

abbrev pub made_a_text : Example
made_a_text = says_nothing_of (sample.binary_of binary.Addition (sample.text_of a) f_gives)

abbrev pub asked_for : Example
asked_for = says_nothing_of (sample.binary_of binary.In f_gives (sample.name (codes "o")))

abbrev pub negated : Example
negated = says_nothing_of (sample.over (Kind.UnaryExpression unary.UnaryNegation) f_gives)

abbrev pub constructed : Example
constructed = says_nothing_of (sample.over (Kind.NewExpression false) (sample.row (sample.over Kind.ParenthesizedExpression f_gives ∷ sample.leaf Kind.Arguments ∷ [])))

abbrev pub taken_as_a_key : Example
taken_as_a_key = says_nothing_of (sample.over (Kind.MemberExpression key_below false) (sample.row (sample.name (codes "o") ∷ f_gives ∷ [])))

abbrev pub switched_on : Example
switched_on = worked
    (sample.over Kind.SwitchStatement (sample.row (f_gives ∷ sample.listed Kind.Cases (case_of (sample.number_of 1) [] ∷ []) ∷ [])) ∷ [])
    (answers fraction ∷ sample.fine ∷ []) 0
    (sample.said [] ∷ []) uncovered
