-- Small programs that the definitions are tried on.
use Rattle.std.specs.Prelude.{ℕ, List, [], ◌∷◌, pos, Bool, true, false, Some, None, codes}
use Rattle.js_syntax.specs.declared.node_kind.NodeKind.{NodeKind as Kind}
use Rattle.js_syntax.specs.declared.scalar.SourceType.TheVariants as source_type
use Rattle.js_syntax.specs.declared.kind.ClassKind.TheVariants as class_kind
use Rattle.js_syntax.specs.declared.kind.FunctionKind.TheVariants as function_kind
use Rattle.js_syntax.specs.declared.kind.PropertyKind.TheVariants as property
use Rattle.js_syntax.specs.declared.kind.VariableKind.{VariableKind}
use Rattle.js_syntax.specs.declared.kind.VariableKind.TheVariants as variable
use Rattle.js_syntax.specs.declared.operator.AssignmentOperator.TheVariants as assignment
use Rattle.js_syntax.specs.declared.operator.BinaryOperator.{BinaryOperator}
use Rattle.js_syntax.specs.declared.operator.BinaryOperator.TheVariants as binary
use Rattle.js_syntax.specs.declared.operator.LogicalOperator.{LogicalOperator}
use Rattle.js_syntax.specs.declared.operator.UnaryOperator.{UnaryOperator}
use Rattle.js_syntax.specs.declared.operator.UnaryOperator.TheVariants as unary
use Rattle.js_syntax.specs.declared.value.Key.TheVariants as key
use Rattle.js_syntax.specs.declared.value.LiteralValue.{LiteralValue}
use Rattle.js_syntax.specs.declared.value.LiteralValue.TheVariants as value
use Rattle.js_syntax.specs.declared.value.ModuleName.{ModuleName}
use Rattle.js_syntax.specs.declared.value.ModuleName.TheVariants as module_name
use Rattle.js_syntax.specs.Node.{Forest, Tree, nothing, node, nowhere, joined}
use Rattle.form_rules.specs.Samples.{over, leaf, row, listed, no, a_module, a, binds, reads, one, does, declares, let_, var_, a_script, block, function_of}
use Rattle.scope_laws.specs.Place.{Around, first, behind, behind_none, under, plug}
use Rattle.steps.specs.Allowed.Places.{a_node}
use Rattle.steps.specs.Allowed.KnownConditional.{a_conditional, KnownConditional}
use Rattle.steps.specs.Allowed.UnusedOperation.{UnusedOperation}
use Rattle.steps.specs.Allowed.UnusedList.{UnusedList}
use Rattle.steps.specs.Allowed.IndirectChoice.{IndirectChoice}
use Rattle.steps.specs.Allowed.OneSidedChoice.{OneSidedChoice}
use Rattle.steps.specs.Allowed.IdleParts.{IdleParts}
use Rattle.steps.specs.Allowed.TwoSides.{TwoSides}
use Rattle.steps.specs.Allowed.UnusedObject.{UnusedObject}
use Rattle.steps.specs.Allowed.KnownOperation.{KnownOperation}
use Rattle.steps.specs.Allowed.Edits.{Edit}

-- a place in a module's list: in front of these statements, and behind these
abbrev pub in_list : Around → Around
in_list place = under (Kind.Program source_type.Module) nowhere (under Kind.Statements nowhere place nothing) nothing

abbrev pub before : List Forest → Around
before items = in_list (first (row items))

abbrev pub throws : Forest → Forest
throws e = over Kind.ThrowStatement e

-- { { throw 1; } }
abbrev pub throwing_block : Forest
throwing_block = block (block (throws one ∷ []) ∷ [])

-- if (a) throw 1; else alternate
abbrev pub throwing_branch : (alternate : Forest) → Forest
throwing_branch alternate = over Kind.IfStatement (joined (reads a) (joined (throws one) alternate))

-- break l;
abbrev pub breaks_label : Forest
breaks_label = leaf (Kind.BreakStatement (Some (codes "l")))

-- l: { break l; }
abbrev pub broken_label : Forest
broken_label = over (Kind.LabeledStatement (codes "l")) (block (breaks_label ∷ []))

abbrev pub debugger : Forest
debugger = leaf Kind.DebuggerStatement

-- behind a `throw`
abbrev pub behind_throw : Around
behind_throw = in_list (behind Kind.ThrowStatement nowhere one (first nothing))

-- l: statement
abbrev pub labeled : Forest → Forest
labeled statement = over (Kind.LabeledStatement (codes "l")) statement

-- m: statement
abbrev pub labeled_too : Forest → Forest
labeled_too statement = over (Kind.LabeledStatement (codes "m")) statement

-- the place of the consequent of an `if`
abbrev pub branch_of_if : Around
branch_of_if = in_list (under Kind.IfStatement nowhere (behind (Kind.Literal value.Null) nowhere nothing (first no)) nothing)

-- behind this node
abbrev pub past : Forest → Around → Around
past (node k n below rest) place = behind k n below place
past t place = place

-- a place in a block that is the consequent of an `if` by this test
abbrev pub in_branch : (test : Forest) → Around → Around
in_branch test place = in_list (under Kind.IfStatement nowhere (past test (under Kind.BlockStatement nowhere (under Kind.Statements nowhere place nothing) no)) nothing)

-- and there in the code of a function
abbrev pub in_function_by : (test : Forest) → Around → Around
in_function_by test place = in_branch test (under (Kind.Function function_kind.Declaration false) nowhere (past (binds a) (past (listed Kind.Parameters []) (under Kind.FunctionBody nowhere (under Kind.Statements nowhere place nothing) nothing))) nothing)

abbrev pub in_function : (test : Forest) → Around
in_function test = in_function_by test (first nothing)

-- a();
abbrev pub call_of_a : Forest
call_of_a = over (Kind.CallExpression false false) (joined (reads a) (listed Kind.Arguments []))

-- eval();
abbrev pub call_of_eval : Forest
call_of_eval = over (Kind.CallExpression false false) (joined (reads (codes "eval")) (listed Kind.Arguments []))

-- the place of the value of `a` in its declaration
abbrev pub value_of_a : VariableKind → (more : Forest) → Around
value_of_a how more = under (Kind.VariableDeclaration how) nowhere (under Kind.Declarators nowhere (under Kind.VariableDeclarator nowhere (past (binds a) (first nothing)) nothing) nothing) more

abbrev pub zero : Forest
zero = leaf (Kind.Literal (value.Number (pos 0)))

abbrev pub null : Forest
null = leaf (Kind.Literal value.Null)

-- if (1) { body }
abbrev pub if_one : Forest → Forest
if_one body = over Kind.IfStatement (joined one (joined body no))

-- if (null) consequent else alternate
abbrev pub if_null : (consequent alternate : Forest) → Forest
if_null consequent alternate = over Kind.IfStatement (joined null (joined consequent alternate))

-- try {} catch (a) { items }
abbrev pub tried : (items : List Forest) → Forest
tried items = over Kind.TryStatement (joined (block []) (joined (over Kind.CatchClause (joined (binds a) (block items))) no))

-- the same with a finalizer
abbrev pub tried_finally : (items finally : List Forest) → Forest
tried_finally items finally = over Kind.TryStatement (joined (block []) (joined (over Kind.CatchClause (joined (binds a) (block items))) (block finally)))

-- try {} finally { items }
abbrev pub finally_alone : (items : List Forest) → Forest
finally_alone items = over Kind.TryStatement (joined (block []) (joined no (block items)))

-- while (test) body
abbrev pub while_ : (test body : Forest) → Forest
while_ test body = over Kind.WhileStatement (joined test body)

-- for (; test;) body
abbrev pub for_ : (test body : Forest) → Forest
for_ test body = over Kind.ForStatement (joined no (joined test (joined no body)))

-- for (declaration;;) body
abbrev pub loop : (declaration body : Forest) → Forest
loop declaration body = over Kind.ForStatement (joined declaration (joined no (joined no body)))

-- if (test) consequent else alternate
abbrev pub either_way : (test consequent alternate : Forest) → Forest
either_way test consequent alternate = over Kind.IfStatement (joined test (joined consequent alternate))

-- test ? consequent : alternate
abbrev pub conditional : (test consequent alternate : Forest) → Forest
conditional test consequent alternate = over Kind.ConditionalExpression (joined test (joined consequent alternate))

-- left && right, and the others
abbrev pub logical : LogicalOperator → (left right : Forest) → Forest
logical o left right = over (Kind.LogicalExpression o) (joined left right)

-- !e, and the others
abbrev pub applied : UnaryOperator → (operand : Forest) → Forest
applied o e = over (Kind.UnaryExpression o) e

-- !a()
abbrev pub not_a : Forest
not_a = applied unary.LogicalNot call_of_a

-- a literal, and operations on two
abbrev pub literal : LiteralValue → Forest
literal v = leaf (Kind.Literal v)

abbrev pub operation : BinaryOperator → (left right : LiteralValue) → Forest
operation o left right = over (Kind.BinaryExpression o) (joined (literal left) (literal right))

-- left === right
abbrev pub equals : (left right : Forest) → Forest
equals left right = over (Kind.BinaryExpression binary.StrictEquality) (joined left right)

-- left + right, and texts
abbrev pub sum : (left right : Forest) → Forest
sum left right = over (Kind.BinaryExpression binary.Addition) (joined left right)

abbrev pub text : Forest
text = literal (value.Text (codes "a"))

abbrev pub empty_text : Forest
empty_text = literal (value.Text [])

-- `text${part}`
abbrev pub template : (raw : List ℕ) → (part : Forest) → Forest
template raw part =
    over Kind.TemplateLiteral (joined
    (listed Kind.Quasis (leaf (Kind.TemplateElement (record { raw = raw; cooked = Some raw }) false) ∷ leaf (Kind.TemplateElement (record { raw = []; cooked = Some [] }) true) ∷ []))
    (listed Kind.Expressions (part ∷ [])))

-- left - right
abbrev pub difference : (left right : Forest) → Forest
difference left right = over (Kind.BinaryExpression binary.Subtraction) (joined left right)

-- [parts], and ...e and a hole among them
abbrev pub array : (parts : List Forest) → Forest
array parts = over Kind.ArrayExpression (listed Kind.Elements parts)

abbrev pub spread : Forest → Forest
spread e = over Kind.SpreadElement e

abbrev pub hole : Forest
hole = leaf Kind.Hole

-- ({ properties }); a: e and b: e; get a() {}; [k]: e, and [k]() {}
abbrev pub object : (properties : List Forest) → Forest
object properties = over Kind.ObjectExpression (listed Kind.Properties properties)

abbrev pub a_is : Forest → Forest
a_is e = over (Kind.Property property.Init false (key.Name a)) (joined no e)

abbrev pub b_is : Forest → Forest
b_is e = over (Kind.Property property.Init false (key.Name (codes "b"))) (joined no e)

abbrev pub getter_of_a : Forest
getter_of_a = over (Kind.Property property.Get false (key.Name a)) (joined no (function_of function_kind.Expression no [] []))

abbrev pub keyed_by : (k e : Forest) → Forest
keyed_by k e = over (Kind.Property property.Init false key.Below) (joined k e)

abbrev pub method_by : (k : Forest) → Forest
method_by k = over (Kind.Property property.Init true key.Below) (joined k (function_of function_kind.Expression no [] []))

-- parts with commas between them
abbrev pub sequence : (parts : List Forest) → Forest
sequence parts = over Kind.SequenceExpression (listed Kind.Expressions parts)

-- (0, e)
abbrev pub behind_zero : Forest → Forest
behind_zero e = sequence (leaf (Kind.Literal (value.Number (pos 0))) ∷ e ∷ [])

-- functions and classes, which may take a name from where they stand (8.4)
abbrev pub may_be_named : Kind → Bool
may_be_named (Kind.Function how pure) = true
may_be_named (Kind.Class how) = true
may_be_named k = false

-- o.f
abbrev pub o_f : Forest
o_f = over (Kind.MemberExpression (key.Name (codes "f")) false) (reads (codes "o"))

-- (e)
abbrev pub parenthesized : Forest → Forest
parenthesized e = over Kind.ParenthesizedExpression e

-- the place of a statement's expression
abbrev pub in_statement : Around → Around
in_statement place = in_list (under Kind.ExpressionStatement nowhere place nothing)

-- the places of e in e(), in (e)(), in a(e), in typeof e, in delete (e) and the like, and in x = e
abbrev pub called : Around
called = in_statement (under (Kind.CallExpression false false) nowhere (first (listed Kind.Arguments [])) nothing)

-- and in a``
abbrev pub tagged : Around
tagged = in_statement (under Kind.TaggedTemplateExpression nowhere (past (reads a) (first nothing)) nothing)

abbrev pub called_in_parentheses : Around
called_in_parentheses =
    in_statement (under (Kind.CallExpression false false) nowhere (under Kind.ParenthesizedExpression nowhere (first nothing) (listed Kind.Arguments [])) nothing)

abbrev pub argument : Around
argument = in_statement (under (Kind.CallExpression false false) nowhere (past (reads a) (under Kind.Arguments nowhere (first nothing) nothing)) nothing)

-- the place of the second part of a(a(), e, more)
abbrev pub second_part : (more : List Forest) → Around
second_part more =
    in_statement (under (Kind.CallExpression false false) nowhere
    (past (reads a) (under Kind.Arguments nowhere (under Kind.SequenceExpression nowhere (under Kind.Expressions nowhere (past call_of_a (first (row more))) nothing) nothing) nothing)) nothing)

abbrev pub operand : UnaryOperator → Around
operand o = in_statement (under (Kind.UnaryExpression o) nowhere (under Kind.ParenthesizedExpression nowhere (first nothing) nothing) nothing)

abbrev pub assigned : Around
assigned = in_statement (under (Kind.AssignmentExpression assignment.Assign) nowhere (past (leaf (Kind.TargetName (codes "x"))) (first nothing)) nothing)

-- `1 ? e : null` becomes e there
abbrev pub ComesOut : Around → Forest → Type 0
ComesOut place (node k n below rest) = Edit (plug place (a_node Kind.ConditionalExpression nowhere (joined one (node k n below null)))) (plug place (a_node k n below))
ComesOut place e = ⊥

-- it becomes nothing
abbrev pub Stays : Around → Forest → Type 0
Stays place (node k n below rest) = (y : Tree) → KnownConditional place (a_conditional nowhere (Kind.Literal (value.Number (pos 1))) nowhere nothing (node k n below null)) y → ⊥
Stays place e = ⊥

-- an expression in a place
abbrev pub placed : Around → Forest → Forest
placed place (node k n below rest) = plug place (a_node k n below)
placed place e = nothing

-- `1 ? e : null` doesn't become (0, e) there
-- no part of it comes to stand behind a zero or its test
abbrev pub FollowsNone : Around → Forest → Type 0
FollowsNone place (node k n below rest) = (y : Tree) → IndirectChoice place (record { kind = k; note = n; below = below }) y → ⊥
FollowsNone place e = ⊥

abbrev pub StaysDirect : Around → Forest → Type 0
StaysDirect place (node k n below rest) = (y : Tree) → IndirectChoice place (a_conditional nowhere (Kind.Literal (value.Number (pos 1))) nowhere nothing (node k n below null)) y → ⊥
StaysDirect place e = ⊥

-- the place of e in e;
abbrev pub statement : Around
statement = in_statement (first nothing)

-- nothing becomes of an expression there since nobody takes its value
abbrev pub StaysUnused : Around → Forest → Type 0
StaysUnused place (node k n below rest) = (y : Tree) → UnusedOperation place (record { kind = k; note = n; below = below }) y → ⊥
StaysUnused place e = ⊥

-- nor of a list
abbrev pub ListStays : Around → Forest → Type 0
ListStays place (node k n below rest) = (y : Tree) → UnusedList place (record { kind = k; note = n; below = below }) y → ⊥
ListStays place e = ⊥

-- nor of a conditional, since one branch alone acts
abbrev pub ChoiceStays : Around → Forest → Type 0
ChoiceStays place (node k n below rest) = (y : Tree) → OneSidedChoice place (record { kind = k; note = n; below = below }) y → ⊥
ChoiceStays place e = ⊥

-- nor of a sequence, since a part doesn't act
abbrev pub PartsStay : Around → Forest → Type 0
PartsStay place (node k n below rest) = (y : Tree) → IdleParts place (record { kind = k; note = n; below = below }) y → ⊥
PartsStay place e = ⊥

-- nor of an operation, since both sides act
abbrev pub SidesStay : Around → Forest → Type 0
SidesStay place (node k n below rest) = (y : Tree) → TwoSides place (record { kind = k; note = n; below = below }) y → ⊥
SidesStay place e = ⊥

-- nor of an object literal
abbrev pub ObjectStays : Around → Forest → Type 0
ObjectStays place (node k n below rest) = (y : Tree) → UnusedObject place (record { kind = k; note = n; below = below }) y → ⊥
ObjectStays place e = ⊥

-- nor of an operation, since its value isn't known or is no literal
abbrev pub OperationStays : Around → Forest → Type 0
OperationStays place (node k n below rest) = (y : Tree) → KnownOperation place (record { kind = k; note = n; below = below }) y → ⊥
OperationStays place e = ⊥

-- export d
abbrev pub exports_declaration : Forest → Forest
exports_declaration d = over (Kind.ExportNamedDeclaration None) (joined d (listed Kind.Specifiers []))

-- var a; with (a) { item }
abbrev pub with_a : Forest → Forest
with_a item = a_script (var_ a ∷ over Kind.WithStatement (joined (reads a) (block (item ∷ []))) ∷ [])

-- the place of the item, and others in its place
abbrev pub in_with : Around → Around
in_with item =
    let body = under Kind.BlockStatement nowhere (under Kind.Statements nowhere item nothing) nothing in
    under (Kind.Program source_type.Script) nowhere (under Kind.Statements nowhere (past (var_ a) (under Kind.WithStatement nowhere (past (reads a) body) nothing)) nothing) nothing

abbrev pub in_with_a : Around
in_with_a = in_with (first nothing)

-- of e in e() there
abbrev pub called_in_with : Around
called_in_with = in_with (under Kind.ExpressionStatement nowhere (under (Kind.CallExpression false false) nowhere (first (listed Kind.Arguments [])) nothing) nothing)

abbrev pub this : Forest
this = leaf Kind.ThisExpression

-- the place of the item in class a { static { item } }
abbrev pub in_class_a : Around
in_class_a =
    let body = under Kind.ClassBody nowhere (under Kind.Members nowhere (under Kind.StaticBlock nowhere (under Kind.Statements nowhere (first nothing) nothing) nothing) nothing) nothing in
    under (Kind.Program source_type.Module) nowhere (under Kind.Statements nowhere (under (Kind.Class class_kind.Declaration) nowhere (past (binds a) (behind_none body)) nothing) nothing) nothing

abbrev pub empty : Forest
empty = leaf Kind.EmptyStatement

-- let a; a;
abbrev pub a_is_read : Forest
a_is_read = a_module (let_ a ∷ does (reads a) ∷ [])

-- export var a; var a = 1;
abbrev pub a_is_exported : Forest
a_is_exported = a_module (exports_declaration (var_ a) ∷ declares variable.Var (binds a) one ∷ [])

-- import 'm', and an import that binds nothing has no names
abbrev pub imports_nothing : Forest
imports_nothing = over (Kind.ImportDeclaration (codes "m")) (listed Kind.Specifiers [])

-- the place of the only name of a module's only import
abbrev pub only_import : Around
only_import = in_list (under (Kind.ImportDeclaration (codes "m")) nowhere (under Kind.Specifiers nowhere (first nothing) nothing) nothing)

-- the place behind an import of a module that binds a name
abbrev pub behind_import : Around
behind_import = in_list (behind (Kind.ImportDeclaration (codes "m")) nowhere (listed Kind.Specifiers (over Kind.ImportDefaultSpecifier (binds a) ∷ [])) (first nothing))

-- import 'n'; of another module
abbrev pub imports_other : Forest
imports_other = over (Kind.ImportDeclaration (codes "n")) (listed Kind.Specifiers [])

-- the place behind that
abbrev pub behind_other : Around
behind_other = in_list (behind (Kind.ImportDeclaration (codes "n")) nowhere (listed Kind.Specifiers []) (first nothing))

-- ---- imports with names

-- import .. from 'm';
abbrev pub takes_from : List Forest → Forest
takes_from names = over (Kind.ImportDeclaration (codes "m")) (listed Kind.Specifiers names)

-- import .. from 'n';
abbrev pub takes_from_other : List Forest → Forest
takes_from_other names = over (Kind.ImportDeclaration (codes "n")) (listed Kind.Specifiers names)

abbrev pub default_name : List ℕ → Forest
default_name x = over Kind.ImportDefaultSpecifier (binds x)

abbrev pub namespace_name : List ℕ → Forest
namespace_name x = over Kind.ImportNamespaceSpecifier (binds x)

-- { exported as x }
abbrev pub name_as : (exported x : List ℕ) → Forest
name_as exported x = over (Kind.ImportSpecifier (module_name.Name exported)) (binds x)

-- { "exported" as x }
abbrev pub text_as : (exported x : List ℕ) → Forest
text_as exported x = over (Kind.ImportSpecifier (module_name.Text exported)) (binds x)

-- ---- exports of names

-- export ..;
abbrev pub shows : List Forest → Forest
shows names = over (Kind.ExportNamedDeclaration None) (joined no (listed Kind.Specifiers names))

-- { x as exported }
abbrev pub shown_as : (x exported : List ℕ) → Forest
shown_as x exported = over (Kind.ExportSpecifier (module_name.Name exported)) (reads x)

-- export .. from 'm';
abbrev pub passes_from : List Forest → Forest
passes_from names = over (Kind.ExportNamedDeclaration (Some (codes "m"))) (joined no (listed Kind.Specifiers names))

-- { imported as exported }
abbrev pub passed_as : (imported : ModuleName) → (exported : List ℕ) → Forest
passed_as imported exported = leaf (Kind.ForeignSpecifier imported (module_name.Name exported))

-- export * as exported from 'm';
abbrev pub passes_namespace : (exported : List ℕ) → Forest
passes_namespace exported = leaf (Kind.ExportAllDeclaration (Some (module_name.Name exported)) (codes "m"))
