-- Small programs on which it is tried which calls of silent functions may leave.
use Rattle.std.specs.Prelude.{List, [], ◌∷◌, false, None}
use Rattle.js_syntax.specs.declared.node_kind.NodeKind.{NodeKind as Kind}
use Rattle.js_syntax.specs.declared.kind.VariableKind.TheVariants as variable
use Rattle.js_syntax.specs.declared.operator.AssignmentOperator.TheVariants as assignment
use Rattle.js_syntax.specs.Node.{Forest, Tree, nothing, nowhere, joined}
use Rattle.js_meaning.specs.Value.{Text}
use Rattle.form_rules.specs.Samples.{over, leaf, row, listed, no, a, binds, reads, one, does, declares, function_a}
use Rattle.scope_rules.specs.Samples.{b}
use Rattle.scope_laws.specs.Place.{Around, first, under}
use Rattle.steps.specs.Allowed.Rows.{in_list, past}
use Rattle.steps.specs.Allowed.SilentCall.{call_statement, SilentCall}

-- a(..);
abbrev pub calls_a : List Forest → Tree
calls_a es = call_statement false nowhere nowhere nowhere nowhere a (row es)

abbrev pub called_with : List Forest → Forest
called_with es = over (Kind.CallExpression false false) (joined (reads a) (listed Kind.Arguments es))

abbrev pub returns : Forest → Forest
returns e = over Kind.ReturnStatement e

-- function a(b) { return b; }
abbrev pub gives_back : Forest
gives_back = function_a (binds b ∷ []) (returns (reads b) ∷ [])

-- function a() {}
abbrev pub does_nothing : Forest
does_nothing = function_a [] []

-- function a(b) { let c = b; return [c]; }
abbrev pub keeps_it : Text → Forest
keeps_it c = function_a (binds b ∷ []) (declares variable.Let (binds c) (reads b) ∷ returns (listed Kind.ArrayExpression (listed Kind.Elements (reads c ∷ []) ∷ [])) ∷ [])

-- a = 1;
abbrev pub assigns_a : Forest
assigns_a = does (over (Kind.AssignmentExpression assignment.Assign) (joined (leaf (Kind.TargetName a)) one))

-- behind one item, and behind two
abbrev pub behind_it : Forest → Around
behind_it item = in_list (past item (first nothing))

abbrev pub behind_both : Forest → Forest → Around
behind_both item other = in_list (past item (past other (first nothing)))

-- in front of one
abbrev pub in_front : Forest → Around
in_front item = in_list (first item)

-- behind one, in `while (1) { .. }`, and in `{ let a; .. }`
abbrev pub in_while : Forest → Around
in_while item = in_list (past item (under Kind.WhileStatement nowhere (past one (under Kind.BlockStatement nowhere (under Kind.Statements nowhere (first nothing) nothing) nothing)) nothing))

abbrev pub in_block_of_a : Forest → Around
in_block_of_a item = in_list (past item (under Kind.BlockStatement nowhere (under Kind.Statements nowhere (past (declares variable.Let (binds a) no) (first nothing)) nothing) nothing))

-- what is exported
abbrev pub exported : Forest → Forest
exported item = over (Kind.ExportNamedDeclaration None) (joined item (joined (listed Kind.Specifiers []) no))

abbrev pub CallStays : Around → List Forest → Type 0
CallStays place es = SilentCall place (calls_a es) → ⊥
