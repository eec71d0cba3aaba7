-- Small programs, scripts and the traces that ECMA-262 gives them, for examples that compute.
use Rattle.std.specs.Prelude.{ℕ, pos, true, false, List, [], ◌∷◌, ◌++◌, Option, Some, None, codes, if◌then◌else◌}
use Rattle.std.specs.Str.{bytes_eq}
use Rattle.js_syntax.specs.declared.node_kind.NodeKind.{NodeKind as Kind}
use Rattle.js_syntax.specs.Node.{Forest, nothing, node, absent, nowhere, joined}
use Rattle.js_syntax.specs.declared.value.LiteralValue.{LiteralValue as Literal}
use Rattle.js_syntax.specs.declared.value.Key.TheVariants.{Name as key_name}
use Rattle.js_syntax.specs.declared.scalar.SourceType.TheVariants as source_type
use Rattle.js_syntax.specs.declared.kind.VariableKind.{VariableKind}
use Rattle.js_syntax.specs.declared.kind.FunctionKind.{FunctionKind}
use Rattle.js_syntax.specs.declared.operator.AssignmentOperator.TheVariants as assignment
use Rattle.js_syntax.specs.declared.operator.BinaryOperator.{BinaryOperator}
use Rattle.js_meaning.specs.Value.{Text, Plain, undefined, number, host, given, Shown, plainly}
use Rattle.js_meaning.specs.Trace.{Act, ShownExports, Event, Move, answer, Script, ended, Run}

-- trees

abbrev pub over : Kind → Forest → Forest
over k a = node k nowhere a nothing

abbrev pub leaf : Kind → Forest
leaf k = over k nothing

abbrev pub row : List Forest → Forest
row [] = nothing
row (t ∷ ts) = joined t (row ts)

abbrev pub listed : Kind → List Forest → Forest
listed k ts = over k (row ts)

abbrev pub left_out_here : Forest
left_out_here = absent nothing

abbrev pub a_module : List Forest → Forest
a_module items = over (Kind.Program source_type.Module) (listed Kind.Statements items)

abbrev pub number_of : ℕ → Forest
number_of n = leaf (Kind.Literal (Literal.Number (pos n)))

abbrev pub text_of : Text → Forest
text_of s = leaf (Kind.Literal (Literal.Text s))

abbrev pub name : Text → Forest
name x = leaf (Kind.ReferenceName x)

abbrev pub call : Forest → List Forest → Forest
call f args = over (Kind.CallExpression false false) (row (f ∷ listed Kind.Arguments args ∷ []))

abbrev pub does_it : Forest → Forest
does_it e = over Kind.ExpressionStatement e

-- f(..)
abbrev pub says : List Forest → Forest
says args = does_it (call (name (codes "f")) args)

abbrev pub member : Forest → Text → Forest
member o key = over (Kind.MemberExpression (key_name key) false) (row (o ∷ left_out_here ∷ []))

abbrev pub block : List Forest → Forest
block items = over Kind.BlockStatement (listed Kind.Statements items)

abbrev pub declared : VariableKind → Text → Forest → Forest
declared how x value = over (Kind.VariableDeclaration how) (listed Kind.Declarators (over Kind.VariableDeclarator (row (leaf (Kind.BindingName x) ∷ value ∷ [])) ∷ []))

abbrev pub assigned : Text → Forest → Forest
assigned x value = over (Kind.AssignmentExpression assignment.Assign) (row (leaf (Kind.TargetName x) ∷ value ∷ []))

abbrev pub binary_of : BinaryOperator → Forest → Forest → Forest
binary_of o l r = over (Kind.BinaryExpression o) (row (l ∷ r ∷ []))

abbrev pub binding_names : List Text → List Forest
binding_names [] = []
binding_names (x ∷ xs) = leaf (Kind.BindingName x) ∷ binding_names xs

abbrev pub function_of : FunctionKind → Forest → List Text → List Forest → Forest
function_of f own parameters items =
    over (Kind.Function f false) (row (own ∷ listed Kind.Parameters (binding_names parameters) ∷ over Kind.FunctionBody (listed Kind.Statements items) ∷ []))

-- scripts: the global f is the host's object 1, which can be called, and o its object 2, which can't

abbrev pub globals : Text → Option Plain
globals x = if bytes_eq x (codes "f") then Some (host 1 true) else (if bytes_eq x (codes "o") then Some (host 2 false) else None)

abbrev pub with_moves : List Move → Script
with_moves moves = record { globals = globals; moves = moves }

abbrev pub fine : Move
fine = answer (given undefined)

-- traces

abbrev pub no_exports : ShownExports
no_exports = record { names = []; stars = [] }

abbrev pub bare : Act → Event
bare act = record { act = act; exports = no_exports }

abbrev pub nothing_shown : Shown
nothing_shown = plainly undefined

-- f was called so
abbrev pub said : List Shown → Event
said xs = bare (Act.call (plainly (host 1 true)) nothing_shown xs)

abbrev pub shown_number : ℕ → Shown
shown_number n = plainly (number (pos n))

abbrev pub over_with : List Event → Run
over_with events = record { trace = events ++ bare Act.finished ∷ []; ending = ended no_exports }
