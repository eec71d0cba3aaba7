-- Small programs on which it is tried which declarations may become statements of their values.
use Rattle.std.specs.Prelude.{ℕ, List, [], ◌∷◌, false, None, codes}
use Rattle.js_syntax.specs.declared.node_kind.NodeKind.{NodeKind as Kind}
use Rattle.js_syntax.specs.declared.kind.FunctionKind.TheVariants as function_kind
use Rattle.js_syntax.specs.declared.kind.VariableKind.{VariableKind}
use Rattle.js_syntax.specs.declared.scalar.SourceType.TheVariants as source_type
use Rattle.js_syntax.specs.Node.{Forest, Tree, nothing, node, nowhere, joined}
use Rattle.form_rules.specs.Samples.{over, listed, no, binds, declares, function_of}
use Rattle.scope_laws.specs.Place.{Around, first, under}
use Rattle.steps.specs.Allowed.Rows.{in_list, past, call_of_a}
use Rattle.steps.specs.Allowed.ValueStays.{ValueStays}

abbrev pub x : List ℕ
x = codes "x"

-- x = a() in a declaration
abbrev pub takes_call : VariableKind → Forest
takes_call how = declares how (binds x) call_of_a

-- the places of the only item of a module, and of a script
abbrev pub only_item : Around
only_item = in_list (first nothing)

abbrev pub in_script : Around
in_script = under (Kind.Program source_type.Script) nowhere (under Kind.Statements nowhere (first nothing) nothing) nothing

-- function g() { statement }, and the place of the statement in a module of it
abbrev pub in_g : Forest → Forest
in_g statement = function_of function_kind.Declaration (binds (codes "g")) [] (statement ∷ [])

abbrev pub item_of_g : Around
item_of_g = in_list (under (Kind.Function function_kind.Declaration false) nowhere (past (binds (codes "g")) (past (listed Kind.Parameters []) (under Kind.FunctionBody nowhere (under Kind.Statements nowhere (first nothing) nothing) nothing))) nothing)

-- what an export stands before, and the head of a loop
abbrev pub behind_export : Around
behind_export = in_list (under (Kind.ExportNamedDeclaration None) nowhere (first (listed Kind.Specifiers [])) nothing)

abbrev pub head_of_loop : Around
head_of_loop = in_list (under Kind.ForStatement nowhere (first (joined no (joined no (over Kind.BlockStatement (listed Kind.Statements []))))) nothing)

-- it stays there as it is
abbrev pub ValueOf : Around → Forest → Type 0
ValueOf place (node k n below rest) = (y : Tree) → ValueStays place (record { kind = k; note = n; below = below }) y → ⊥
ValueOf place t = ⊥
