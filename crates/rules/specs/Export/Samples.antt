-- Small programs that the definitions are tried on.
use Rattle.std.specs.Prelude.{[], ◌∷◌, Some, pos}
use Rattle.js_syntax.specs.declared.node_kind.NodeKind.{NodeKind as Kind}
use Rattle.js_syntax.specs.declared.kind.VariableKind.TheVariants as variable
use Rattle.js_syntax.specs.declared.value.LiteralValue.TheVariants as value
use Rattle.js_syntax.specs.Node.{Forest, Tree, nothing, node, nowhere, joined}
use Rattle.form_rules.specs.Samples.{no, a_module, a, declares, let_, function_a, exports}
use Rattle.scope_rules.specs.Samples.{b}
use Rattle.scope_laws.specs.Place.{Around, first, under, plug}
use Rattle.scope_counts.specs.Tried.{with_marks}
use Rattle.steps.specs.Allowed.KnownConditional.{a_conditional}
use Rattle.steps.specs.Allowed.Rows.{in_list, exports_declaration}

-- export let a; let b;
abbrev pub one_of_two : Forest
one_of_two = with_marks (a_module (exports_declaration (let_ a) ∷ let_ b ∷ []))

-- export function a() { let b; }
abbrev pub with_a_local : Forest
with_a_local = with_marks (a_module (exports_declaration (function_a [] (let_ b ∷ [])) ∷ []))

-- let a; export { a as b };
abbrev pub by_reference : Forest
by_reference = with_marks (a_module (let_ a ∷ exports a b ∷ []))

-- ---- no program: an export stands in an expression

-- export let a, marked
abbrev pub export_of_a : Forest
export_of_a = exports_declaration (declares variable.Let (node (Kind.BindingName a) (record { span = nowhere.span; id = Some 0 }) nothing nothing) no)

abbrev pub literal_one : Tree
literal_one = record { kind = Kind.Literal (value.Number (pos 1)); note = nowhere; below = nothing }

-- 1 ? 1 : export let a
abbrev pub torn : Tree
torn = a_conditional nowhere (Kind.Literal (value.Number (pos 1))) nowhere nothing (joined (node literal_one.kind nowhere nothing nothing) export_of_a)

abbrev pub statement : Around
statement = in_list (under Kind.ExpressionStatement nowhere (first nothing) nothing)

abbrev pub before_it : Forest
before_it = plug statement (Some torn)

-- 1
abbrev pub behind_it : Forest
behind_it = plug statement (Some literal_one)
