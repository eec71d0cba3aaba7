-- Small programs that the definitions are tried on.
use Rattle.std.specs.Prelude.{List, [], ◌∷◌, map, Bool, true, false, ◌&&◌, ◌||◌, Option, None}
use Rattle.js_syntax.specs.declared.node_kind.NodeKind.{NodeKind as Kind}
use Rattle.js_syntax.specs.declared.scalar.SourceType.TheVariants as source_type
use Rattle.js_syntax.specs.declared.kind.VariableKind.TheVariants as variable
use Rattle.js_syntax.specs.declared.kind.FunctionKind.TheVariants as function_kind
use Rattle.js_syntax.specs.Node.{Forest, joined}
use Rattle.form_rules.specs.Samples.{over, row, listed, no, a_module, a, binds, reads, one, does, declares, let_, var_, block, function_of, function_a, labels, loops, catches, exports}
use Rattle.steps.specs.Steps.{Around, entered, outermost}
use Rattle.scope_rules.specs.Site.{sites_of, bindings_among, references_among}
use Rattle.scope_rules.specs.Binding.{Binding, binding_of, declared_by}
use Rattle.scope_rules.specs.Samples.{b, switches, imports}
use Rattle.steps.specs.Naming.Placed.{is_well_placed}

-- ---- where declarations stand

abbrev pub all_well_placed : List Forest → Bool
all_well_placed [] = true
all_well_placed (t ∷ ts) = is_well_placed t && all_well_placed ts

abbrev pub some_well_placed : List Forest → Bool
some_well_placed [] = false
some_well_placed (t ∷ ts) = is_well_placed t || some_well_placed ts

-- export d
abbrev pub exports_declaration : Forest → Forest
exports_declaration d = over (Kind.ExportNamedDeclaration None) (joined d (listed Kind.Specifiers []))

-- for (init;;) body
abbrev pub for_of : Forest → Forest → Forest
for_of init body = over Kind.ForStatement (joined init (joined no (joined no body)))

-- import a from 'm'; let b; export { b as a };
-- export var a = 1; export function a() { } export default function () { }
-- switch (1) { case 1: let a; function a() { } } for (let a = 1;;) { a; }
-- (function a(a, b) { var a; try { } catch (b) { let a; } }); (a => a);
abbrev pub well_placed_programs : List Forest
well_placed_programs =
    a_module (imports a ∷ let_ b ∷ exports b a ∷ [])
    ∷ a_module (exports_declaration (declares variable.Var (binds a) one) ∷ exports_declaration (function_a [] []) ∷ over Kind.ExportDefaultDeclaration (function_of function_kind.Declaration no [] []) ∷ [])
    ∷ a_module (switches one (let_ a ∷ function_a [] [] ∷ []) ∷ for_of (declares variable.Let (binds a) one) (block (does (reads a) ∷ [])) ∷ [])
    ∷ a_module (does (function_of function_kind.Expression (binds a) (binds a ∷ binds b ∷ []) (var_ a ∷ catches (binds b) (let_ a ∷ []) ∷ [])) ∷ does (over (Kind.Function function_kind.Arrow false) (row (no ∷ listed Kind.Parameters (binds a ∷ []) ∷ reads a ∷ []))) ∷ [])
    ∷ []

-- a: let b;
-- while (1) function a() { }
-- { export let a; }
-- function a() { import a from 'm'; }
abbrev pub strays : List Forest
strays = a_module (labels a (let_ b) ∷ []) ∷ a_module (loops (function_a [] []) ∷ []) ∷ a_module (block (exports_declaration (let_ a) ∷ []) ∷ []) ∷ a_module (function_a [] (imports a ∷ []) ∷ []) ∷ []

-- ---- try { } catch (a) { var a = 1; a; }

abbrev pub block_items : Forest
block_items = row (declares variable.Var (binds a) one ∷ does (reads a) ∷ [])

abbrev pub block_row : Forest
block_row = over Kind.Statements block_items

abbrev pub catch_row : Forest
catch_row = joined (binds a) (over Kind.BlockStatement block_row)

abbrev pub try_row : Forest
try_row = row (block [] ∷ over Kind.CatchClause catch_row ∷ no ∷ [])

abbrev pub items_row : Forest
items_row = over Kind.TryStatement try_row

abbrev pub program_row : Forest
program_row = over Kind.Statements items_row

abbrev pub caught : Forest
caught = over (Kind.Program source_type.Module) program_row

-- around the declaration
abbrev pub around_declaration : Around
around_declaration =
    let program = entered (entered outermost (Kind.Program source_type.Module) program_row) Kind.Statements items_row in
    let clause = entered (entered program Kind.TryStatement try_row) Kind.CatchClause catch_row in
    entered (entered clause Kind.BlockStatement block_row) Kind.Statements block_items

abbrev pub bindings_used : Forest → List (Option Binding)
bindings_used t = map (binding_of (bindings_among (sites_of t))) (references_among (sites_of t))

abbrev pub bindings_declared : Forest → List Binding
bindings_declared t = map declared_by (bindings_among (sites_of t))
