-- A statement of a silent expression becomes empty, wherever it stands (ECMA-262 14.5).
use Rattle.std.specs.Prelude.{ℕ, Bool, Option}
use Rattle.js_syntax.specs.declared.node_kind.NodeKind.{NodeKind as Kind}
use Rattle.js_syntax.specs.declared.node_kind.NodeKind.TheVariants.{EmptyStatement as empty_statement, ExpressionStatement as expression_statement}
use Rattle.js_syntax.specs.Node.{Forest, Tree, Note, nothing, alone}
use Rattle.scope_rules.specs.Context.{Context}
use Rattle.scope_rules.specs.Site.{sites_of, bindings_among}
use Rattle.scope_laws.specs.Place.{Around, plug}
use Rattle.steps.specs.Allowed.Silent.{inside_of, IsSilentBelow}
use Rattle.steps.specs.Allowed.Places.{a_node, in_class_at, At}

abbrev pub SilentStatement : Forest → (below : Forest) → (in_class in_with : Bool) → Context → (next : ℕ) → Type 0
SilentStatement t below in_class in_with c next = IsSilentBelow (bindings_among (sites_of t)) (inside_of in_class in_with) c next expression_statement below

abbrev pub a_statement : (n l : Note) → Kind → (inner : Forest) → Option Tree
a_statement n l k inner = a_node expression_statement n (alone k l inner)

pub data SilentStatementEmpties (a : Around) : (x y : Tree) → Type 0 where
  silent_statement_empties : (n m l : Note) (k : Kind) (inner : Forest) → At a (a_statement n l k inner) (SilentStatement (plug a (a_statement n l k inner)) (alone k l inner) (in_class_at a))
      → SilentStatementEmpties a (record { kind = expression_statement; note = n; below = alone k l inner }) (record { kind = empty_statement; note = m; below = nothing })
