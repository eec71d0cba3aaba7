-- An empty statement leaves a list of statements (ECMA-262 14.4).
use Rattle.js_syntax.specs.declared.node_kind.NodeKind.TheVariants.{EmptyStatement as empty_statement}
use Rattle.js_syntax.specs.Node.{Tree, Note, nothing}
use Rattle.scope_laws.specs.Place.{Around}
use Rattle.steps.specs.Allowed.Places.{IsItem}

pub data EmptyStatement (a : Around) : Tree → Type 0 where
  empty_statement_leaves : (n : Note) → IsItem a → EmptyStatement a (record { kind = empty_statement; note = n; below = nothing })
