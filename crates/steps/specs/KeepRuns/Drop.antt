-- Which declaration a step takes away.
use Rattle.js_syntax.specs.declared.node_kind.NodeKind.{NodeKind as Kind}
use Rattle.js_syntax.specs.Node.{Forest}
use Rattle.js_syntax.specs.declared.kind.VariableKind.{VariableKind}
use Rattle.js_syntax.specs.declared.kind.VariableKind.TheVariants as variable
use Rattle.js_meaning.specs.Value.{Text}
use Rattle.steps.specs.Steps.{Around, Goes, empty_statement, unused_function, unused_declarator, unused_declaration, Step, leaves, empties, unbinds, states, inside, behind_node, behind_absent}

-- none; one of the innermost scope; one of the innermost function, or of the module
pub data Drop : Type 0 where
  no_drop : Drop
  of_block of_function : Text → Drop

abbrev pub declared_so : VariableKind → Text → Drop
declared_so variable.Var x = of_function x
declared_so how x = of_block x

abbrev pub out_of_block : Drop → Drop
out_of_block (of_block x) = no_drop
out_of_block d = d

-- what is seen of it outside of a node
abbrev pub outside : Kind → Drop → Drop
outside (Kind.Program source) d = no_drop
outside (Kind.Function f pure) d = no_drop
outside Kind.BlockStatement d = out_of_block d
outside Kind.Cases d = out_of_block d
outside Kind.ForStatement d = out_of_block d
outside Kind.CatchClause d = out_of_block d
outside k d = d

-- that of what leaves a row
abbrev pub drop_of : {w : Around} {k : Kind} {a : Forest} → Goes w k a → Drop
drop_of (empty_statement h) = no_drop
drop_of (unused_function {x = x} h u) = of_block x
drop_of (unused_declarator {how = how} {x = x} h u i) = declared_so how x
drop_of (unused_declaration {how = how} {x = x} h u i) = declared_so how x

abbrev pub dropped : {w : Around} {t u : Forest} → Step w t u → Drop
dropped (leaves g) = drop_of g
dropped (empties h) = no_drop
dropped (unbinds {x = x} i u h) = of_block x
dropped (states {how = how} {x = x} i u h) = declared_so how x
dropped (inside {k = k} s) = outside k (dropped s)
dropped (behind_node s) = dropped s
dropped (behind_absent s) = dropped s
