-- Which trees have, behind the parameter of each catch, `var` declarations in blocks alone, as the table of nodes lets them stand.
use Rattle.std.specs.Prelude.{Bool, true, ◌&&◌}
use Rattle.js_syntax.specs.declared.node_kind.NodeKind.{NodeKind as Kind}
use Rattle.js_syntax.specs.Node.{Forest, nothing, node, absent}
use Rattle.js_meaning.specs.Scope.{behind, vars_of, var_names}
use Rattle.steps.specs.Fit.Hoisted.{is_none}

abbrev pub are_in_blocks : Forest → Bool
are_in_blocks nothing = true
are_in_blocks (absent r) = are_in_blocks r
are_in_blocks (node Kind.BlockStatement n a r) = are_in_blocks r
are_in_blocks (node k n a r) = is_none (vars_of k a (var_names a)) && are_in_blocks r

abbrev pub catches_in_block : Kind → (below : Forest) → Bool
catches_in_block Kind.CatchClause a = are_in_blocks (behind a)
catches_in_block k a = true

abbrev pub has_blocks_in_catches : Forest → Bool
has_blocks_in_catches nothing = true
has_blocks_in_catches (absent r) = has_blocks_in_catches r
has_blocks_in_catches (node k n a r) = catches_in_block k a && (has_blocks_in_catches a && has_blocks_in_catches r)
