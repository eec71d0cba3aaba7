use Rattle.js_syntax.specs.Node.{row}
use Rattle.js_tree.specs.Weight.{size_of}
use Rattle.form_check.proofs.rows.+is_bare_name.Given as goal

abbrev pub decreases-is_bare_name : goal.decreases-is_bare_name
decreases-is_bare_name l = size_of (row l.nodes.now)
