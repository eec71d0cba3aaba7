use Rattle.js_syntax.specs.Node.{row}
use Rattle.js_tree.specs.Weight.{size_of}
use Rattle.form_context.proofs.scan.+is_loop.Given as goal

abbrev pub decreases-is_loop : goal.decreases-is_loop
decreases-is_loop l = size_of (row l.nodes.now)
