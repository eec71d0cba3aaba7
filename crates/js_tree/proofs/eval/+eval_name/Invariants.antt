use Rattle.js_syntax.specs.Node.{row}
use Rattle.js_tree.specs.Weight.{size_of}
use Rattle.js_tree.proofs.eval.+eval_name.Given as goal

abbrev pub decreases-eval_name : goal.decreases-eval_name
decreases-eval_name l = size_of (row l.children.now)
