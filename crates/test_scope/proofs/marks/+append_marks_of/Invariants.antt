use Rattle.js_syntax.specs.Node.{row}
use Rattle.js_tree.specs.Weight.{size_of}
use Rattle.test_scope.proofs.marks.+append_marks_of.Given as goal

abbrev pub decreases-append_marks_of : goal.decreases-append_marks_of
decreases-append_marks_of l = size_of (row l.nodes.now)
