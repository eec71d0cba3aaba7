use Rattle.js_syntax.specs.Facts.{weight}
use Rattle.js_syntax.specs.Node.{forest_of, total}
use Rattle.min_peephole.proofs.Passed.{Passed}
use Rattle.min_peephole.proofs.passes.run_passes.Given as goal

abbrev pub invariant-loop-iterations : goal.invariant-loop-iterations
invariant-loop-iterations l = Passed l.fn.ctx l.fn.program l.statements l.ctx l.program l.iterations

abbrev pub decreases-loop-iterations : goal.decreases-loop-iterations
decreases-loop-iterations l = total weight (forest_of l.program)
