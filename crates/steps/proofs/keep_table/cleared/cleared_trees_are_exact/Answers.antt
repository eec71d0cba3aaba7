use Rattle.std.proofs.Common.{arith}
use Rattle.min_pass.proofs.Lighter.{cleared_lighter}
use Rattle.json_shape.specs.Exact.{inexact}
use Rattle.steps.proofs.keep_table.cleared.cleared_trees_are_exact.Goals as goal

pub returns : goal.returns
returns c = λ t exact. omega (arith, cleared_lighter inexact t, exact)
