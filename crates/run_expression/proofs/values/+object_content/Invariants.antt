use Rattle.std.proofs.Common.{length}
use Rattle.run_expression.proofs.values.+object_content.Given as goal

abbrev pub decreases-object_content : goal.decreases-object_content
decreases-object_content l = length l.values.now
