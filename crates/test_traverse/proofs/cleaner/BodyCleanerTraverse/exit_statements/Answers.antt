use Rattle.min_traverse.proofs.Joining.{does_moves}
use Rattle.test_traverse.specs.Cleaning.{cleaned}
use Rattle.test_traverse.proofs.Allowed.{stays_true}
use Rattle.test_traverse.proofs.Calling.{quiet}
use Rattle.test_traverse.proofs.Editing.{lawful}
use Rattle.test_traverse.proofs.cleaner.BodyCleanerTraverse.exit_statements.Goals as goal

pub returns : goal.returns
returns c = record { moves = does_moves stays_true cleaned lawful c.clean.ensures (λ a r p h o. tt); visited = λ q. quiet c.clean.ensures q }
