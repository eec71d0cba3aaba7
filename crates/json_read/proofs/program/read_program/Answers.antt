use Rattle.json_value.specs.View.{view}
use Rattle.json_read.proofs.Shapes.{fits}
use Rattle.json_read.proofs.program.read_program.Goals as goal

pub returns-clause-fits : goal.returns-clause-fits
returns-clause-fits c = fits c.program.result (view c.args.value.now) c.program.ensures
