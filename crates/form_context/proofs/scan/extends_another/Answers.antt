use Rattle.form_context.proofs.Rows.{no_second}
use Rattle.form_context.proofs.scan.extends_another.Goals as goal

pub returns-in-None : goal.returns-in-None
returns-in-None c = no_second c.args.nodes.now c.in-None.ensures.lookup.3
