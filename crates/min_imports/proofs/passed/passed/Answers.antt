use Rattle.js_syntax.specs.Node.{row}
use Rattle.min_imports.proofs.passed.passed.Goals as goal

pub returns : goal.returns
returns c = c.in_ok-passed.ensures (row c.args.names.now) c.in_ok-bound.ensures
