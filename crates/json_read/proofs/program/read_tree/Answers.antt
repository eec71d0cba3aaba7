use Rattle.serde_json.proofs.Nesting.{depth-read}
use Rattle.json_value.specs.View.{view}
use Rattle.json_read.proofs.Causes.{causes}
use Rattle.json_read.proofs.program.read_tree.Goals as goal

pub returns-in-Ok-clause-err : goal.returns-in-Ok-clause-err
returns-in-Ok-clause-err c =
    let read = c.in-Ok.ensures.ok in
    causes c.read_program.result c.args.bytes.now (view c.in-Ok.value) read (depth-read c.args.bytes.now (view c.in-Ok.value) read.1) c.read_program.ensures.exact
