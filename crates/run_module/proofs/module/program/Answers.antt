use Rattle.std.proofs.lemmas.Result.{IfOk-weaker}
use Rattle.serde_json.proofs.Nesting.{depth-read}
use Rattle.json_value.specs.View.{view as view_of}
use Rattle.run_module.proofs.Causes.{all_causes}
use Rattle.run_module.proofs.module.program.Goals as goal

pub returns-in-Ok-clause-ok : goal.returns-in-Ok-clause-ok
returns-in-Ok-clause-ok c = IfOk-weaker c.program_in.result _ _ (λ p h. (view_of c.in-Ok.value, c.in-Ok.ensures.ok, h)) c.program_in.ensures.ok

pub returns-in-Ok-clause-err : goal.returns-in-Ok-clause-err
returns-in-Ok-clause-err c =
    let read = c.in-Ok.ensures.ok in
    all_causes c.program_in.result c.args.bytes.now (view_of c.in-Ok.value) read (depth-read c.args.bytes.now (view_of c.in-Ok.value) read.1) c.program_in.ensures.err
