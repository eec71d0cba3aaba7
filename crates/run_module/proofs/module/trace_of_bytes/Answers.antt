use Rattle.std.proofs.lemmas.Result.{IfOk-weaker}
use Rattle.serde_json.specs.View.{view}
use Rattle.run_module.proofs.Causes.{all_causes, same_value}
use Rattle.run_module.proofs.module.trace_of_bytes.Goals as goal

pub trace_of_value-requires : goal.trace_of_value-requires
trace_of_value-requires c = record { read = same_value c.args.bytes.now c.requires.read.0 (view c.in-Ok.value) _ c.requires.read.1 c.in-Ok.ensures.ok c.requires.read.2 }

pub returns-in-Ok-clause-ok : goal.returns-in-Ok-clause-ok
returns-in-Ok-clause-ok c = IfOk-weaker c.trace_of_value.result _ _ (λ s h. (view c.in-Ok.value, c.in-Ok.ensures.ok, h)) c.trace_of_value.ensures.ok

pub returns-in-Ok-clause-err : goal.returns-in-Ok-clause-err
returns-in-Ok-clause-err c = all_causes c.trace_of_value.result c.args.bytes.now (view c.in-Ok.value) c.in-Ok.ensures.ok c.in-Ok.ensures.nests c.trace_of_value.ensures.err
