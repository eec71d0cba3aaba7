use Rattle.std.proofs.Common.{arith}
use Rattle.serde_json.proofs.Views.{view-Array}
use Rattle.run_script.proofs.Pairs.{not_two}
use Rattle.run_script.proofs.value.two.Goals as goal

pub returns-else-len-eq2 : goal.returns-else-len-eq2
returns-else-len-eq2 c = rw (c.in-Array.is, view-Array) (not_two c.in-Array.values.items (λ h. omega (arith, c.in-Array.values.ok.0)))
