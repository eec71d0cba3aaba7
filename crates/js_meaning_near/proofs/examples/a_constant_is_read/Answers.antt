use Rattle.js_meaning_near.proofs.Instances.{constant_read}
use Rattle.js_meaning_near.proofs.examples.a_constant_is_read.Goals as goal

pub returns : goal.returns
returns c = constant_read
