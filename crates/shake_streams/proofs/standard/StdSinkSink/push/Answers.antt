use Rattle.shake_streams.proofs.standard.StdSinkSink.push.Goals as goal

pub returns-in-Ok-clause-writes : goal.returns-in-Ok-clause-writes
returns-in-Ok-clause-writes g c = c.in-Ok.ensures.bytes
