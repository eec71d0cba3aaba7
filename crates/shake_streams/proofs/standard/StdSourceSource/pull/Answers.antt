use Rattle.shake_streams.proofs.standard.StdSourceSource.pull.Goals as goal

pub returns-clause-reads : goal.returns-clause-reads
returns-clause-reads g c = c.in-Ok.ensures.bytes
