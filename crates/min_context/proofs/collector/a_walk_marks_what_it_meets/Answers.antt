use Rattle.min_context.proofs.Collected.{collected}
use Rattle.min_context.proofs.collector.a_walk_marks_what_it_meets.Goals as goal

pub returns : goal.returns
returns c = collected
