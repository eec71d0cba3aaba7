use Rattle.run_covered.proofs.Laws.{all_inside}
use Rattle.run_covered.proofs.law.none_is_left_out.Goals as goal

pub returns : goal.returns
returns c = λ t k place h out s. all_inside h out s
