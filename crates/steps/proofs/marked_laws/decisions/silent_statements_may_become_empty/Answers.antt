use Rattle.steps.proofs.Marked.Silent.{statement_empties}
use Rattle.steps.proofs.marked_laws.decisions.silent_statements_may_become_empty.Goals as goal

pub returns : goal.returns
returns c = λ s marked exported bound a n m l k inner. statement_empties s marked exported bound a n m l k inner
