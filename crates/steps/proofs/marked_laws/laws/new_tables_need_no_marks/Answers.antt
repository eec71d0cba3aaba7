use Rattle.steps.proofs.Marked.Tables.{new_exact}
use Rattle.steps.proofs.marked_laws.laws.new_tables_need_no_marks.Goals as goal

pub returns : goal.returns
returns c = new_exact
