use Rattle.scope_laws.proofs.Marking.{bare_marked, unmarked_marked}
use Rattle.scope_laws.proofs.laws.marking_keeps_programs.Goals as goal

pub returns : goal.returns
returns c = record { program = bare_marked; spans = unmarked_marked }
