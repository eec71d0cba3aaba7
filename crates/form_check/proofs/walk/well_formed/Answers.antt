use Rattle.std.proofs.Common.{rules}
use Rattle.form_check.proofs.walk.well_formed.Goals as goal

pub returns-in-None : goal.returns-in-None
returns-in-None c = search rules

pub returns-clause-err : goal.returns-clause-err
returns-clause-err c = search rules
