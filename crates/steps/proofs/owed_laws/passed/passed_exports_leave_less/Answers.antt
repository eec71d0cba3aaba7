use Rattle.steps.proofs.Owed.PassedLess.{passed_lighter, passed_calls, passed_may_change}
use Rattle.steps.proofs.owed_laws.passed.passed_exports_leave_less.Goals as goal

pub returns-clause-lighter : goal.returns-clause-lighter
returns-clause-lighter c = passed_lighter

pub returns-clause-calls : goal.returns-clause-calls
returns-clause-calls c = passed_calls

pub returns-clause-may_change : goal.returns-clause-may_change
returns-clause-may_change c = passed_may_change
