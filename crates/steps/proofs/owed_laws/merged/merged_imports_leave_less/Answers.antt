use Rattle.steps.proofs.Owed.MergedLess.{merged_lighter, merged_calls, merged_may_change}
use Rattle.steps.proofs.owed_laws.merged.merged_imports_leave_less.Goals as goal

pub returns-clause-lighter : goal.returns-clause-lighter
returns-clause-lighter c = merged_lighter

pub returns-clause-calls : goal.returns-clause-calls
returns-clause-calls c = merged_calls

pub returns-clause-may_change : goal.returns-clause-may_change
returns-clause-may_change c = merged_may_change
