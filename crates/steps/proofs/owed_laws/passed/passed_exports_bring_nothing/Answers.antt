use Rattle.steps.proofs.Marked.Passed.{referred_before, declared_before, same_evaluates, passes_told, same_exports}
use Rattle.steps.proofs.owed_laws.passed.passed_exports_bring_nothing.Goals as goal

pub returns-clause-referring : goal.returns-clause-referring
returns-clause-referring c = referred_before

pub returns-clause-declared : goal.returns-clause-declared
returns-clause-declared c = declared_before

pub returns-clause-evaluates : goal.returns-clause-evaluates
returns-clause-evaluates c = same_evaluates

pub returns-clause-flags : goal.returns-clause-flags
returns-clause-flags c = passes_told

pub returns-clause-exported : goal.returns-clause-exported
returns-clause-exported c = same_exports
