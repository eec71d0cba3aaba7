use Rattle.steps.proofs.Owed.PartRuns.{core_stays, comes_refines}
use Rattle.steps.proofs.owed_laws.runs.parts_refine.Goals as goal

pub returns-clause-refined : goal.returns-clause-refined
returns-clause-refined c = λ n m b a x y comes is fits core new_fits new_form. comes_refines n m b a x y is comes fits core new_fits new_form

pub returns-clause-core : goal.returns-clause-core
returns-clause-core c = λ a x y comes core. core_stays a x y comes a core
