use Rattle.steps.proofs.Marked.Leaving.{declarator_leaves, declaration_leaves}
use Rattle.steps.proofs.marked_laws.decisions.unused_variables_may_leave.Goals as goal

pub returns : goal.returns
returns c = record { declarators = λ s marked exported a n m x value. declarator_leaves s marked exported a n m x value; declarations = λ s marked exported a how n m l j x value. declaration_leaves s marked exported a how n m l j x value }
