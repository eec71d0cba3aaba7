use Rattle.steps.proofs.Marked.Silent.{declarator_silent, declaration_silent}
use Rattle.steps.proofs.marked_laws.decisions.silent_values_are_silent.Goals as goal

pub returns : goal.returns
returns c = record { declarators = λ s marked exported bound a n m x value. declarator_silent s marked exported bound a n m x value; declarations = λ s marked exported bound a how n m l j x value. declaration_silent s marked exported bound a how n m l j x value }
