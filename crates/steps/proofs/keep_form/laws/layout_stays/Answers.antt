use Rattle.steps.proofs.KeepForm.Order.{stays_laid_out}
use Rattle.steps.proofs.keep_form.laws.layout_stays.Goals as goal

pub returns : goal.returns
returns c t u sheds laid = stays_laid_out sheds laid
