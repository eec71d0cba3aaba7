use Rattle.steps.proofs.KeepForm.Form.{stays_well_formed}
use Rattle.steps.proofs.keep_form.law.form_stays.Goals as goal

pub returns : goal.returns
returns c = stays_well_formed
