use Rattle.steps.proofs.Naming.Agreeing.{well_placed_agrees}
use Rattle.steps.proofs.naming_laws.laws.entries_declare_what_scopes_have.Goals as goal

pub returns : goal.returns
returns c = well_placed_agrees
