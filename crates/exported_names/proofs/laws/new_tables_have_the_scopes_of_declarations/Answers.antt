use Rattle.exported_names.proofs.Placing.{new_placed}
use Rattle.exported_names.proofs.laws.new_tables_have_the_scopes_of_declarations.Goals as goal

pub returns : goal.returns
returns c = new_placed
