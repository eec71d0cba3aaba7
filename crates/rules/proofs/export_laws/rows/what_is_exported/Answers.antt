use Rattle.rules.proofs.Export.Tried.{first_of_two, second_of_two, the_function, its_local, only_named}
use Rattle.rules.proofs.export_laws.rows.what_is_exported.Goals as goal

pub returns : goal.returns
returns c = record { of_two = (first_of_two, second_of_two); with_a_local = (the_function, its_local); by_reference = only_named }
