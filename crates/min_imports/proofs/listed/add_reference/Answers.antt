use Rattle.std.proofs.Common.{◌∙◌, sym}
use Rattle.min_imports.proofs.Listing.{number_put, no_number}
use Rattle.min_imports.proofs.listed.add_reference.Goals as goal

pub returns-in_ok-insert-in-Some : goal.returns-in_ok-insert-in-Some
returns-in_ok-insert-in-Some c = number_put c.args.item.now c.in-Some.id c.args.references.now c.insert.new.self (sym c.in-Some.is ∙ c.listed_reference.ensures) c.in_ok-insert-in-Some.ensures.updates

pub returns-in-None : goal.returns-in-None
returns-in-None c = no_number c.args.item.now c.args.references.now (sym c.in-None.is ∙ c.listed_reference.ensures)
