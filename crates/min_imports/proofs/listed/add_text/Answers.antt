use Rattle.std.proofs.Common.{◌∙◌, sym, ap}
use Rattle.std.specs.Option.{option_map}
use Rattle.min_imports.proofs.Listing.{text_put, no_text}
use Rattle.min_imports.proofs.listed.add_text.Goals as goal

pub returns-in_ok-insert-in-Some : goal.returns-in_ok-insert-in-Some
returns-in_ok-insert-in-Some c = text_put c.args.item.now c.in-Some.text c.args.texts.now c.insert.new.self (ap (option_map (λ s. s.now)) (sym c.in-Some.is) ∙ c.listed_text.ensures) c.in_ok-insert-in-Some.ensures.updates

pub returns-in-None : goal.returns-in-None
returns-in-None c = no_text c.args.item.now c.args.texts.now (ap (option_map (λ s. s.now)) (sym c.in-None.is) ∙ c.listed_text.ensures)
