use Rattle.std.proofs.Common.{◌∙◌, sym, ap}
use Rattle.std.specs.Option.{option_map}
use Rattle.js_syntax.specs.Node.{row}
use Rattle.min_statements.proofs.Passing.{out_of_list, no_list_there}
use Rattle.min_statements.proofs.passed.drop_exports.Goals as goal

pub drop_items-requires : goal.drop_items-requires
drop_items-requires c = record { within = c.requires.within c.in-Some.items.now (sym c.list_of.ensures ∙ ap (option_map (λ s. row s.now)) c.in-Some.is); asked = c.requires.asked }

pub returns-in-Some : goal.returns-in-Some
returns-in-Some c = out_of_list (row c.args.children.now) c.args.staying.now c.in-Some.items.now (ap (option_map (λ s. row s.now)) (sym c.in-Some.is) ∙ c.list_of.ensures) c.drop_items.ensures

pub returns-in-None : goal.returns-in-None
returns-in-None c = λ items there. no_list_there (row c.args.children.now) items (ap (option_map (λ s. row s.now)) (sym c.in-None.is) ∙ c.list_of.ensures) there
