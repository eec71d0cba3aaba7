use Rattle.std.proofs.Common.{◌∙◌, sym, ap}
use Rattle.std.specs.Option.{option_map}
use Rattle.js_syntax.specs.Node.{row}
use Rattle.min_imports.proofs.Planning.{takes_some, takes_nothing}
use Rattle.min_imports.proofs.merged.list_takes.Goals as goal

pub returns-in-Some : goal.returns-in-Some
returns-in-Some c =
    c.may_merge.ensures ∙ sym (takes_some (row c.args.later.now) (row c.args.children.now) (row c.in-Some.names.now) (sym c.names_of.ensures ∙ ap (option_map (λ s. row s.now)) c.in-Some.is))

pub returns-in-None : goal.returns-in-None
returns-in-None c = sym (takes_nothing (row c.args.later.now) (row c.args.children.now) (sym c.names_of.ensures ∙ ap (option_map (λ s. row s.now)) c.in-None.is))
