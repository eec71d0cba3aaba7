use Rattle.std.proofs.Common.{◌∙◌, sym, ap}
use Rattle.js_syntax.specs.Node.{nothing, node}
use Rattle.rules.specs.Imports.Rules.{name_goes}
use Rattle.min_statements.proofs.Named.{none_imported_below}
use Rattle.min_statements.proofs.imports.is_unused_name.Goals as goal

pub returns-in-len1-up : goal.returns-in-len1-up
returns-in-len1-up c =
    sym (ap (λ t. name_goes c.args.facts.now c.args.at (node c.args.name.now.kind c.args.name.now.note t nothing)) (sym c.children.ensures) ∙ none_imported_below c.args.facts.now c.args.at c.args.name.now.kind c.args.name.now.note c.children.result.now c.in-len1-up.len_at_least)
