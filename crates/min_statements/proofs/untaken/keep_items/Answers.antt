use Rattle.std.proofs.Common.{rules, ◌∙◌, ap}
use Rattle.std.proofs.lemmas.Fn.{filter_same}
use Rattle.js_syntax.specs.Node.{row}
use Rattle.min_statements.proofs.Thinning.{kept_there}
use Rattle.min_statements.proofs.untaken.keep_items.Goals as goal

pub returns : goal.returns
returns c = ap row (filter_same _ _ _ (λ x b f' k. search rules) _ _ c.retain.ensures.filtered) ∙ kept_there c.args.listed c.args.items.now.items
