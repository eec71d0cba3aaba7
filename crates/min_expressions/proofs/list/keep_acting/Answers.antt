use Rattle.std.proofs.Common.{rules, ◌∙◌, ap}
use Rattle.std.proofs.lemmas.Fn.{filter_same}
use Rattle.js_syntax.specs.Node.{row}
use Rattle.min_expressions.proofs.Lists.{acting_kept}
use Rattle.min_expressions.proofs.list.keep_acting.Goals as goal

pub returns : goal.returns
returns c = ap row (filter_same _ _ _ (λ x b f' k. search rules) _ _ c.retain.ensures.filtered) ∙ acting_kept c.args.parts.now.items
