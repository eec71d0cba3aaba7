use Rattle.std.proofs.Common.{rules, ◌∙◌, ap}
use Rattle.std.proofs.lemmas.Fn.{filter_same}
use Rattle.js_syntax.specs.Node.{row}
use Rattle.min_statements.proofs.Kept.{declarators_kept}
use Rattle.min_statements.proofs.trimmed.keep_declarators.Goals as goal

pub returns : goal.returns
returns c = ap row (filter_same _ _ _ (λ x b f' k. search rules) _ _ c.retain.ensures.filtered) ∙ declarators_kept c.args.facts.now c.args.at c.args.how c.args.declarators.now.items
