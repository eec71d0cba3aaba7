use Rattle.std.proofs.Common.{rules, ◌∙◌, ap}
use Rattle.std.proofs.lemmas.Fn.{filter_same}
use Rattle.js_syntax.specs.Node.{row}
use Rattle.min_statements.proofs.Kept.{specifiers_kept}
use Rattle.min_statements.proofs.imports.keep_specifiers.Goals as goal

pub returns : goal.returns
returns c = ap row (filter_same _ _ _ (λ x b f' k. search rules) _ _ c.retain.ensures.filtered) ∙ specifiers_kept c.args.facts.now c.args.at c.args.specifiers.now.items
