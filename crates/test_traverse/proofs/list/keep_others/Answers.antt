use Rattle.std.proofs.Common.{rules, ◌∙◌, ap}
use Rattle.std.proofs.lemmas.Fn.{filter_same}
use Rattle.js_syntax.specs.Node.{row}
use Rattle.test_traverse.proofs.Lists.{others_kept}
use Rattle.test_traverse.proofs.list.keep_others.Goals as goal

pub returns : goal.returns
returns c = ap row (filter_same _ _ _ (λ x b f' k. search rules) _ _ c.retain.ensures.filtered) ∙ others_kept c.args.children.now.items
