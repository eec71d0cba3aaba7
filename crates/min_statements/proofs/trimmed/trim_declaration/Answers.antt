use Rattle.std.proofs.Common.{◌∙◌, ap, drop, length, arith}
use Rattle.js_syntax.specs.Node.{row}
use Rattle.rules.specs.DeadCode.Rules.{declaration_left}
use Rattle.min_statements.proofs.Kept.{same_tree, written}
use Rattle.min_statements.proofs.trimmed.trim_declaration.Goals as goal

pub returns : goal.returns
returns c =
    same_tree _ _ _ _ (c.replace_children.ensures.kind ∙ c.replace_children-children.ensures.kind) (c.replace_children.ensures.note ∙ c.replace_children-children.ensures.note)
    (c.replace_children.ensures.below
    ∙ ap row (written c.replace_children-children.result.len c.trim_first.new.children (drop (length c.trim_first.new.children) c.replace_children-children.result.items) (omega (arith, c.trim_first.auto.children, c.as_mut_slice.ensures.len)))
    ∙ c.trim_first.ensures
    ∙ ap (declaration_left c.args.facts.now c.args.at c.args.how) (ap row c.as_mut_slice.ensures.value ∙ c.replace_children-children.ensures.taken))
