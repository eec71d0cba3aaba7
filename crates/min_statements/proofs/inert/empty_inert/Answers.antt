use Rattle.std.proofs.Common.{◌∙◌, ap, drop, false, length, arith}
use Rattle.js_syntax.specs.Node.{row}
use Rattle.rules.specs.Expressions.Jumps.{emptied_behind}
use Rattle.min_statements.proofs.Kept.{same_tree, written}
use Rattle.min_statements.proofs.inert.empty_inert.Goals as goal

pub returns : goal.returns
returns c =
    same_tree _ _ _ _ (c.replace_children.ensures.kind ∙ c.replace_children-items.ensures.kind) (c.replace_children.ensures.note ∙ c.replace_children-items.ensures.note)
    (c.replace_children.ensures.below
    ∙ ap row (written c.replace_children-items.result.len c.empty_each.new.items (drop (length c.empty_each.new.items) c.replace_children-items.result.items) (omega (arith, c.empty_each.auto.items, c.as_mut_slice.ensures.len)))
    ∙ c.empty_each.ensures
    ∙ ap (emptied_behind false) (ap row c.as_mut_slice.ensures.value ∙ c.replace_children-items.ensures.taken))
