use Rattle.std.proofs.Common.{◌∙◌, ap, drop, length, arith}
use Rattle.js_syntax.specs.Node.{row}
use Rattle.min_statements.specs.Shed.{kept_items, each_left}
use Rattle.min_statements.proofs.Kept.{same_tree, written, trimmed_is}
use Rattle.min_statements.proofs.trimmed.trim.Goals as goal

pub returns : goal.returns
returns c =
    same_tree _ _ _ _ (c.replace_children.ensures.kind ∙ c.replace_children-items.ensures.kind) (c.replace_children.ensures.note ∙ c.replace_children-items.ensures.note)
    (c.replace_children.ensures.below
    ∙ ap row (written c.keep_items.new.items.len c.trim_each.new.items (drop (length c.trim_each.new.items) c.keep_items.new.items.items) (omega (arith, c.trim_each.auto.items, c.as_mut_slice.ensures.len)))
    ∙ c.trim_each.ensures
    ∙ ap (each_left c.args.facts.now c.args.at) (ap row c.as_mut_slice.ensures.value ∙ c.keep_items.ensures ∙ ap (kept_items c.args.facts.now c.args.at) c.replace_children-items.ensures.taken)
    ∙ trimmed_is c.args.facts.now c.args.at c.args.node.now.below)
