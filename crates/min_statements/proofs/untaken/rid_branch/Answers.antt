use Rattle.std.proofs.Common.{◌∙◌, ap, drop, length, arith}
use Rattle.js_syntax.specs.Node.{row}
use Rattle.min_statements.specs.Untaken.{rid_at}
use Rattle.min_statements.proofs.Kept.{same_tree, written}
use Rattle.min_statements.proofs.untaken.rid_branch.Goals as goal

pub returns : goal.returns
returns c =
    same_tree _ _ _ _ (c.replace_children.ensures.kind ∙ c.replace_children-parts.ensures.kind) (c.replace_children.ensures.note ∙ c.replace_children-parts.ensures.note)
    (c.replace_children.ensures.below
    ∙ ap row (written c.replace_children-parts.result.len c.rid_among.new.parts (drop (length c.rid_among.new.parts) c.replace_children-parts.result.items) (omega (arith, c.rid_among.auto.parts, c.as_mut_slice.ensures.len)))
    ∙ c.rid_among.ensures
    ∙ ap (rid_at c.args.at) (ap row c.as_mut_slice.ensures.value ∙ c.replace_children-parts.ensures.taken))
