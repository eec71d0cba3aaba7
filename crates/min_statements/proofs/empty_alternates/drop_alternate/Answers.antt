use Rattle.std.proofs.Common.{◌≡◌, ◌∙◌, Some, drop, length, sym, ap, subst, arith}
use Rattle.js_syntax.specs.Node.{row}
use Rattle.min_context.specs.Edited.{Edited}
use Rattle.rules.specs.Expressions.EmptyAlternates.{alternate_left}
use Rattle.min_statements.specs.Alternates.{cleared_at}
use Rattle.min_statements.proofs.Alternates.{ruled, alternate_edited}
use Rattle.min_statements.proofs.Kept.{same_tree, written}
use Rattle.min_statements.proofs.empty_alternates.drop_alternate.Goals as goal

-- the node has the row without it
pub returns-clause-left : goal.returns-clause-left
returns-clause-left c =
    ruled c.args.node.now.note c.args.node.now.kind c.args.node.now.below c.requires.empty
    ∙ ap Some (sym (same_tree _ _ _ _ (c.replace_children.ensures.kind ∙ c.replace_children-parts.ensures.kind) (c.replace_children.ensures.note ∙ c.replace_children-parts.ensures.note)
    (c.replace_children.ensures.below
    ∙ ap row (written c.replace_children-parts.result.len c.clear_at.new.parts (drop (length c.clear_at.new.parts) c.replace_children-parts.result.items) (omega (arith, c.clear_at.auto.parts, c.as_mut_slice.ensures.len)))
    ∙ c.clear_at.ensures
    ∙ ap (cleared_at 2) (ap row c.as_mut_slice.ensures.value ∙ c.replace_children-parts.ensures.taken))))
