use Rattle.std.proofs.Common.{◌∙◌, drop, length, ap, arith}
use Rattle.js_syntax.specs.Node.{row}
use Rattle.rules.specs.Imports.Merged.{with_names}
use Rattle.min_imports.proofs.Overlaid.{written}
use Rattle.min_imports.proofs.Staying.{same_tree}
use Rattle.min_imports.proofs.merged.take_names.Goals as goal

pub returns : goal.returns
returns c =
    same_tree _ c.args.node.now _ (c.replace_children.ensures.kind ∙ c.replace_children-children.ensures.kind) (c.replace_children.ensures.note ∙ c.replace_children-children.ensures.note)
    (c.replace_children.ensures.below
    ∙ ap row (written c.replace_children-children.result.len c.take_names_of.new.children (drop (length c.take_names_of.new.children) c.replace_children-children.result.items) (omega (arith, c.take_names_of.auto.children, c.as_mut_slice.ensures.len)))
    ∙ c.in_ok-take_names_of.ensures
    ∙ ap (with_names (row c.args.later.now)) (ap row c.as_mut_slice.ensures.value ∙ c.replace_children-children.ensures.taken))
