use Rattle.std.proofs.Common.{◌∙◌, ap, drop, length, arith}
use Rattle.js_syntax.specs.Node.{row}
use Rattle.steps.specs.Allowed.TwoSides.{without_texts}
use Rattle.min_expressions.proofs.Textless.{same_tree, written}
use Rattle.min_expressions.proofs.texts.empty_list.Goals as goal

pub returns : goal.returns
returns c =
    same_tree _ _ _ _ (c.replace_children.ensures.kind ∙ c.replace_children-elements.ensures.kind) (c.replace_children.ensures.note ∙ c.replace_children-elements.ensures.note)
    (c.replace_children.ensures.below
    ∙ ap row (written c.replace_children-elements.result.len c.empty_each.new.elements (drop (length c.empty_each.new.elements) c.replace_children-elements.result.items) (omega (arith, c.empty_each.auto.elements, c.as_mut_slice.ensures.len)))
    ∙ c.empty_each.ensures
    ∙ ap without_texts (ap row c.as_mut_slice.ensures.value ∙ c.replace_children-elements.ensures.taken))
