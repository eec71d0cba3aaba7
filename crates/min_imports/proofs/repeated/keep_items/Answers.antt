use Rattle.std.proofs.Common.{◌∙◌, [], length, ap, sym}
use Rattle.std.specs.List.{items_where_true}
use Rattle.js_syntax.specs.Node.{row}
use Rattle.rules.specs.Imports.Repeated.{each_once}
use Rattle.min_imports.specs.Items.{stays}
use Rattle.min_imports.proofs.Staying.{kept_row, stays_length, same_tree}
use Rattle.min_imports.proofs.repeated.keep_items.Goals as goal

pub keep_staying-requires : goal.keep_staying-requires
keep_staying-requires c = ap length (c.requires ∙ ap (stays []) (sym c.replace_children-items.ensures.taken)) ∙ stays_length [] c.replace_children-items.result.items

pub returns : goal.returns
returns c =
    let taken = c.replace_children-items.result.items in
    same_tree _ c.args.node.now _ (c.replace_children.ensures.kind ∙ c.replace_children-items.ensures.kind) (c.replace_children.ensures.note ∙ c.replace_children-items.ensures.note)
    (c.replace_children.ensures.below
    ∙ ap row (c.keep_staying.ensures ∙ ap (λ l. items_where_true l taken) (c.requires ∙ ap (stays []) (sym c.replace_children-items.ensures.taken)))
    ∙ kept_row [] taken
    ∙ ap (each_once []) c.replace_children-items.ensures.taken)
