use Rattle.std.proofs.Common.{◌∙◌, ◌++◌, length, ap, ap₂, arith}
use Rattle.js_syntax.specs.Node.{Tree, row}
use Rattle.js_effects.specs.Each.{width}
use Rattle.js_effects.proofs.Children.{row_width}
use Rattle.min_expressions.specs.Objects.{all_pairs, in_pairs}
use Rattle.min_expressions.proofs.Objects.{pairs_row}
use Rattle.min_expressions.proofs.object.with_parts.Goals as goal

pub push_all-requires : goal.push_all-requires
push_all-requires c = record {
  room = omega (arith, c.requires.room, ap length c.requires.empty, ap length c.deref_mut.ensures.value, row_width c.into_children-properties.result.items, ap width c.into_children-properties.ensures);
}

pub returns-clause-below : goal.returns-clause-below
returns-clause-below c =
    ap {A = Tree} (λ t. t.below) c.new.ensures
    ∙ ap row (c.push_all.ensures ∙ ap₂ (λ ps qs. ps ++ all_pairs qs) c.requires.empty c.deref_mut.ensures.value)
    ∙ pairs_row c.into_children-properties.result.items ∙ ap in_pairs c.into_children-properties.ensures
