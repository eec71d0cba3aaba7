use Rattle.std.proofs.Common.{◌≡◌, ◌∙◌, Some, None, false, sym, ap, arith}
use Rattle.js_effects.specs.Each.{child_of}
use Rattle.js_effects.specs.Effects.{arrow_from, arrow_at}
use Rattle.js_effects.proofs.Children.{child_size, told_of, told_at, told_last}
use Rattle.js_effects.proofs.effects.+arrow.Goals as goal

pub part_ends_in_arrow-ends_in_arrow-requires : goal.part_ends_in_arrow-ends_in_arrow-requires
part_ends_in_arrow-ends_in_arrow-requires z c =
    let there : child_of c.args.node.now.below c.args.at ≡ Some c.in-Some.part.now = rw c.in-Some.is at (sym c.child.ensures) in
    (omega (arith, child_size c.args.node.now.below c.args.at c.in-Some.part.now there), tt)

pub part_ends_in_arrow-returns-in-Some : goal.part_ends_in_arrow-returns-in-Some
part_ends_in_arrow-returns-in-Some z c =
    let there : child_of c.args.node.now.below c.args.at ≡ Some c.in-Some.part.now = rw c.in-Some.is at (sym c.child.ensures) in
    c.ends_in_arrow.ensures ∙ sym (told_at arrow_from false c.args.node.now.below c.args.at ∙ ap (told_of arrow_from false) there)

pub part_ends_in_arrow-returns-in-None : goal.part_ends_in_arrow-returns-in-None
part_ends_in_arrow-returns-in-None z c =
    let there : child_of c.args.node.now.below c.args.at ≡ None = rw c.in-None.is at (sym c.child.ensures) in
    sym (told_at arrow_from false c.args.node.now.below c.args.at ∙ ap (told_of arrow_from false) there)

pub last_ends_in_arrow-returns : goal.last_ends_in_arrow-returns
last_ends_in_arrow-returns z c =
    c.part_ends_in_arrow.ensures ∙ ap (λ i. arrow_at i c.args.node.now.below) c.last_place.ensures ∙ sym (told_last arrow_from false c.args.node.now.below)
