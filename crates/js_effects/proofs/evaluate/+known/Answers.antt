use Rattle.std.proofs.Common.{◌≡◌, ◌∙◌, Some, None, sym, ap, arith}
use Rattle.js_effects.specs.Answers.{answers}
use Rattle.js_effects.specs.Each.{child_of}
use Rattle.js_effects.specs.Values.{unknown, known_from, part_known}
use Rattle.js_effects.proofs.Children.{child_size, told_of, told_at, told_last}
use Rattle.js_effects.proofs.evaluate.+known.Goals as goal

pub part_known-known-requires : goal.part_known-known-requires
part_known-known-requires g z c =
    let there : child_of c.args.node.now.below c.args.at ≡ Some c.in-Some.part.now = rw c.in-Some.is at (sym c.child.ensures) in
    λ κs h. (omega (arith, child_size c.args.node.now.below c.args.at c.in-Some.part.now there), h)

pub part_known-returns-in-Some : goal.part_known-returns-in-Some
part_known-returns-in-Some g z c =
    let A = answers (g.C.GlobalContext.names c.args.ctx.now) (g.C.MayHaveSideEffectsContext.effects c.args.ctx.now) in
    let there : child_of c.args.node.now.below c.args.at ≡ Some c.in-Some.part.now = rw c.in-Some.is at (sym c.child.ensures) in
    c.known.ensures ∙ sym (told_at (known_from A) unknown c.args.node.now.below c.args.at ∙ ap (told_of (known_from A) unknown) there)

pub part_known-returns-in-None : goal.part_known-returns-in-None
part_known-returns-in-None g z c =
    let A = answers (g.C.GlobalContext.names c.args.ctx.now) (g.C.MayHaveSideEffectsContext.effects c.args.ctx.now) in
    let there : child_of c.args.node.now.below c.args.at ≡ None = rw c.in-None.is at (sym c.child.ensures) in
    sym (told_at (known_from A) unknown c.args.node.now.below c.args.at ∙ ap (told_of (known_from A) unknown) there)

pub last_known-returns : goal.last_known-returns
last_known-returns g z c =
    let A = answers (g.C.GlobalContext.names c.args.ctx.now) (g.C.MayHaveSideEffectsContext.effects c.args.ctx.now) in
    c.part_known.ensures ∙ ap (λ i. part_known A i c.args.node.now.below) c.last_place.ensures ∙ sym (told_last (known_from A) unknown c.args.node.now.below)
