use Rattle.std.proofs.Common.{◌≡◌, ◌∙◌, Some, None, sym, ap, arith}
use Rattle.js_effects.specs.declared.value.ValueType.TheVariants.{Undetermined}
use Rattle.js_effects.specs.Answers.{answers}
use Rattle.js_effects.specs.Each.{child_of}
use Rattle.js_effects.specs.Kinds.{type_from, part_type}
use Rattle.js_effects.proofs.Children.{child_size, told_of, told_at, told_last}
use Rattle.js_effects.proofs.types.+types.Goals as goal

pub part_type-value_type-requires : goal.part_type-value_type-requires
part_type-value_type-requires g z c =
    let there : child_of c.args.node.now.below c.args.at ≡ Some c.in-Some.part.now = rw c.in-Some.is at (sym c.child.ensures) in
    λ κs h. (omega (arith, child_size c.args.node.now.below c.args.at c.in-Some.part.now there), h)

pub part_type-returns-in-Some : goal.part_type-returns-in-Some
part_type-returns-in-Some g z c =
    let A = answers (g.C.GlobalContext.names c.args.ctx.now) (g.C.MayHaveSideEffectsContext.effects c.args.ctx.now) in
    let there : child_of c.args.node.now.below c.args.at ≡ Some c.in-Some.part.now = rw c.in-Some.is at (sym c.child.ensures) in
    c.value_type.ensures.of_expression ∙ sym (told_at (type_from A) Undetermined c.args.node.now.below c.args.at ∙ ap (told_of (type_from A) Undetermined) there)

pub part_type-returns-in-None : goal.part_type-returns-in-None
part_type-returns-in-None g z c =
    let A = answers (g.C.GlobalContext.names c.args.ctx.now) (g.C.MayHaveSideEffectsContext.effects c.args.ctx.now) in
    let there : child_of c.args.node.now.below c.args.at ≡ None = rw c.in-None.is at (sym c.child.ensures) in
    sym (told_at (type_from A) Undetermined c.args.node.now.below c.args.at ∙ ap (told_of (type_from A) Undetermined) there)

pub last_type-returns : goal.last_type-returns
last_type-returns g z c =
    let A = answers (g.C.GlobalContext.names c.args.ctx.now) (g.C.MayHaveSideEffectsContext.effects c.args.ctx.now) in
    c.part_type.ensures ∙ ap (λ i. part_type A i c.args.node.now.below) c.last_place.ensures ∙ sym (told_last (type_from A) Undetermined c.args.node.now.below)
