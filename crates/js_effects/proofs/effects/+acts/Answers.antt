use Rattle.std.proofs.Common.{◌≡◌, ◌≤◌, ◌∙◌, [], ◌∷◌, Some, None, false, refl, sym, ap, arith}
use Rattle.js_syntax.specs.Node.{row}
use Rattle.js_tree.specs.Weight.{size_of, tree_size}
use Rattle.js_tree.proofs.Sizes.{item_smaller}
use Rattle.js_tree.proofs.Search.{rest_of, none_found}
use Rattle.js_effects.specs.Answers.{answers}
use Rattle.js_effects.specs.Each.{child_of}
use Rattle.js_effects.specs.Effects.{acts_from, any_acts}
use Rattle.js_effects.proofs.Children.{child_size, told_of, told_at}
use Rattle.js_effects.proofs.Each.{acts_each, acts_one}
use Rattle.js_effects.proofs.effects.+acts.Goals.{any_acts-in-Some+else-has_side_effects, any_acts-in_default}
use Rattle.js_effects.proofs.effects.+acts.Goals as goal

pub part_acts-has_side_effects-requires : goal.part_acts-has_side_effects-requires
part_acts-has_side_effects-requires g z c =
    let there : child_of c.args.node.now.below c.args.at ≡ Some c.in-Some.part.now = rw c.in-Some.is at (sym c.child.ensures) in
    λ κs h. (omega (arith, child_size c.args.node.now.below c.args.at c.in-Some.part.now there), h)

pub part_acts-returns-in-Some : goal.part_acts-returns-in-Some
part_acts-returns-in-Some g z c =
    let A = answers (g.C.GlobalContext.names c.args.ctx.now) (g.C.MayHaveSideEffectsContext.effects c.args.ctx.now) in
    let there : child_of c.args.node.now.below c.args.at ≡ Some c.in-Some.part.now = rw c.in-Some.is at (sym c.child.ensures) in
    c.has_side_effects.ensures.acts ∙ sym (told_at (acts_from A) false c.args.node.now.below c.args.at ∙ ap (told_of (acts_from A) false) there)

pub part_acts-returns-in-None : goal.part_acts-returns-in-None
part_acts-returns-in-None g z c =
    let A = answers (g.C.GlobalContext.names c.args.ctx.now) (g.C.MayHaveSideEffectsContext.effects c.args.ctx.now) in
    let there : child_of c.args.node.now.below c.args.at ≡ None = rw c.in-None.is at (sym c.child.ensures) in
    sym (told_at (acts_from A) false c.args.node.now.below c.args.at ∙ ap (told_of (acts_from A) false) there)

pub any_acts-has_side_effects-requires : goal.any_acts-has_side_effects-requires
any_acts-has_side_effects-requires g z c =
    let smaller = item_smaller c.args.children.now c.loop-child.child-index c.child-item.result c.loop-child-test.true c.child-item.is in
    let node_smaller : tree_size c.in-Some.node ≤ size_of (row c.args.children.now) = rw c.in-Some.is at smaller in
    λ κs h. (omega (arith, node_smaller), h)

pub any_acts-loop-child-preserved : goal.any_acts-loop-child-preserved
any_acts-loop-child-preserved g z c =
    let A = answers (g.C.GlobalContext.names c.args.ctx.now) (g.C.MayHaveSideEffectsContext.effects c.args.ctx.now) in
    let none : any_acts A (row (c.child-item.result ∷ [])) ≡ false = elim c.match-child.branch [
      | any_acts-in-Some+else-has_side_effects w ↦ rw w.in-Some.is (acts_one A w.in-Some.node ∙ sym w.has_side_effects.ensures.acts ∙ w.if-has_side_effects.false)
      | any_acts-in_default w ↦ rw w.in_default.is refl
    ] in
    rest_of (any_acts A) (acts_each A) c.args.children.now c.loop-child.child-index c.child-item.result c.loop-child-test.true c.child-item.is none c.loop-child.invariant

pub any_acts-returns : goal.any_acts-returns
any_acts-returns g z c =
    let A = answers (g.C.GlobalContext.names c.args.ctx.now) (g.C.MayHaveSideEffectsContext.effects c.args.ctx.now) in
    sym (none_found (any_acts A) c.args.children.now c.loop-child.child-index refl (omega (arith, c.loop-child-test.false)) c.loop-child.invariant)
