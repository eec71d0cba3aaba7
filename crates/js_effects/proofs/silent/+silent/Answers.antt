use Rattle.std.proofs.Common.{◌≡◌, ◌≤◌, ◌∙◌, [], ◌∷◌, true, false, sym, arith, refl}
use Rattle.js_syntax.specs.Node.{row}
use Rattle.js_tree.specs.Weight.{size_of, tree_size}
use Rattle.js_effects.specs.Silence.{may_have_effects}
use Rattle.js_tree.proofs.Search.{found_at, rest_of, none_found}
use Rattle.js_tree.proofs.Sizes.{item_smaller}
use Rattle.js_effects.proofs.Each.{effects_each}
use Rattle.js_effects.proofs.silent.+silent.Goals.{any_has_effects-in-Some+else-may_have_side_effects, any_has_effects-in_default}
use Rattle.js_effects.proofs.silent.+silent.Goals as goal

pub any_has_effects-may_have_side_effects-requires : goal.any_has_effects-may_have_side_effects-requires
any_has_effects-may_have_side_effects-requires z c =
    let smaller = item_smaller c.args.children.now c.loop-child.child-index c.child-item.result c.loop-child-test.true c.child-item.is in
    let node_smaller : tree_size c.in-Some.node ≤ size_of (row c.args.children.now) = rw c.in-Some.is at smaller in
    (omega (arith, node_smaller), tt)

pub any_has_effects-returns-then-may_have_side_effects : goal.any_has_effects-returns-then-may_have_side_effects
any_has_effects-returns-then-may_have_side_effects z c =
    let asks = may_have_effects c.args.bound.now c.args.around in
    let told : asks (row (c.child-item.result ∷ [])) ≡ true = rw c.in-Some.is (sym c.may_have_side_effects.ensures.answer ∙ c.if-may_have_side_effects.true) in
    sym (found_at asks (effects_each c.args.bound.now c.args.around) c.args.children.now c.loop-child.child-index c.child-item.result c.loop-child-test.true c.child-item.is told)

pub any_has_effects-loop-child-preserved : goal.any_has_effects-loop-child-preserved
any_has_effects-loop-child-preserved z c =
    let asks = may_have_effects c.args.bound.now c.args.around in
    let none : asks (row (c.child-item.result ∷ [])) ≡ false = elim c.match-child.branch [
      | any_has_effects-in-Some+else-may_have_side_effects w ↦ rw w.in-Some.is (sym w.may_have_side_effects.ensures.answer ∙ w.if-may_have_side_effects.false)
      | any_has_effects-in_default w ↦ rw w.in_default.is refl
    ] in
    rest_of asks (effects_each c.args.bound.now c.args.around) c.args.children.now c.loop-child.child-index c.child-item.result c.loop-child-test.true c.child-item.is none c.loop-child.invariant

pub any_has_effects-returns : goal.any_has_effects-returns
any_has_effects-returns z c = sym (none_found (may_have_effects c.args.bound.now c.args.around) c.args.children.now c.loop-child.child-index refl (omega (arith, c.loop-child-test.false)) c.loop-child.invariant)
