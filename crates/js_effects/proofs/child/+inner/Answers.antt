use Rattle.std.proofs.Common.{◌≡◌, ◌∙◌, Some, None, sym, ap, arith}
use Rattle.js_effects.specs.Each.{child_of, inner_from}
use Rattle.js_effects.proofs.Children.{child_size, told_of, told_at}
use Rattle.js_effects.proofs.child.+inner.Goals as goal

pub inner_child-inner-requires : goal.inner_child-inner-requires
inner_child-inner-requires z c =
    let there : child_of c.args.node.now.below c.args.at ≡ Some c.in-Some.child.now = rw c.in-Some.is at (sym c.child.ensures) in
    (omega (arith, child_size c.args.node.now.below c.args.at c.in-Some.child.now there), tt)

pub inner_child-returns-in-Some : goal.inner_child-returns-in-Some
inner_child-returns-in-Some z c =
    let there : child_of c.args.node.now.below c.args.at ≡ Some c.in-Some.child.now = rw c.in-Some.is at (sym c.child.ensures) in
    c.inner.ensures ∙ sym (told_at inner_from None c.args.node.now.below c.args.at ∙ ap (told_of inner_from None) there)

pub inner_child-returns-in-None : goal.inner_child-returns-in-None
inner_child-returns-in-None z c =
    let there : child_of c.args.node.now.below c.args.at ≡ None = rw c.in-None.is at (sym c.child.ensures) in
    sym (told_at inner_from None c.args.node.now.below c.args.at ∙ ap (told_of inner_from None) there)
