use Rattle.std.proofs.Common.{◌≡◌, ◌∙◌, Option, Some, None, sym, ap}
use Rattle.js_syntax.specs.Node.{Tree}
use Rattle.js_effects.specs.Answers.{answers}
use Rattle.js_effects.specs.Each.{child_of}
use Rattle.js_effects.specs.Effects.{below_child}
use Rattle.js_effects.specs.Kinds.{types, all_primitive}
use Rattle.js_effects.proofs.effects.substitutes_primitives.Goals as goal

pub returns-in-Some : goal.returns-in-Some
returns-in-Some g c =
    let A = answers (g.C.GlobalContext.names c.args.ctx.now) (g.C.MayHaveSideEffectsContext.effects c.args.ctx.now) in
    let there : child_of c.args.node.now.below 1 ≡ Some c.in-Some.substitutions.now = rw c.in-Some.is at (sym c.child.ensures) in
    c.all_primitive.ensures ∙ sym (ap (λ (t : Option Tree). all_primitive (types A (below_child t))) there)

pub returns-in-None : goal.returns-in-None
returns-in-None g c =
    let A = answers (g.C.GlobalContext.names c.args.ctx.now) (g.C.MayHaveSideEffectsContext.effects c.args.ctx.now) in
    let there : child_of c.args.node.now.below 1 ≡ None = rw c.in-None.is at (sym c.child.ensures) in
    sym (ap (λ (t : Option Tree). all_primitive (types A (below_child t))) there)
