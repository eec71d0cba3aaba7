use Rattle.std.proofs.Common.{◌∙◌, ◌-◌, length, drop, length-drop, sym, ap, arith}
use Rattle.std.proofs.lemmas.List.{take_all}
use Rattle.steps.specs.Allowed.Unused.{somebody}
use Rattle.rules.specs.Expressions.Uses.{taken_from}
use Rattle.min_expressions.proofs.Told.{told_from}
use Rattle.min_expressions.proofs.uses.telling.Goals as goal

pub returns-then-not-hands_on : goal.returns-then-not-hands_on
returns-then-not-hands_on c =
    let above = c.args.above.now in
    let at = c.loop-at.at - 1 in
    ap (taken_from somebody) (take_all (length above - at) (drop at above) (omega (arith, length-drop at above)))
    ∙ told_from above at _ somebody (omega (arith, c.loop-at-test.true, c.loop-at.invariant)) (sym c.hands_on.ensures ∙ c.if-not-hands_on.true)
