use Rattle.std.proofs.Common.{◌∙◌, ◌+◌, drop, sym, ap, arith}
use Rattle.rules.specs.Expressions.Uses.{use_from}
use Rattle.min_expressions.specs.Uses.{told}
use Rattle.min_expressions.proofs.Told.{next_use, last_use}
use Rattle.min_expressions.proofs.uses.use_from.Goals as goal

pub loop-ancestor-preserved : goal.loop-ancestor-preserved
loop-ancestor-preserved c =
    ap (λ u. use_from u (drop (c.loop-ancestor.ancestor-index + 1) c.args.above.now)) c.use_in-used.ensures
    ∙ sym (next_use c.args.above.now c.loop-ancestor.ancestor-index _ (told c.loop-ancestor.used) (omega arith))
    ∙ c.loop-ancestor.invariant

pub returns : goal.returns
returns c = sym (last_use c.args.above.now c.loop-ancestor.ancestor-index (told c.loop-ancestor.used) (omega (arith, c.loop-ancestor-test.false))) ∙ c.loop-ancestor.invariant
