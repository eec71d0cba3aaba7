use Rattle.std.proofs.Common.{◌∙◌, ◌+◌, drop, sym, ap, arith}
use Rattle.min_expressions.specs.Lists.{told_found, found_from}
use Rattle.min_expressions.proofs.Lists.{next_found, last_found}
use Rattle.min_expressions.proofs.list.found_in.Goals as goal

pub loop-part-preserved : goal.loop-part-preserved
loop-part-preserved c =
    ap (λ f. found_from f (drop (c.loop-part.part-index + 1) c.args.parts.now)) c.found_with-found.ensures
    ∙ sym (next_found c.args.parts.now c.loop-part.part-index c.part-item.result (told_found c.loop-part.found) c.loop-part-test.true c.part-item.is)
    ∙ c.loop-part.invariant

pub returns : goal.returns
returns c = sym (last_found c.args.parts.now c.loop-part.part-index (told_found c.loop-part.found) (omega (arith, c.loop-part-test.false))) ∙ c.loop-part.invariant
