use Rattle.std.proofs.Common.{◌∙◌, ◌+◌, drop, sym, ap, arith}
use Rattle.min_expressions.specs.Lists.{told_found}
use Rattle.min_expressions.specs.Objects.{all_found}
use Rattle.min_expressions.proofs.Objects.{next_pair, last_pair}
use Rattle.min_expressions.proofs.object.found_in.Goals as goal

pub loop-property-preserved : goal.loop-property-preserved
loop-property-preserved c =
    ap (λ f. all_found f (drop (c.loop-property.property-index + 1) c.args.properties.now)) c.found_pair-found.ensures
    ∙ sym (next_pair c.args.properties.now c.loop-property.property-index c.property-item.result (told_found c.loop-property.found) c.loop-property-test.true c.property-item.is)
    ∙ c.loop-property.invariant

pub returns : goal.returns
returns c = sym (last_pair c.args.properties.now c.loop-property.property-index (told_found c.loop-property.found) (omega (arith, c.loop-property-test.false))) ∙ c.loop-property.invariant
