use Rattle.std.proofs.Common.{drop_of_length-le}
use Rattle.form_names.proofs.Firsts.{first_of_more, first_of_none}
use Rattle.form_names.proofs.places.first_break.Goals as goal

pub loop-place-preserved : goal.loop-place-preserved
loop-place-preserved c =
    first_of_more c.args.rule c.args.places.now c.loop-place.place-index c.loop-place.first c.first_of-first.result _ c.loop-place-test.true c.first_of-first.ensures.first c.loop-place.invariant

pub returns : goal.returns
returns c = record {
  first = first_of_none c.args.rule c.loop-place.first _ _ (drop_of_length-le c.args.places.now c.loop-place-test.false) c.loop-place.invariant;
}
