use Rattle.steps.proofs.Fit.Holding.{core_in_place, placed_in_place}
use Rattle.steps.proofs.fit_laws.row_laws.without_static_blocks_variables_are_in_place.Goals as goal

pub returns : goal.returns
returns c = record {
  core = core_in_place;
  placed = placed_in_place;
}
