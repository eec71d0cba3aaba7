use Rattle.known_tests.proofs.ByForm.{truth_gives, truth_tells, way_gives, way_tells}
use Rattle.known_tests.proofs.laws.forms_tell.Goals as goal

pub returns : goal.returns
returns r = record { truth = truth_tells; given = truth_gives; way_given = way_gives; way = way_tells }
