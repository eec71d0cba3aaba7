use Rattle.js_meaning.proofs.Computes.{no_room as computed}
use Rattle.js_meaning.proofs.examples.no_room.Goals as goal

pub returns : goal.returns
returns c = computed
