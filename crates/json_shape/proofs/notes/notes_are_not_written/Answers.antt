use Rattle.std.proofs.Common.{ap}
use Rattle.serde_json.specs.Written.{compact_text}
use Rattle.json_shape.proofs.Same.{same_data}
use Rattle.json_shape.proofs.notes.notes_are_not_written.Goals as goal

pub returns : goal.returns
returns c = λ t u same. ap compact_text (same_data t u same)
