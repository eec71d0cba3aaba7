use Rattle.std.proofs.Common.{ap}
use Rattle.serde_json.specs.Written.{compact_text}
use Rattle.json_kept.proofs.SignsWritten.{data_signed}
use Rattle.json_kept.proofs.signs.signs_are_written_alike.Goals as goal

pub returns : goal.returns
returns c = record {
  values = data_signed;
  text = λ t. ap compact_text (data_signed t);
}
