use Rattle.json_shape.proofs.Texts.{data_read}
use Rattle.json_shape.proofs.law.trees_are_read_back.Goals as goal

pub returns : goal.returns
returns c = data_read
