use Rattle.std.proofs.Common.{arith}
use Rattle.json_kept.proofs.Exact.{data_nests, text_nests}
use Rattle.json_kept.proofs.nesting.texts_nest_as_read.Goals as goal

pub returns : goal.returns
returns c = record {
  plain = λ d t read none. omega (arith, data_nests d t read);
  signed = λ d t read. omega (arith, data_nests d t read);
  plain_limit = λ bytes t read none. omega (arith, text_nests bytes t read);
  signed_limit = λ bytes t read. omega (arith, text_nests bytes t read);
}
