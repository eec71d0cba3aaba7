use Rattle.std.proofs.Common.{take, flat_map}
use Rattle.std.specs.Prelude.{string_bytes}
use Rattle.serde_json.specs.Data.{string}
use Rattle.json_write.specs.Tokens.{IsAppended, data_tokens}
use Rattle.run_text.proofs.exports.write_each_source.Given as goal

abbrev pub invariant-loop-source : goal.invariant-loop-source
invariant-loop-source l = IsAppended l.initial.out l.out (flat_map (λ x. data_tokens (string (string_bytes x))) (take l.source-index l.stars))
