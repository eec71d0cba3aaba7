use Rattle.std.proofs.Common.{◌∙◌, flat_map, ap, arith}
use Rattle.std.proofs.lemmas.List.{take_all}
use Rattle.std.specs.Prelude.{string_bytes}
use Rattle.serde_json.specs.Data.{string}
use Rattle.json_write.specs.Tokens.{data_tokens}
use Rattle.json_write.proofs.Appending.{appended}
use Rattle.run_text.proofs.Lists.{each_tokens}
use Rattle.run_text.proofs.exports.write_each_source.Goals as goal

pub returns : goal.returns
returns c =
    let items = c.args.stars.now in
    appended c.loop-source.invariant (ap (flat_map (λ x. data_tokens (string (string_bytes x)))) (take_all c.loop-source.source-index items (omega (arith, c.loop-source-test.false))) ∙ each_tokens string string_bytes items)
