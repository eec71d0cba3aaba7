use Rattle.std.proofs.Common.{◌∙◌, flat_map, ap, arith}
use Rattle.std.proofs.lemmas.List.{take_all}
use Rattle.run_value.specs.Trace.{export_of}
use Rattle.run_text.specs.Text.{export_data}
use Rattle.json_write.specs.Tokens.{data_tokens}
use Rattle.json_write.proofs.Appending.{appended}
use Rattle.run_text.proofs.Lists.{each_tokens}
use Rattle.run_text.proofs.exports.write_each_export.Goals as goal

pub returns : goal.returns
returns c =
    let items = c.args.names.now in
    appended c.loop-export.invariant (ap (flat_map (λ x. data_tokens (export_data (export_of x)))) (take_all c.loop-export.export-index items (omega (arith, c.loop-export-test.false))) ∙ each_tokens export_data export_of items)
