use Rattle.std.proofs.Common.{take, flat_map}
use Rattle.run_value.specs.Trace.{export_of}
use Rattle.run_text.specs.Text.{export_data}
use Rattle.json_write.specs.Tokens.{IsAppended, data_tokens}
use Rattle.run_text.proofs.exports.write_each_export.Given as goal

abbrev pub invariant-loop-export : goal.invariant-loop-export
invariant-loop-export l = IsAppended l.initial.out l.out (flat_map (λ x. data_tokens (export_data (export_of x))) (take l.export-index l.names))
