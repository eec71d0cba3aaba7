use Rattle.std.proofs.Common.{map}
use Rattle.run_value.specs.Trace.{export_of}
use Rattle.run_text.specs.Text.{export_data}
use Rattle.json_write.proofs.Appending.{one, ◌then◌, appended}
use Rattle.json_write.proofs.Parts.{list_tokens}
use Rattle.run_text.proofs.exports.write_names.Goals as goal

pub returns : goal.returns
returns c =
    one c.in_ok-key.ensures then appended (one c.in_ok-begin_array.ensures then c.in_ok-write_each_export.ensures then one c.in_ok-end_array.ensures) (list_tokens (map export_data (map export_of c.args.names.now)))
