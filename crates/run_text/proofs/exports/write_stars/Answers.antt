use Rattle.std.proofs.Common.{map}
use Rattle.serde_json.specs.Data.{string}
use Rattle.run_value.specs.Trace.{texts_of}
use Rattle.json_write.proofs.Appending.{one, ◌then◌, appended}
use Rattle.json_write.proofs.Parts.{list_tokens}
use Rattle.run_text.proofs.exports.write_stars.Goals as goal

pub returns : goal.returns
returns c =
    one c.in_ok-key.ensures then appended (one c.in_ok-begin_array.ensures then c.in_ok-write_each_source.ensures then one c.in_ok-end_array.ensures) (list_tokens (map string (texts_of c.args.stars.now)))
