use Rattle.json_write.proofs.Appending.{one, ◌then◌}
use Rattle.run_text.proofs.exports.write_exports_field.Goals as goal

pub returns : goal.returns
returns c =
    one c.in_ok-key.ensures then one c.in_ok-begin_object.ensures then (rw c.as_slice.ensures.value at c.in_ok-write_names.ensures) then (rw c.as_slice-2.ensures.value at c.in_ok-write_stars.ensures) then one c.in_ok-end_object.ensures
