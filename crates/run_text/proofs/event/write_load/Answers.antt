use Rattle.json_write.proofs.Appending.{one, ◌then◌}
use Rattle.run_text.proofs.event.write_load.Goals as goal

pub returns : goal.returns
returns c =
    one c.in_ok-begin_object.ensures then c.in_ok-write_common.ensures then c.in_ok-write_text_field.ensures then one c.in_ok-end_object.ensures
