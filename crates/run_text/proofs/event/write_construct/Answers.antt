use Rattle.json_write.proofs.Appending.{one, ◌then◌}
use Rattle.run_text.proofs.event.write_construct.Goals as goal

pub returns : goal.returns
returns c =
    one c.in_ok-begin_object.ensures then c.in_ok-write_all_field.ensures then c.in_ok-write_shown_field.ensures then c.in_ok-write_common.ensures then one c.in_ok-end_object.ensures
