use Rattle.json_write.proofs.Appending.{one, ◌then◌}
use Rattle.run_text.proofs.field.write_flag_field.Goals as goal

pub returns : goal.returns
returns c =
    one c.in_ok-key.ensures then one c.in_ok-boolean.ensures
