use Rattle.json_write.proofs.Appending.{one, ◌then◌}
use Rattle.run_text.proofs.shown.write_shown_field.Goals as goal

pub returns : goal.returns
returns c =
    one c.in_ok-key.ensures then c.in_ok-write_shown.ensures
