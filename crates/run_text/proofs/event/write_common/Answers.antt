use Rattle.json_write.proofs.Appending.{◌then◌}
use Rattle.run_text.proofs.event.write_common.Goals as goal

pub returns : goal.returns
returns c =
    c.in_ok-write_text_field.ensures then c.in_ok-write_exports_field.ensures
