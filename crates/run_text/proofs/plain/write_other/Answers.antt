use Rattle.json_write.proofs.Appending.{one, ◌then◌}
use Rattle.run_text.proofs.plain.write_other.Goals as goal

pub returns : goal.returns
returns c =
    one c.in_ok-begin_object.ensures then (rw c.kind_word.ensures at c.in_ok-write_text_field.ensures) then c.in_ok-write_number_field.ensures then c.in_ok-write_flag_field.ensures then one c.in_ok-end_object.ensures
