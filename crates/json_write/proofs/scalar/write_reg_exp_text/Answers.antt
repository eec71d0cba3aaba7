use Rattle.json_write.proofs.Appending.{one, ◌then◌}
use Rattle.json_write.proofs.scalar.write_reg_exp_text.Goals as goal

pub returns : goal.returns
returns c =
    one c.in_ok-begin_object.ensures then one c.in_ok-key.ensures then (rw c.as_str.ensures at c.in_ok-write_string.ensures) then one c.in_ok-key-2.ensures
    then (rw c.as_str-2.ensures at c.in_ok-write_string-2.ensures) then one c.in_ok-end_object.ensures
