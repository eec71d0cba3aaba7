use Rattle.json_write.proofs.Appending.{one, ◌then◌}
use Rattle.json_write.proofs.name.write_minus.Goals as goal

pub returns : goal.returns
returns c =
    one c.in_ok-begin_object.ensures then one c.in_ok-key.ensures then c.in_ok-write_whole_number.ensures then c.in_ok-write_word.ensures then one c.in_ok-key-2.ensures then one c.in_ok-boolean.ensures then c.in_ok-write_word-2.ensures then one c.in_ok-end_object.ensures
