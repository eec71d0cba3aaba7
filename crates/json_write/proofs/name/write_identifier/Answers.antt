use Rattle.json_write.proofs.Appending.{one, ◌then◌}
use Rattle.json_write.proofs.name.write_identifier.Goals as goal

pub returns : goal.returns
returns c =
    one c.in_ok-begin_object.ensures then c.in_ok-write_word.ensures then c.in_ok-write_word-2.ensures then one c.in_ok-end_object.ensures
