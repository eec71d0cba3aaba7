-- A history with one answer more.
use Rattle.shake_streams.specs.Past.{Past, with_bytes, with_end, with_fault}
use Rattle.shake_streams.specs.declared.history.Note.{Note}
use Rattle.shake_streams.specs.declared.history.Note.TheVariants as note

abbrev pub noted : Past → Note → Past
noted past (note.Bytes piece) = with_bytes past piece.now
noted past note.End = with_end past
noted past note.Fault = with_fault past
