use Rattle.run_text.specs.Text.{line_of}
use Rattle.run_text.proofs.trace.add_ending.Goals as goal

pub returns : goal.returns
unfolding line_of
returns c = rw (c.as_str.ensures.value, c.in_ok-line.ensures) at c.add_line.ensures
