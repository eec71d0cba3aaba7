use Rattle.js_syntax.specs.Node.{alone}
use Rattle.js_effects_quiet.proofs.Silent.{quiet_node}
use Rattle.js_effects_quiet.proofs.Marks.{silent_row}
use Rattle.js_effects_quiet.proofs.laws.a_silent_node_is_quiet.Goals as goal

pub returns : goal.returns
returns c bound s env E k n a e h this = quiet_node env E k n a (silent_row bound s env this (alone k n a) e h)
