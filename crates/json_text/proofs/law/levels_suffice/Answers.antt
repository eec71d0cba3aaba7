use Rattle.std.proofs.Common.{arith}
use Rattle.js_syntax.specs.Class.{root}
use Rattle.json_text.specs.Fault.{untyped}
use Rattle.json_text.proofs.Plain.{untyped_is_no_level}
use Rattle.json_text.proofs.Levels.{node_ends}
use Rattle.json_text.proofs.law.levels_suffice.Goals as goal

pub returns : goal.returns
returns c = λ d shallow. node_ends 128 root untyped d (omega arith) untyped_is_no_level
