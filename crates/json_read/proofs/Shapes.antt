-- What was read fits the table.
use Rattle.std.proofs.Common.{Result, Ok, Err, IfOk}
use Rattle.serde_json.specs.Data.{Data}
use Rattle.js_syntax.specs.Class.{root}
use Rattle.js_syntax.specs.Node.{Tree, forest_of}
use Rattle.json_text.specs.Answer.{Gives}
use Rattle.json_text.specs.Fault.{untyped}
use Rattle.json_text.specs.Reading.{read_program}
use Rattle.json_text.specs.declared.error.TreeError.{TreeError}
use Rattle.json_shape.specs.Shape.{Fits}
use Rattle.json_shape.proofs.FittingNodes.{nodes_fit}

pub fits : (r : Result Tree TreeError) (d : Data) → Gives forest_of r (read_program d) → IfOk r (λ p. Fits root (forest_of p))
fits (Ok p) d is = nodes_fit 128 root untyped d (forest_of p) is
fits (Err e) d is = tt
