use Rattle.js_syntax.specs.Class.{root}
use Rattle.json_text.specs.Fault.{untyped}
use Rattle.json_shape.proofs.FittingNodes.{nodes_fit}
use Rattle.json_shape.proofs.law.trees_fit.Goals as goal

pub returns : goal.returns
returns c = λ d t read. nodes_fit 128 root untyped d t read
