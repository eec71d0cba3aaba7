-- Which trees are read back from their text.
use Rattle.std.specs.Prelude.{◌≤◌}
use Rattle.serde_json.specs.Data.{depth}
use Rattle.serde_json.specs.Read.{max_depth}
use Rattle.js_syntax.specs.Class.{root}
use Rattle.js_syntax.specs.Node.{Forest}
use Rattle.json_text.specs.Text.{data_of}
use Rattle.json_shape.specs.Shape.{Fits}
use Rattle.json_shape.specs.Exact.{IsExact}

-- the table has it, its values are exact, and JSON's limit of nesting is kept
pub record IsReadable (t : Forest) : Type 0 where
  pub shape : Fits root t
  pub values : IsExact t
  pub nesting : depth (data_of t) ≤ max_depth
