-- Which trees are read back from their text with unary minus in the place of negative numbers.
use Rattle.std.specs.Prelude.{◌≡◌, ◌≤◌, ℕ, suc, pos, negsuc, not}
use Rattle.serde_json.specs.Data.{depth}
use Rattle.serde_json.specs.Read.{max_depth}
use Rattle.js_syntax.specs.Class.{root}
use Rattle.js_syntax.specs.Scalar.{Scalar, the_value}
use Rattle.js_syntax.specs.declared.value.LiteralValue.TheVariants as value
use Rattle.js_syntax.specs.declared.node_kind.NodeKind.{NodeKind as Kind}
use Rattle.js_syntax.specs.Node.{Forest, total}
use Rattle.js_syntax.specs.Facts.{scalars_of}
use Rattle.json_text.specs.Text.{data_of}
use Rattle.json_shape.specs.Shape.{Fits}
use Rattle.json_shape.specs.Exact.{is_exact}
use Rattle.json_kept.specs.Respelled.{count_among}

-- a value without its sign
abbrev pub magnitude : Scalar → Scalar
magnitude (the_value (value.Number (negsuc n))) = the_value (value.Number (pos (suc n)))
magnitude s = s

-- how many values of a kind aren't exact, whatever their signs
abbrev pub inexact_size : Kind → ℕ
inexact_size k = count_among (λ s. not (is_exact (magnitude s))) (scalars_of k)

-- the table has it, its values are exact but for their signs, and JSON's limit of nesting is kept
pub record IsSignable (t : Forest) : Type 0 where
  pub shape : Fits root t
  pub values : total inexact_size t ≡ 0
  pub nesting : depth (data_of t) ≤ max_depth
