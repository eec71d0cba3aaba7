-- What a node with the nodes below it makes of its context, worked out once for all of them.
use Rattle.std.specs.Prelude.{ℕ, List, [], ◌∷◌, Bool, if◌then◌else◌}
use Rattle.js_syntax.specs.declared.node_kind.NodeKind.{NodeKind as Kind}
use Rattle.js_syntax.specs.declared.node_kind.NodeKind.TheVariants.{Function as function}
use Rattle.js_syntax.specs.Node.{Forest, Tree}
use Rattle.scope_rules.specs.declared.layer.Layer.{Layer}
use Rattle.scope_rules.specs.Context.{Context, opens, strict_in, layers_in, body_of}

pub record Frame : Type 0 where
  pub scope : ℕ
  pub strict : Bool
  -- those of a function's parameters, or of what lies in another scope
  pub layers : List Layer
  -- those of a function's body
  pub body : List Layer

abbrev pub body_behind : Kind → (scope : ℕ) → (parameters : List Layer) → List Layer
body_behind (function how pure) scope parameters = body_of scope ∷ parameters
body_behind k scope parameters = []

abbrev pub layers_within : Kind → (below : Forest) → (scope : ℕ) → List Layer → List Layer
layers_within k below scope outer = if opens k below then layers_in k scope outer else []

abbrev pub frame_of : Context → (scope : ℕ) → Tree → Frame
frame_of c scope t = record { scope = scope; strict = strict_in c t.kind t.below; layers = layers_within t.kind t.below scope c.layers; body = body_behind t.kind scope (layers_within t.kind t.below scope c.layers) }
