-- Object literals of which nobody takes the value.
use Rattle.std.specs.Prelude.{Option, None, if◌then◌else◌}
use Rattle.js_syntax.specs.declared.node_kind.NodeKind.{NodeKind as Kind}
use Rattle.js_syntax.specs.Node.{Forest, Tree, Note}
use Rattle.min_traverse.specs.Lawful.{Rule}
use Rattle.steps.specs.Allowed.UnusedObject.{object_becomes}
use Rattle.rules.specs.Expressions.Uses.{Spot, spot_of}
use Rattle.rules.specs.Expressions.Lists.{new_note, list_note}

abbrev pub object_left : Spot → (note : Note) → Kind → (parts : Forest) → Option Tree
object_left s n k parts = if s.is_unused then object_becomes (new_note n) (new_note (list_note parts)) k parts else None

-- ---- as a rule of a walk

abbrev pub fold_object : Rule
fold_object c x = object_left (spot_of c.place) x.note x.kind x.below
