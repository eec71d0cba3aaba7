-- Operations on two sides of which nobody takes the value: both act, or one that does nothing but give a text stands beside what does. And
-- templates that have texts.
use Rattle.std.specs.Prelude.{Option, None, if◌then◌else◌}
use Rattle.js_syntax.specs.declared.node_kind.NodeKind.{NodeKind as Kind}
use Rattle.js_syntax.specs.Node.{Forest, Tree, Note}
use Rattle.min_traverse.specs.Lawful.{Rule}
use Rattle.steps.specs.Allowed.TwoSides.{two_sides}
use Rattle.rules.specs.Expressions.Uses.{Spot, spot_of}
use Rattle.rules.specs.Expressions.Lists.{new_note}

abbrev pub two_sides_become : Spot → (note : Note) → Kind → (parts : Forest) → Option Tree
two_sides_become s n k parts = if s.is_unused then two_sides (new_note n) (new_note n) k parts else None

-- ---- as a rule of a walk

abbrev pub fold_two_sides : Rule
fold_two_sides c x = two_sides_become (spot_of c.place) x.note x.kind x.below
