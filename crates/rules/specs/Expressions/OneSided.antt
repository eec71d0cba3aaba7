-- Conditionals of which nobody takes the value, and of which one branch alone acts.
use Rattle.std.specs.Prelude.{Option, None, if◌then◌else◌}
use Rattle.js_syntax.specs.declared.node_kind.NodeKind.{NodeKind as Kind}
use Rattle.js_syntax.specs.Node.{Forest, Tree, Note}
use Rattle.min_traverse.specs.Lawful.{Rule}
use Rattle.steps.specs.Allowed.OneSidedChoice.{one_sided}
use Rattle.rules.specs.Expressions.Uses.{Spot, spot_of}
use Rattle.rules.specs.Expressions.Lists.{new_note}

abbrev pub one_sided_becomes : Spot → (note : Note) → Kind → (parts : Forest) → Option Tree
one_sided_becomes s n k parts = if s.is_unused then one_sided (new_note n) k parts else None

-- ---- as a rule of a walk

abbrev pub fold_one_sided : Rule
fold_one_sided c x = one_sided_becomes (spot_of c.place) x.note x.kind x.below
