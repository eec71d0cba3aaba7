-- Sequences of which some part doesn't act, and isn't the last.
use Rattle.std.specs.Prelude.{Option}
use Rattle.js_syntax.specs.declared.node_kind.NodeKind.{NodeKind as Kind}
use Rattle.js_syntax.specs.Node.{Forest, Tree, Note}
use Rattle.min_traverse.specs.Lawful.{Rule}
use Rattle.steps.specs.Allowed.IdleParts.{sequence_becomes}
use Rattle.rules.specs.Expressions.Uses.{Spot, spot_of}
use Rattle.rules.specs.Expressions.Lists.{new_note, list_note}

abbrev pub sequence_left : Spot → (note : Note) → Kind → (parts : Forest) → Option Tree
sequence_left s n k parts = sequence_becomes s.used_as s.in_with (new_note n) (new_note (list_note parts)) k parts

-- ---- as a rule of a walk

abbrev pub fold_sequence : Rule
fold_sequence c x = sequence_left (spot_of c.place) x.note x.kind x.below
