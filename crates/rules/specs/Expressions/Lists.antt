-- Arrays, sequences and templates of which nobody takes the value.
use Rattle.std.specs.Prelude.{Option, None, if◌then◌else◌}
use Rattle.js_syntax.specs.declared.node_kind.NodeKind.{NodeKind as Kind}
use Rattle.js_syntax.specs.Node.{Forest, Tree, Note, node, nowhere}
use Rattle.min_traverse.specs.Lawful.{Rule}
use Rattle.steps.specs.Allowed.UnusedList.{list_becomes}
use Rattle.rules.specs.Expressions.Uses.{Spot, spot_of}

-- of a new node: it stands where the old one stood, and has no number yet
abbrev pub new_note : Note → Note
new_note n = record { span = n.span; id = None }

-- of the list below an array or a sequence, and of that of a template's texts
abbrev pub list_note : (parts : Forest) → Note
list_note (node k n below rest) = n
list_note parts = nowhere

abbrev pub unused_list_becomes : Spot → (note : Note) → Kind → (parts : Forest) → Option Tree
unused_list_becomes s n k parts = if s.is_unused then list_becomes (new_note n) (new_note (list_note parts)) k parts else None

-- ---- as a rule of a walk

abbrev pub fold_unused_list : Rule
fold_unused_list c x = unused_list_becomes (spot_of c.place) x.note x.kind x.below
