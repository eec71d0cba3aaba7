-- What the walker does: its single edits, its rule, and what it knows of a node that it left as it was.
use Rattle.std.specs.Prelude.{◌≡◌, ◌&&◌, Bool, true, false, Some, None, if◌then◌else◌}
use Rattle.js_syntax.specs.declared.node_kind.NodeKind.TheVariants.{EmptyStatement as empty_statement}
use Rattle.js_syntax.specs.Node.{Forest, Note, Tree, nothing, node}
use Rattle.scope_counts.specs.Edits.{Around, plug}
use Rattle.min_context.specs.Seen.{Seen}
use Rattle.min_context.specs.declared.ancestor.Ancestor.{Ancestor}
use Rattle.min_context.specs.declared.ancestor.Ancestor.TheVariants.{Field as field}
use Rattle.min_context.specs.declared.ancestor.Parent.TheVariants as parent
use Rattle.min_traverse.specs.Lawful.{Rule}
use Rattle.min_traverse.specs.Visits.{above_place}
use Rattle.min_traverse.specs.declared.slot.Hook.{Hook}
use Rattle.min_traverse.specs.declared.slot.Hook.TheVariants as hook
use Rattle.test_traverse.specs.Bodies.{has_empty, without_empty, is_list, list_of_body}

-- one edit
pub data BodyEdit : (t u : Forest) → Type 0 where
  an_empty_statement_leaves : (a : Around) (n : Note) (rest : Forest) → list_of_body false false a ≡ true → BodyEdit (plug a (node empty_statement n nothing rest)) (plug a rest)

abbrev pub is_body_above : Ancestor → Bool
is_body_above (field parent.FunctionBody at) = true
is_body_above a = false

abbrev pub is_cleaned : Seen → Tree → Bool
is_cleaned c x = is_body_above (above_place c.place) && (is_list x.kind && has_empty x.below)

abbrev pub clean_of : Tree → Tree
clean_of x = record x { below = without_empty x.below }

-- the rule: all that one list has leave it
abbrev pub cleaned : Rule
cleaned c x = if is_cleaned c x then Some (clean_of x) else None

-- the one hook
abbrev pub is_written : Hook → Bool
is_written hook.ExitStatements = true
is_written h = false

-- where it asks for no other walk there was nothing to clean, and the context is as it was
pub record LeftAlone (c : Seen) (x : Tree) (d : Seen) : Type 0 where
  pub clean : is_cleaned c x ≡ false
  pub same : d ≡ c
