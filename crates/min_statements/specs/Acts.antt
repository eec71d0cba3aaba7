-- What the walker does to a list of statements, to a statement, to an import and to a program.
use Rattle.std.specs.Prelude.{[], Bool, false, ◌||◌, Option, Some, None, if◌then◌else◌}
use Rattle.js_syntax.specs.Node.{Forest, Tree}
use Rattle.min_context.specs.Seen.{Seen}
use Rattle.min_traverse.specs.Lawful.{Rule}
use Rattle.rules.specs.DeadCode.Rules.{Facts, Where, where_of, has_dead, trimmed, emptied, stated}
use Rattle.rules.specs.Expressions.Jumps.{has_inert, emptied_behind}
use Rattle.rules.specs.Imports.Merged.{come_together}
use Rattle.rules.specs.Imports.Passed.{pass_on}
use Rattle.rules.specs.Imports.Repeated.{has_repeated, asked_once}
use Rattle.rules.specs.Imports.Rules.{pruned}
use Rattle.min_statements.specs.Walker.{Names, facts_of}

-- whether anything of a list goes, and what is left: what stands behind a jump becomes empty, and so goes too
abbrev pub has_gone : Facts → Where → Forest → Bool
has_gone f w t = has_inert false t || has_dead f w t

abbrev pub shorter : Facts → Where → Forest → Forest
shorter f w t = trimmed f w (emptied_behind false t)

abbrev pub list_left : Facts → Where → Tree → Option Tree
list_left f w x = if has_gone f w x.below then Some (record { kind = x.kind; note = x.note; below = shorter f w x.below }) else None

-- of a list, what goes of it leaves
abbrev pub trim : Names → Seen → Tree → Option Tree
trim names c x = list_left (facts_of names c) (where_of c.place) x

-- and an import without names whose module is asked for before
abbrev pub drop_repeated : Rule
drop_repeated c x = asked_once x

-- whether any of this leaves a list
abbrev pub list_changes : Facts → Where → Forest → Bool
list_changes f w t = has_gone f w t || has_repeated [] t

-- a silent statement becomes empty, and so does one that does nothing as a branch or a body
abbrev pub empty : Names → Seen → Tree → Option Tree
empty names c x = emptied (facts_of names c) c.place x

-- a declaration of a name that nothing uses becomes a statement of its value
abbrev pub state : Names → Seen → Tree → Option Tree
state names c x = stated (facts_of names c) c.place x

-- of an import, the names leave that nobody uses
abbrev pub prune : Names → Seen → Tree → Option Tree
prune names c x = pruned (facts_of names c) (where_of c.place) x

-- of a module, imports come together
abbrev pub merge : Names → Seen → Tree → Option Tree
merge names c x = come_together (facts_of names c) c.place x

-- and one that only feeds an export becomes an export from its module
abbrev pub pass : Names → Seen → Tree → Option Tree
pass names c x = pass_on (facts_of names c) c.place x
