-- What is left of a list of statements in which something never runs, for it stands behind a jump, or behind what cuts off as one does, or
-- does nothing whatever it holds.
use Rattle.std.specs.Prelude.{Bool, false, ◌&&◌, ◌||◌, Option, None, Some, if◌then◌else◌}
use Rattle.js_syntax.specs.declared.node_kind.NodeKind.{NodeKind as Kind}
use Rattle.js_syntax.specs.declared.node_kind.NodeKind.TheVariants.{Statements as statements, EmptyStatement as empty_statement}
use Rattle.js_syntax.specs.Node.{Forest, Tree, Note, nothing, node, absent}
use Rattle.js_meaning_near.specs.Near.{cuts_off}
use Rattle.min_traverse.specs.Lawful.{Rule}
use Rattle.steps.specs.Allowed.Branches.{declares_no_name}
use Rattle.steps.specs.Allowed.IdleStatement.{does_nothing}
use Rattle.steps.specs.Allowed.Unreached.{only_runs}
use Rattle.rules.specs.Expressions.Lists.{new_note}

-- an item; `jumped` says whether what cuts off stands before it
abbrev pub is_inert : (jumped : Bool) → Kind → (below : Forest) → Bool
is_inert jumped k below = (jumped || does_nothing k below) && (only_runs k && declares_no_name k below)

-- the items that stay
abbrev pub reached : (jumped : Bool) → Forest → Forest
reached jumped nothing = nothing
reached jumped (absent rest) = absent (reached jumped rest)
reached jumped (node k n below rest) = if is_inert jumped k below then reached jumped rest else node k n below (reached (jumped || cuts_off k below) rest)

-- the same, with an empty statement for each of the others, which then leaves the list as any does
abbrev pub emptied_behind : (jumped : Bool) → Forest → Forest
emptied_behind jumped nothing = nothing
emptied_behind jumped (absent rest) = absent (emptied_behind jumped rest)
emptied_behind jumped (node k n below rest) =
    if is_inert jumped k below then node empty_statement (new_note n) nothing (emptied_behind jumped rest) else node k n below (emptied_behind (jumped || cuts_off k below) rest)

-- whether one goes
abbrev pub has_inert : (jumped : Bool) → Forest → Bool
has_inert jumped nothing = false
has_inert jumped (absent rest) = has_inert jumped rest
has_inert jumped (node k n below rest) = is_inert jumped k below || has_inert (jumped || cuts_off k below) rest

abbrev pub left_if : Bool → Note → (below : Forest) → Option Tree
left_if goes n below = if goes then Some (record { kind = statements; note = n; below = reached false below }) else None

abbrev pub list_reached : Note → Kind → (below : Forest) → Option Tree
list_reached n statements below = left_if (has_inert false below) n below
list_reached n k below = None

-- ---- as a rule of a walk

abbrev pub cut_list : Rule
cut_list c x = list_reached x.note x.kind x.below
