-- The items of a list one by one: what stands behind a jump, and what comes in its place.
use Rattle.std.specs.Prelude.{Bool, ◌||◌, Option, Some, None, if◌then◌else◌}
use Rattle.js_syntax.specs.declared.node_kind.NodeKind.TheVariants.{EmptyStatement as empty_statement}
use Rattle.js_syntax.specs.Node.{Tree, nothing}
use Rattle.js_meaning_near.specs.Near.{cuts_off}
use Rattle.rules.specs.Expressions.Lists.{new_note}
use Rattle.rules.specs.Expressions.Jumps.{is_inert}

-- whether a jump stands before what comes next
abbrev pub jumped_behind : (jumped : Bool) → Option Tree → Bool
jumped_behind jumped None = jumped
jumped_behind jumped (Some x) = jumped || cuts_off x.kind x.below

abbrev pub empty_if_inert : (jumped : Bool) → Option Tree → Option Tree
empty_if_inert jumped None = None
empty_if_inert jumped (Some x) = Some (if is_inert jumped x.kind x.below then record { kind = empty_statement; note = new_note x.note; below = nothing } else x)
