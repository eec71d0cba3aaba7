-- Statements `if` of which the test is known, and `try` around nothing.
use Rattle.std.specs.Prelude.{◌⊎◌, Bool, true, false, ◌&&◌, Option, None, Some, if◌then◌else◌}
use Rattle.js_syntax.specs.declared.node_kind.NodeKind.{NodeKind as Kind}
use Rattle.js_syntax.specs.declared.node_kind.NodeKind.TheVariants.{IfStatement as if_statement, EmptyStatement as empty_statement, BlockStatement as block_statement, TryStatement as try_statement}
use Rattle.js_syntax.specs.Node.{Forest, Tree, Note, nothing, node, absent}
use Rattle.min_traverse.specs.Lawful.{Rule}
use Rattle.steps.specs.Allowed.Branches.{is_branch, declares_none, declares_no_name}
use Rattle.steps.specs.Allowed.EmptyBlock.{idles}
use Rattle.steps.specs.Allowed.IdleTry.{has_no_loop, IdleTry}
use Rattle.steps.specs.Allowed.KnownIf.{KnownIf}
use Rattle.steps.specs.Allowed.DeadIf.{DeadIf}
use Rattle.steps.specs.Allowed.KnownConditional.{truth_known}
use Rattle.rules.specs.Expressions.Lists.{new_note}

-- by which edit
abbrev pub IfEdit : (x y : Tree) → Type 0
IfEdit x y = KnownIf x y ⊎ (DeadIf x y ⊎ IdleTry x y)

-- one field, or none in its place
abbrev pub is_field : Forest → Bool
is_field (absent nothing) = true
is_field (node k n b nothing) = true
is_field t = false

abbrev pub given_if : Bool → Tree → Option Tree
given_if b x = if b then Some x else None

-- the consequent may take the place of the whole, and the alternate may leave
abbrev pub consequent_runs : Kind → (alternate : Forest) → Bool
consequent_runs k alternate = is_branch k && (is_field alternate && declares_none alternate)

-- and the other way round
abbrev pub alternate_runs : Kind → (consequent : Forest) → Bool
alternate_runs l consequent = is_branch l && declares_none consequent

-- what runs, if it is known which branch that is, or an empty statement where there is none
abbrev pub what_runs : (note : Note) → (truth : Option Bool) → (branches : Forest) → Option Tree
what_runs n (Some true) (node k i b alternate) = given_if (consequent_runs k alternate) (record { kind = k; note = i; below = b })
what_runs n (Some false) (node k i b (node l j c nothing)) = given_if (alternate_runs l (node k i b nothing)) (record { kind = l; note = j; below = c })
what_runs n (Some false) (node k i b (absent nothing)) = given_if (declares_none (node k i b nothing)) (record { kind = empty_statement; note = new_note n; below = nothing })
what_runs n truth branches = None

-- what runs of a `try` around nothing: its finalizer, or its block where it has none
abbrev pub try_runs : (note : Note) (block : Forest) → (rest : Forest) → Option Tree
try_runs i b (absent (node block_statement j c nothing)) = given_if (idles b && has_no_loop c) (record { kind = block_statement; note = j; below = c })
try_runs i b (node k h d (node block_statement j c nothing)) = given_if (idles b && (declares_no_name k d && has_no_loop c)) (record { kind = block_statement; note = j; below = c })
try_runs i b (node k h d (absent nothing)) = given_if (idles b && declares_no_name k d) (record { kind = block_statement; note = i; below = b })
try_runs i b rest = None

abbrev pub try_becomes : (below : Forest) → Option Tree
try_becomes (node block_statement i b rest) = try_runs i b rest
try_becomes below = None

abbrev pub if_becomes : (note : Note) → Kind → (below : Forest) → Option Tree
if_becomes n if_statement (node t m a branches) = what_runs n (truth_known t m a) branches
if_becomes n try_statement below = try_becomes below
if_becomes n k below = None

-- ---- as a rule of a walk

abbrev pub fold_if : Rule
fold_if c x = if_becomes x.note x.kind x.below
