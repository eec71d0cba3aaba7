-- What is left of an `if` of which the test is known, where in the branch that isn't taken statements declare names by `var`: of each that
-- stands in a list and declares no other name around it, a declaration of these names.
use Rattle.std.specs.Prelude.{Bool, true, false, ◌&&◌, ◌||◌, Option, None, Some, map, if◌then◌else◌}
use Rattle.js_syntax.specs.declared.node_kind.NodeKind.{NodeKind as Kind}
use Rattle.js_syntax.specs.declared.node_kind.NodeKind.TheVariants.{IfStatement as if_statement}
use Rattle.js_syntax.specs.Node.{Forest, Tree, Note, nothing, node, absent, alone}
use Rattle.kept_names.specs.Kept.{kept, declarator_of, declaration_of}
use Rattle.min_traverse.specs.Lawful.{Rule, or_else}
use Rattle.scope_laws.specs.Place.{placed}
use Rattle.steps.specs.Allowed.Branches.{declares_no_name}
use Rattle.steps.specs.Allowed.KnownIf.{an_if}
use Rattle.steps.specs.Allowed.Untaken.{truth_given, runs_inside}
use Rattle.steps.specs.KeepForm.Part.{leaves_names_of}
use Rattle.steps.specs.VarNames.Declared.{without_vars}
use Rattle.steps.specs.VarNames.Plain.{vars_bind_names}
use Rattle.steps.specs.VarNames.Has.{has_vars}
use Rattle.rules.specs.Expressions.EmptyIfs.{test_left}
use Rattle.rules.specs.Expressions.EmptyAlternates.{is_last, alternate_left}
use Rattle.rules.specs.Expressions.Ifs.{given_if, if_becomes}
use Rattle.rules.specs.Expressions.Untaken.{is_list, if_left}

-- ---- one statement

-- whether a declaration of its names may stand for a node of a row; `listed` says whether the row is a list of statements
abbrev pub leaves_names : (listed : Bool) → Kind → (below : Forest) → Bool
leaves_names listed k below = listed && (leaves_names_of k && (has_vars below && (vars_bind_names below && declares_no_name k (without_vars below))))

abbrev pub names_of : Kind → Note → (below : Forest) → Option Tree
names_of k n below = declaration_of (map declarator_of (kept (alone k n below)))

-- ---- rows

-- a row with declarations in the place of such nodes, there and further in
abbrev pub with_names : (listed : Bool) → Forest → Forest
with_names listed nothing = nothing
with_names listed (absent rest) = absent (with_names listed rest)
with_names listed (node k n below rest) = if leaves_names listed k below then placed (names_of k n below) (with_names listed rest) else node k n (if runs_inside k then with_names (is_list k) below else below) (with_names listed rest)

-- whether there is one
abbrev pub row_leaves : (listed : Bool) → Forest → Bool
row_leaves listed nothing = false
row_leaves listed (absent rest) = row_leaves listed rest
row_leaves listed (node k n below rest) = leaves_names listed k below || ((runs_inside k && row_leaves (is_list k) below) || row_leaves listed rest)

-- of a branch
abbrev pub branch_named : Kind → (below : Forest) → Forest
branch_named k below = if runs_inside k then with_names (is_list k) below else below

abbrev pub branch_leaves : Kind → (below : Forest) → Bool
branch_leaves k below = runs_inside k && row_leaves (is_list k) below

-- by the test, and whether that is true
abbrev pub what_is_named : (n : Note) → Kind → (m : Note) → (d : Forest) → (truth : Option Bool) → (branches : Forest) → Option Tree
what_is_named n t m d (Some false) (node k i b alternate) = given_if (branch_leaves k b) (an_if n t m d (node k i (branch_named k b) alternate))
what_is_named n t m d (Some true) (node k i b (node l j c rest)) = given_if (branch_leaves l c) (an_if n t m d (node k i b (node l j (branch_named l c) rest)))
what_is_named n t m d truth branches = None

abbrev pub if_named : (note : Note) → Kind → (below : Forest) → Option Tree
if_named n if_statement (node t m d branches) = what_is_named n t m d (truth_given t m d) branches
if_named n k below = None

-- ---- as a rule of a walk

abbrev pub name_if : Rule
name_if c x = if_named x.note x.kind x.below

-- an `if` comes to a branch, or to its test, or it loses its alternate; or else its branch that isn't taken loses what goes, or names alone are
-- left of what stands in it
abbrev pub if_ends : (last : Bool) (note : Note) → Kind → (below : Forest) → Option Tree
if_ends last n k below = or_else (or_else (or_else (or_else (if_becomes n k below) (test_left n k below)) (alternate_left last n k below)) (if_left n k below)) (if_named n k below)

abbrev pub at_if_end : Rule
at_if_end c x = if_ends (is_last c.place) x.note x.kind x.below
