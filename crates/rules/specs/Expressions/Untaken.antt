-- What is left of an `if` of which the test is known, where the branch that isn't taken has to stay for the names that it declares: of
-- that, what declares no name around it leaves its lists, and the values of its declarations become zeros.
use Rattle.std.specs.Prelude.{Bool, true, false, ◌&&◌, ◌||◌, Option, None, Some, if◌then◌else◌}
use Rattle.js_syntax.specs.declared.node_kind.NodeKind.{NodeKind as Kind}
use Rattle.js_syntax.specs.declared.node_kind.NodeKind.TheVariants.{Statements as statements, IfStatement as if_statement, VariableDeclarator as variable_declarator}
use Rattle.js_syntax.specs.Node.{Forest, Tree, Note, nothing, node, absent}
use Rattle.min_traverse.specs.Lawful.{Rule}
use Rattle.steps.specs.Allowed.Branches.{declares_no_name}
use Rattle.steps.specs.Allowed.KnownIf.{an_if}
use Rattle.steps.specs.Allowed.Unreached.{only_runs}
use Rattle.steps.specs.Allowed.Untaken.{truth_given, runs_inside}
use Rattle.steps.specs.Allowed.UnrunValue.{passes, may_be_dropped, a_zero}
use Rattle.rules.specs.Expressions.Lists.{new_note}
use Rattle.rules.specs.Expressions.Ifs.{given_if}

abbrev pub is_list : Kind → Bool
is_list statements = true
is_list k = false

-- whether a node of a row goes, where it never runs; `listed` says whether the row is a list of statements
abbrev pub may_go : (listed : Bool) → Kind → (below : Forest) → Bool
may_go listed k below = listed && (only_runs k && declares_no_name k below)

-- ---- the values of declarations

abbrev pub is_declarator : Kind → Bool
is_declarator variable_declarator = true
is_declarator k = false

abbrev pub zero_for : Note → Tree
zero_for n = a_zero (new_note n)

-- below a declarator, with a zero for what stands behind the name
abbrev pub value_left : Forest → Forest
value_left (node k n b (node l m c rest)) = node k n b (if may_be_dropped l then node (zero_for m).kind (zero_for m).note nothing rest else node l m c rest)
value_left t = t

abbrev pub value_drops : Forest → Bool
value_drops (node k n b (node l m c rest)) = may_be_dropped l
value_drops t = false

-- below a node that may stand around such a value; `values` is what is left there without those further in
abbrev pub values_of : Kind → (below values : Forest) → Forest
values_of k below values = if passes k then (if is_declarator k then value_left values else values) else below

abbrev pub values_rid : Forest → Forest
values_rid nothing = nothing
values_rid (absent rest) = absent (values_rid rest)
values_rid (node k n below rest) = node k n (values_of k below (values_rid below)) (values_rid rest)

abbrev pub drops_of : Kind → (below : Forest) → (inner : Bool) → Bool
drops_of k below inner = passes k && (inner || is_declarator k && value_drops below)

abbrev pub values_drop : Forest → Bool
values_drop nothing = false
values_drop (absent rest) = values_drop rest
values_drop (node k n below rest) = drops_of k below (values_drop below) || values_drop rest

-- ---- and what goes

-- a row without what goes, there and further in
abbrev pub rid : (listed : Bool) → Forest → Forest
rid listed nothing = nothing
rid listed (absent rest) = absent (rid listed rest)
rid listed (node k n below rest) = if may_go listed k below then rid listed rest else node k n (if runs_inside k then rid (is_list k) below else values_of k below (values_rid below)) (rid listed rest)

-- whether something goes
abbrev pub row_loses : (listed : Bool) → Forest → Bool
row_loses listed nothing = false
row_loses listed (absent rest) = row_loses listed rest
row_loses listed (node k n below rest) = may_go listed k below || ((if runs_inside k then row_loses (is_list k) below else drops_of k below (values_drop below)) || row_loses listed rest)

-- of a branch
abbrev pub branch_left : Kind → (below : Forest) → Forest
branch_left k below = if runs_inside k then rid (is_list k) below else values_of k below (values_rid below)

abbrev pub branch_loses : Kind → (below : Forest) → Bool
branch_loses k below = if runs_inside k then row_loses (is_list k) below else drops_of k below (values_drop below)

-- by its test, and whether that is true
abbrev pub what_stays : (n : Note) → Kind → (m : Note) → (d : Forest) → (truth : Option Bool) → (branches : Forest) → Option Tree
what_stays n t m d (Some false) (node k i b alternate) = given_if (branch_loses k b) (an_if n t m d (node k i (branch_left k b) alternate))
what_stays n t m d (Some true) (node k i b (node l j c rest)) = given_if (branch_loses l c) (an_if n t m d (node k i b (node l j (branch_left l c) rest)))
what_stays n t m d truth branches = None

abbrev pub if_left : (note : Note) → Kind → (below : Forest) → Option Tree
if_left n if_statement (node t m d branches) = what_stays n t m d (truth_given t m d) branches
if_left n k below = None

-- ---- as a rule of a walk

abbrev pub rid_if : Rule
rid_if c x = if_left x.note x.kind x.below
