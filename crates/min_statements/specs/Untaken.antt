-- In a branch that isn't taken: which branch that is, by its index, and what goes of it, counted and let go.
use Rattle.std.specs.Prelude.{ℕ, zero, suc, ◌+◌, Bool, true, false, Option, Some, None, if◌then◌else◌}
use Rattle.js_syntax.specs.declared.node_kind.NodeKind.{NodeKind as Kind}
use Rattle.js_syntax.specs.declared.node_kind.NodeKind.TheVariants.{IfStatement as if_statement}
use Rattle.js_syntax.specs.Node.{Forest, Tree, nothing, node, absent, alone}
use Rattle.min_expressions.specs.Kept.{kept_if}
use Rattle.rules.specs.Expressions.Untaken.{is_list, may_go, is_declarator, zero_for, value_left, values_of, values_rid, branch_left, branch_loses}
use Rattle.steps.specs.Allowed.Untaken.{truth_given, runs_inside}
use Rattle.steps.specs.Allowed.UnrunValue.{passes, may_be_dropped}

-- ---- which branch

abbrev pub by_truth : (truth : Option Bool) → (branches : Forest) → Option ℕ
by_truth (Some false) (node k i b alternate) = kept_if (branch_loses k b) 1
by_truth (Some true) (node k i b (node l j c rest)) = kept_if (branch_loses l c) 2
by_truth truth branches = None

abbrev pub among : (parts : Forest) → Option ℕ
among (node t n a branches) = by_truth (truth_given t n a) branches
among parts = None

abbrev pub untaken_at : Kind → (parts : Forest) → Option ℕ
untaken_at if_statement parts = among parts
untaken_at k parts = None

-- ---- counted

-- `m` says what a row counts
module _ (m : Forest → ℕ) where
  -- the value of a declarator
  abbrev pub value_shed : Forest → ℕ
  value_shed (node k n b (node l o c rest)) = if may_be_dropped l then m (alone l o c) else 0
  value_shed t = 0

  abbrev pub declarator_shed : Kind → (below : Forest) → ℕ
  declarator_shed k below = if is_declarator k then value_shed below else 0

  abbrev pub values_shed_of : Kind → (below : Forest) → (inner : ℕ) → ℕ
  values_shed_of k below inner = if passes k then inner + declarator_shed k below else 0

  abbrev pub values_shed : Forest → ℕ
  values_shed nothing = 0
  values_shed (absent rest) = values_shed rest
  values_shed (node k n below rest) = values_shed_of k below (values_shed below) + values_shed rest

  abbrev pub row_shed : (listed : Bool) → Forest → ℕ
  row_shed listed nothing = 0
  row_shed listed (absent rest) = row_shed listed rest
  row_shed listed (node k n below rest) = (if may_go listed k below then m (alone k n below) else if runs_inside k then row_shed (is_list k) below else values_shed_of k below (values_shed below)) + row_shed listed rest

  abbrev pub inside_shed : Kind → (below : Forest) → ℕ
  inside_shed k below = if runs_inside k then row_shed (is_list k) below else values_shed_of k below (values_shed below)

  abbrev pub one_shed : (listed : Bool) → Tree → ℕ
  one_shed listed x = if may_go listed x.kind x.below then m (alone x.kind x.note x.below) else inside_shed x.kind x.below

  abbrev pub shed_of : Option Tree → ℕ
  shed_of None = 0
  shed_of (Some x) = inside_shed x.kind x.below

  -- of the child at a place
  abbrev pub shed_at : ℕ → Forest → ℕ
  shed_at at nothing = 0
  shed_at zero (absent rest) = 0
  shed_at zero (node k n below rest) = inside_shed k below
  shed_at (suc at) (absent rest) = shed_at at rest
  shed_at (suc at) (node k n below rest) = shed_at at rest

-- ---- let go

-- a declarator's row, if it is one, without its value
abbrev pub zero_row : (declarator : Bool) → Forest → Forest
zero_row declarator t = if declarator then value_left t else t

abbrev pub zero_one : Option Tree → Option Tree
zero_one None = None
zero_one (Some x) = Some (if may_be_dropped x.kind then zero_for x.note else x)

abbrev pub has_value : Forest → Bool
has_value (node k n b (node l m c rest)) = true
has_value t = false

abbrev pub values_one : Option Tree → Option Tree
values_one None = None
values_one (Some x) = Some (record { kind = x.kind; note = x.note; below = values_of x.kind x.below (values_rid x.below) })

abbrev pub goes_there : (listed : Bool) → Option Tree → Bool
goes_there listed None = false
goes_there listed (Some x) = may_go listed x.kind x.below

-- the row without those that go, and each without what goes in it
abbrev pub kept_of : (listed : Bool) → Forest → Forest
kept_of listed nothing = nothing
kept_of listed (absent rest) = absent (kept_of listed rest)
kept_of listed (node k n below rest) = if may_go listed k below then kept_of listed rest else node k n below (kept_of listed rest)

abbrev pub each_rid : Forest → Forest
each_rid nothing = nothing
each_rid (absent rest) = absent (each_rid rest)
each_rid (node k n below rest) = node k n (branch_left k below) (each_rid rest)

abbrev pub rid_one : Option Tree → Option Tree
rid_one None = None
rid_one (Some x) = Some (record { kind = x.kind; note = x.note; below = branch_left x.kind x.below })

abbrev pub rid_at : ℕ → Forest → Forest
rid_at at nothing = nothing
rid_at zero (absent rest) = absent rest
rid_at zero (node k n below rest) = node k n (branch_left k below) rest
rid_at (suc at) (absent rest) = absent (rid_at at rest)
rid_at (suc at) (node k n below rest) = node k n below (rid_at at rest)
