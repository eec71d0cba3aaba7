-- In a branch that isn't taken: which branch that is, by its index, where declarations of names may stand for statements, and what goes then.
use Rattle.std.specs.Prelude.{ℕ, zero, suc, ◌+◌, Bool, true, false, Option, Some, None, if◌then◌else◌}
use Rattle.js_syntax.specs.declared.node_kind.NodeKind.{NodeKind as Kind}
use Rattle.js_syntax.specs.declared.node_kind.NodeKind.TheVariants.{IfStatement as if_statement}
use Rattle.js_syntax.specs.Node.{Forest, Tree, nothing, node, absent, alone}
use Rattle.scope_laws.specs.Place.{placed}
use Rattle.min_expressions.specs.Kept.{kept_if}
use Rattle.rules.specs.Expressions.LeftNames.{leaves_names, names_of, branch_named, branch_leaves}
use Rattle.rules.specs.Expressions.Untaken.{is_list}
use Rattle.steps.specs.Allowed.Untaken.{truth_given, runs_inside}

-- ---- which branch

abbrev pub named_by_truth : (truth : Option Bool) → (branches : Forest) → Option ℕ
named_by_truth (Some false) (node k i b alternate) = kept_if (branch_leaves k b) 1
named_by_truth (Some true) (node k i b (node l j c rest)) = kept_if (branch_leaves l c) 2
named_by_truth truth branches = None

abbrev pub named_among : (parts : Forest) → Option ℕ
named_among (node t n a branches) = named_by_truth (truth_given t n a) branches
named_among parts = None

abbrev pub named_at : Kind → (parts : Forest) → Option ℕ
named_at if_statement parts = named_among parts
named_at k parts = None

-- ---- counted

-- `m` says what a row counts
module _ (m : Forest → ℕ) where
  abbrev pub row_gone : (listed : Bool) → Forest → ℕ
  row_gone listed nothing = 0
  row_gone listed (absent rest) = row_gone listed rest
  row_gone listed (node k n below rest) = (if leaves_names listed k below then m (alone k n below) else if runs_inside k then row_gone (is_list k) below else 0) + row_gone listed rest

  abbrev pub inside_gone : Kind → (below : Forest) → ℕ
  inside_gone k below = if runs_inside k then row_gone (is_list k) below else 0

  abbrev pub one_gone : (listed : Bool) → Tree → ℕ
  one_gone listed x = if leaves_names listed x.kind x.below then m (alone x.kind x.note x.below) else inside_gone x.kind x.below

  abbrev pub gone_of : Option Tree → ℕ
  gone_of None = 0
  gone_of (Some x) = inside_gone x.kind x.below

  -- of the child at a place
  abbrev pub gone_at : ℕ → Forest → ℕ
  gone_at at nothing = 0
  gone_at zero (absent rest) = 0
  gone_at zero (node k n below rest) = inside_gone k below
  gone_at (suc at) (absent rest) = gone_at at rest
  gone_at (suc at) (node k n below rest) = gone_at at rest

-- ---- what stands there then

abbrev pub item_leaves_names : (listed : Bool) → Option Tree → Bool
item_leaves_names listed None = false
item_leaves_names listed (Some x) = leaves_names listed x.kind x.below

abbrev pub names_of_item : Option Tree → Option Tree
names_of_item None = None
names_of_item (Some x) = names_of x.kind x.note x.below

abbrev pub named_item : (listed : Bool) → Option Tree → Option Tree
named_item listed None = None
named_item listed (Some x) = if leaves_names listed x.kind x.below then names_of x.kind x.note x.below else Some (record { kind = x.kind; note = x.note; below = branch_named x.kind x.below })

abbrev pub named_child : Option Tree → Option Tree
named_child None = None
named_child (Some x) = Some (record { kind = x.kind; note = x.note; below = branch_named x.kind x.below })

-- of the child at a place
abbrev pub named_of : ℕ → Forest → Option Tree
named_of at nothing = None
named_of zero (absent rest) = None
named_of zero (node k n below rest) = Some (record { kind = k; note = n; below = branch_named k below })
named_of (suc at) (absent rest) = named_of at rest
named_of (suc at) (node k n below rest) = named_of at rest

-- a child in the place of the one that stands there
abbrev pub put_there : ℕ → Option Tree → Forest → Forest
put_there at x nothing = nothing
put_there zero x (absent rest) = placed x rest
put_there zero x (node k n below rest) = placed x rest
put_there (suc at) x (absent rest) = absent (put_there at x rest)
put_there (suc at) x (node k n below rest) = node k n below (put_there at x rest)

abbrev pub named_there : ℕ → Forest → Forest
named_there at nothing = nothing
named_there zero (absent rest) = absent rest
named_there zero (node k n below rest) = node k n (branch_named k below) rest
named_there (suc at) (absent rest) = absent (named_there at rest)
named_there (suc at) (node k n below rest) = node k n below (named_there at rest)
