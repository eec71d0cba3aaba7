-- Which branch of an `if`, or which block of a `try`, takes its place, by its index, or that the `if` becomes empty.
use Rattle.std.specs.Prelude.{ℕ, Bool, true, false, ◌&&◌, Option, Some, None, if◌then◌else◌}
use Rattle.js_syntax.specs.declared.node_kind.NodeKind.{NodeKind as Kind}
use Rattle.js_syntax.specs.declared.node_kind.NodeKind.TheVariants.{BlockStatement as block_statement, IfStatement as if_statement, TryStatement as try_statement}
use Rattle.js_syntax.specs.Node.{Forest, Tree, nothing, node, absent}
use Rattle.steps.specs.Allowed.Branches as branches
use Rattle.steps.specs.Allowed.Branches.{is_branch}
use Rattle.steps.specs.Allowed.EmptyBlock.{idles}
use Rattle.steps.specs.Allowed.IdleTry.{has_no_loop}
use Rattle.steps.specs.Allowed.KnownConditional.{truth_known}
use Rattle.min_statements.specs.declared.ifs.Branches.{Branches as Answer}
use Rattle.min_statements.specs.declared.ifs.Branches.TheVariants as answer

-- ---- the test, and two branches, or one; of a `try`, the block, and a handler and a finalizer, or a handler, or a finalizer

pub data Branches : Type 0 where
  both : (test consequent alternate : Tree) → Branches
  one : (test consequent : Tree) → Branches
  last : (block finalizer : Tree) → Branches
  others : Branches

abbrev pub branches_of : Forest → Branches
branches_of (node t n a (node k m b (node l i c nothing))) = both (record { kind = t; note = n; below = a }) (record { kind = k; note = m; below = b }) (record { kind = l; note = i; below = c })
branches_of (node t n a (node k m b (absent nothing))) = one (record { kind = t; note = n; below = a }) (record { kind = k; note = m; below = b })
branches_of (node k n a (absent (node l m b nothing))) = last (record { kind = k; note = n; below = a }) (record { kind = l; note = m; below = b })
branches_of parts = others

-- as code says it
abbrev pub told_branches : Answer → Branches
told_branches (answer.Both a b c) = both a.now b.now c.now
told_branches (answer.One a b) = one a.now b.now
told_branches (answer.Last a b) = last a.now b.now
told_branches answer.Others = others

-- ---- which of them

abbrev pub declares_no_name : Tree → Bool
declares_no_name x = branches.declares_no_name x.kind x.below

abbrev pub index_if : Bool → Option ℕ → Option (Option ℕ)
index_if b i = if b then Some i else None

abbrev pub one_of_two : (truth : Option Bool) → (consequent alternate : Tree) → Option (Option ℕ)
one_of_two None x y = None
one_of_two (Some true) x y = index_if (is_branch x.kind && declares_no_name y) (Some 1)
one_of_two (Some false) x y = index_if (is_branch y.kind && declares_no_name x) (Some 2)

-- or none
abbrev pub one_or_none : (truth : Option Bool) → (consequent : Tree) → Option (Option ℕ)
one_or_none None x = None
one_or_none (Some true) x = index_if (is_branch x.kind) (Some 1)
one_or_none (Some false) x = index_if (declares_no_name x) None

abbrev pub branch_of : Branches → Option (Option ℕ)
branch_of (both t x y) = one_of_two (truth_known t.kind t.note t.below) x y
branch_of (one t x) = one_or_none (truth_known t.kind t.note t.below) x
branch_of (last x y) = None
branch_of others = None

abbrev pub is_block : Kind → Bool
is_block block_statement = true
is_block k = false

abbrev pub are_blocks : (x y : Tree) → Bool
are_blocks x y = is_block x.kind && is_block y.kind

abbrev pub try_of : Branches → Option (Option ℕ)
try_of (both b h f) = index_if (are_blocks b f && (idles b.below && (declares_no_name h && has_no_loop f.below))) (Some 2)
try_of (one b h) = index_if (is_block b.kind && (idles b.below && declares_no_name h)) (Some 0)
try_of (last b f) = index_if (are_blocks b f && (idles b.below && has_no_loop f.below)) (Some 2)
try_of others = None

abbrev pub branch_at : Kind → (parts : Forest) → Option (Option ℕ)
branch_at if_statement parts = branch_of (branches_of parts)
branch_at try_statement parts = try_of (branches_of parts)
branch_at k parts = None
