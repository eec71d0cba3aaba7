-- Lists without their empty statements.
use Rattle.std.proofs.Common.{◌≡◌, ◌+◌, ◌≤◌, ◌||◌, ◌==◌, ℕ, List, [], ◌∷◌, Bool, true, false, not, cond, Option, Some, None, length, if◌then◌else◌, refl, sym, ap, arith}
use Rattle.std.specs.Prelude.{filter}
use Rattle.js_syntax.specs.declared.node_kind.NodeKind.{NodeKind as Kind}
use Rattle.js_syntax.specs.declared.node_kind.NodeKind.TheVariants.{EmptyStatement as empty_statement}
use Rattle.js_syntax.specs.Facts.{weight}
use Rattle.js_syntax.specs.Node.{Forest, Tree, Note, nothing, node, absent, row, total}
use Rattle.js_syntax.proofs.Truth.{or_false}
use Rattle.js_tree.proofs.Search.{AsksEach}
use Rattle.scope_counts.specs.Counts.{ids}
use Rattle.min_context.specs.Edited.{evals}
use Rattle.test_traverse.specs.Bodies.{is_empty, is_empty_place, has_empty, without_empty}

-- ---- one node after another, as code sees them

pub empty_row : (k : Kind) (ts : List (Option Tree)) → k ≡ empty_statement → is_empty k (row ts) ≡ (length ts == 0)
empty_row k [] e = rw e refl
empty_row k (None ∷ ts) e = rw e (Prim.grind arith)
empty_row k (Some t ∷ ts) e = rw e (Prim.grind arith)

pub empty_each : AsksEach has_empty
empty_each None ts = refl
empty_each (Some t) ts = ap (λ (b : Bool). b || has_empty (row ts)) (sym (or_false (is_empty t.kind t.below)))

pub empty_one : (x : Option Tree) → has_empty (row (x ∷ [])) ≡ is_empty_place x
empty_one None = refl
empty_one (Some t) = or_false (is_empty t.kind t.below)

one_kept : (b : Bool) (t : Tree) (ts : List (Option Tree)) (r : Forest) → row ts ≡ r → row (cond (not b) (Some t ∷ ts) ts) ≡ (if b then r else node t.kind t.note t.below r)
one_kept true t ts r e = e
one_kept false t ts r e = ap (node t.kind t.note t.below) e

pub others_kept : (ts : List (Option Tree)) → row (filter (λ x. not (is_empty_place x)) ts) ≡ without_empty (row ts)
others_kept [] = refl
others_kept (None ∷ ts) = ap absent (others_kept ts)
others_kept (Some t ∷ ts) = one_kept (is_empty t.kind t.below) t (filter (λ x. not (is_empty_place x)) ts) (without_empty (row ts)) (others_kept ts)

-- ---- a node is an empty statement, or it stays

pub data View : Kind → Forest → Type 0 where
  empty : View empty_statement nothing
  another : {k : Kind} {below : Forest} → is_empty k below ≡ false → View k below

pub view : (k : Kind) (below : Forest) → View k below
view empty_statement nothing = empty
view k below = another refl

-- ---- counts of what is left

ids_node : (r : ℕ) (k : Kind) (n : Note) (below rest : Forest) → View k below → ids r (without_empty rest) ≡ ids r rest → ids r (without_empty (node k n below rest)) ≡ ids r (node k n below rest)
ids_node r empty_statement n nothing rest empty h = Prim.omega (arith, h)
ids_node r k n below rest (another e) h = rw e (Prim.omega (arith, h))

-- no reference leaves
pub ids_stay : (r : ℕ) (t : Forest) → ids r (without_empty t) ≡ ids r t
ids_stay r nothing = refl
ids_stay r (absent rest) = ids_stay r rest
ids_stay r (node k n below rest) = ids_node r k n below rest (view k below) (ids_stay r rest)

evals_node : (k : Kind) (n : Note) (below rest : Forest) → View k below → evals (without_empty rest) ≡ evals rest → evals (without_empty (node k n below rest)) ≡ evals (node k n below rest)
evals_node empty_statement n nothing rest empty h = Prim.omega (arith, h)
evals_node k n below rest (another e) h = rw e (Prim.omega (arith, h))

-- and no call of `eval`
pub evals_stay : (t : Forest) → evals (without_empty t) ≡ evals t
evals_stay nothing = refl
evals_stay (absent rest) = evals_stay rest
evals_stay (node k n below rest) = evals_node k n below rest (view k below) (evals_stay rest)

lighter_node : (k : Kind) (n : Note) (below rest : Forest) → View k below → total weight (without_empty rest) + cond (has_empty rest) 1 0 ≤ total weight rest
    → total weight (without_empty (node k n below rest)) + cond (has_empty (node k n below rest)) 1 0 ≤ total weight (node k n below rest)
lighter_node empty_statement n nothing rest empty h = Prim.omega (arith, h)
lighter_node k n below rest (another e) h = rw e (Prim.omega (arith, h))

-- a list is lighter without them
pub lighter : (t : Forest) → total weight (without_empty t) + cond (has_empty t) 1 0 ≤ total weight t
lighter nothing = Prim.omega arith
lighter (absent rest) = lighter rest
lighter (node k n below rest) = lighter_node k n below rest (view k below) (lighter rest)
