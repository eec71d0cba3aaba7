-- What calls that edit do to the context.
use Rattle.std.specs.Prelude.{◌≡◌, ℕ, ◌+◌, ◌<◌, length, ◌||◌, cond, nat_lt, is_some, Bool, true, false}
use Rattle.js_syntax.specs.Node.{Forest, Tree, nothing, node, absent, forest_of}
use Rattle.js_tree.specs.Names.{eval_of_call}
use Rattle.scope_counts.specs.Counts.{ids}
use Rattle.symbol_sets.specs.Numbers.{has}
use Rattle.min_context.specs.Seen.{Seen}

-- how many direct calls of `eval` stand in a row (ECMA-262 19.2.1.1)
abbrev pub evals : Forest → ℕ
evals nothing = 0
evals (absent rest) = evals rest
evals (node k n below rest) = cond (is_some (eval_of_call k below)) 1 0 + evals below + evals rest

-- each reference that stands there can be marked
abbrev pub Markable : Seen → Forest → Type 0
Markable c t = (r : ℕ) → 0 < ids r t → r < length c.marked

-- so many references with an id left, and so many direct calls of `eval`; all else is the same
pub record Leaves (c : Seen) (gone : ℕ → ℕ) (calls : ℕ) (d : Seen) : Type 0 where
  pub same : d ≡ record c { marked = d.marked; eval_dropped = d.eval_dropped }
  pub room : length d.marked ≡ length c.marked
  pub marks : (r : ℕ) → r < length c.marked → has d.marked r ≡ (has c.marked r || nat_lt 0 (gone r))
  pub evals : d.eval_dropped ≡ (c.eval_dropped || nat_lt 0 calls)

-- the node x became y, another pass was asked for or not, and all else is the same
pub record Edited (c : Seen) (x y : Tree) (asks : Bool) (d : Seen) : Type 0 where
  pub same : d ≡ record c { marked = d.marked; eval_dropped = d.eval_dropped; requested = d.requested }
  pub room : length d.marked ≡ length c.marked
  pub marks : (r : ℕ) → r < length c.marked → has d.marked r ≡ (has c.marked r || nat_lt (ids r (forest_of y)) (ids r (forest_of x)))
  pub evals : d.eval_dropped ≡ (c.eval_dropped || nat_lt (evals (forest_of y)) (evals (forest_of x)))
  pub asked : d.requested ≡ (c.requested || asks)
  -- a call that asks for nothing did nothing
  pub none : asks ≡ false → d ≡ c

-- The same, and another pass is asked for.
pub record Dropped (c : Seen) (gone : ℕ → ℕ) (calls : ℕ) (d : Seen) : Type 0 where
  pub same : d ≡ record c { marked = d.marked; eval_dropped = d.eval_dropped; requested = true }
  pub room : length d.marked ≡ length c.marked
  pub marks : (r : ℕ) → r < length c.marked → has d.marked r ≡ (has c.marked r || nat_lt 0 (gone r))
  pub evals : d.eval_dropped ≡ (c.eval_dropped || nat_lt 0 calls)

-- a node and all below it left
abbrev pub DropsNode : Seen → Tree → Seen → Type 0
DropsNode c x d = Dropped c (λ r. ids r (forest_of x)) (evals (forest_of x)) d
