-- What marking does to what a pass noted.
use Rattle.std.specs.Prelude.{◌≡◌, ℕ, ◌<◌, length, ◌||◌, nat_lt}
use Rattle.symbol_sets.specs.Numbers.{has}
use Rattle.min_symbols.specs.Changes.{Changes}

-- so many references with an id left, and so many direct calls of `eval`
pub record Left (m : Changes) (gone : ℕ → ℕ) (calls : ℕ) (n : Changes) : Type 0 where
  pub room : length n.marked ≡ length m.marked
  pub marks : (r : ℕ) → r < length m.marked → has n.marked r ≡ (has m.marked r || nat_lt 0 (gone r))
  pub evals : n.eval_dropped ≡ (m.eval_dropped || nat_lt 0 calls)
  pub same : n.requested ≡ m.requested
