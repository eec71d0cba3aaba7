-- A source in memory that never fails, as its callers see it.
use Rattle.std.specs.Prelude.{ℕ, List, []}
use Rattle.shake_streams.specs.Past.{Past}

-- the bytes still to come, and what the pulls have given
pub record SureState : Type 0 where
  pub left : List ℕ
  pub given : Past

abbrev pub new_sure : List ℕ → SureState
new_sure bytes = record { left = bytes; given = [] }
