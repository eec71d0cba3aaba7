-- What a pass did, as contracts see it.
use Rattle.std.specs.Prelude.{Bool, List}

pub record Changes : Type 0 where
  -- for each reference that there was at the start, whether it left
  pub marked : List Bool
  -- whether a direct call of `eval` left
  pub eval_dropped : Bool
  -- whether another pass is asked for
  pub requested : Bool
