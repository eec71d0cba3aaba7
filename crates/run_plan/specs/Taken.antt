-- Frames of which the nearest was taken away.
use Rattle.std.specs.Prelude.{List, [], ◌∷◌, ◌++◌, Option, Some, None}
use Rattle.run_plan.specs.declared.frame.Frame.{Frame}

-- those that there were: the others, and the one that was taken; without one there were none
abbrev pub taken : List Frame → Option Frame → List Frame
taken fs None = []
taken fs (Some f) = fs ++ f ∷ []
