-- Laws of frames that stand one above the other.
use Rattle.std.specs.Prelude.{◌≡◌, List, [], ◌∷◌, ◌++◌}
use Rattle.js_meaning.specs.Trace.{Ending}
use Rattle.js_meaning.specs.State.{M, Completion, bind, done, stop}
use Rattle.js_meaning.specs.Host.{Enter}
use Rattle.run_world.specs.declared.world.World.{World}
use Rattle.run_world.specs.World.{at}
use Rattle.run_plan.specs.declared.frame.Frame.{Frame}
use Rattle.run_plan.specs.Frame.{applies, onto}

-- frames put onto others
abbrev pub Pushes : Type 0
Pushes = (E : Enter) (fs gs : List Frame) (m : M) → onto E (fs ++ gs) m ≡ onto E fs (onto E gs m)

-- the nearest frame takes the completion that is there
abbrev pub Pops : Type 0
Pops = (E : Enter) (fs : List Frame) (f : Frame) (c : Completion) → onto E (fs ++ f ∷ []) (done c) ≡ onto E fs (applies E f c)

-- a run that stops is not resumed
abbrev pub Stops : Type 0
Stops = (E : Enter) (fs : List Frame) (e : Ending) → onto E fs (stop e) ≡ stop e

-- what does the same in two worlds does the same there whatever follows
abbrev pub GoesOn : Type 0
GoesOn = (v w : World) (m n : M) (k : Completion → M) → at v m ≡ at w n → at v (bind m k) ≡ at w (bind n k)

abbrev pub GoesOnUnder : Type 0
GoesOnUnder = (v w : World) (E : Enter) (fs : List Frame) (m n : M) → at v m ≡ at w n → at v (onto E fs m) ≡ at w (onto E fs n)
