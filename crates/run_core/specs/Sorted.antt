-- What a frame is applied to, where the completion is of the sort that it takes; else how it goes on without it.
use Rattle.std.specs.Prelude.{List, Option, Some, None, Result, Ok, Err, Vec}
use Rattle.std.specs.Global.{Global}
use Rattle.js_meaning.specs.Value.{Value}
use Rattle.js_meaning.specs.State.{M, Place}
use Rattle.run_value.specs.declared.value.Value as held
use Rattle.run_value.specs.View.{value_of}
use Rattle.run_world.specs.declared.world.Place as held_place
use Rattle.run_world.specs.declared.world.Reply.{Reply}
use Rattle.run_world.specs.World.{replies, values_of, place_of}

abbrev pub otherwise : Option Reply → M → M
otherwise None m = m
otherwise (Some r) m = replies r

abbrev pub given_or : Result (held.Value × held.Value) Reply → (Value → Value → M) → M
given_or (Ok p) k = k (value_of p.0) (value_of p.1)
given_or (Err r) k = replies r

abbrev pub all_or : Result (Vec held.Value Global) Reply → (List Value → M) → M
all_or (Ok vs) k = k (values_of vs.items)
all_or (Err r) k = replies r

abbrev pub place_or : Result held_place.Place Reply → (Place → M) → M
place_or (Ok p) k = k (place_of p)
place_or (Err r) k = replies r
