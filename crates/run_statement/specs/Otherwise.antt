-- How it went already, or what is left to do.
use Rattle.std.specs.Prelude.{Option, Some, None}
use Rattle.js_meaning.specs.State.{M}
use Rattle.run_world.specs.declared.world.Reply.{Reply}
use Rattle.run_world.specs.World.{replies}

abbrev pub otherwise : Option Reply → M → M
otherwise None m = m
otherwise (Some r) m = replies r
