-- Global names, and what is found of them.
use Rattle.std.specs.Prelude.{Option}
use Rattle.js_meaning.specs.Value as meant_value
use Rattle.js_meaning.specs.State.{M}
use Rattle.js_meaning.specs.Reference.{Global, the_undefined, no_whole_number, usual}
use Rattle.run_world.specs.World.{maybe_value, replies}
use Rattle.run_world.specs.declared.reference.Fixed.{Fixed}
use Rattle.run_world.specs.declared.reference.Fixed.TheVariants.{Undefined, NoWholeNumber, Usual}
use Rattle.run_world.specs.declared.reference.Found.{Found}
use Rattle.run_world.specs.declared.reference.Found.TheVariants.{Says, Holds}

-- those that no script sets
abbrev pub global_of : Fixed → Global
global_of Undefined = the_undefined
global_of NoWholeNumber = no_whole_number
global_of Usual = usual

abbrev pub found : Found → (Option meant_value.Value → M) → M
found (Says r) k = replies r
found (Holds v) k = k (maybe_value v)
