-- How it goes on with what an entry made.
use Rattle.std.specs.Prelude.{List, Option, Some, None, Vec, Bool, map}
use Rattle.std.specs.Global.{Global}
use Rattle.js_meaning.specs.Value.{Env}
use Rattle.js_meaning.specs.State as meant
use Rattle.js_meaning.specs.State.{M, unknown}
use Rattle.run_world.specs.declared.world.Export.{Export}
use Rattle.run_world.specs.World.{export_of}

-- with an environment, or nothing is said of what follows
abbrev pub with_env : Option Env → (Env → M) → M
with_env None k = unknown
with_env (Some env) k = k env

abbrev pub exports_held : List Export → List meant.Export
exports_held es = map export_of es

abbrev pub with_exports_held : Option (Vec Export Global) → (List meant.Export → M) → M
with_exports_held None k = unknown
with_exports_held (Some es) k = k (exports_held es.items)
