-- How it goes on from an act that may find nothing to go on with.
use Rattle.std.specs.Prelude.{List, Option, Some, None, Vec, map}
use Rattle.std.specs.Global.{Global}
use Rattle.js_meaning.specs.Value as meant_value
use Rattle.js_meaning.specs.Trace as meant
use Rattle.js_meaning.specs.Trace.{Ending}
use Rattle.js_meaning.specs.State.{M, unknown, stop}
use Rattle.run_value.specs.declared.value.Value.{Value}
use Rattle.run_value.specs.View.{value_of}
use Rattle.run_value.specs.declared.event.ShownExport.{ShownExport}
use Rattle.run_value.specs.declared.event.ShownExports.{ShownExports}
use Rattle.run_value.specs.Trace.{export_of, exports_of}
use Rattle.run_world.specs.World.{values_of}

abbrev pub goes_on : Option ShownExport → (meant.ShownExport → M) → M
goes_on None k = unknown
goes_on (Some x) k = k (export_of x)

abbrev pub goes_on_all : Option (Vec ShownExport Global) → (List meant.ShownExport → M) → M
goes_on_all None k = unknown
goes_on_all (Some xs) k = k (map export_of xs.items)

abbrev pub goes_on_shown : Option ShownExports → (meant.ShownExports → M) → M
goes_on_shown None k = unknown
goes_on_shown (Some x) k = k (exports_of x)

abbrev pub if_all : Option (Vec Value Global) → (List meant_value.Value → M) → M
if_all None k = stop Ending.host_stopped
if_all (Some vs) k = k (values_of vs.items)
