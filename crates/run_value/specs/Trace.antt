-- Events in memory as runs have them.
use Rattle.std.specs.Prelude.{List, map, String, string_bytes}
use Rattle.std.specs.Global.{Global}
use Rattle.js_meaning.specs.Value.{Text}
use Rattle.js_meaning.specs.Value as meant_value
use Rattle.js_meaning.specs.Trace as meant
use Rattle.js_meaning.specs.Trace.{exports_value, exports_uninitialised, exports_import}
use Rattle.run_value.specs.declared.event.ShownExport.{ShownExport}
use Rattle.run_value.specs.declared.event.ShownExport.TheVariants.{Value as value_export, Uninitialised as uninitialised_export, Import as import_export}
use Rattle.run_value.specs.declared.event.ShownExports.{ShownExports}
use Rattle.run_value.specs.declared.event.Act.{Act}
use Rattle.run_value.specs.declared.event.Act.TheVariants.{Load, Get, Set, In, Instanceof, Construct, Call, Write, Returned, Threw, Finished, Failed}
use Rattle.run_value.specs.declared.event.Event.{Event}
use Rattle.run_value.specs.declared.event.Ending.{Ending}
use Rattle.run_value.specs.declared.event.Ending.TheVariants.{Ended, HostStopped, Out, Uncovered}
use Rattle.run_value.specs.declared.event.Trace.{Trace}
use Rattle.run_value.specs.declared.shown.Shown.{Shown}
use Rattle.run_value.specs.ShownView.{shown_of}

abbrev pub export_of : ShownExport → meant.ShownExport
export_of (value_export name shown) = exports_value (string_bytes name) (shown_of shown)
export_of (uninitialised_export name) = exports_uninitialised (string_bytes name)
export_of (import_export name source imported) = exports_import (string_bytes name) (string_bytes source) (string_bytes imported)

abbrev pub texts_of : List (String Global) → List Text
texts_of ss = map string_bytes ss

abbrev pub exports_of : ShownExports → meant.ShownExports
exports_of e = record { names = map export_of e.names.items; stars = texts_of e.stars.items }

abbrev pub all_of : List Shown → List meant_value.Shown
all_of xs = map shown_of xs

abbrev pub act_of : Act → meant.Act
act_of (Load source) = meant.Act.load (string_bytes source)
act_of (Get x y) = meant.Act.get (shown_of x) (shown_of y)
act_of (Set x y z) = meant.Act.set (shown_of x) (shown_of y) (shown_of z)
act_of (In x y) = meant.Act.asks_in (shown_of x) (shown_of y)
act_of (Instanceof x y) = meant.Act.asks_instanceof (shown_of x) (shown_of y)
act_of (Construct x xs) = meant.Act.construct (shown_of x) (all_of xs.items)
act_of (Call x this xs) = meant.Act.call (shown_of x) (shown_of this) (all_of xs.items)
act_of (Write name x) = meant.Act.write (string_bytes name) (shown_of x)
act_of (Returned x) = meant.Act.returned (shown_of x)
act_of (Threw x) = meant.Act.threw (shown_of x)
act_of Finished = meant.Act.finished
act_of (Failed x) = meant.Act.failed (shown_of x)

abbrev pub event_of : Event → meant.Event
event_of e = record { act = act_of e.act; exports = exports_of e.exports }

abbrev pub ending_of : Ending → meant.Ending
ending_of (Ended exports) = meant.Ending.ended (exports_of exports)
ending_of HostStopped = meant.Ending.host_stopped
ending_of Out = meant.Ending.out
ending_of Uncovered = meant.Ending.uncovered

abbrev pub run_held : Trace → meant.Run
run_held t = record { trace = map event_of t.events.all.items; ending = ending_of t.ending }
