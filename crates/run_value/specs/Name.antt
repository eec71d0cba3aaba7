-- Names in memory as environments have them.
use Rattle.std.specs.Prelude.{Option, Some, None}
use Rattle.js_meaning.specs.Value as meant
use Rattle.js_meaning.specs.Value.{local, imported, arguments_object, bound}
use Rattle.run_value.specs.declared.env.Slot.{Slot}
use Rattle.run_value.specs.declared.env.Slot.TheVariants.{Local, Imported, ArgumentsObject}
use Rattle.run_value.specs.declared.env.Bound.{Bound}

abbrev pub slot_of : Slot → meant.Slot
slot_of (Local i) = local i
slot_of (Imported source name) = imported source.now name.now
slot_of ArgumentsObject = arguments_object

abbrev pub bound_of : Bound → meant.Bound
bound_of b = bound b.name.now (slot_of b.slot)

abbrev pub maybe_slot : Option Slot → Option meant.Slot
maybe_slot None = None
maybe_slot (Some s) = Some (slot_of s)
