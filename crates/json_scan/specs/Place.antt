-- The fault of a field.
use Rattle.json_text.specs.Fault.{Fault, bad_field}
use Rattle.json_scan.specs.declared.place.Place.{Place}

abbrev pub fault_at : Place → Fault
fault_at p = bad_field p.kind.now p.field.now
