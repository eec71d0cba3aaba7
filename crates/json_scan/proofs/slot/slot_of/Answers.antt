use Rattle.json_scan.proofs.slot.slot_of.Goals as goal

pub returns-in-Each : goal.returns-in-Each
returns-in-Each c = rw (c.in-Each.is, ← c.place_of-place.ensures.fault, ← c.place_of-place.ensures.field) c.items_slot.ensures

pub returns-in-EachOrHole : goal.returns-in-EachOrHole
returns-in-EachOrHole c = rw (c.in-EachOrHole.is, ← c.place_of-place.ensures.fault, ← c.place_of-place.ensures.field) c.items_slot-in-EachOrHole.ensures

pub returns-in-Body : goal.returns-in-Body
returns-in-Body c = rw (c.in-Body.is, ← c.place_of-place.ensures.fault, ← c.place_of-place.ensures.field) c.body_slot.ensures
