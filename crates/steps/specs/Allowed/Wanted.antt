-- What the expression at a place is evaluated for.
use Rattle.js_meaning_near.specs.Near.{is_row}
use Rattle.js_meaning_near.specs.Purpose.{Purpose, Purposes, for_values, purpose_here, purposes_behind, wanted_below}
use Rattle.scope_laws.specs.Place.{Around, first, behind, behind_none, under}

-- by what the expressions of the row are evaluated for
abbrev pub wanted_in : Purposes → Around → Purpose
wanted_in us (first rest) = purpose_here us (is_row rest)
wanted_in us (behind k n below a) = wanted_in (purposes_behind us) a
wanted_in us (behind_none a) = wanted_in (purposes_behind us) a
wanted_in us (under k n a rest) = wanted_in (wanted_below (purpose_here us (is_row rest)) k) a

abbrev pub wanted_at : Around → Purpose
wanted_at a = wanted_in for_values a
