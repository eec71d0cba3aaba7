use Rattle.std.proofs.Common.{◌≤◌}
use Rattle.json_read.proofs.walk.room_for.Given as goal

abbrev pub invariant-fields : goal.invariant-fields
invariant-fields l = l.found ≤ l.field-index
