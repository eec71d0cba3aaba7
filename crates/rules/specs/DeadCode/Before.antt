-- The place of a node in front of the rest of its row.
use Rattle.js_syntax.specs.Node.{Forest}
use Rattle.scope_laws.specs.Place as places
use Rattle.scope_counts.specs.Edits.{Around, here, behind, behind_none, under}

abbrev pub before : Around → (rest : Forest) → places.Around
before here rest = places.first rest
before (behind k n b a) rest = places.behind k n b (before a rest)
before (behind_none a) rest = places.behind_none (before a rest)
before (under k n a beside) rest = places.under k n (before a rest) beside
