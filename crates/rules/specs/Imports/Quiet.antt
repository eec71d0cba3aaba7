-- Where no name of an import goes, and no import, by itself, into another or for an export from its module.
use Rattle.std.specs.Prelude.{◌≡◌, None}
use Rattle.js_syntax.specs.Node.{Forest, Tree, node}
use Rattle.min_context.specs.Place.{Place, place_at, goes_on}
use Rattle.scope_counts.specs.Edits.{Around, plug}
use Rattle.rules.specs.DeadCode.Rules.{Facts, where_of}
use Rattle.rules.specs.Imports.Merged.{come_together}
use Rattle.rules.specs.Imports.Passed.{pass_on}
use Rattle.rules.specs.Imports.Repeated.{asked_once}
use Rattle.rules.specs.Imports.Rules.{pruned}

-- of a node at a place
abbrev pub IsUsedAt : Facts → Place → Tree → Type 0
IsUsedAt f p x = (pruned f (where_of p) x ≡ None) × (asked_once x ≡ None) × (come_together f p x ≡ None) × (pass_on f p x ≡ None)

-- anywhere in a program
abbrev pub ImportsUsed : Facts → Forest → Type 0
ImportsUsed f t = (a : Around) (x : Tree) (rest : Forest) → t ≡ plug a (node x.kind x.note x.below rest) → IsUsedAt f (place_at a (goes_on rest)) x
