-- What the nodes do that stand first in a row; where there are fewer, nothing is said.
use Rattle.js_meaning.specs.State.{M, unknown}
use Rattle.js_meaning.specs.Node.{Meaning}
use Rattle.js_meaning.specs.Host.{Enter}
use Rattle.run_plan.specs.Frame.{meaning}
use Rattle.run_expression.specs.declared.fields.Pair.{Pair}
use Rattle.run_expression.specs.declared.fields.Pair.TheVariants as pair
use Rattle.run_expression.specs.declared.fields.Triple.{Triple}
use Rattle.run_expression.specs.declared.fields.Triple.TheVariants as triple

abbrev pub both : Enter → Pair → (Meaning → Meaning → M) → M
both E (pair.Both a b) k = k (meaning E a.now) (meaning E b.now)
both E pair.Fewer k = unknown

abbrev pub all_three : Enter → Triple → (Meaning → Meaning → Meaning → M) → M
all_three E (triple.All a b c) k = k (meaning E a.now) (meaning E b.now) (meaning E c.now)
all_three E triple.Fewer k = unknown
