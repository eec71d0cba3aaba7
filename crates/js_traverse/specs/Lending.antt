-- The scoping, lent: what is made of it stands in the walk's record once the loan is over.
use Rattle.std.specs.Borrow.{Lends, MutBor, Fml}
use Rattle.scope_rules.specs.Table.{Scoping}
use Rattle.scope_table.specs.contracts.scoping.Scoping.{the_row as table_row}
use Rattle.js_traverse.specs.contracts.scoping.TraverseScoping.{the_row as walk_row}
use Rattle.js_traverse.specs.Traversed.{Traversed}

abbrev pub LendsScoping : MutBor Traversed → MutBor Scoping → Fml
LendsScoping t r = Lends walk_row table_row t r (λ s. record t.now { scoping = s })
