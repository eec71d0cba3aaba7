-- What is done behind a walk, before the next.
use Rattle.std.specs.Prelude.{length, Bool, true, false}
use Rattle.js_syntax.specs.Node.{Forest}
use Rattle.scope_rules.specs.Table.{Scoping}
use Rattle.scope_table.specs.Editing.{pruned}
use Rattle.scope_table.specs.Refreshing.{refreshed}
use Rattle.symbol_sets.specs.Numbers.{has, none_below}
use Rattle.min_context.specs.Seen.{Seen}

-- the table with its bits of direct eval read anew of what is left of the program, where such a call left
abbrev pub table_anew : (eval_dropped : Bool) → Forest → Scoping → Scoping
table_anew true t s = refreshed t s
table_anew false t s = s

-- without the references that left
abbrev pub table_left : Forest → Seen → Scoping
table_left t c = pruned (has c.marked) (table_anew c.eval_dropped t c.scoping)

-- and of the next pass nothing is noted yet
abbrev pub completed : Forest → Seen → Seen
completed t c = record c { scoping = table_left t c; marked = none_below (length c.marked); eval_dropped = false; requested = false }
