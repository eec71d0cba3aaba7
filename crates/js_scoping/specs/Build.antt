-- The table of a tree, and the tree with its nodes marked.
use Rattle.js_syntax.specs.Node.{Forest}
use Rattle.scope_rules.specs.Site.{Found, sites_of, found_in}
use Rattle.scope_rules.specs.Table.{Scoping, scoping_of, symbols_declared}
use Rattle.scope_rules.specs.Mark.{marked, first_marks}

abbrev pub found_of : Forest → Found
found_of t = found_in (sites_of t)

abbrev pub table_of : Forest → Scoping
table_of t = scoping_of (found_of t)

abbrev pub numbered : Forest → Forest
numbered t = marked (first_marks (symbols_declared (found_of t).bindings)) t
