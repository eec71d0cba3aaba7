-- How many fields a row has, with those of the nodes in it.
use Rattle.std.specs.Prelude.{ℕ, ◌+◌}
use Rattle.js_syntax.specs.Node.{Forest, nothing, node, absent}

abbrev pub fields : Forest → ℕ
fields nothing = 0
fields (absent r) = 1 + fields r
fields (node k n a r) = 1 + fields a + fields r
