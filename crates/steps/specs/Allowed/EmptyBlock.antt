-- A block of nothing, or one behind labels, leaves its list of statements (ECMA-262 14.2.2, 14.13.4).
use Rattle.std.specs.Prelude.{◌≡◌, Bool, true, false, ◌&&◌}
use Rattle.js_syntax.specs.declared.node_kind.NodeKind.{NodeKind as Kind}
use Rattle.js_syntax.specs.declared.node_kind.NodeKind.TheVariants.{Statements as statements, EmptyStatement as empty_statement, BlockStatement as block_statement, LabeledStatement as labeled_statement}
use Rattle.js_syntax.specs.Node.{Forest, Tree, nothing, node, absent}
use Rattle.scope_laws.specs.Place.{Around}
use Rattle.steps.specs.Allowed.Places.{IsItem}

-- empty statements, and what holds statements and does nothing itself
abbrev pub is_idle : Kind → Bool
is_idle empty_statement = true
is_idle statements = true
is_idle block_statement = true
is_idle (labeled_statement label) = true
is_idle k = false

-- whether a row has nothing else
abbrev pub idles : Forest → Bool
idles nothing = true
idles (absent rest) = idles rest
idles (node k n below rest) = is_idle k && (idles below && idles rest)

abbrev pub holds_nothing : Kind → (below : Forest) → Bool
holds_nothing block_statement below = idles below
holds_nothing (labeled_statement label) below = idles below
holds_nothing k below = false

pub data EmptyBlock (a : Around) (x : Tree) : Type 0 where
  empty_block_leaves : IsItem a → holds_nothing x.kind x.below ≡ true → EmptyBlock a x
