-- The first node of which runs say nothing.
use Rattle.std.specs.Prelude.{◌≡◌, ◌+◌, ◌≤◌, ℕ, false, Option, Some, None, if◌then◌else◌}
use Rattle.js_syntax.specs.declared.node_kind.NodeKind.{NodeKind as Kind}
use Rattle.js_syntax.specs.declared.scalar.SourceType.TheVariants as source_type
use Rattle.js_syntax.specs.Facts.{is_core}
use Rattle.js_syntax.specs.Node.{Forest, nothing, node, absent}
use Rattle.js_tree.specs.Count.{one_each, node_count}

abbrev pub either : Option ℕ → Option ℕ → Option ℕ
either None later = later
either (Some place) later = Some place

-- The place of the first node of a row that is not of the core of the language; the first of the row has this place. A
-- node has the number of nodes before it, lists not counted.
abbrev pub first_in : (place : ℕ) → Forest → Option ℕ
first_in place nothing = None
first_in place (absent rest) = first_in place rest
first_in place (node k n below rest) =
    if is_core k then either (first_in (place + one_each k) below) (first_in (place + node_count (node k n below nothing)) rest) else Some place

-- of a program; one of another source type has none of the nodes of a core module, so the first is the program itself
abbrev pub first_outside : Forest → Option ℕ
first_outside (node (Kind.Program source_type.Module) n below rest) = first_in 0 (node (Kind.Program source_type.Module) n below rest)
first_outside t = Some 0

-- ---- in words that know of no walk

-- a node of this kind stands at a place, in a row whose first has the place `from`
pub data Stands (k : Kind) (place : ℕ) : (from : ℕ) → Forest → Type 0 where
  here : {n : _} {below rest : Forest} → Stands k place place (node k n below rest)
  beneath : {from : ℕ} {l : Kind} {n : _} {below rest : Forest} → Stands k place (from + one_each l) below → Stands k place from (node l n below rest)
  behind : {from : ℕ} {l : Kind} {n : _} {below rest : Forest} → Stands k place (from + node_count (node l n below nothing)) rest → Stands k place from (node l n below rest)
  past : {from : ℕ} {rest : Forest} → Stands k place from rest → Stands k place from (absent rest)

-- a node that is not of the core stands there, and none before it
pub record IsLeast (t : Forest) (place : ℕ) : Type 0 where
  pub kind : Kind
  pub outside : is_core kind ≡ false
  pub stands : Stands kind place 0 t
  pub least : (l : Kind) (other : ℕ) → is_core l ≡ false → Stands l other 0 t → place ≤ other
