-- The object that is written of a node, by its entries.
use Rattle.std.specs.Prelude.{ℕ, zero, suc, List, [], ◌∷◌, Bool, true, false, Option, Some, None, slice_get, if◌then◌else◌}
use Rattle.serde_json.specs.Data.{Data, null, boolean, string, array, object, Members, no_members, member}
use Rattle.js_syntax.specs.Name.{type_name}
use Rattle.js_syntax.specs.Scalar.{Scalar, the_mark, the_null}
use Rattle.js_syntax.specs.declared.node_kind.NodeKind.{NodeKind as Kind}
use Rattle.js_syntax.specs.Node.{Forest}
use Rattle.js_syntax.specs.Field.{Hint}
use Rattle.js_syntax.specs.Hint.{says}
use Rattle.js_syntax.specs.Table.{Row}
use Rattle.js_syntax.specs.Facts.{scalars_of}
use Rattle.json_text.specs.Text.{items_of, identifier, scalar_data, key_beside, first_or_null, others}
use Rattle.json_entries.specs.Entry.{Content, the_type, scalar_at, mark_at, node_at, key_at, flag, no, yes, nothing_there, empty, as_word, as_name, Entry, entry}
use Rattle.json_entries.specs.Entries.{entries_of}

abbrev pub or_the_null : Option Scalar → Scalar
or_the_null None = the_null
or_the_null (Some s) = s

abbrev pub scalar_of_place : ℕ → List Scalar → Scalar
scalar_of_place i scalars = or_the_null (slice_get scalars i)

abbrev pub node_of_place : ℕ → List Data → Data
node_of_place zero nodes = first_or_null nodes
node_of_place (suc j) nodes = node_of_place j (others nodes)

abbrev pub is_marked : Scalar → Bool
is_marked (the_mark b) = b
is_marked s = true

module _ (scalars : List Scalar) (flags : Hint → Bool) (nodes : List Data) where
  abbrev pub content_data : Content → Data
  content_data (the_type t) = string (type_name t)
  content_data (scalar_at i) = scalar_data (scalar_of_place i scalars)
  content_data (mark_at i) = boolean true
  content_data (node_at j) = node_of_place j nodes
  content_data (key_at i j) = key_beside (scalar_of_place i scalars) (node_of_place j nodes)
  content_data (flag h) = boolean (flags h)
  content_data no = boolean false
  content_data yes = boolean true
  content_data nothing_there = null
  content_data empty = object no_members
  content_data (as_word s) = string s
  content_data (as_name s) = identifier s

  -- a mark is written where it is true alone
  abbrev pub members_from : List Entry → Members
  members_from [] = no_members
  members_from (entry n (mark_at i) ∷ es) = if is_marked (scalar_of_place i scalars) then member n (boolean true) (members_from es) else members_from es
  members_from (entry n c ∷ es) = member n (content_data c) (members_from es)

-- the object of a node
abbrev pub fields_data : Kind → (below : Forest) → List Data → Data
fields_data k below nodes = object (members_from (scalars_of k) (λ h. says h k below) nodes (entries_of k))

abbrev pub by_entries : Kind → (below : Forest) → List Data → Option Row → Data
by_entries k below nodes None = array (items_of nodes)
by_entries k below nodes (Some r) = fields_data k below nodes
