-- The text of a tree: compact JSON, each object's keys in byte order.
use Rattle.std.specs.Prelude.{ℕ, suc, pos, negsuc, List, [], ◌∷◌, Bool, true, false, ◌&&◌, ◌||◌, Option, Some, None, codes, nat_le, if◌then◌else◌}
use Rattle.serde_json.specs.Data.{Data, null, boolean, string, array, object, Items, no_items, item, Members, no_members, put, unsigned}
use Rattle.serde_json.specs.Data as json
use Rattle.serde_json.specs.Written.{compact_text}
use Rattle.js_syntax.specs.Name.{type_name}
use Rattle.js_syntax.specs.Scalar.{Scalar, the_text, the_flag, the_value, the_mark, the_name, the_name_or_null, the_module_name, the_module_name_or_null, the_source, the_key, the_property, the_template_text, the_reg_exp_text, the_empty_object, the_null}
use Rattle.js_syntax.specs.declared.value.LiteralValue.{LiteralValue as Value}
use Rattle.js_syntax.specs.declared.value.Key.{Key}
use Rattle.js_syntax.specs.declared.value.Key.TheVariants.{Name as key_name, Text as key_text, Number as key_number, Below as key_below}
use Rattle.js_syntax.specs.declared.value.ModuleName.{ModuleName}
use Rattle.js_syntax.specs.declared.value.ModuleName.TheVariants.{Name as plain_name, Text as quoted_name}
use Rattle.js_syntax.specs.declared.value.LiteralValue.TheVariants as tree
use Rattle.js_syntax.specs.declared.node_kind.NodeKind.{NodeKind as Kind}
use Rattle.js_syntax.specs.declared.node_kind.NodeKind.TheVariants.{Literal as literal, Hole as hole}
use Rattle.js_syntax.specs.Node.{Forest, nothing, node, absent}
use Rattle.js_syntax.specs.Field.{Check, never, constant, fixed_name, null_only, hint, unread, keeps, checks, a_key, Field, field}
use Rattle.js_syntax.specs.Hint.{says}
use Rattle.js_syntax.specs.Table.{Row, fields_of, type_of}
use Rattle.js_syntax.specs.Facts.{row_of, scalars_of}

abbrev pub items_of : List Data → Items
items_of [] = no_items
items_of (d ∷ ds) = item d (items_of ds)

-- ---- names and literals

-- JSON's literals aren't negative in ESTree: such a number is unary minus on its magnitude.
abbrev pub whole_number : ℕ → Data
whole_number n = object (put (codes "type") (string (codes "Literal")) (put (codes "value") (json.number (unsigned n)) no_members))

abbrev pub minus : ℕ → Data
minus n = object (put (codes "type") (string (codes "UnaryExpression")) (put (codes "operator") (string (codes "-")) (put (codes "prefix") (boolean true) (put (codes "argument") (whole_number n) no_members))))

abbrev pub text_literal : List ℕ → Data
text_literal s = object (put (codes "type") (string (codes "Literal")) (put (codes "value") (string s) no_members))

abbrev pub identifier : List ℕ → Data
identifier s = object (put (codes "type") (string (codes "Identifier")) (put (codes "name") (string s) no_members))

abbrev pub is_between : ℕ → ℕ → ℕ → Bool
is_between low high c = nat_le low c && nat_le c high

-- a letter, `$`, `_` or a byte of a character past U+007F
abbrev pub starts_name : ℕ → Bool
starts_name c = is_between 65 90 c || (is_between 97 122 c || (is_between 36 36 c || (is_between 95 95 c || nat_le 128 c)))

abbrev pub continues_name : List ℕ → Bool
continues_name [] = true
continues_name (c ∷ cs) = (starts_name c || is_between 48 57 c) && continues_name cs

-- what is read as one name (ECMA-262 12.7), reserved words included
unfoldable pub is_identifier_name : List ℕ → Bool
is_identifier_name [] = false
is_identifier_name (c ∷ cs) = starts_name c && continues_name cs

-- a name that may be a text as well
abbrev pub name_data : List ℕ → Data
name_data s = if is_identifier_name s then identifier s else text_literal s

-- ---- fields that are no nodes

abbrev pub value_data : Value → Data
value_data tree.Null = null
value_data (tree.Boolean b) = boolean b
value_data (tree.Number (pos n)) = json.number (unsigned n)
value_data (tree.Number (negsuc n)) = json.number (unsigned (suc n))
value_data (tree.Text s) = string s

abbrev pub module_name_data : ModuleName → Data
module_name_data (plain_name s) = name_data s
module_name_data (quoted_name s) = text_literal s

-- a key, and that of a member; `child` is what is written of the node below
abbrev pub key_data : Key → (child : Data) → Data
key_data (key_name s) child = name_data s
key_data (key_text s) child = text_literal s
key_data (key_number n) child = whole_number n
key_data key_below child = child

abbrev pub property_data : Key → (child : Data) → Data
property_data (key_name s) child = identifier s
property_data key child = key_data key child

abbrev pub or_null : {A : Type 0} → (A → Data) → Option A → Data
or_null data_of None = null
or_null data_of (Some x) = data_of x

abbrev pub scalar_data : Scalar → Data
scalar_data (the_text s) = string s
scalar_data (the_flag b) = boolean b
scalar_data (the_value v) = value_data v
scalar_data (the_mark b) = boolean b
scalar_data (the_name s) = identifier s
scalar_data (the_name_or_null s) = or_null identifier s
scalar_data (the_module_name m) = module_name_data m
scalar_data (the_module_name_or_null m) = or_null module_name_data m
scalar_data (the_source s) = text_literal s
scalar_data (the_key key) = key_data key null
scalar_data (the_property key) = property_data key null
scalar_data (the_template_text t) = object (put (codes "raw") (string t.raw) (put (codes "cooked") (or_null string t.cooked) no_members))
scalar_data (the_reg_exp_text r) = object (put (codes "pattern") (string r.pattern) (put (codes "flags") (string r.flags) no_members))
scalar_data the_empty_object = object no_members
scalar_data the_null = null

-- a mark is written where it is true alone
abbrev pub put_scalar : List ℕ → Scalar → Members → Members
put_scalar name (the_mark b) ms = if b then put name (boolean true) ms else ms
put_scalar name s ms = put name (scalar_data s) ms

abbrev pub key_beside : Scalar → (child : Data) → Data
key_beside (the_key key) child = key_data key child
key_beside (the_property key) child = property_data key child
key_beside _ child = child

-- what is written of a field that the kind keeps nothing of
abbrev pub check_scalar : Check → Kind → Forest → Scalar
check_scalar never k below = the_flag false
check_scalar (constant s) k below = the_text s
check_scalar (fixed_name s) k below = the_name s
check_scalar null_only k below = the_null
check_scalar (hint h) k below = the_flag (says h k below)
check_scalar (unread s) k below = s

-- ---- a node's fields: those that are no nodes, and those that hold some, each in reading order

abbrev pub first_or_null : List Data → Data
first_or_null [] = null
first_or_null (d ∷ ds) = d

abbrev pub others : {A : Type 0} → List A → List A
others [] = []
others (d ∷ ds) = ds

abbrev pub first_scalar : List Scalar → Scalar
first_scalar [] = the_null
first_scalar (s ∷ ss) = s

module _ (k : Kind) (below : Forest) where
  -- each field of the table, and none else; `put` keeps the keys in byte order
  abbrev pub members_of : List Field → List Scalar → (nodes : List Data) → Members
  members_of [] scalars nodes = no_members
  members_of (field name (keeps s) ∷ fs) scalars nodes = put_scalar name (first_scalar scalars) (members_of fs (others scalars) nodes)
  members_of (field name (checks c) ∷ fs) scalars nodes = put name (scalar_data (check_scalar c k below)) (members_of fs scalars nodes)
  members_of (field name (a_key keys) ∷ fs) scalars nodes = put name (key_beside (first_scalar scalars) (first_or_null nodes)) (members_of fs (others scalars) (others nodes))
  members_of (field name sort ∷ fs) scalars nodes = put name (first_or_null nodes) (members_of fs scalars (others nodes))

  -- ---- nodes

  -- a list of nodes is an array, and any other node an object
  abbrev pub row_data : List Data → Option Row → Data
  row_data nodes None = array (items_of nodes)
  row_data nodes (Some r) = object (put (codes "type") (string (type_name (type_of r))) (members_of (fields_of r) (scalars_of k) nodes))

-- a node, from what is written of the nodes below it
abbrev pub node_data : Kind → (below : Forest) → (nodes : List Data) → Data
node_data (literal (tree.Number (negsuc n))) below nodes = minus (suc n)
node_data hole below nodes = null
node_data k below nodes = row_data k below nodes (row_of k)

-- the nodes of a row, one after another; null for one that is absent
abbrev pub row_datas : Forest → List Data
row_datas nothing = []
row_datas (node k n below rest) = node_data k below (row_datas below) ∷ row_datas rest
row_datas (absent rest) = null ∷ row_datas rest

abbrev pub data_of : Forest → Data
data_of t = first_or_null (row_datas t)

abbrev pub text_of : Forest → List ℕ
text_of t = compact_text (data_of t)
