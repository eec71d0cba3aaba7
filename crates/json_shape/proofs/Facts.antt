-- What stands in the object that is written of a node.
use Rattle.std.proofs.Common.{◌≡◌, ℕ, List, [], ◌∷◌, true, not, ◌&&◌, Some, None, Ok}
use Rattle.std.specs.Prelude.{codes}
use Rattle.serde_json.specs.Data.{Data, string}
use Rattle.serde_json.specs.Find.{get}
use Rattle.js_syntax.specs.Name.{type_name}
use Rattle.js_syntax.specs.Scalar.{Scalar, the_text, the_flag, the_value, the_mark, the_name, the_name_or_null, the_module_name, the_module_name_or_null, the_source, the_key, the_property, the_template_text, the_reg_exp_text}
use Rattle.js_syntax.specs.declared.value.Key.{Key}
use Rattle.js_syntax.specs.declared.node_kind.NodeKind.{NodeKind as Kind}
use Rattle.js_syntax.specs.Node.{Forest}
use Rattle.js_syntax.specs.Field.{Kept, a_text, a_flag, a_value, a_word, a_mark, a_name, maybe_name, a_module_name, maybe_module_name, a_source, a_template_text, a_reg_exp_text, Reads, Keys, member_key, keeps, checks, a_key, child, maybe, each, each_or_hole, a_body, Field, field}
use Rattle.js_syntax.specs.Hint.{has, is_private, is_below}
use Rattle.js_syntax.specs.Table.{Row, fields_of, type_of}
use Rattle.js_syntax.specs.Facts.{scalars_of}
use Rattle.js_syntax.specs.Word.{word_name}
use Rattle.json_text.specs.Plain.{is_object, is_true_at, check_extras}
use Rattle.json_text.specs.Reading.{is_directive}
use Rattle.json_text.specs.Text.{scalar_data, key_beside, check_scalar, first_or_null, others, node_data}
use Rattle.json_shape.specs.Shape.{Values, kind_in, is_directive_kind}

-- ---- field by field

abbrev pub scalar_of : (k : Kept) → Reads k → Scalar
scalar_of a_text s = the_text s
scalar_of a_flag b = the_flag b
scalar_of a_value v = the_value v
scalar_of (a_word w) x = the_text (word_name w x)
scalar_of a_mark b = the_mark b
scalar_of a_name s = the_name s
scalar_of maybe_name s = the_name_or_null s
scalar_of a_module_name m = the_module_name m
scalar_of maybe_module_name m = the_module_name_or_null m
scalar_of a_source s = the_source s
scalar_of a_template_text t = the_template_text t
scalar_of a_reg_exp_text t = the_reg_exp_text t

abbrev pub key_scalar : Keys → Key → Scalar
key_scalar member_key key = the_property key
key_scalar keys key = the_key key

abbrev pub IsKept : (k : Kept) → Reads k → (name : List ℕ) → Data → Type 0
IsKept a_mark v name d = is_true_at (get name d) ≡ v
IsKept a_value v name d = (get name d ≡ Some (scalar_data (the_value v))) × (get (codes "raw") d ≡ None)
IsKept k v name d = get name d ≡ Some (scalar_data (scalar_of k v))

module _ (k : Kind) (below : Forest) (d : Data) where
  abbrev pub Holds : (fs : List Field) → Values fs → (nodes : List Data) → Type 0
  Holds [] vs nodes = Unit {0}
  Holds (field name (keeps kept) ∷ fs) vs nodes = IsKept kept vs.0 name d × Holds fs vs.1 nodes
  Holds (field name (checks c) ∷ fs) vs nodes = (get name d ≡ Some (scalar_data (check_scalar c k below))) × Holds fs vs nodes
  Holds (field name (a_key keys) ∷ fs) vs nodes =
      (get name d ≡ Some (key_beside (key_scalar keys vs.0) (first_or_null nodes))) × (is_true_at (get (codes "computed") d) ≡ is_below vs.0 && not (has is_private below)) × Holds fs vs.1 (others nodes)
  Holds (field name (child c) ∷ fs) vs nodes = (get name d ≡ Some (first_or_null nodes)) × Holds fs vs (others nodes)
  Holds (field name (maybe c) ∷ fs) vs nodes = (get name d ≡ Some (first_or_null nodes)) × Holds fs vs (others nodes)
  Holds (field name (each list c) ∷ fs) vs nodes = (get name d ≡ Some (first_or_null nodes)) × Holds fs vs (others nodes)
  Holds (field name (each_or_hole list c) ∷ fs) vs nodes = (get name d ≡ Some (first_or_null nodes)) × Holds fs vs (others nodes)
  Holds (field name (a_body c) ∷ fs) vs nodes = (get name d ≡ Some (first_or_null nodes)) × Holds fs vs (others nodes)

-- ---- a node

-- the fields that are no nodes, in reading order
abbrev pub scalars_in : (fs : List Field) → Values fs → List Scalar
scalars_in [] vs = []
scalars_in (field name (keeps k) ∷ fs) vs = scalar_of k vs.0 ∷ scalars_in fs vs.1
scalars_in (field name (checks c) ∷ fs) vs = scalars_in fs vs
scalars_in (field name (a_key keys) ∷ fs) vs = key_scalar keys vs.0 ∷ scalars_in fs vs.1
scalars_in (field name (child c) ∷ fs) vs = scalars_in fs vs
scalars_in (field name (maybe c) ∷ fs) vs = scalars_in fs vs
scalars_in (field name (each list c) ∷ fs) vs = scalars_in fs vs
scalars_in (field name (each_or_hole list c) ∷ fs) vs = scalars_in fs vs
scalars_in (field name (a_body c) ∷ fs) vs = scalars_in fs vs

-- what is written of the node that this row makes
abbrev pub data_in : (r : Row) → Values (fields_of r) → (below : Forest) → (nodes : List Data) → Data
data_in r vs below nodes = node_data (kind_in r vs) below nodes

pub record IsWritten (r : Row) (vs : Values (fields_of r)) (below : Forest) (nodes : List Data) : Type 0 where
  pub fields : Holds (kind_in r vs) below (data_in r vs below nodes) (fields_of r) vs nodes
  pub type : get (codes "type") (data_in r vs below nodes) ≡ Some (string (type_name (type_of r)))
  pub object : is_object (data_in r vs below nodes) ≡ true
  pub bigint : get (codes "bigint") (data_in r vs below nodes) ≡ None
  pub start : get (codes "start") (data_in r vs below nodes) ≡ None
  pub ends : get (codes "end") (data_in r vs below nodes) ≡ None
  pub extras : check_extras (type_of r) (data_in r vs below nodes) ≡ Ok tt
  pub directive : is_directive (data_in r vs below nodes) ≡ is_directive_kind (kind_in r vs)
  pub scalars : scalars_of (kind_in r vs) ≡ scalars_in (fields_of r) vs
