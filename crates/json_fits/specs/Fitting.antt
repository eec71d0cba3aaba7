-- Whether a tree fits the table of node types, as one finds out node by node.
use Rattle.std.specs.Prelude.{List, [], ◌∷◌, Bool, true, false, not, ◌&&◌, ◌||◌, ◌==◌, Option, Some, None}
use Rattle.js_syntax.specs.declared.value.Key.{Key}
use Rattle.js_syntax.specs.declared.value.Key.TheVariants.{Name as key_name, Below as key_below}
use Rattle.js_syntax.specs.declared.node_kind.NodeKind.{NodeKind as Kind}
use Rattle.js_syntax.specs.declared.node_kind.NodeKind.TheVariants.{MethodDefinition as method_definition, PropertyDefinition as property_definition, Property as property, MemberExpression as member_expression, BindingProperty as binding_property, TargetProperty as target_property, Hole as hole, Statements as statements, Cases as cases, Declarators as declarators, Parameters as parameters, Members as members, Elements as elements, Properties as properties, Expressions as expressions, Arguments as arguments, Quasis as quasis, Specifiers as specifiers}
use Rattle.js_syntax.specs.Node.{Forest, nothing, node, absent}
use Rattle.js_syntax.specs.Class.{Class, a_prologue, expression, private_key}
use Rattle.js_syntax.specs.Field.{Sort, keeps, checks, a_key, child, maybe, each, each_or_hole, a_body, Field, field}
use Rattle.js_syntax.specs.Hint.{has, is_private}
use Rattle.js_syntax.specs.Table.{Row, fields_of, type_of, stands}
use Rattle.json_text.specs.Plain.{takes_private}
use Rattle.json_shape.specs.Shape.{first_of, Place, one, maybe_one, beyond, key_node, key_apart, list, list_with_holes, body, item_or_hole, item_of_body, Plan, these, all, all_or_holes, all_of_body, first_place, behind, is_directive_kind, key_place}
use Rattle.json_fits.specs.Rows.{first_row, second_row, number}

-- ---- rows

-- the key of a kind that has one
abbrev pub key_of : Kind → Key
key_of (method_definition how is_static key) = key
key_of (property_definition is_static key) = key
key_of (property how method key) = key
key_of (member_expression key optional) = key
key_of (binding_property key) = key
key_of (target_property key) = key
key_of k = key_below

-- the places of a row's fields, where the kind has this key
abbrev pub places_by : (private : Bool) → Key → List Field → List Place
places_by private key [] = []
places_by private key (field name (keeps k) ∷ fs) = places_by private key fs
places_by private key (field name (checks c) ∷ fs) = places_by private key fs
places_by private key (field name (a_key keys) ∷ fs) = key_place keys private key ∷ places_by private key fs
places_by private key (field name (child c) ∷ fs) = one c ∷ places_by private key fs
places_by private key (field name (maybe c) ∷ fs) = maybe_one c ∷ places_by private key fs
places_by private key (field name (each kind c) ∷ fs) = list kind c ∷ places_by private key fs
places_by private key (field name (each_or_hole kind c) ∷ fs) = list_with_holes kind c ∷ places_by private key fs
places_by private key (field name (a_body c) ∷ fs) = body c ∷ places_by private key fs

-- one field alone, of those that hold a node
abbrev pub holds_node : Sort → Bool
holds_node (keeps k) = false
holds_node (checks c) = false
holds_node s = true

abbrev pub place_of : (private : Bool) → Key → Sort → Place
place_of private key (keeps k) = beyond
place_of private key (checks c) = beyond
place_of private key (a_key keys) = key_place keys private key
place_of private key (child c) = one c
place_of private key (maybe c) = maybe_one c
place_of private key (each kind c) = list kind c
place_of private key (each_or_hole kind c) = list_with_holes kind c
place_of private key (a_body c) = body c

abbrev pub is_below : Key → Bool
is_below key_below = true
is_below key = false

abbrev pub is_name : Key → Bool
is_name (key_name s) = true
is_name key = false

-- whether this is the row that stands
abbrev pub is_row : Option Row → Row → Bool
is_row None r = false
is_row (Some s) r = number s == number r

abbrev pub may_stand : Class → Row → Bool
may_stand c r = is_row (stands c (type_of r)) (first_of r)

-- ---- lists

abbrev pub same_list : Kind → Kind → Bool
same_list statements statements = true
same_list cases cases = true
same_list declarators declarators = true
same_list parameters parameters = true
same_list members members = true
same_list elements elements = true
same_list properties properties = true
same_list expressions expressions = true
same_list arguments arguments = true
same_list quasis quasis = true
same_list specifiers specifiers = true
same_list k kind = false

abbrev pub is_hole : Kind → Bool
is_hole hole = true
is_hole k = false

-- ---- trees

abbrev pub may_end : Plan → Bool
may_end (these []) = true
may_end (these (p ∷ ps)) = false
may_end plan = true

abbrev pub may_lack : Place → Bool
may_lack (maybe_one c) = true
may_lack (key_apart may_be) = may_be
may_lack p = false

module _ (k : Kind) (below : Forest) (is_planned : Plan → Bool) where
  abbrev pub is_of_row : Class → Option Row → Bool
  is_of_row c None = false
  is_of_row c (Some r) = may_stand c r && is_planned (these (places_by (has is_private below) (key_of k) (fields_of r)))

  abbrev pub is_of : Class → Bool
  is_of c = is_of_row c (first_row k) || is_of_row c (second_row k)

  abbrev pub is_at : Place → Bool
  is_at (one c) = is_of c
  is_at (maybe_one c) = is_of c
  is_at beyond = false
  is_at (key_apart may_be) = false
  is_at (key_node keys true) = takes_private keys && is_of private_key
  is_at (key_node keys false) = is_of expression
  is_at (list kind c) = same_list k kind && is_planned (all c)
  is_at (list_with_holes kind c) = same_list k kind && is_planned (all_or_holes c)
  is_at (body c) = same_list k statements && is_planned (all_of_body c)
  is_at (item_or_hole c) = (is_hole k && is_planned (these [])) || is_of c
  is_at (item_of_body c) = is_of a_prologue || (not (is_directive_kind k) && is_of c)

-- whether the nodes of a row stand as planned
abbrev pub is_planned : Plan → Forest → Bool
is_planned plan nothing = may_end plan
is_planned plan (node k n below rest) = is_at k below (λ p. is_planned p below) (first_place plan) && is_planned (behind plan k) rest
is_planned plan (absent rest) = may_lack (first_place plan) && is_planned (behind plan hole) rest

-- whether the first of a row, a node or none, may stand at a place
abbrev pub may_be : Place → Forest → Bool
may_be p nothing = false
may_be p (node k n below rest) = is_at k below (λ q. is_planned q below) p
may_be p (absent rest) = may_lack p
