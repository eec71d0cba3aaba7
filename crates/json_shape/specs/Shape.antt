-- Which trees the table of node types has: in a row of nodes, each is one that may stand at its place.
use Rattle.std.specs.Prelude.{◌≡◌, ◌⊎◌, List, [], ◌∷◌, Bool, true, false, ◌||◌, Some}
use Rattle.std.specs.Str.{bytes_eq}
use Rattle.js_syntax.specs.declared.value.Key.{Key}
use Rattle.js_syntax.specs.declared.value.Key.TheVariants.{Name as key_name, Below as key_below}
use Rattle.js_syntax.specs.declared.value.LiteralValue.{LiteralValue as Value}
use Rattle.js_syntax.specs.declared.value.LiteralValue.TheVariants as value
use Rattle.js_syntax.specs.declared.node_kind.NodeKind.{NodeKind as Kind}
use Rattle.js_syntax.specs.declared.node_kind.NodeKind.TheVariants.{Directive as directive, Hole as hole, Statements as statements}
use Rattle.js_syntax.specs.Node.{Forest, nothing, node, absent}
use Rattle.js_syntax.specs.Class.{Class, a_prologue, expression, private_key}
use Rattle.js_syntax.specs.Field.{Reads, Keys, keeps, checks, a_key, child, maybe, each, each_or_hole, a_body, Field, field, Makes}
use Rattle.js_syntax.specs.Hint.{has, is_private}
use Rattle.js_syntax.specs.Table.{Row, a_text_literal, a_literal, a_reg_exp, a_property, a_method_property, a_binary_expression, an_in_expression, an_assignment_expression, a_compound_assignment, a_new_target, an_import_meta, an_export_list, an_export_declaration, an_export_from, a_parenthesized_target, fields_of, kind_at, type_of, stands}
use Rattle.js_syntax.specs.Word.{word_name, property_kinds, binary_operators, assignment_operators}
use Rattle.js_syntax.specs.declared.kind.PropertyKind.{PropertyKind}
use Rattle.js_syntax.specs.declared.operator.BinaryOperator.{BinaryOperator}
use Rattle.js_syntax.specs.declared.operator.AssignmentOperator.{AssignmentOperator}
use Rattle.std.specs.Prelude.{codes}
use Rattle.json_text.specs.Plain.{takes_private, takes_literal}

-- ---- one row of the table

-- what the fields of a row give to the node's kind
abbrev pub Values : List Field → Type 0
Values [] = Unit {0}
Values (field name (keeps k) ∷ fs) = Reads k × Values fs
Values (field name (a_key keys) ∷ fs) = Key × Values fs
Values (field name (checks c) ∷ fs) = Values fs
Values (field name (child c) ∷ fs) = Values fs
Values (field name (maybe c) ∷ fs) = Values fs
Values (field name (each list c) ∷ fs) = Values fs
Values (field name (each_or_hole list c) ∷ fs) = Values fs
Values (field name (a_body c) ∷ fs) = Values fs

abbrev pub kind_of : (fs : List Field) → Makes fs → Values fs → Kind
kind_of [] kind vs = kind
kind_of (field name (keeps k) ∷ fs) make vs = kind_of fs (make vs.0) vs.1
kind_of (field name (a_key keys) ∷ fs) make vs = kind_of fs (make vs.0) vs.1
kind_of (field name (checks c) ∷ fs) make vs = kind_of fs make vs
kind_of (field name (child c) ∷ fs) make vs = kind_of fs make vs
kind_of (field name (maybe c) ∷ fs) make vs = kind_of fs make vs
kind_of (field name (each list c) ∷ fs) make vs = kind_of fs make vs
kind_of (field name (each_or_hole list c) ∷ fs) make vs = kind_of fs make vs
kind_of (field name (a_body c) ∷ fs) make vs = kind_of fs make vs

abbrev pub kind_in : (r : Row) → Values (fields_of r) → Kind
kind_in r vs = kind_of (fields_of r) (kind_at r) vs

-- where the table has several rows of a type that may stand at a place, the first of them
abbrev pub first_of : Row → Row
first_of a_reg_exp = a_literal
first_of an_in_expression = a_binary_expression
first_of a_compound_assignment = an_assignment_expression
first_of a_method_property = a_property
first_of an_import_meta = a_new_target
first_of an_export_declaration = an_export_list
first_of an_export_from = an_export_list
first_of r = r

abbrev pub is_in : BinaryOperator → Bool
is_in operator = bytes_eq (word_name binary_operators operator) (codes "in")

abbrev pub is_plain : AssignmentOperator → Bool
is_plain operator = bytes_eq (word_name assignment_operators operator) (codes "=")

abbrev pub is_method : PropertyKind → (method : Bool) → Bool
is_method how method = bytes_eq (word_name property_kinds how) (codes "get") || bytes_eq (word_name property_kinds how) (codes "set") || method

abbrev pub is_text : Value → Bool
is_text (value.Text s) = true
is_text _ = false

-- What decides between them. No tree has parentheses around an assigned name.
abbrev pub IsChosen : (r : Row) → Values (fields_of r) → Type 0
IsChosen a_text_literal vs = is_text vs.0 ≡ true
IsChosen a_binary_expression vs = is_in vs.0 ≡ false
IsChosen an_in_expression vs = is_in vs.0 ≡ true
IsChosen an_assignment_expression vs = is_plain vs.0 ≡ true
IsChosen a_compound_assignment vs = is_plain vs.0 ≡ false
IsChosen a_property vs = is_method vs.0 vs.1.0 ≡ false
IsChosen a_method_property vs = is_method vs.0 vs.1.0 ≡ true
IsChosen a_parenthesized_target vs = ⊥
IsChosen r vs = Unit {0}

-- ---- places in a row of nodes

pub data Place : Type 0 where
  -- a node of this class; such a node or none; not even none
  one maybe_one : Class → Place
  beyond : Place
  -- the node that is a key, which is a private name or an expression; none where the key is no node, if it may be such
  key_node : Keys → (private : Bool) → Place
  key_apart : (may_be : Bool) → Place
  -- a list of this kind, with nodes of this class, with holes between them, or with directives before them
  list list_with_holes : Kind → Class → Place
  body : Class → Place
  -- an item of the latter two
  item_or_hole item_of_body : Class → Place

pub data Plan : Type 0 where
  -- one place after another
  these : List Place → Plan
  -- the nodes of a list, whatever their number
  all all_or_holes all_of_body : Class → Plan

abbrev pub first_place : Plan → Place
first_place (these []) = beyond
first_place (these (p ∷ ps)) = p
first_place (all c) = one c
first_place (all_or_holes c) = item_or_hole c
first_place (all_of_body c) = item_of_body c

abbrev pub is_directive_kind : Kind → Bool
is_directive_kind (directive written) = true
is_directive_kind k = false

-- directives stand at the head of a body alone
abbrev pub after_body_item : Class → (is_directive : Bool) → Plan
after_body_item c true = all_of_body c
after_body_item c false = all c

-- what is left of a plan behind a node of this kind
abbrev pub behind : Plan → Kind → Plan
behind (these []) k = these []
behind (these (p ∷ ps)) k = these ps
behind (all c) k = all c
behind (all_or_holes c) k = all_or_holes c
behind (all_of_body c) k = after_body_item c (is_directive_kind k)

abbrev pub MayEnd : Plan → Type 0
MayEnd (these []) = Unit {0}
MayEnd (these (p ∷ ps)) = ⊥
MayEnd plan = Unit {0}

abbrev pub MayLack : Place → Type 0
MayLack (maybe_one c) = Unit {0}
MayLack (key_apart may_be) = may_be ≡ true
MayLack p = ⊥

-- the places of a row's fields; `private` is whether a private name stands in the row
abbrev pub key_place : Keys → (private : Bool) → Key → Place
key_place keys private key_below = key_node keys private
key_place keys private (key_name s) = key_apart true
key_place keys private key = key_apart (takes_literal keys)

abbrev pub places : (private : Bool) → (fs : List Field) → Values fs → List Place
places private [] vs = []
places private (field name (keeps k) ∷ fs) vs = places private fs vs.1
places private (field name (checks c) ∷ fs) vs = places private fs vs
places private (field name (a_key keys) ∷ fs) vs = key_place keys private vs.0 ∷ places private fs vs.1
places private (field name (child c) ∷ fs) vs = one c ∷ places private fs vs
places private (field name (maybe c) ∷ fs) vs = maybe_one c ∷ places private fs vs
places private (field name (each kind c) ∷ fs) vs = list kind c ∷ places private fs vs
places private (field name (each_or_hole kind c) ∷ fs) vs = list_with_holes kind c ∷ places private fs vs
places private (field name (a_body c) ∷ fs) vs = body c ∷ places private fs vs

-- ---- trees

module _ (k : Kind) (below : Forest) (Stand : Plan → Type 0) where
  -- A node of this class: a row that may stand there makes its kind, and each node below stands at its place.
  abbrev pub IsOf : Class → Type 0
  IsOf c = (r : Row) × (vs : Values (fields_of r)) × (stands c (type_of r) ≡ Some (first_of r)) × IsChosen r vs × (k ≡ kind_in r vs) × Stand (these (places (has is_private below) (fields_of r) vs))

  abbrev pub IsAt : Place → Type 0
  IsAt (one c) = IsOf c
  IsAt (maybe_one c) = IsOf c
  IsAt beyond = ⊥
  IsAt (key_apart may_be) = ⊥
  IsAt (key_node keys true) = (takes_private keys ≡ true) × IsOf private_key
  IsAt (key_node keys false) = IsOf expression
  IsAt (list kind c) = (k ≡ kind) × Stand (all c)
  IsAt (list_with_holes kind c) = (k ≡ kind) × Stand (all_or_holes c)
  IsAt (body c) = (k ≡ statements) × Stand (all_of_body c)
  IsAt (item_or_hole c) = ((k ≡ hole) × Stand (these [])) ⊎ IsOf c
  IsAt (item_of_body c) = IsOf a_prologue ⊎ ((is_directive_kind k ≡ false) × IsOf c)

-- the nodes of a row stand as planned
abbrev pub Stand : Plan → Forest → Type 0
Stand plan nothing = MayEnd plan
Stand plan (node k n below rest) = IsAt k below (λ p. Stand p below) (first_place plan) × Stand (behind plan k) rest
Stand plan (absent rest) = MayLack (first_place plan) × Stand (behind plan hole) rest

-- a tree of this class
abbrev pub Fits : Class → Forest → Type 0
Fits c t = Stand (these (one c ∷ [])) t
