-- In a tree that fits the table of node types each list of statements, each statement of an expression, each `if`, `try`, `while` and `for`,
-- each block, each labeled statement and each import has its own slot.
use Rattle.std.proofs.Common.{◌≡◌, ◌∙◌, inl, inr, ℕ, ◌==◌, List, [], ◌∷◌, Bool, true, false, not, ◌&&◌, ◌||◌, if◌then◌else◌, Some, refl, sym, ap, true≢false}
use Rattle.js_syntax.specs.Class.{Class, root, a_prologue, module_item, statement, block, expression, private_key, method_value, binding_value, target_value}
use Rattle.js_syntax.specs.declared.node_kind.NodeKind.{NodeKind as Kind}
use Rattle.js_syntax.specs.declared.node_kind.NodeKind.TheVariants.{Statements as statements, ExpressionStatement as expression_statement, BlockStatement as block_statement, LabeledStatement as labeled_statement, IfStatement as if_statement, TryStatement as try_statement, WhileStatement as while_statement, ForStatement as for_statement, ImportDeclaration as import_declaration}
use Rattle.js_syntax.specs.declared.node_type.NodeType.TheVariants as type
use Rattle.js_syntax.specs.declared.value.Key.{Key}
use Rattle.js_syntax.specs.declared.value.Key.TheVariants.{Name as key_name, Below as key_below}
use Rattle.js_syntax.specs.Field.{Keys, class_key, property_key}
use Rattle.js_syntax.specs.Node.{Forest}
use Rattle.js_syntax.specs.Table.{Row, an_expression_statement, a_block_statement, a_labeled_statement, an_if_statement, a_try_statement, a_while_statement, a_for_statement, an_import_declaration, a_method_definition, a_property_definition, a_property, a_method_property, a_binding_property, a_target_property, fields_of, type_of, stands}
use Rattle.json_shape.specs.Shape.{Values, kind_in, IsChosen, first_of, Place as Planned, one, maybe_one, beyond, key_node, key_apart, list, list_with_holes, body, item_or_hole, item_of_body, key_place, places, Plan, IsOf, IsAt, Fits}
use Rattle.json_shape.proofs.Choice.{is_list_kind}
use Rattle.min_context.specs.Above.{parent_of}
use Rattle.min_context.specs.Place.{told_of, top}
use Rattle.min_context.specs.declared.ancestor.Ancestor.{Ancestor}
use Rattle.min_context.specs.declared.ancestor.Ancestor.TheVariants.{Field as field}
use Rattle.min_context.specs.declared.ancestor.Parent.{Parent}
use Rattle.min_context.specs.declared.ancestor.Parent.TheVariants as parent
use Rattle.min_traverse.specs.Slot.{has_key, is_export, is_loop_with_head, is_key_place, is_statement_place, outer_slot}
use Rattle.min_traverse.specs.declared.slot.Outer.TheVariants as outer
use Rattle.rules.specs.DeadCode.Quiet.{EachNode}
use Rattle.rules.specs.Slots.Had.{is_always_statement}
use Rattle.rules.proofs.Slots.Missed.{none_missed, plain_row, places_seen, fits_seen, IsSeen, each_seen}

abbrev pub is_watched : Kind → Bool
is_watched statements = true
is_watched expression_statement = true
is_watched block_statement = true
is_watched (labeled_statement label) = true
is_watched if_statement = true
is_watched try_statement = true
is_watched while_statement = true
is_watched for_statement = true
is_watched (import_declaration source) = true
is_watched k = false

abbrev pub is_missed : Ancestor → Bool
is_missed a = is_key_place a || not (is_statement_place a)

list_slot : (key place : Bool) → (key || not place) ≡ false → (if key then outer.PropertyKey else if place && false then outer.Statement else outer.Statements) ≡ outer.Statements
list_slot true place e = absurd (true≢false e)
list_slot false true e = refl
list_slot false false e = absurd (true≢false e)

pub slot_of_list : (a : Ancestor) → is_missed a ≡ false → outer_slot a statements ≡ outer.Statements
slot_of_list a e = list_slot (is_key_place a) (is_statement_place a) e

statement_slot : (key place : Bool) → (key || not place) ≡ false → (if key then outer.PropertyKey else if place && true then outer.Statement else outer.None) ≡ outer.Statement
statement_slot true place e = absurd (true≢false e)
statement_slot false true e = refl
statement_slot false false e = absurd (true≢false e)

pub slot_of_statement : (a : Ancestor) (k : Kind) → is_always_statement k ≡ true → is_missed a ≡ false → outer_slot a k ≡ outer.Statement
slot_of_statement a expression_statement is e = statement_slot (is_key_place a) (is_statement_place a) e
slot_of_statement a block_statement is e = statement_slot (is_key_place a) (is_statement_place a) e
slot_of_statement a (labeled_statement label) is e = statement_slot (is_key_place a) (is_statement_place a) e
slot_of_statement a if_statement is e = statement_slot (is_key_place a) (is_statement_place a) e
slot_of_statement a try_statement is e = statement_slot (is_key_place a) (is_statement_place a) e
slot_of_statement a while_statement is e = statement_slot (is_key_place a) (is_statement_place a) e
slot_of_statement a for_statement is e = statement_slot (is_key_place a) (is_statement_place a) e
slot_of_statement a (import_declaration source) is e = statement_slot (is_key_place a) (is_statement_place a) e
slot_of_statement a k is e = absurd (true≢false (sym is))

pub watched : (k : Kind) → is_always_statement k ≡ true → is_watched k ≡ true
watched expression_statement is = refl
watched block_statement is = refl
watched (labeled_statement label) is = refl
watched if_statement is = refl
watched try_statement is = refl
watched while_statement is = refl
watched for_statement is = refl
watched (import_declaration source) is = refl
watched k is = absurd (true≢false (sym is))

told_same : (p : Parent) (at : ℕ) (previous more : Bool) → is_missed (field (told_of p at previous more) at) ≡ is_missed (field p at)
told_same (parent.Class derived) at previous more = refl
told_same (parent.Expressions followed) at previous more = refl
told_same p at previous more = refl

-- ---- where the table lets them stand

abbrev may_be_statement : Class → Bool
may_be_statement module_item = true
may_be_statement statement = true
may_be_statement block = true
may_be_statement c = false

abbrev may_hold : Planned → Bool
may_hold (one c) = may_be_statement c
may_hold (maybe_one c) = may_be_statement c
may_hold beyond = false
may_hold (key_node keys private) = false
may_hold (key_apart may_be) = false
may_hold (list kind c) = is_watched kind
may_hold (list_with_holes kind c) = is_watched kind
may_hold (body c) = true
may_hold (item_or_hole c) = may_be_statement c
may_hold (item_of_body c) = may_be_statement c

may_class : (c : Class) → stands c type.ExpressionStatement ≡ Some an_expression_statement → may_be_statement c ≡ true
may_class module_item e = refl
may_class statement e = refl
may_class c e = absurd Prim.cc

may_class_block : (c : Class) → stands c type.BlockStatement ≡ Some a_block_statement → may_be_statement c ≡ true
may_class_block module_item e = refl
may_class_block statement e = refl
may_class_block block e = refl
may_class_block c e = absurd Prim.cc

may_class_labeled : (c : Class) → stands c type.LabeledStatement ≡ Some a_labeled_statement → may_be_statement c ≡ true
may_class_labeled module_item e = refl
may_class_labeled statement e = refl
may_class_labeled c e = absurd Prim.cc

may_class_if : (c : Class) → stands c type.IfStatement ≡ Some an_if_statement → may_be_statement c ≡ true
may_class_if module_item e = refl
may_class_if statement e = refl
may_class_if c e = absurd Prim.cc

may_class_try : (c : Class) → stands c type.TryStatement ≡ Some a_try_statement → may_be_statement c ≡ true
may_class_try module_item e = refl
may_class_try statement e = refl
may_class_try c e = absurd Prim.cc

may_class_while : (c : Class) → stands c type.WhileStatement ≡ Some a_while_statement → may_be_statement c ≡ true
may_class_while module_item e = refl
may_class_while statement e = refl
may_class_while c e = absurd Prim.cc

may_class_for : (c : Class) → stands c type.ForStatement ≡ Some a_for_statement → may_be_statement c ≡ true
may_class_for module_item e = refl
may_class_for statement e = refl
may_class_for c e = absurd Prim.cc

may_class_import : (c : Class) → stands c type.ImportDeclaration ≡ Some an_import_declaration → may_be_statement c ≡ true
may_class_import module_item e = refl
may_class_import c e = absurd Prim.cc

may_row : (c : Class) (r : Row) (vs : Values (fields_of r)) → stands c (type_of r) ≡ Some (first_of r) → is_watched (kind_in r vs) ≡ true → may_be_statement c ≡ true
may_row c an_expression_statement vs e h = may_class c e
may_row c a_block_statement vs e h = may_class_block c e
may_row c a_labeled_statement vs e h = may_class_labeled c e
may_row c an_if_statement vs e h = may_class_if c e
may_row c a_try_statement vs e h = may_class_try c e
may_row c a_while_statement vs e h = may_class_while c e
may_row c a_for_statement vs e h = may_class_for c e
may_row c an_import_declaration vs e h = may_class_import c e
may_row c r vs e h = absurd (true≢false (sym h))

module _ (k : Kind) (a : Forest) (S : Plan → Type 0) where
  may_of : (c : Class) → IsOf k a S c → is_watched k ≡ true → may_be_statement c ≡ true
  may_of c of h = may_row c of.0 of.1 of.2 (ap is_watched (sym of.4) ∙ h)

  may_there : (p : Planned) → IsAt k a S p → is_watched k ≡ true → may_hold p ≡ true
  may_there (one c) of h = may_of c of h
  may_there (maybe_one c) of h = may_of c of h
  may_there beyond at h = absurd at
  may_there (key_apart may_be) at h = absurd at
  may_there (key_node keys true) at h = may_of private_key at.1 h
  may_there (key_node keys false) of h = may_of expression of h
  may_there (list kind c) at h = ap is_watched (sym at.0) ∙ h
  may_there (list_with_holes kind c) at h = ap is_watched (sym at.0) ∙ h
  may_there (body c) at h = refl
  may_there (item_or_hole c) (inl at) h = absurd (true≢false (sym h ∙ ap is_watched at.0))
  may_there (item_or_hole c) (inr of) h = may_of c of h
  may_there (item_of_body c) (inl of) h = absurd (true≢false (sym (may_of a_prologue of h)))
  may_there (item_of_body c) (inr at) h = may_of c at.1 h

-- ---- rows of the table

abbrev seen : Parent → ℕ → List Planned → Bool
seen p at ps = places_seen is_missed is_watched may_hold p at ps

no_key : (keys : Keys) (private : Bool) (key : Key) → may_hold (key_place keys private key) ≡ false
no_key keys private key_below = refl
no_key keys private (key_name s) = refl
no_key keys private key = refl

key_first : (p : Parent) (keys : Keys) (private : Bool) (key : Key) (ps : List Planned) → seen p 1 ps ≡ true → seen p 0 (key_place keys private key ∷ ps) ≡ true
key_first p keys private key ps s = ap (λ b. not (is_missed (field p 0) && b) && seen p 1 ps) (no_key keys private key) ∙ no_head (is_missed (field p 0)) (seen p 1 ps) s
  where
    no_head : (m s : Bool) → s ≡ true → (not (m && false) && s) ≡ true
    no_head true s h = h
    no_head false s h = h

rows_seen : (r : Row) (vs : Values (fields_of r)) (private : Bool) → IsChosen r vs → seen (parent_of (kind_in r vs)) 0 (places private (fields_of r) vs) ≡ true
rows_seen a_method_definition vs private chosen = key_first (parent_of (kind_in a_method_definition vs)) class_key private vs.1.1.0 (one method_value ∷ []) refl
rows_seen a_property_definition vs private chosen = key_first (parent_of (kind_in a_property_definition vs)) class_key private vs.1.0 (maybe_one expression ∷ []) refl
rows_seen a_property vs private chosen = key_first (parent_of (kind_in a_property vs)) property_key private vs.1.1.0 (one expression ∷ []) refl
rows_seen a_method_property vs private chosen = key_first (parent_of (kind_in a_method_property vs)) property_key private vs.1.1.0 (one method_value ∷ []) refl
rows_seen a_binding_property vs private chosen = key_first (parent_of (kind_in a_binding_property vs)) property_key private vs.0 (one binding_value ∷ []) refl
rows_seen a_target_property vs private chosen = key_first (parent_of (kind_in a_target_property vs)) property_key private vs.0 (one target_value ∷ []) refl
rows_seen r vs private chosen = refl

-- ---- lists

abbrev is_special : Parent → Bool
is_special p = has_key p || (is_export p || is_loop_with_head p)

not_missed : (k x l z : Bool) → (k || (x || l)) ≡ false → (k && z || not (not (x || l && z))) ≡ false
not_missed true x l z e = absurd (true≢false e)
not_missed false true l z e = absurd (true≢false e)
not_missed false false true z e = absurd (true≢false e)
not_missed false false false z e = refl

row_of : (p : Parent) → is_special p ≡ false → (a : Forest) → none_missed is_missed is_watched p 0 a ≡ true
row_of p e a = plain_row is_missed is_watched p (λ at. not_missed (has_key p) (is_export p) (is_loop_with_head p) (at == 0) e) 0 a

lists_seen : (k : Kind) (a : Forest) → is_list_kind k ≡ true → none_missed is_missed is_watched (parent_of k) 0 a ≡ true
lists_seen Kind.ForStatement a h = absurd (true≢false (sym h))
lists_seen Kind.ForInStatement a h = absurd (true≢false (sym h))
lists_seen Kind.ForOfStatement a h = absurd (true≢false (sym h))
lists_seen (Kind.MethodDefinition how is_static key) a h = absurd (true≢false (sym h))
lists_seen (Kind.PropertyDefinition is_static key) a h = absurd (true≢false (sym h))
lists_seen (Kind.Property how is_method key) a h = absurd (true≢false (sym h))
lists_seen (Kind.BindingProperty key) a h = absurd (true≢false (sym h))
lists_seen (Kind.TargetProperty key) a h = absurd (true≢false (sym h))
lists_seen (Kind.ExportNamedDeclaration source) a h = absurd (true≢false (sym h))
lists_seen Kind.ExportDefaultDeclaration a h = absurd (true≢false (sym h))
lists_seen k a h = row_of (parent_of k) refl a

-- ---- trees

pub statements_seen : (t : Forest) → Fits root t → EachNode (IsSeen is_missed is_watched) top t
statements_seen t fits = each_seen is_missed is_watched told_same refl t (fits_seen is_missed is_watched may_hold may_there rows_seen lists_seen (row_of parent.Other refl) t fits)
