-- A tree that fits the table of node types is laid out as a program is.
use Rattle.std.proofs.Common.{◌≡◌, List, [], ◌∷◌, Bool, true, false, not, ◌&&◌, Some, refl, ap, ◌∙◌}
use Rattle.js_syntax.specs.Class.{Class, a_prologue, module_item, statement, function_block, arrow_body}
use Rattle.js_syntax.specs.declared.value.Key.{Key}
use Rattle.js_syntax.specs.declared.value.Key.TheVariants.{Name as key_name, Text as key_text, Number as key_number, Below as key_below}
use Rattle.js_syntax.specs.declared.node_kind.NodeKind.{NodeKind as Kind}
use Rattle.js_syntax.specs.declared.node_kind.NodeKind.TheVariants.{Statements as statements, Declarators as declarators, Parameters as parameters, Specifiers as specifiers, BindingName as binding_name}
use Rattle.js_syntax.specs.Field.{Keys, keeps, checks, a_key, child, maybe, each, each_or_hole, a_body, Field, field}
use Rattle.js_syntax.specs.Node.{Note, Forest, nothing, node, absent}
use Rattle.js_syntax.specs.Table.{Row as TableRow, a_program, an_expression_statement, a_binding_name, an_export_list, an_export_declaration, an_export_from, a_function_declaration, a_default_function, a_function_expression, an_arrow_function, an_import_declaration, fields_of, type_of, stands}
use Rattle.js_syntax.specs.declared.node_type.NodeType.TheVariants as type
use Rattle.form_rules.specs.Rules as rules
use Rattle.json_text.specs.Plain.{takes_literal}
use Rattle.json_shape.specs.Shape.{Values, kind_in, first_of, Place, one, maybe_one, beyond, key_node, key_apart, key_place, list, list_with_holes, body, item_or_hole, item_of_body, places, Plan, these, all, all_or_holes, all_of_body, first_place, behind, after_body_item, is_directive_kind, Stand}
use Rattle.json_shape.proofs.Choice.{is_list_kind}
use Rattle.steps.specs.KeepForm.Sheds.{Row, parts, items, of_item, of_declarators, of_head, of_import, of_specifiers, other, row_below, may_empty}
use Rattle.steps.proofs.KeepForm.Rows.{is_usual}
use Rattle.steps.specs.KeepForm.Layout.{is_of_declaration, is_list_first, are_specifiers_first, binds_none, stands_right}
use Rattle.js_syntax.proofs.Truth.{first_of_both, second_of_both, both}

-- ---- which places a row may have

abbrev pub is_prologue : Class → Bool
is_prologue a_prologue = true
is_prologue c = false

abbrev pub takes_statement : Class → Bool
takes_statement a_prologue = true
takes_statement module_item = true
takes_statement statement = true
takes_statement c = false

-- Lists in no row of their own, where they stand in no import.
abbrev pub is_quiet : Kind → Bool
is_quiet specifiers = true
is_quiet kind = is_usual kind

abbrev pub is_ordinary : Kind → Bool
is_ordinary kind = is_list_kind kind && is_quiet kind

-- where no statement stands, nor a list of them
abbrev pub is_calm : Place → Bool
is_calm (one c) = not (takes_statement c)
is_calm (maybe_one c) = not (takes_statement c)
is_calm (list kind c) = is_ordinary kind && not (takes_statement c)
is_calm (list_with_holes kind c) = is_ordinary kind && not (takes_statement c)
is_calm (body c) = false
is_calm (item_or_hole c) = not (takes_statement c)
is_calm (item_of_body c) = false
is_calm p = true

abbrev pub suits : Row → Place → Bool
suits row beyond = true
suits parts (one c) = not (is_prologue c)
suits parts (maybe_one c) = not (is_prologue c)
suits parts (list statements c) = not (is_prologue c)
suits parts (body c) = not (is_prologue c)
suits parts p = is_calm p
suits items (one c) = not (is_prologue c)
suits items (item_of_body c) = not (is_prologue c)
suits items p = false
suits of_item (list declarators c) = not (takes_statement c)
suits of_item p = false
suits of_head (list declarators c) = not (takes_statement c)
suits of_head p = false
suits of_declarators (one c) = not (takes_statement c)
suits of_declarators p = false
suits of_import (list specifiers c) = not (takes_statement c)
suits of_import p = false
suits of_specifiers (one c) = not (takes_statement c)
suits of_specifiers p = false
suits other p = is_calm p

abbrev pub is_item_of_body : Place → Bool
is_item_of_body (item_of_body c) = true
is_item_of_body p = false

abbrev pub all_suit : Row → List Place → Bool
all_suit row [] = true
all_suit row (p ∷ ps) = (suits row p && not (is_item_of_body p)) && all_suit row ps

abbrev pub suits_plan : Row → Plan → Bool
suits_plan row (these ps) = all_suit row ps
suits_plan row (all c) = suits row (one c)
suits_plan row (all_or_holes c) = suits row (item_or_hole c)
suits_plan row (all_of_body c) = suits row (item_of_body c) && suits row (one c)

pub first_suits : (row : Row) (plan : Plan) → suits_plan row plan ≡ true → suits row (first_place plan) ≡ true
first_suits row (these []) h = beyond_suits row
  where
    beyond_suits : (row : Row) → suits row beyond ≡ true
    beyond_suits parts = refl
    beyond_suits row = refl
first_suits row (these (p ∷ ps)) h = first_of_both _ _ (first_of_both _ _ h)
first_suits row (all c) h = h
first_suits row (all_or_holes c) h = h
first_suits row (all_of_body c) h = first_of_both _ _ h

after_suits : (row : Row) (c : Class) (b : Bool) → suits_plan row (all_of_body c) ≡ true → suits_plan row (after_body_item c b) ≡ true
after_suits row c true h = h
after_suits row c false h = second_of_both _ _ h

pub behind_suits : (row : Row) (plan : Plan) (k : Kind) → suits_plan row plan ≡ true → suits_plan row (behind plan k) ≡ true
behind_suits row (these []) k h = refl
behind_suits row (these (p ∷ ps)) k h = second_of_both _ _ h
behind_suits row (all c) k h = h
behind_suits row (all_or_holes c) k h = h
behind_suits row (all_of_body c) k h = after_suits row c (is_directive_kind k) h

-- ---- what a row of the table makes stands where its fields have it

abbrev pub sort_suits : Row → Field → Bool
sort_suits row (field name (keeps k)) = true
sort_suits row (field name (checks c)) = true
sort_suits row (field name (a_key keys)) = (suits row (key_apart true) && suits row (key_apart false)) && (suits row (key_node keys true) && suits row (key_node keys false))
sort_suits row (field name (child c)) = suits row (one c)
sort_suits row (field name (maybe c)) = suits row (maybe_one c)
sort_suits row (field name (each kind c)) = suits row (list kind c)
sort_suits row (field name (each_or_hole kind c)) = suits row (list_with_holes kind c)
sort_suits row (field name (a_body c)) = suits row (body c)

abbrev pub fields_suit : Row → List Field → Bool
fields_suit row [] = true
fields_suit row (f ∷ fs) = sort_suits row f && fields_suit row fs

-- rows of nodes that have a row of the table
abbrev pub is_open : Row → Bool
is_open of_item = false
is_open of_head = false
is_open of_import = false
is_open row = true

pub made_suits : (row : Row) → is_open row ≡ true → (r : TableRow) (vs : Values (fields_of r)) → fields_suit (row_below row (kind_in r vs)) (fields_of r) ≡ true
made_suits parts h a_program vs = refl
made_suits parts h r vs = refl
made_suits items h a_program vs = refl
made_suits items h r vs = refl
made_suits of_declarators h a_program vs = refl
made_suits of_declarators h r vs = refl
made_suits of_specifiers h a_program vs = refl
made_suits of_specifiers h r vs = refl
made_suits other h a_program vs = refl
made_suits other h r vs = refl
made_suits of_item h r vs = absurd cc
made_suits of_head h r vs = absurd cc
made_suits of_import h r vs = absurd cc

module _ (row : Row) where
  apart_suits : (x : Bool) → suits row (key_apart true) ≡ true → suits row (key_apart false) ≡ true → suits row (key_apart x) ≡ true
  apart_suits true h g = h
  apart_suits false h g = g

  node_suits : (keys : Keys) (x : Bool) → suits row (key_node keys true) ≡ true → suits row (key_node keys false) ≡ true → suits row (key_node keys x) ≡ true
  node_suits keys true h g = h
  node_suits keys false h g = g

  key_suits : (keys : Keys) (private : Bool) (key : Key) → sort_suits row (field [] (a_key keys)) ≡ true → suits row (key_place keys private key) && not (is_item_of_body (key_place keys private key)) ≡ true
  key_suits keys private key h =
      let apart = first_of_both (suits row (key_apart true) && suits row (key_apart false)) (suits row (key_node keys true) && suits row (key_node keys false)) h in
      let a_node = second_of_both (suits row (key_apart true) && suits row (key_apart false)) (suits row (key_node keys true) && suits row (key_node keys false)) h in
      by_key key (first_of_both (suits row (key_apart true)) (suits row (key_apart false)) apart) (second_of_both (suits row (key_apart true)) (suits row (key_apart false)) apart)
      (node_suits keys private (first_of_both (suits row (key_node keys true)) (suits row (key_node keys false)) a_node) (second_of_both (suits row (key_node keys true)) (suits row (key_node keys false)) a_node))
    where
      by_key : (key : Key) → suits row (key_apart true) ≡ true → suits row (key_apart false) ≡ true → suits row (key_node keys private) ≡ true → suits row (key_place keys private key) && not (is_item_of_body (key_place keys private key)) ≡ true
      by_key key_below x y z = both _ _ z refl
      by_key (key_name s) x y z = both _ _ x refl
      by_key (key_text s) x y z = both _ _ (apart_suits (takes_literal keys) x y) refl
      by_key (key_number n) x y z = both _ _ (apart_suits (takes_literal keys) x y) refl

  pub places_suit : (private : Bool) (fs : List Field) (vs : Values fs) → fields_suit row fs ≡ true → all_suit row (places private fs vs) ≡ true
  places_suit private [] vs h = refl
  places_suit private (field name (keeps k) ∷ fs) vs h = places_suit private fs vs.1 h
  places_suit private (field name (checks c) ∷ fs) vs h = places_suit private fs vs h
  places_suit private (field name (a_key keys) ∷ fs) vs h = both _ _ (key_suits keys private vs.0 (first_of_both _ _ h)) (places_suit private fs vs.1 (second_of_both _ _ h))
  places_suit private (field name (child c) ∷ fs) vs h = both _ _ (both _ _ (first_of_both _ _ h) refl) (places_suit private fs vs (second_of_both _ _ h))
  places_suit private (field name (maybe c) ∷ fs) vs h = both _ _ (both _ _ (first_of_both _ _ h) refl) (places_suit private fs vs (second_of_both _ _ h))
  places_suit private (field name (each kind c) ∷ fs) vs h = both _ _ (both _ _ (first_of_both _ _ h) refl) (places_suit private fs vs (second_of_both _ _ h))
  places_suit private (field name (each_or_hole kind c) ∷ fs) vs h = both _ _ (both _ _ (first_of_both _ _ h) refl) (places_suit private fs vs (second_of_both _ _ h))
  places_suit private (field name (a_body c) ∷ fs) vs h = both _ _ (both _ _ (first_of_both _ _ h) refl) (places_suit private fs vs (second_of_both _ _ h))

-- ---- the parts of programs, exports and functions

list_there : (c : Class) (ps : List Place) (a : Forest) → Stand (these (body c ∷ ps)) a → is_list_first a ≡ true
list_there c ps nothing h = absurd h
list_there c ps (absent r) h = absurd h.0
list_there c ps (node k n a r) h = ap (λ x. is_list_first (node x n a r)) h.0.0

specifiers_there : (c : Class) (ps : List Place) (a : Forest) → Stand (these (list specifiers c ∷ ps)) a → are_specifiers_first a ≡ true
specifiers_there c ps nothing h = absurd h
specifiers_there c ps (absent r) h = absurd h.0
specifiers_there c ps (node k n a r) h = ap (λ x. are_specifiers_first (node x n a r)) h.0.0

specifiers_second : (p : Place) (c : Class) (ps : List Place) (a : Forest) → Stand (these (p ∷ list specifiers c ∷ ps)) a → are_specifiers_first (rules.behind a) ≡ true
specifiers_second p c ps nothing h = absurd h
specifiers_second p c ps (absent r) h = specifiers_there c ps r h.1
specifiers_second p c ps (node k n a r) h = specifiers_there c ps r h.1

abbrev is_name : Kind → Bool
is_name (binding_name x) = true
is_name k = false

binds_skip : (k : Kind) (n : Note) (a r : Forest) → is_name k ≡ false → binds_none r ≡ true → binds_none (node k n a r) ≡ true
binds_skip (binding_name x) n a r h g = absurd cc
binds_skip k n a r h g = g

-- the body of a function
abbrev is_code : Class → Bool
is_code function_block = true
is_code arrow_body = true
is_code c = false

no_name : (c : Class) (r : TableRow) (vs : Values (fields_of r)) → is_code c ≡ true → stands c (type_of r) ≡ Some (first_of r) → is_name (kind_in r vs) ≡ false
no_name function_block a_binding_name vs code h = absurd cc
no_name arrow_body a_binding_name vs code h = absurd cc
no_name c a_binding_name vs code h = absurd cc
no_name c r vs code h = refl

code_binds : (c : Class) (r : Forest) → is_code c ≡ true → Stand (these (one c ∷ [])) r → binds_none r ≡ true
code_binds c nothing code h = absurd h
code_binds c (absent r) code h = absurd h.0
code_binds c (node k n a nothing) code h = binds_skip k n a nothing (ap is_name h.0.4 ∙ no_name c h.0.0 h.0.1 code h.0.2) refl
code_binds c (node k n a (absent r)) code h = absurd h.1.0
code_binds c (node k n a (node j m b r)) code h = absurd h.1.0

parameters_bind : (d c : Class) (r : Forest) → is_code c ≡ true → Stand (these (list parameters d ∷ one c ∷ [])) r → binds_none r ≡ true
parameters_bind d c nothing code h = absurd h
parameters_bind d c (absent r) code h = absurd h.0
parameters_bind d c (node k n a r) code h = binds_skip k n a r (ap is_name h.0.0) (code_binds c r code h.1)

parts_bind : (p : Place) (d c : Class) (a : Forest) → is_code c ≡ true → Stand (these (p ∷ list parameters d ∷ one c ∷ [])) a → binds_none (rules.behind a) ≡ true
parts_bind p d c nothing code h = absurd h
parts_bind p d c (absent r) code h = parameters_bind d c r code h.1
parts_bind p d c (node k n a r) code h = parameters_bind d c r code h.1

statement_class : (c : Class) → stands c type.ExpressionStatement ≡ Some an_expression_statement → takes_statement c ≡ true
statement_class a_prologue h = refl
statement_class module_item h = refl
statement_class statement h = refl
statement_class c h = absurd cc

open_no_declaration : (row : Row) → is_open row ≡ true → not (is_of_declaration row) ≡ true
open_no_declaration of_item h = absurd cc
open_no_declaration of_head h = absurd cc
open_no_declaration row h = refl

pub made_right : (row : Row) (c : Class) (r : TableRow) (vs : Values (fields_of r)) (private : Bool) (a : Forest) → is_open row ≡ true → (takes_statement c ≡ true → may_empty row ≡ true) → stands c (type_of r) ≡ Some (first_of r)
    → Stand (these (places private (fields_of r) vs)) a → stands_right row (kind_in r vs) a ≡ true
made_right row c a_program vs private a free may is h = list_there _ _ a h
made_right row c an_expression_statement vs private a free may is h = may (statement_class c is)
made_right row c an_export_list vs private a free may is h = specifiers_second _ _ _ a h
made_right row c an_export_declaration vs private a free may is h = specifiers_second _ _ _ a h
made_right row c an_export_from vs private a free may is h = specifiers_second _ _ _ a h
made_right row c a_function_declaration vs private a free may is h = parts_bind _ _ function_block a refl h
made_right row c a_default_function vs private a free may is h = parts_bind _ _ function_block a refl h
made_right row c a_function_expression vs private a free may is h = parts_bind _ _ function_block a refl h
made_right row c an_arrow_function vs private a free may is h = parts_bind _ _ arrow_body a refl h
made_right row c an_import_declaration vs private a free may is h = open_no_declaration row free
made_right row c r vs private a free may is h = refl
