-- Plans of rows: a list goes on without one of its nodes.
use Rattle.std.proofs.Common.{◌≡◌, List, [], ◌∷◌, Bool, true, false, not, ◌&&◌, refl}
use Rattle.js_syntax.specs.Class.{Class}
use Rattle.js_syntax.specs.declared.value.Key.{Key}
use Rattle.js_syntax.specs.declared.value.Key.TheVariants.{Name as key_name, Text as key_text, Number as key_number, Below as key_below}
use Rattle.js_syntax.specs.declared.node_kind.NodeKind.{NodeKind as Kind}
use Rattle.js_syntax.specs.Field.{Keys, keeps, checks, a_key, child, maybe, each, each_or_hole, a_body, Field, field}
use Rattle.js_syntax.specs.Node.{Forest}
use Rattle.js_syntax.specs.Table.{Row as TableRow, fields_of, stands}
use Rattle.js_syntax.specs.declared.node_type.NodeType.TheVariants as type
use Rattle.steps.specs.Steps.{Row}
use Rattle.json_shape.specs.Shape.{Values, Place, key_place, list, list_with_holes, body, item_of_body, places, Plan, these, all, all_or_holes, all_of_body, first_place, behind, after_body_item, is_directive_kind, Stand}
use Rattle.json_shape.proofs.Fitting.{takes_directive, body_of_all}
use Rattle.json_shape.proofs.Choice.{is_list_kind, are_lists, lists_in}
use Rattle.json_shape.proofs.FittingNodes.{are_bodies, bodies_in}
use Rattle.steps.proofs.KeepTable.Rows.{drops}
use Rattle.js_syntax.proofs.Truth.{first_of_both, second_of_both, not_true, both}

-- ---- plans whose bodies have statements behind the directives, and whose lists are lists

abbrev pub is_body : Class → Bool
is_body c = not (takes_directive (stands c type.ExpressionStatement))

abbrev pub place_ok : Place → Bool
place_ok (body c) = is_body c
place_ok (item_of_body c) = is_body c
place_ok (list kind c) = is_list_kind kind
place_ok (list_with_holes kind c) = is_list_kind kind
place_ok p = true

abbrev pub places_ok : List Place → Bool
places_ok [] = true
places_ok (p ∷ ps) = place_ok p && places_ok ps

abbrev pub plan_ok : Plan → Bool
plan_ok (these ps) = places_ok ps
plan_ok (all_of_body c) = is_body c
plan_ok plan = true

pub first_ok : (plan : Plan) → plan_ok plan ≡ true → place_ok (first_place plan) ≡ true
first_ok (these []) ok = refl
first_ok (these (p ∷ ps)) ok = first_of_both _ _ ok
first_ok (all c) ok = refl
first_ok (all_or_holes c) ok = refl
first_ok (all_of_body c) ok = ok

pub after_ok : (c : Class) (b : Bool) → is_body c ≡ true → plan_ok (after_body_item c b) ≡ true
after_ok c true ok = ok
after_ok c false ok = refl

pub behind_ok : (plan : Plan) (k : Kind) → plan_ok plan ≡ true → plan_ok (behind plan k) ≡ true
behind_ok (these []) k ok = refl
behind_ok (these (p ∷ ps)) k ok = second_of_both _ _ ok
behind_ok (all c) k ok = refl
behind_ok (all_or_holes c) k ok = refl
behind_ok (all_of_body c) k ok = after_ok c (is_directive_kind k) ok

pub key_ok : (keys : Keys) (private : Bool) (key : Key) → place_ok (key_place keys private key) ≡ true
key_ok keys private (key_name s) = refl
key_ok keys private (key_text s) = refl
key_ok keys private (key_number n) = refl
key_ok keys private key_below = refl

pub fields_ok : (private : Bool) (fs : List Field) (vs : Values fs) → are_bodies fs ≡ true → are_lists fs ≡ true → places_ok (places private fs vs) ≡ true
fields_ok private [] vs ok lists = refl
fields_ok private (field name (keeps k) ∷ fs) vs ok lists = fields_ok private fs vs.1 ok lists
fields_ok private (field name (checks c) ∷ fs) vs ok lists = fields_ok private fs vs ok lists
fields_ok private (field name (a_key keys) ∷ fs) vs ok lists = both _ _ (key_ok keys private vs.0) (fields_ok private fs vs.1 ok lists)
fields_ok private (field name (child c) ∷ fs) vs ok lists = fields_ok private fs vs ok lists
fields_ok private (field name (maybe c) ∷ fs) vs ok lists = fields_ok private fs vs ok lists
fields_ok private (field name (each kind c) ∷ fs) vs ok lists = both _ _ (first_of_both _ _ lists) (fields_ok private fs vs ok (second_of_both _ _ lists))
fields_ok private (field name (each_or_hole kind c) ∷ fs) vs ok lists = both _ _ (first_of_both _ _ lists) (fields_ok private fs vs ok (second_of_both _ _ lists))
fields_ok private (field name (a_body c) ∷ fs) vs ok lists = both _ _ (first_of_both _ _ ok) (fields_ok private fs vs (second_of_both _ _ ok) lists)

-- what a row of the table plans is such a plan
pub row_ok : (private : Bool) (r : TableRow) (vs : Values (fields_of r)) → plan_ok (these (places private (fields_of r) vs)) ≡ true
row_ok private r vs = fields_ok private (fields_of r) vs (bodies_in r) (lists_in r)

-- ---- plans of lists

abbrev pub of_list : Plan → Bool
of_list (these ps) = false
of_list plan = true

-- a row that loses nodes is planned as a list
abbrev pub Suits : Row → Plan → Type 0
Suits row plan = drops row ≡ true → of_list plan ≡ true

pub after_list : (c : Class) (b : Bool) → of_list (after_body_item c b) ≡ true
after_list c true = refl
after_list c false = refl

pub behind_list : (plan : Plan) (k : Kind) → of_list plan ≡ true → of_list (behind plan k) ≡ true
behind_list (these []) k h = h
behind_list (these (p ∷ ps)) k h = absurd cc
behind_list (all c) k h = refl
behind_list (all_or_holes c) k h = refl
behind_list (all_of_body c) k h = after_list c (is_directive_kind k)

pub behind_suits : (row : Row) (plan : Plan) (k : Kind) → Suits row plan → Suits row (behind plan k)
behind_suits row plan k suits = λ d. behind_list plan k (suits d)

-- a node of a list goes: what stands behind it stands in its place
body_without : (c : Class) (b : Bool) (t : Forest) → is_body c ≡ true → Stand (after_body_item c b) t → Stand (all_of_body c) t
body_without c true t ok h = h
body_without c false t ok h = body_of_all c t (not_true _ ok) h

pub gone : (plan : Plan) (k : Kind) (t : Forest) → plan_ok plan ≡ true → of_list plan ≡ true → Stand (behind plan k) t → Stand plan t
gone (these ps) k t ok is h = absurd cc
gone (all c) k t ok is h = h
gone (all_or_holes c) k t ok is h = h
gone (all_of_body c) k t ok is h = body_without c (is_directive_kind k) t ok h
