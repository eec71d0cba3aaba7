-- A test of places: where all fields of a row of the table pass, so do the places of a node that the row makes, and those behind
-- each of them.
use Rattle.std.proofs.Common.{◌≡◌, List, [], ◌∷◌, Bool, true, false, ◌&&◌}
use Rattle.js_syntax.specs.Class.{Class}
use Rattle.js_syntax.specs.declared.value.Key.{Key}
use Rattle.js_syntax.specs.declared.value.Key.TheVariants.{Name as key_name, Text as key_text, Number as key_number, Below as key_below}
use Rattle.js_syntax.specs.declared.node_kind.NodeKind.{NodeKind as Kind}
use Rattle.js_syntax.specs.Field.{Keys, keeps, checks, a_key, child, maybe, each, each_or_hole, a_body, Field, field}
use Rattle.json_text.specs.Plain.{takes_literal}
use Rattle.json_shape.specs.Shape.{Values, Place, one, maybe_one, beyond, key_node, key_apart, key_place, list, list_with_holes, body, item_or_hole, item_of_body, places, Plan, these, all, all_or_holes, all_of_body, first_place, behind, after_body_item, is_directive_kind}
use Rattle.js_syntax.proofs.Truth.{first_of_both, second_of_both, both}

module _ (test : Place → Bool) where
  -- ---- fields

  abbrev pub sort_passes : Field → Bool
  sort_passes (field name (keeps k)) = true
  sort_passes (field name (checks c)) = true
  sort_passes (field name (a_key keys)) = (test (key_apart true) && test (key_apart false)) && (test (key_node keys true) && test (key_node keys false))
  sort_passes (field name (child c)) = test (one c)
  sort_passes (field name (maybe c)) = test (maybe_one c)
  sort_passes (field name (each kind c)) = test (list kind c)
  sort_passes (field name (each_or_hole kind c)) = test (list_with_holes kind c)
  sort_passes (field name (a_body c)) = test (body c)

  abbrev pub fields_pass : List Field → Bool
  fields_pass [] = true
  fields_pass (f ∷ fs) = sort_passes f && fields_pass fs

  -- ---- places

  abbrev pub all_pass : List Place → Bool
  all_pass [] = true
  all_pass (p ∷ ps) = test p && all_pass ps

  abbrev pub plan_passes : Plan → Bool
  plan_passes (these ps) = all_pass ps
  plan_passes (all c) = test (one c)
  plan_passes (all_or_holes c) = test (item_or_hole c)
  plan_passes (all_of_body c) = test (item_of_body c) && test (one c)

  pub first_passes : (plan : Plan) → test beyond ≡ true → plan_passes plan ≡ true → test (first_place plan) ≡ true
  first_passes (these []) none h = none
  first_passes (these (p ∷ ps)) none h = first_of_both (test p) (all_pass ps) h
  first_passes (all c) none h = h
  first_passes (all_or_holes c) none h = h
  first_passes (all_of_body c) none h = first_of_both (test (item_of_body c)) (test (one c)) h

  after_passes : (c : Class) (b : Bool) → plan_passes (all_of_body c) ≡ true → plan_passes (after_body_item c b) ≡ true
  after_passes c true h = h
  after_passes c false h = second_of_both (test (item_of_body c)) (test (one c)) h

  pub behind_passes : (plan : Plan) (k : Kind) → plan_passes plan ≡ true → plan_passes (behind plan k) ≡ true
  behind_passes (these []) k h = h
  behind_passes (these (p ∷ ps)) k h = second_of_both (test p) (all_pass ps) h
  behind_passes (all c) k h = h
  behind_passes (all_or_holes c) k h = h
  behind_passes (all_of_body c) k h = after_passes c (is_directive_kind k) h

  -- ---- the places of a row

  apart_passes : (x : Bool) → test (key_apart true) ≡ true → test (key_apart false) ≡ true → test (key_apart x) ≡ true
  apart_passes true h g = h
  apart_passes false h g = g

  node_passes : (keys : Keys) (x : Bool) → test (key_node keys true) ≡ true → test (key_node keys false) ≡ true → test (key_node keys x) ≡ true
  node_passes keys true h g = h
  node_passes keys false h g = g

  key_by : (keys : Keys) (private : Bool) (key : Key) → test (key_apart true) ≡ true → test (key_apart false) ≡ true → test (key_node keys private) ≡ true → test (key_place keys private key) ≡ true
  key_by keys private key_below h g e = e
  key_by keys private (key_name s) h g e = h
  key_by keys private (key_text s) h g e = apart_passes (takes_literal keys) h g
  key_by keys private (key_number n) h g e = apart_passes (takes_literal keys) h g

  key_passes : (keys : Keys) (private : Bool) (key : Key) → sort_passes (field [] (a_key keys)) ≡ true → test (key_place keys private key) ≡ true
  key_passes keys private key h =
      let apart = first_of_both (test (key_apart true) && test (key_apart false)) (test (key_node keys true) && test (key_node keys false)) h in
      let inside = second_of_both (test (key_apart true) && test (key_apart false)) (test (key_node keys true) && test (key_node keys false)) h in
      key_by keys private key (first_of_both (test (key_apart true)) (test (key_apart false)) apart) (second_of_both (test (key_apart true)) (test (key_apart false)) apart)
      (node_passes keys private (first_of_both (test (key_node keys true)) (test (key_node keys false)) inside) (second_of_both (test (key_node keys true)) (test (key_node keys false)) inside))

  pub places_pass : (private : Bool) (fs : List Field) (vs : Values fs) → fields_pass fs ≡ true → all_pass (places private fs vs) ≡ true
  places_pass private [] vs h = h
  places_pass private (field name (keeps k) ∷ fs) vs h = places_pass private fs vs.1 h
  places_pass private (field name (checks c) ∷ fs) vs h = places_pass private fs vs h
  places_pass private (field name (a_key keys) ∷ fs) vs h =
      both _ _ (key_passes keys private vs.0 (first_of_both (sort_passes (field name (a_key keys))) (fields_pass fs) h)) (places_pass private fs vs.1 (second_of_both (sort_passes (field name (a_key keys))) (fields_pass fs) h))
  places_pass private (field name (child c) ∷ fs) vs h = both _ _ (first_of_both (test (one c)) (fields_pass fs) h) (places_pass private fs vs (second_of_both (test (one c)) (fields_pass fs) h))
  places_pass private (field name (maybe c) ∷ fs) vs h = both _ _ (first_of_both (test (maybe_one c)) (fields_pass fs) h) (places_pass private fs vs (second_of_both (test (maybe_one c)) (fields_pass fs) h))
  places_pass private (field name (each kind c) ∷ fs) vs h = both _ _ (first_of_both (test (list kind c)) (fields_pass fs) h) (places_pass private fs vs (second_of_both (test (list kind c)) (fields_pass fs) h))
  places_pass private (field name (each_or_hole kind c) ∷ fs) vs h = both _ _ (first_of_both (test (list_with_holes kind c)) (fields_pass fs) h) (places_pass private fs vs (second_of_both (test (list_with_holes kind c)) (fields_pass fs) h))
  places_pass private (field name (a_body c) ∷ fs) vs h = both _ _ (first_of_both (test (body c)) (fields_pass fs) h) (places_pass private fs vs (second_of_both (test (body c)) (fields_pass fs) h))
