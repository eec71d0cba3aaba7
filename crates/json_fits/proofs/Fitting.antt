-- What one finds out node by node is whether a tree fits the table.
use Rattle.std.proofs.Common.{◌≡◌, ◌∙◌, inl, inr, List, [], ◌∷◌, Bool, true, false, not, ◌&&◌, ◌==◌, Option, Some, None, slice_index_or, refl, sym, ap, subst, true≢false}
use Rattle.std.proofs.lemmas.Bool.{and_parts, and_from, or_cases, eqb-true, eq-eqb}
use Rattle.js_syntax.proofs.Truth.{not_true, first_of_either, second_of_either}
use Rattle.js_syntax.specs.declared.value.Key.{Key}
use Rattle.js_syntax.specs.declared.value.Key.TheVariants.{Name as key_name, Below as key_below}
use Rattle.js_syntax.specs.declared.node_kind.NodeKind.{NodeKind as Kind}
use Rattle.js_syntax.specs.declared.node_kind.NodeKind.TheVariants.{Hole as hole, Statements as statements, Cases as cases, Declarators as declarators, Parameters as parameters, Members as members, Elements as elements, Properties as properties, Expressions as expressions, Arguments as arguments, Quasis as quasis, Specifiers as specifiers}
use Rattle.js_syntax.specs.Node.{Forest, nothing, node, absent}
use Rattle.js_syntax.specs.Class.{Class, root, a_prologue, expression, private_key}
use Rattle.js_syntax.specs.Field.{Keys, keeps, checks, a_key, child, maybe, each, each_or_hole, a_body, Field, field}
use Rattle.js_syntax.specs.Hint.{has, is_private}
use Rattle.js_syntax.specs.Table.{Row, a_program, fields_of, type_of, stands}
use Rattle.json_text.specs.Plain.{takes_private}
use Rattle.json_shape.specs.Shape.{Values, kind_in, first_of, places, Place, one, maybe_one, beyond, key_node, key_apart, list, list_with_holes, body, item_or_hole, item_of_body, Plan, these, all, all_or_holes, all_of_body, first_place, behind, after_body_item, is_directive_kind, key_place, MayEnd, MayLack, IsOf, IsAt, Stand, Fits}
use Rattle.json_fits.specs.Rows.{first_row, second_row, number, all_rows}
use Rattle.json_fits.specs.Fitting.{key_of, places_by, is_row, may_stand, same_list, is_hole, may_end, may_lack, is_of_row, is_of, is_at, is_planned}
use Rattle.json_fits.proofs.Made.{Makes, IfRow, first_makes, second_makes, IsOne, all_made, places_made, row_numbered}

-- ---- rows and lists

same_row : (s r : Row) → (number s == number r) ≡ true → s ≡ r
same_row s r h = sym (row_numbered s) ∙ ap (λ n. slice_index_or all_rows n a_program) (eqb-true (number s) (number r) h) ∙ row_numbered r

row_stands : (o : Option Row) (r : Row) → is_row o r ≡ true → o ≡ Some r
row_stands None r h = absurd (true≢false (sym h))
row_stands (Some s) r h = ap (λ x. Some x) (same_row s r h)

stands_so : (o : Option Row) (r : Row) → o ≡ Some r → is_row o r ≡ true
stands_so o r h = ap (λ x. is_row x r) h ∙ eq-eqb (number r) (number r) refl

list_so : (k kind : Kind) → same_list k kind ≡ true → k ≡ kind
list_so statements statements h = refl
list_so cases cases h = refl
list_so declarators declarators h = refl
list_so parameters parameters h = refl
list_so members members h = refl
list_so elements elements h = refl
list_so properties properties h = refl
list_so expressions expressions h = refl
list_so arguments arguments h = refl
list_so quasis quasis h = refl
list_so specifiers specifiers h = refl
list_so k kind h = absurd (true≢false (sym h))

hole_so : (k : Kind) → is_hole k ≡ true → k ≡ hole
hole_so hole h = refl
hole_so k h = absurd (true≢false (sym h))

-- ---- what is found fits

module _ (k : Kind) (below : Forest) (planned : Plan → Bool) (Stands : Plan → Type 0) (stand : (p : Plan) → planned p ≡ true → Stands p) where
  of_row_found : (c : Class) (o : Option Row) → IfRow (Makes k) o → is_of_row k below planned c o ≡ true → IsOf k below Stands c
  of_row_found c None m h = absurd (true≢false (sym h))
  of_row_found c (Some r) m h =
      let both = and_parts (may_stand c r) (planned (these (places_by (has is_private below) (key_of k) (fields_of r)))) h in
      (r, m.values, row_stands (stands c (type_of r)) (first_of r) both.0, m.chosen, m.makes, subst (λ ps. Stands (these ps)) (sym (m.places (has is_private below))) (stand (these (places_by (has is_private below) (key_of k) (fields_of r))) both.1))

  of_found : (c : Class) → is_of k below planned c ≡ true → IsOf k below Stands c
  of_found c h = elim (or_cases (is_of_row k below planned c (first_row k)) (is_of_row k below planned c (second_row k)) h) [
    | inl g ↦ of_row_found c (first_row k) (first_makes k) g
    | inr g ↦ of_row_found c (second_row k) (second_makes k) g
  ]

  at_found : (p : Place) → is_at k below planned p ≡ true → IsAt k below Stands p
  at_found (one c) h = of_found c h
  at_found (maybe_one c) h = of_found c h
  at_found beyond h = absurd (true≢false (sym h))
  at_found (key_apart may_be) h = absurd (true≢false (sym h))
  at_found (key_node keys true) h = let both = and_parts (takes_private keys) (is_of k below planned private_key) h in (both.0, of_found private_key both.1)
  at_found (key_node keys false) h = of_found expression h
  at_found (list kind c) h = let both = and_parts (same_list k kind) (planned (all c)) h in (list_so k kind both.0, stand (all c) both.1)
  at_found (list_with_holes kind c) h = let both = and_parts (same_list k kind) (planned (all_or_holes c)) h in (list_so k kind both.0, stand (all_or_holes c) both.1)
  at_found (body c) h = let both = and_parts (same_list k statements) (planned (all_of_body c)) h in (list_so k statements both.0, stand (all_of_body c) both.1)
  at_found (item_or_hole c) h = elim (or_cases (is_hole k && planned (these [])) (is_of k below planned c) h) [
    | inl g ↦ let both = and_parts (is_hole k) (planned (these [])) g in inl (hole_so k both.0, stand (these []) both.1)
    | inr g ↦ inr (of_found c g)
  ]
  at_found (item_of_body c) h = elim (or_cases (is_of k below planned a_prologue) (not (is_directive_kind k) && is_of k below planned c) h) [
    | inl g ↦ inl (of_found a_prologue g)
    | inr g ↦ let both = and_parts (not (is_directive_kind k)) (is_of k below planned c) g in inr (not_true (is_directive_kind k) both.0, of_found c both.1)
  ]

end_found : (plan : Plan) → may_end plan ≡ true → MayEnd plan
end_found (these []) h = tt
end_found (these (p ∷ ps)) h = absurd (true≢false (sym h))
end_found (all c) h = tt
end_found (all_or_holes c) h = tt
end_found (all_of_body c) h = tt

lack_found : (p : Place) → may_lack p ≡ true → MayLack p
lack_found (maybe_one c) h = tt
lack_found (key_apart may_be) h = h
lack_found p h = absurd (true≢false (sym h))

pub planned_stands : (t : Forest) (plan : Plan) → is_planned plan t ≡ true → Stand plan t
planned_stands nothing plan h = end_found plan h
planned_stands (node k n below rest) plan h =
    let both = and_parts (is_at k below (λ p. is_planned p below) (first_place plan)) (is_planned (behind plan k) rest) h in
    (at_found k below (λ p. is_planned p below) (λ p. Stand p below) (planned_stands below) (first_place plan) both.0, planned_stands rest (behind plan k) both.1)
planned_stands (absent rest) plan h =
    let both = and_parts (may_lack (first_place plan)) (is_planned (behind plan hole) rest) h in (lack_found (first_place plan) both.0, planned_stands rest (behind plan hole) both.1)

-- ---- what fits is found: each list of the table is one

abbrev place_ok : Place → Bool
place_ok (list kind c) = same_list kind kind
place_ok (list_with_holes kind c) = same_list kind kind
place_ok p = true

abbrev places_ok : List Place → Bool
places_ok [] = true
places_ok (p ∷ ps) = place_ok p && places_ok ps

abbrev plan_ok : Plan → Bool
plan_ok (these ps) = places_ok ps
plan_ok plan = true

abbrev are_lists : List Field → Bool
are_lists [] = true
are_lists (field name (each kind c) ∷ fs) = same_list kind kind && are_lists fs
are_lists (field name (each_or_hole kind c) ∷ fs) = same_list kind kind && are_lists fs
are_lists (field name sort ∷ fs) = are_lists fs

lists_in : (r : Row) → are_lists (fields_of r) ≡ true
lists_in a_program = refl
lists_in r = refl

key_ok : (keys : Keys) (private : Bool) (key : Key) → place_ok (key_place keys private key) ≡ true
key_ok keys private key_below = refl
key_ok keys private (key_name s) = refl
key_ok keys private key = refl

fields_ok : (private : Bool) (key : Key) (fs : List Field) → are_lists fs ≡ true → places_ok (places_by private key fs) ≡ true
fields_ok private key [] h = refl
fields_ok private key (field name (keeps k) ∷ fs) h = fields_ok private key fs h
fields_ok private key (field name (checks c) ∷ fs) h = fields_ok private key fs h
fields_ok private key (field name (a_key keys) ∷ fs) h = and_from (place_ok (key_place keys private key)) (places_ok (places_by private key fs)) (key_ok keys private key) (fields_ok private key fs h)
fields_ok private key (field name (child c) ∷ fs) h = fields_ok private key fs h
fields_ok private key (field name (maybe c) ∷ fs) h = fields_ok private key fs h
fields_ok private key (field name (each kind c) ∷ fs) h =
    let both = and_parts (same_list kind kind) (are_lists fs) h in and_from (same_list kind kind) (places_ok (places_by private key fs)) both.0 (fields_ok private key fs both.1)
fields_ok private key (field name (each_or_hole kind c) ∷ fs) h =
    let both = and_parts (same_list kind kind) (are_lists fs) h in and_from (same_list kind kind) (places_ok (places_by private key fs)) both.0 (fields_ok private key fs both.1)
fields_ok private key (field name (a_body c) ∷ fs) h = fields_ok private key fs h

first_ok : (plan : Plan) → plan_ok plan ≡ true → place_ok (first_place plan) ≡ true
first_ok (these []) h = refl
first_ok (these (p ∷ ps)) h = (and_parts (place_ok p) (places_ok ps) h).0
first_ok (all c) h = refl
first_ok (all_or_holes c) h = refl
first_ok (all_of_body c) h = refl

after_ok : (c : Class) (d : Bool) → plan_ok (after_body_item c d) ≡ true
after_ok c true = refl
after_ok c false = refl

behind_ok : (plan : Plan) (k : Kind) → plan_ok plan ≡ true → plan_ok (behind plan k) ≡ true
behind_ok (these []) k h = refl
behind_ok (these (p ∷ ps)) k h = (and_parts (place_ok p) (places_ok ps) h).1
behind_ok (all c) k h = refl
behind_ok (all_or_holes c) k h = refl
behind_ok (all_of_body c) k h = after_ok c (is_directive_kind k)

module _ (k : Kind) (below : Forest) (planned : Plan → Bool) (Stands : Plan → Type 0) (find : (p : Plan) → plan_ok p ≡ true → Stands p → planned p ≡ true) where
  of_row_so : (c : Class) (r : Row) (vs : Values (fields_of r)) → stands c (type_of r) ≡ Some (first_of r) → k ≡ kind_in r vs → Stands (these (places (has is_private below) (fields_of r) vs)) → is_of_row k below planned c (Some r) ≡ true
  of_row_so c r vs st is h =
      let private = has is_private below in
      let same = places_made r vs private ∙ ap (λ l. places_by private (key_of l) (fields_of r)) (sym is) in
      and_from (may_stand c r) (planned (these (places_by private (key_of k) (fields_of r)))) (stands_so (stands c (type_of r)) (first_of r) st)
      (find (these (places_by private (key_of k) (fields_of r))) (fields_ok private (key_of k) (fields_of r) (lists_in r)) (subst (λ ps. Stands (these ps)) same h))

  of_one : (c : Class) (r : Row) → is_of_row k below planned c (Some r) ≡ true → IsOne k r → is_of k below planned c ≡ true
  of_one c r h (inl e) = first_of_either (is_of_row k below planned c (first_row k)) (is_of_row k below planned c (second_row k)) (ap (is_of_row k below planned c) e ∙ h)
  of_one c r h (inr e) = second_of_either (is_of_row k below planned c (first_row k)) (is_of_row k below planned c (second_row k)) (ap (is_of_row k below planned c) e ∙ h)

  of_so : (c : Class) → IsOf k below Stands c → is_of k below planned c ≡ true
  of_so c of = of_one c of.0 (of_row_so c of.0 of.1 of.2 of.4 of.5) (subst (λ l. IsOne l of.0) (sym of.4) (all_made of.0 of.1 of.3))

  at_so : (p : Place) → place_ok p ≡ true → IsAt k below Stands p → is_at k below planned p ≡ true
  at_so (one c) ok at = of_so c at
  at_so (maybe_one c) ok at = of_so c at
  at_so beyond ok at = absurd at
  at_so (key_apart may_be) ok at = absurd at
  at_so (key_node keys true) ok at = and_from (takes_private keys) (is_of k below planned private_key) at.0 (of_so private_key at.1)
  at_so (key_node keys false) ok at = of_so expression at
  at_so (list kind c) ok at = and_from (same_list k kind) (planned (all c)) (ap (λ l. same_list l kind) at.0 ∙ ok) (find (all c) refl at.1)
  at_so (list_with_holes kind c) ok at = and_from (same_list k kind) (planned (all_or_holes c)) (ap (λ l. same_list l kind) at.0 ∙ ok) (find (all_or_holes c) refl at.1)
  at_so (body c) ok at = and_from (same_list k statements) (planned (all_of_body c)) (ap (λ l. same_list l statements) at.0) (find (all_of_body c) refl at.1)
  at_so (item_or_hole c) ok (inl at) =
      first_of_either (is_hole k && planned (these [])) (is_of k below planned c) (and_from (is_hole k) (planned (these [])) (ap is_hole at.0) (find (these []) refl at.1))
  at_so (item_or_hole c) ok (inr of) = second_of_either (is_hole k && planned (these [])) (is_of k below planned c) (of_so c of)
  at_so (item_of_body c) ok (inl of) = first_of_either (is_of k below planned a_prologue) (not (is_directive_kind k) && is_of k below planned c) (of_so a_prologue of)
  at_so (item_of_body c) ok (inr at) =
      second_of_either (is_of k below planned a_prologue) (not (is_directive_kind k) && is_of k below planned c)
      (and_from (not (is_directive_kind k)) (is_of k below planned c) (ap (λ b. not b) at.0) (of_so c at.1))

end_so : (plan : Plan) → MayEnd plan → may_end plan ≡ true
end_so (these []) h = refl
end_so (these (p ∷ ps)) h = absurd h
end_so (all c) h = refl
end_so (all_or_holes c) h = refl
end_so (all_of_body c) h = refl

lack_so : (p : Place) → MayLack p → may_lack p ≡ true
lack_so (maybe_one c) h = refl
lack_so (key_apart may_be) h = h
lack_so p h = absurd h

pub stands_planned : (t : Forest) (plan : Plan) → plan_ok plan ≡ true → Stand plan t → is_planned plan t ≡ true
stands_planned nothing plan ok h = end_so plan h
stands_planned (node k n below rest) plan ok h =
    and_from (is_at k below (λ p. is_planned p below) (first_place plan)) (is_planned (behind plan k) rest)
    (at_so k below (λ p. is_planned p below) (λ p. Stand p below) (stands_planned below) (first_place plan) (first_ok plan ok) h.0) (stands_planned rest (behind plan k) (behind_ok plan k ok) h.1)
stands_planned (absent rest) plan ok h =
    and_from (may_lack (first_place plan)) (is_planned (behind plan hole) rest) (lack_so (first_place plan) h.0) (stands_planned rest (behind plan hole) (behind_ok plan hole ok) h.1)

-- ---- whole trees

abbrev pub root_plan : Plan
root_plan = these (one root ∷ [])

pub found_fits : (t : Forest) → is_planned root_plan t ≡ true → Fits root t
found_fits t h = planned_stands t root_plan h

pub fits_found : (t : Forest) → Fits root t → is_planned root_plan t ≡ true
fits_found t h = stands_planned t root_plan refl h
