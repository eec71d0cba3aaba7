-- A node stands where it stood if the row below it stands where that row stood.
use Rattle.std.proofs.Common.{◌≡◌, ◌∙◌, inl, inr, [], Bool, true, false, refl, subst, ap}
use Rattle.js_syntax.specs.Class.{Class, a_prologue, expression, private_key}
use Rattle.js_syntax.specs.declared.node_kind.NodeKind.{NodeKind as Kind}
use Rattle.js_syntax.specs.Hint.{has, is_private}
use Rattle.js_syntax.specs.Node.{Forest}
use Rattle.js_syntax.specs.Table.{fields_of}
use Rattle.json_shape.specs.Shape.{Place, one, maybe_one, beyond, key_node, key_apart, list, list_with_holes, body, item_or_hole, item_of_body, places, Plan, these, all, all_or_holes, all_of_body, IsOf, IsAt, Stand}
use Rattle.json_shape.proofs.Choice.{is_list_kind}
use Rattle.steps.proofs.KeepTable.Rows.{no_list}
use Rattle.steps.proofs.KeepTable.Planned.{place_ok, plan_ok, row_ok, of_list}

-- what lies below a list is planned as one
abbrev pub IsBelow : Kind → Plan → Type 0
IsBelow k plan = is_list_kind k ≡ true → of_list plan ≡ true

-- one row stands wherever the other stood below the node
abbrev pub Moves : Kind → (below other : Forest) → Type 0
Moves k below other = (plan : Plan) → plan_ok plan ≡ true → IsBelow k plan → Stand plan below → Stand plan other

-- a row that drops nodes stands below a list, where below no other node one does
pub below_list : (list drops : Bool) → (list ≡ false → drops ≡ false) → drops ≡ true → list ≡ true
below_list true drops none dropped = refl
below_list false drops none dropped = absurd (cc (none refl, dropped))

module _ (k : Kind) (below other : Forest) (private : is_list_kind k ≡ false → has is_private below ≡ has is_private other) (moves : Moves k below other) where
  no_list_below : (plan : Plan) → is_list_kind k ≡ false → IsBelow k plan
  no_list_below plan none is = absurd (cc (none, is))

  of_inside : (c : Class) → IsOf k below (λ p. Stand p below) c → IsOf k other (λ p. Stand p other) c
  of_inside c of =
      let none = ap is_list_kind of.4 ∙ no_list of.0 of.1 in
      let plan = these (places (has is_private below) (fields_of of.0) of.1) in
      let moved = moves plan (row_ok (has is_private below) of.0 of.1) (no_list_below plan none) of.5 in
      (of.0, of.1, of.2, of.3, of.4, subst (λ (b : Bool). Stand (these (places b (fields_of of.0) of.1)) other) (private none) moved)

  pub at_inside : (p : Place) → place_ok p ≡ true → IsAt k below (λ p. Stand p below) p → IsAt k other (λ p. Stand p other) p
  at_inside (one c) ok of = of_inside c of
  at_inside (maybe_one c) ok of = of_inside c of
  at_inside beyond ok at = absurd at
  at_inside (key_node keys true) ok at = (at.0, of_inside private_key at.1)
  at_inside (key_node keys false) ok of = of_inside expression of
  at_inside (key_apart may) ok at = absurd at
  at_inside (list kind c) ok at = (at.0, moves (all c) refl (λ d. refl) at.1)
  at_inside (list_with_holes kind c) ok at = (at.0, moves (all_or_holes c) refl (λ d. refl) at.1)
  at_inside (body c) ok at = (at.0, moves (all_of_body c) ok (λ d. refl) at.1)
  at_inside (item_or_hole c) ok (inl at) = inl (at.0, moves (these []) refl (no_list_below (these []) (ap is_list_kind at.0)) at.1)
  at_inside (item_or_hole c) ok (inr of) = inr (of_inside c of)
  at_inside (item_of_body c) ok (inl of) = inl (of_inside a_prologue of)
  at_inside (item_of_body c) ok (inr at) = inr (at.0, of_inside c at.1)
