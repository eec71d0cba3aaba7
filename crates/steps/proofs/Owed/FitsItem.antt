-- A node that takes the place of an item of a list leaves a tree that fits the table of node types, if it is of each class that the item is
-- of, but for what stands first in the head of a loop, or behind `export`: no list has such nodes.
use Rattle.std.proofs.Common.{◌≡◌, ◌∙◌, inl, inr, List, [], ◌∷◌, Bool, true, false, not, ◌&&◌, Some, refl, sym, subst, ap}
use Rattle.js_syntax.specs.Class.{Class, root, a_prologue, expression, private_key, for_init, for_left, declaration}
use Rattle.js_syntax.specs.declared.node_kind.NodeKind.{NodeKind as Kind}
use Rattle.js_syntax.specs.declared.node_kind.NodeKind.TheVariants.{Hole as hole}
use Rattle.js_syntax.specs.declared.value.Key.{Key}
use Rattle.js_syntax.specs.declared.value.Key.TheVariants.{Name as key_name, Text as key_text, Number as key_number, Below as key_below}
use Rattle.js_syntax.specs.Field.{Keys, keeps, checks, a_key, child, maybe, each, each_or_hole, a_body, Field, field}
use Rattle.js_syntax.specs.Hint.{has, is_private}
use Rattle.js_syntax.specs.Node.{Forest, Tree, forest_of}
use Rattle.js_syntax.specs.Table.{Row as TableRow, a_program, fields_of}
use Rattle.js_syntax.proofs.Truth.{first_of_both, second_of_both, both, not_true}
use Rattle.json_shape.specs.Shape.{behind as plan_behind, Values, Place, one, maybe_one, beyond, key_node, key_apart, list, list_with_holes, body, item_or_hole, item_of_body, key_place, places, Plan, these, all, all_or_holes, all_of_body, first_place, after_body_item, is_directive_kind, IsOf, IsAt, Stand, Fits}
use Rattle.json_shape.proofs.Choice.{is_list_kind}
use Rattle.min_pass.specs.declared.around.Around.{Around as Asked}
use Rattle.min_pass.specs.Around.{row_below, entered as asked_below, outermost as asked_of_program}
use Rattle.scope_laws.specs.Place.{Around, first, behind, behind_none, under, plug}
use Rattle.steps.specs.Allowed.Places.{asked_at, IsItem}
use Rattle.steps.specs.Owed.TakesPlace.{is_told_by_class}
use Rattle.steps.proofs.KeepTable.Inside.{IsBelow, below_list}
use Rattle.steps.proofs.KeepTable.Planned.{place_ok, plan_ok, first_ok, behind_ok, row_ok, of_list, behind_list}
use Rattle.steps.proofs.KeepTable.Rows.{no_list}
use Rattle.steps.proofs.KeepTable.Swept.{drops, below_drops_not}
use Rattle.steps.proofs.Owed.FitsBecoming.{private_taken, told_no_hole}

-- ---- plans without the classes

abbrev pub is_head : Class → Bool
is_head for_init = true
is_head for_left = true
is_head declaration = true
is_head c = false

abbrev no_head : Place → Bool
no_head (list kind c) = not (is_head c)
no_head (list_with_holes kind c) = not (is_head c)
no_head (body c) = not (is_head c)
no_head (item_or_hole c) = not (is_head c)
no_head (item_of_body c) = not (is_head c)
no_head p = true

abbrev no_heads : List Place → Bool
no_heads [] = true
no_heads (p ∷ ps) = no_head p && no_heads ps

abbrev lists_none : Plan → Bool
lists_none (these ps) = no_heads ps
lists_none (all c) = not (is_head c)
lists_none (all_or_holes c) = not (is_head c)
lists_none (all_of_body c) = not (is_head c)

none_first : (plan : Plan) → lists_none plan ≡ true → no_head (first_place plan) ≡ true
none_first (these []) none = refl
none_first (these (p ∷ ps)) none = first_of_both _ _ none
none_first (all c) none = refl
none_first (all_or_holes c) none = none
none_first (all_of_body c) none = none

none_after : (c : Class) (b : Bool) → not (is_head c) ≡ true → lists_none (after_body_item c b) ≡ true
none_after c true none = none
none_after c false none = none

none_behind : (plan : Plan) (k : Kind) → lists_none plan ≡ true → lists_none (plan_behind plan k) ≡ true
none_behind (these []) k none = refl
none_behind (these (p ∷ ps)) k none = second_of_both _ _ none
none_behind (all c) k none = none
none_behind (all_or_holes c) k none = none
none_behind (all_of_body c) k none = none_after c (is_directive_kind k) none

-- ---- of each row of the table

abbrev asks_none : List Field → Bool
asks_none [] = true
asks_none (field name (each kind c) ∷ fs) = not (is_head c) && asks_none fs
asks_none (field name (each_or_hole kind c) ∷ fs) = not (is_head c) && asks_none fs
asks_none (field name (a_body c) ∷ fs) = not (is_head c) && asks_none fs
asks_none (field name how ∷ fs) = asks_none fs

asked_in : (r : TableRow) → asks_none (fields_of r) ≡ true
asked_in a_program = refl
asked_in r = refl

key_none : (keys : Keys) (private : Bool) (key : Key) → no_head (key_place keys private key) ≡ true
key_none keys private (key_name s) = refl
key_none keys private (key_text s) = refl
key_none keys private (key_number n) = refl
key_none keys private key_below = refl

fields_none : (private : Bool) (fs : List Field) (vs : Values fs) → asks_none fs ≡ true → no_heads (places private fs vs) ≡ true
fields_none private [] vs none = refl
fields_none private (field name (keeps k) ∷ fs) vs none = fields_none private fs vs.1 none
fields_none private (field name (checks c) ∷ fs) vs none = fields_none private fs vs none
fields_none private (field name (a_key keys) ∷ fs) vs none = both _ _ (key_none keys private vs.0) (fields_none private fs vs.1 none)
fields_none private (field name (child c) ∷ fs) vs none = fields_none private fs vs none
fields_none private (field name (maybe c) ∷ fs) vs none = fields_none private fs vs none
fields_none private (field name (each kind c) ∷ fs) vs none = both _ _ (first_of_both _ _ none) (fields_none private fs vs (second_of_both _ _ none))
fields_none private (field name (each_or_hole kind c) ∷ fs) vs none = both _ _ (first_of_both _ _ none) (fields_none private fs vs (second_of_both _ _ none))
fields_none private (field name (a_body c) ∷ fs) vs none = both _ _ (first_of_both _ _ none) (fields_none private fs vs (second_of_both _ _ none))

row_none : (private : Bool) (r : TableRow) (vs : Values (fields_of r)) → lists_none (these (places private (fields_of r) vs)) ≡ true
row_none private r vs = fields_none private (fields_of r) vs (asked_in r)

-- ---- a node stands where it stood if the row below it stands where that row stood

module _ (k : Kind) (below other : Forest) (private : is_list_kind k ≡ false → has is_private below ≡ has is_private other)
    (moves : (plan : Plan) → plan_ok plan ≡ true → lists_none plan ≡ true → IsBelow k plan → Stand plan below → Stand plan other) where
  no_list_below : (plan : Plan) → is_list_kind k ≡ false → IsBelow k plan
  no_list_below plan none is = absurd (cc (none, is))

  of_inside : (c : Class) → IsOf k below (λ p. Stand p below) c → IsOf k other (λ p. Stand p other) c
  of_inside c of =
      let none = ap is_list_kind of.4 ∙ no_list of.0 of.1 in
      let plan = these (places (has is_private below) (fields_of of.0) of.1) in
      let moved = moves plan (row_ok (has is_private below) of.0 of.1) (row_none (has is_private below) of.0 of.1) (no_list_below plan none) of.5 in
      (of.0, of.1, of.2, of.3, of.4, subst (λ (b : Bool). Stand (these (places b (fields_of of.0) of.1)) other) (private none) moved)

  at_inside : (p : Place) → place_ok p ≡ true → no_head p ≡ true → IsAt k below (λ p. Stand p below) p → IsAt k other (λ p. Stand p other) p
  at_inside (one c) ok none of = of_inside c of
  at_inside (maybe_one c) ok none of = of_inside c of
  at_inside beyond ok none at = absurd at
  at_inside (key_node keys true) ok none at = (at.0, of_inside private_key at.1)
  at_inside (key_node keys false) ok none of = of_inside expression of
  at_inside (key_apart may) ok none at = absurd at
  at_inside (list kind c) ok none at = (at.0, moves (all c) refl none (λ d. refl) at.1)
  at_inside (list_with_holes kind c) ok none at = (at.0, moves (all_or_holes c) refl none (λ d. refl) at.1)
  at_inside (body c) ok none at = (at.0, moves (all_of_body c) ok none (λ d. refl) at.1)
  at_inside (item_or_hole c) ok none (inl at) = inl (at.0, moves (these []) refl refl (no_list_below (these []) (ap is_list_kind at.0)) at.1)
  at_inside (item_or_hole c) ok none (inr of) = inr (of_inside c of)
  at_inside (item_of_body c) ok none (inl of) = inl (of_inside a_prologue of)
  at_inside (item_of_body c) ok none (inr at) = inr (at.0, of_inside c at.1)

-- ---- an item

told_not_directive : (k : Kind) → is_told_by_class k ≡ true → is_directive_kind k ≡ false
told_not_directive (Kind.Directive written) told = absurd cc
told_not_directive k told = refl

module _ (x y : Tree) (classes : (c : Class) → is_head c ≡ false → Fits c (forest_of x) → Fits c (forest_of y)) (old_told : is_told_by_class x.kind ≡ true) (new_told : is_told_by_class y.kind ≡ true) where
  of_taken : (c : Class) → is_head c ≡ false → IsOf x.kind x.below (λ p. Stand p x.below) c → IsOf y.kind y.below (λ p. Stand p y.below) c
  of_taken c none of = (classes c none (of, tt)).0

  after_same : (c : Class) (rest : Forest) → Stand (after_body_item c (is_directive_kind x.kind)) rest → Stand (after_body_item c (is_directive_kind y.kind)) rest
  after_same c rest h = subst (λ b. Stand (after_body_item c b) rest) (told_not_directive x.kind old_told ∙ sym (told_not_directive y.kind new_told)) h

  -- the first of a list
  item_here : (plan : Plan) (rest : Forest) → lists_none plan ≡ true → of_list plan ≡ true → Stand plan (plug (first rest) (Some x)) → Stand plan (plug (first rest) (Some y))
  item_here (these ps) rest none is h = absurd cc
  item_here (all c) rest none is h = (of_taken c (not_true (is_head c) none) h.0, h.1)
  item_here (all_or_holes c) rest none is h = (
    elim h.0 [
      | inl at ↦ absurd (told_no_hole x.kind old_told at.0)
      | inr of ↦ inr (of_taken c (not_true (is_head c) none) of)
    ],
    h.1,
  )
  item_here (all_of_body c) rest none is h = (
    elim h.0 [
      | inl of ↦ inl (of_taken a_prologue refl of)
      | inr at ↦ inr (told_not_directive y.kind new_told, of_taken c (not_true (is_head c) none) at.1)
    ],
    after_same c rest h.1,
  )

  item_stands : (w : Asked) (a : Around) (plan : Plan) → plan_ok plan ≡ true → lists_none plan ≡ true → (drops w.row ≡ true → of_list plan ≡ true) → drops (asked_at w a).row ≡ true → Stand plan (plug a (Some x)) → Stand plan (plug a (Some y))
  item_stands w (first rest) plan ok none planned item h = item_here plan rest none (planned item) h
  item_stands w (behind k n below a) plan ok none planned item h =
      (h.0, item_stands w a (plan_behind plan k) (behind_ok plan k ok) (none_behind plan k none) (λ d. behind_list plan k (planned d)) item h.1)
  item_stands w (behind_none a) plan ok none planned item h =
      (h.0, item_stands w a (plan_behind plan hole) (behind_ok plan hole ok) (none_behind plan hole none) (λ d. behind_list plan hole (planned d)) item h.1)
  item_stands w (under k n a rest) plan ok none planned item h =
      let in_list = below_list (is_list_kind k) (drops (row_below w.row k)) (below_drops_not w.row k) in (
        at_inside k (plug a (Some x)) (plug a (Some y)) (λ e. private_taken x y old_told new_told a)
            (λ p fine listed is_below. item_stands (asked_below w k) a p fine listed (λ d. is_below (in_list d)) item) (first_place plan) (first_ok plan ok) (none_first plan none) h.0,
        h.1,
      )

  pub item_fits : (a : Around) → IsItem a → Fits root (plug a (Some x)) → Fits root (plug a (Some y))
  item_fits a item fits = item_stands (asked_of_program true) a (these (one root ∷ [])) refl refl (λ d. absurd (cc d)) (ap drops item) fits
