-- A node that takes the place of another leaves a tree that fits the table of node types.
use Rattle.std.proofs.Common.{◌≡◌, ◌∙◌, inl, inr, [], ◌∷◌, Bool, true, false, not, ◌&&◌, ◌||◌, Some, refl, sym, subst, ap}
use Rattle.js_syntax.specs.Class.{Class, root, a_prologue, expression, private_key}
use Rattle.js_syntax.specs.declared.node_kind.NodeKind.{NodeKind as Kind}
use Rattle.js_syntax.specs.declared.node_kind.NodeKind.TheVariants.{Directive as directive, PrivateName as private_name, Hole as hole}
use Rattle.js_syntax.specs.Hint.{has, is_private}
use Rattle.js_syntax.specs.Node.{Forest, Tree, forest_of}
use Rattle.js_syntax.specs.Table.{fields_of}
use Rattle.js_syntax.proofs.Truth.{not_true}
use Rattle.scope_laws.specs.Lists.{is_list}
use Rattle.scope_laws.specs.Place.{Around, first, behind, behind_none, under, plug}
use Rattle.json_shape.specs.Shape.{behind as plan_behind, Place, one, maybe_one, beyond, key_node, key_apart, list, list_with_holes, body, item_or_hole, item_of_body, places, Plan, these, all, all_or_holes, all_of_body, first_place, after_body_item, is_directive_kind, IsOf, IsAt, Stand, Fits}
use Rattle.json_shape.proofs.Choice.{is_list_kind}
use Rattle.steps.proofs.KeepTable.Planned.{place_ok, plan_ok, first_ok, behind_ok, row_ok}
use Rattle.steps.proofs.KeepTable.Rows.{no_list}
use Rattle.steps.specs.Owed.TakesPlace.{is_told_by_class, TakesPlace, is_template, is_tag, stands_tagged, TakesThere, anywhere, untagged}
use Rattle.steps.proofs.Owed.UntaggedPlace.{no_template, plans_none, none_first, none_behind, row_plans_none}

-- ---- what is told by its class

told_not_private : (k : Kind) → is_told_by_class k ≡ true → is_private k ≡ false
told_not_private (private_name x) told = absurd cc
told_not_private k told = refl

told_not_directive : (k : Kind) → is_told_by_class k ≡ true → is_directive_kind k ≡ false
told_not_directive (directive written) told = absurd cc
told_not_directive k told = refl

pub told_no_list : (k : Kind) → is_told_by_class k ≡ true → is_list_kind k ≡ false
told_no_list Kind.Statements told = absurd cc
told_no_list Kind.Cases told = absurd cc
told_no_list Kind.Declarators told = absurd cc
told_no_list Kind.Parameters told = absurd cc
told_no_list Kind.Members told = absurd cc
told_no_list Kind.Elements told = absurd cc
told_no_list Kind.Properties told = absurd cc
told_no_list Kind.Expressions told = absurd cc
told_no_list Kind.Arguments told = absurd cc
told_no_list Kind.Quasis told = absurd cc
told_no_list Kind.Specifiers told = absurd cc
told_no_list k told = refl

pub no_such_list : (k kind : Kind) → is_told_by_class k ≡ true → is_list_kind kind ≡ true → k ≡ kind → ⊥
no_such_list k kind told list_kind same = absurd (cc (told_no_list k told, list_kind, ap is_list_kind same))

pub told_no_hole : (k : Kind) → is_told_by_class k ≡ true → k ≡ hole → ⊥
told_no_hole k told same = absurd (cc (told, ap is_told_by_class same))

-- ---- one node in the place of another

-- Of which classes it takes the other's place: of all if it is so anywhere, and else of each but the template behind a tag.
abbrev Allowed : (every : Bool) → Class → Type 0
Allowed every c = (every || not (is_template c)) ≡ true

always : (b : Bool) → (b || true) ≡ true
always true = refl
always false = refl

further : (b c d : Bool) → (c ≡ true → d ≡ true) → (b || c) ≡ true → (b || d) ≡ true
further true c d f h = refl
further false c d f h = f h

-- there no tag stands, or it doesn't matter
no_tag : (every tagged : Bool) (plans : Bool) → (tagged ≡ false → (every || plans) ≡ true) → (every || not tagged) ≡ true → (every || plans) ≡ true
no_tag true tagged plans f h = refl
no_tag false true plans f h = absurd cc
no_tag false false plans f h = f refl

same_list : (k : Kind) → is_list_kind k ≡ is_list k
same_list Kind.Statements = refl
same_list k = refl

-- what begins the row below a node
abbrev tagged_below : (tagged : Bool) → Kind → Bool
tagged_below tagged k = is_tag k || (is_list k && tagged)

below_list : (tag listed tagged : Bool) → listed ≡ true → (tag || (listed && tagged)) ≡ false → tagged ≡ false
below_list true listed tagged is h = absurd cc
below_list false true tagged is h = h
below_list false false tagged is h = absurd cc

below_other : (tag listed tagged : Bool) → (tag || (listed && tagged)) ≡ false → tag ≡ false
below_other true listed tagged h = h
below_other false listed tagged h = refl

-- a node stands where it stood if the row below it stands where that row stood
module _ (every tagged : Bool) (k : Kind) (below other : Forest) (private : is_list_kind k ≡ false → has is_private below ≡ has is_private other)
    (moves : (plan : Plan) → plan_ok plan ≡ true → (tagged_below tagged k ≡ false → (every || plans_none plan) ≡ true) → Stand plan below → Stand plan other) where
  in_list : (c : Class) → is_list_kind k ≡ true → (tagged ≡ false → (every || not (is_template c)) ≡ true) → tagged_below tagged k ≡ false → (every || not (is_template c)) ≡ true
  in_list c listed none h = none (below_list (is_tag k) (is_list k) tagged (sym (same_list k) ∙ listed) h)

  of_inside : (c : Class) → IsOf k below (λ p. Stand p below) c → IsOf k other (λ p. Stand p other) c
  of_inside c of =
      let none = ap is_list_kind of.4 ∙ no_list of.0 of.1 in
      let plan = these (places (has is_private below) (fields_of of.0) of.1) in
      let moved = moves plan (row_ok (has is_private below) of.0 of.1) (λ h. further every true (plans_none plan) (λ e. row_plans_none (has is_private below) of.0 of.1 (sym (ap is_tag of.4) ∙ below_other (is_tag k) (is_list k) tagged h)) (always every)) of.5 in
      (of.0, of.1, of.2, of.3, of.4, subst (λ (b : Bool). Stand (these (places b (fields_of of.0) of.1)) other) (private none) moved)

  stands_inside : (p : Place) → place_ok p ≡ true → (tagged ≡ false → (every || no_template p) ≡ true) → IsAt k below (λ p. Stand p below) p → IsAt k other (λ p. Stand p other) p
  stands_inside (one c) ok none of = of_inside c of
  stands_inside (maybe_one c) ok none of = of_inside c of
  stands_inside beyond ok none at = absurd at
  stands_inside (key_node keys true) ok none at = (at.0, of_inside private_key at.1)
  stands_inside (key_node keys false) ok none of = of_inside expression of
  stands_inside (key_apart may) ok none at = absurd at
  stands_inside (list kind c) ok none at = (at.0, moves (all c) refl (in_list c (ap is_list_kind at.0 ∙ ok) none) at.1)
  stands_inside (list_with_holes kind c) ok none at = (at.0, moves (all_or_holes c) refl (in_list c (ap is_list_kind at.0 ∙ ok) none) at.1)
  stands_inside (body c) ok none at = (at.0, moves (all_of_body c) ok (in_list c (ap is_list_kind at.0) none) at.1)
  stands_inside (item_or_hole c) ok none (inl at) = inl (at.0, moves (these []) refl (λ h. always every) at.1)
  stands_inside (item_or_hole c) ok none (inr of) = inr (of_inside c of)
  stands_inside (item_of_body c) ok none (inl of) = inl (of_inside a_prologue of)
  stands_inside (item_of_body c) ok none (inr at) = inr (at.0, of_inside c at.1)

module _ (x y : Tree) (old_told : is_told_by_class x.kind ≡ true) (new_told : is_told_by_class y.kind ≡ true) where
  -- a private name stands in the row if one stood there
  pub private_taken : (a : Around) → has is_private (plug a (Some x)) ≡ has is_private (plug a (Some y))
  private_taken (first rest) = ap (λ (b : Bool). b || has is_private rest) (told_not_private x.kind old_told ∙ sym (told_not_private y.kind new_told))
  private_taken (behind k n below a) = ap (λ (b : Bool). is_private k || b) (private_taken a)
  private_taken (behind_none a) = private_taken a
  private_taken (under k n a rest) = refl

module _ (x y : Tree) (every : Bool) (classes : (c : Class) → Allowed every c → Fits c (forest_of x) → Fits c (forest_of y)) (old_told : is_told_by_class x.kind ≡ true) (new_told : is_told_by_class y.kind ≡ true) where
  of_taken : (c : Class) → Allowed every c → IsOf x.kind x.below (λ p. Stand p x.below) c → IsOf y.kind y.below (λ p. Stand p y.below) c
  of_taken c may of = (classes c may (of, tt)).0

  at_taken : (p : Place) → place_ok p ≡ true → (every || no_template p) ≡ true → IsAt x.kind x.below (λ p. Stand p x.below) p → IsAt y.kind y.below (λ p. Stand p y.below) p
  at_taken (one c) ok may of = of_taken c may of
  at_taken (maybe_one c) ok may of = of_taken c may of
  at_taken beyond ok may at = absurd at
  at_taken (key_node keys true) ok may at = (at.0, of_taken private_key (always every) at.1)
  at_taken (key_node keys false) ok may of = of_taken expression (always every) of
  at_taken (key_apart apart) ok may at = absurd at
  at_taken (list kind c) ok may at = absurd (no_such_list x.kind kind old_told ok at.0)
  at_taken (list_with_holes kind c) ok may at = absurd (no_such_list x.kind kind old_told ok at.0)
  at_taken (body c) ok may at = absurd (no_such_list x.kind _ old_told refl at.0)
  at_taken (item_or_hole c) ok may (inl at) = absurd (told_no_hole x.kind old_told at.0)
  at_taken (item_or_hole c) ok may (inr of) = inr (of_taken c may of)
  at_taken (item_of_body c) ok may (inl of) = inl (of_taken a_prologue (always every) of)
  at_taken (item_of_body c) ok may (inr at) = inr (told_not_directive y.kind new_told, of_taken c may at.1)

  same_directive : is_directive_kind x.kind ≡ is_directive_kind y.kind
  same_directive = told_not_directive x.kind old_told ∙ sym (told_not_directive y.kind new_told)

  same_behind : (plan : Plan) → plan_behind plan x.kind ≡ plan_behind plan y.kind
  same_behind (these []) = refl
  same_behind (these (p ∷ ps)) = refl
  same_behind (all c) = refl
  same_behind (all_or_holes c) = refl
  same_behind (all_of_body c) = ap (after_body_item c) same_directive

  becoming_stands : (tagged : Bool) (a : Around) (plan : Plan) → plan_ok plan ≡ true → (tagged ≡ false → (every || plans_none plan) ≡ true) → (every || not (stands_tagged tagged a)) ≡ true
      → Stand plan (plug a (Some x)) → Stand plan (plug a (Some y))
  becoming_stands tagged (first rest) plan ok none there h =
      let may = further every (plans_none plan) (no_template (first_place plan)) (none_first plan) (no_tag every tagged (plans_none plan) none there) in
      (at_taken (first_place plan) (first_ok plan ok) may h.0, subst (λ (p : Plan). Stand p rest) (same_behind plan) h.1)
  becoming_stands tagged (behind k n below a) plan ok none there h =
      (h.0, becoming_stands tagged a (plan_behind plan k) (behind_ok plan k ok) (λ e. further every (plans_none plan) (plans_none (plan_behind plan k)) (none_behind plan k) (none e)) there h.1)
  becoming_stands tagged (behind_none a) plan ok none there h =
      (h.0, becoming_stands tagged a (plan_behind plan hole) (behind_ok plan hole ok) (λ e. further every (plans_none plan) (plans_none (plan_behind plan hole)) (none_behind plan hole) (none e)) there h.1)
  becoming_stands tagged (under k n a rest) plan ok none there h = (
    stands_inside every tagged k (plug a (Some x)) (plug a (Some y)) (λ e. private_taken x y old_told new_told a) (λ p fine planned. becoming_stands (tagged_below tagged k) a p fine planned there) (first_place plan) (first_ok plan ok)
        (λ e. further every (plans_none plan) (no_template (first_place plan)) (none_first plan) (none e)) h.0,
    h.1,
  )

pub becoming_fits : (a : Around) (x y : Tree) → TakesPlace x y → Fits root (plug a (Some x)) → Fits root (plug a (Some y))
becoming_fits a x y takes fits = becoming_stands x y true (λ c may. takes.classes c) takes.old_told takes.new_told false a (these (one root ∷ [])) refl (λ e. refl) refl fits

untagged_may : (c : Class) → Allowed false c → is_template c ≡ false
untagged_may c may = not_true (is_template c) may

-- what it does of each class but the template behind a tag, and what both are told by
pub taken_as : {a : Around} {x y : Tree} → TakesThere a x y → (c : Class) → is_template c ≡ false → Fits c (forest_of x) → Fits c (forest_of y)
taken_as (anywhere takes) c none fits = takes.classes c fits
taken_as (untagged untold takes) c none fits = takes.classes c none fits

pub old_is_told : {a : Around} {x y : Tree} → TakesThere a x y → is_told_by_class x.kind ≡ true
old_is_told (anywhere takes) = takes.old_told
old_is_told (untagged none takes) = takes.old_told

-- where no tag stands before it
pub taking_fits : (a : Around) (x y : Tree) → TakesThere a x y → Fits root (plug a (Some x)) → Fits root (plug a (Some y))
taking_fits a x y (anywhere takes) fits = becoming_fits a x y takes fits
taking_fits a x y (untagged none takes) fits =
    becoming_stands x y false (λ c may. takes.classes c (untagged_may c may)) takes.old_told takes.new_told false a (these (one root ∷ [])) refl (λ e. refl) (ap not none) fits
