-- Trees whose rows are of a set that is closed: what holds of the nodes of each holds of the tree, down to where it is cut.
use Rattle.std.proofs.Common.{◌≡◌, ℕ, suc, inl, inr, List, [], ◌∷◌, Bool, true, false, ◌&&◌, ◌||◌, Some, refl, sym, subst}
use Rattle.js_syntax.specs.Class.{Class, a_prologue, expression, private_key}
use Rattle.js_syntax.specs.declared.node_kind.NodeKind.{NodeKind as Kind}
use Rattle.js_syntax.specs.declared.node_kind.NodeKind.TheVariants.{Hole as hole}
use Rattle.js_syntax.specs.Facts.{is_core}
use Rattle.js_syntax.specs.Hint.{has, is_private}
use Rattle.js_syntax.specs.Node.{Note, Forest, nothing, node, absent}
use Rattle.js_syntax.specs.Table.{Row, fields_of, type_of, stands}
use Rattle.js_meaning.specs.Scope as scope
use Rattle.steps.specs.Steps.{all_core}
use Rattle.json_shape.specs.Shape.{Values, kind_in, first_of, Place, one, maybe_one, beyond, key_node, key_apart, list, list_with_holes, body, item_or_hole, item_of_body, places, Plan, these, all, all_or_holes, all_of_body, first_place, behind, after_body_item, is_directive_kind, IsOf, IsAt, Stand}
use Rattle.steps.proofs.Fit.CoreRows.{fields_pass, places_pass, places_so}
use Rattle.js_syntax.proofs.Truth.{second_of_either, first_of_both, second_of_both, both}

-- ---- what a core node says

module _ (k : Kind) (n : Note) (a r : Forest) (h : all_core (node k n a r) ≡ true) where
  pub core_here : is_core k ≡ true
  core_here = first_of_both (is_core k) (all_core a && all_core r) h

  pub core_below : all_core a ≡ true
  core_below = first_of_both (all_core a) (all_core r) (second_of_both (is_core k) (all_core a && all_core r) h)

  pub core_behind : all_core r ≡ true
  core_behind = second_of_both (all_core a) (all_core r) (second_of_both (is_core k) (all_core a && all_core r) h)

pub core_alone : (k : Kind) (n : Note) (a r : Forest) → all_core (node k n a r) ≡ true → all_core (node k n a nothing) ≡ true
core_alone k n a r h = both (is_core k) (all_core a && true) (core_here k n a r h) (both (all_core a) true (core_below k n a r h) refl)

hole_not : is_core hole ≡ true → ⊥
hole_not h = absurd cc

pub no_hole : (k : Kind) → k ≡ hole → is_core k ≡ true → ⊥
no_hole k is h = hole_not (subst (λ x. is_core x ≡ true) is h)

-- ---- what is held

module _ (stop good : Kind → Bool) where
  abbrev pub held : Forest → Bool
  held nothing = true
  held (absent r) = held r
  held (node k n a r) = (stop k || (good k && held a)) && held r

module _ (good : Kind → Bool) (of_set : Class → Bool) where
  abbrev pub place_held : Place → Bool
  place_held (one c) = of_set c
  place_held (maybe_one c) = of_set c
  place_held beyond = true
  place_held (key_node keys private) = of_set private_key && of_set expression
  place_held (key_apart may) = true
  place_held (list kind c) = good kind && of_set c
  place_held (list_with_holes kind c) = good kind && of_set c
  place_held (body c) = false
  place_held (item_or_hole c) = of_set c
  place_held (item_of_body c) = of_set c && of_set a_prologue

  abbrev pub all_held : List Place → Bool
  all_held [] = true
  all_held (p ∷ ps) = place_held p && all_held ps

  abbrev pub plan_held : Plan → Bool
  plan_held (these ps) = all_held ps
  plan_held (all c) = of_set c
  plan_held (all_or_holes c) = of_set c
  plan_held (all_of_body c) = of_set c && of_set a_prologue

  pub from_passing : (at : ℕ) (ps : List Place) → places_pass (λ i p. place_held p) at ps ≡ true → all_held ps ≡ true
  from_passing at [] h = refl
  from_passing at (p ∷ ps) h =
      both (place_held p) (all_held ps) (first_of_both (place_held p) (places_pass (λ i p. place_held p) (suc at) ps) h)
      (from_passing (suc at) ps (second_of_both (place_held p) (places_pass (λ i p. place_held p) (suc at) ps) h))

  pub first_held : (plan : Plan) → plan_held plan ≡ true → place_held (first_place plan) ≡ true
  first_held (these []) h = refl
  first_held (these (p ∷ ps)) h = first_of_both (place_held p) (all_held ps) h
  first_held (all c) h = h
  first_held (all_or_holes c) h = h
  first_held (all_of_body c) h = h

  after_held : (c : Class) (b : Bool) → plan_held (all_of_body c) ≡ true → plan_held (after_body_item c b) ≡ true
  after_held c true h = h
  after_held c false h = first_of_both (of_set c) (of_set a_prologue) h

  pub behind_held : (plan : Plan) (k : Kind) → plan_held plan ≡ true → plan_held (behind plan k) ≡ true
  behind_held (these []) k h = refl
  behind_held (these (p ∷ ps)) k h = second_of_both (place_held p) (all_held ps) h
  behind_held (all c) k h = h
  behind_held (all_or_holes c) k h = h
  behind_held (all_of_body c) k h = after_held c (is_directive_kind k) h

part_held : (s g f h : Bool) → (f ≡ true → h ≡ true) → (s || (g && f)) ≡ true → (s || (g && h)) ≡ true
part_held true g f h to is = refl
part_held false g f h to is = both g h (first_of_both g f is) (to (second_of_both g f is))

module _ (stop good : Kind → Bool) (of_set : Class → Bool) (in_set : Row → Bool)
    (class_rows : (c : Class) (r : Row) → of_set c ≡ true → stands c (type_of r) ≡ Some (first_of r) → in_set r ≡ true)
    (row_fields : (r : Row) (vs : Values (fields_of r)) → in_set r ≡ true → is_core (kind_in r vs) ≡ true → (stop (kind_in r vs) || (good (kind_in r vs) && fields_pass (λ i p. place_held good of_set p) 0 (fields_of r))) ≡ true) where
  module _ (a : Forest) (below : (plan : Plan) → plan_held good of_set plan ≡ true → Stand plan a → all_core a ≡ true → held stop good a ≡ true) (core : all_core a ≡ true) where
    abbrev IsHeld : Kind → Type 0
    IsHeld k = (stop k || (good k && held stop good a)) ≡ true

    held_of : (k : Kind) (c : Class) → of_set c ≡ true → is_core k ≡ true → IsOf k a (λ p. Stand p a) c → IsHeld k
    held_of k c h here of =
        subst (λ x. is_core x ≡ true → IsHeld x) (sym of.4)
        (λ g. part_held (stop (kind_in of.0 of.1)) (good (kind_in of.0 of.1)) (fields_pass (λ i p. place_held good of_set p) 0 (fields_of of.0)) (held stop good a)
        (λ f. below (these (places (has is_private a) (fields_of of.0) of.1)) (from_passing good of_set 0 (places (has is_private a) (fields_of of.0) of.1) (places_so (λ i p. place_held good of_set p) (has is_private a) 0 (fields_of of.0) of.1 f)) of.5 core)
        (row_fields of.0 of.1 (class_rows c of.0 h of.2) g)) here

    held_list : (kind : Kind) (plan : Plan) → good kind ≡ true → plan_held good of_set plan ≡ true → Stand plan a → IsHeld kind
    held_list kind plan g h st = second_of_either (stop kind) (good kind && held stop good a) (both (good kind) (held stop good a) g (below plan h st core))

    held_at : (p : Place) (k : Kind) → place_held good of_set p ≡ true → is_core k ≡ true → IsAt k a (λ p. Stand p a) p → IsHeld k
    held_at (one c) k h here of = held_of k c h here of
    held_at (maybe_one c) k h here of = held_of k c h here of
    held_at beyond k h here at = absurd at
    held_at (key_apart may) k h here at = absurd at
    held_at (key_node keys true) k h here at = held_of k private_key (first_of_both (of_set private_key) (of_set expression) h) here at.1
    held_at (key_node keys false) k h here at = held_of k expression (second_of_both (of_set private_key) (of_set expression) h) here at
    held_at (list kind c) k h here at = subst (λ x. IsHeld x) (sym at.0) (held_list kind (all c) (first_of_both (good kind) (of_set c) h) (second_of_both (good kind) (of_set c) h) at.1)
    held_at (list_with_holes kind c) k h here at = subst (λ x. IsHeld x) (sym at.0) (held_list kind (all_or_holes c) (first_of_both (good kind) (of_set c) h) (second_of_both (good kind) (of_set c) h) at.1)
    held_at (body c) k h here at = absurd cc
    held_at (item_or_hole c) k h here (inl at) = absurd (no_hole k at.0 here)
    held_at (item_or_hole c) k h here (inr of) = held_of k c h here of
    held_at (item_of_body c) k h here (inl of) = held_of k a_prologue (second_of_both (of_set c) (of_set a_prologue) h) here of
    held_at (item_of_body c) k h here (inr at) = held_of k c (first_of_both (of_set c) (of_set a_prologue) h) here at.1

  pub held_as_planned : (t : Forest) (plan : Plan) → plan_held good of_set plan ≡ true → Stand plan t → all_core t ≡ true → held stop good t ≡ true
  held_as_planned nothing plan h st core = refl
  held_as_planned (absent r) plan h st core = held_as_planned r (behind plan hole) (behind_held good of_set plan hole h) st.1 core
  held_as_planned (node k n a r) plan h st core =
      both (stop k || (good k && held stop good a)) (held stop good r)
      (held_at a (held_as_planned a) (core_below k n a r core) (first_place plan) k (first_held good of_set plan h) (core_here k n a r core) st.0)
      (held_as_planned r (behind plan k) (behind_held good of_set plan k h) st.1 (core_behind k n a r core))

  -- the first of a row's nodes
  pub first_as_planned : (p : Place) (ps : List Place) (a : Forest) → place_held good of_set p ≡ true → Stand (these (p ∷ ps)) a → all_core a ≡ true → held stop good (scope.first_of a) ≡ true
  first_as_planned p ps nothing h st core = absurd st
  first_as_planned p ps (absent r) h st core = refl
  first_as_planned p ps (node k n a r) h st core = held_as_planned (node k n a nothing) (these (p ∷ [])) (both (place_held good of_set p) true h refl) (st.0, tt) (core_alone k n a r core)

-- the nodes behind it
pub behind_stands : (p : Place) (ps : List Place) (a : Forest) → Stand (these (p ∷ ps)) a → Stand (these ps) (scope.behind a)
behind_stands p ps nothing st = absurd st
behind_stands p ps (absent r) st = st.1
behind_stands p ps (node k n a r) st = st.1

pub behind_core : (a : Forest) → all_core a ≡ true → all_core (scope.behind a) ≡ true
behind_core nothing h = refl
behind_core (absent r) h = h
behind_core (node k n a r) h = core_behind k n a r h
