-- What holds of each row of the table, of lists and of holes holds of each node of a tree that fits.
use Rattle.std.proofs.Common.{◌≡◌, ◌∙◌, inl, inr, [], ◌∷◌, Bool, true, false, ◌&&◌, refl, sym, ap}
use Rattle.js_syntax.specs.Class.{Class, root, a_prologue, expression, private_key}
use Rattle.js_syntax.specs.declared.node_kind.NodeKind.{NodeKind as Kind}
use Rattle.js_syntax.specs.Hint.{has, is_private}
use Rattle.js_syntax.specs.Node.{Note, Forest, nothing, node, absent}
use Rattle.js_syntax.specs.Table.{Row, fields_of}
use Rattle.js_syntax.proofs.Truth.{first_of_both, both}
use Rattle.json_shape.specs.Shape.{Values, kind_in, IsChosen, Place, one, maybe_one, beyond, key_node, key_apart, list, list_with_holes, body, item_or_hole, item_of_body, places, Plan, these, first_place, behind, IsOf, IsAt, Stand, Fits}
use Rattle.json_shape.proofs.Choice.{is_list_kind}
use Rattle.steps.proofs.Fit.Passing.{plan_passes, first_passes, behind_passes}
use Rattle.steps.proofs.Fit.Holding.{is_sound, planned_below}

-- What is asked of each node, by what lies below it, and of a tree, node by node; what is given of the tree is given of its parts.
pub record IsShown (given : Forest → Bool) (asked : Kind → (below : Forest) → Bool) (all_so : Forest → Bool) : Type 0 where
  pub ends : all_so nothing ≡ true
  pub passes_none : (r : Forest) → all_so r ≡ true → all_so (absent r) ≡ true
  pub passes_node : (k : Kind) (n : Note) (a r : Forest) → asked k a && (all_so a && all_so r) ≡ true → all_so (node k n a r) ≡ true
  pub given_behind_none : (r : Forest) → given (absent r) ≡ true → given r ≡ true
  pub given_below : (k : Kind) (n : Note) (a r : Forest) → given (node k n a r) ≡ true → given a ≡ true
  pub given_behind : (k : Kind) (n : Note) (a r : Forest) → given (node k n a r) ≡ true → given r ≡ true
  pub rows : (r : Row) (vs : Values (fields_of r)) (private : Bool) (n : Note) (a rest : Forest) → given (node (kind_in r vs) n a rest) ≡ true → IsChosen r vs → Stand (these (places private (fields_of r) vs)) a → asked (kind_in r vs) a ≡ true
  pub lists : (kind : Kind) (a : Forest) → is_list_kind kind ≡ true → asked kind a ≡ true
  pub holes : (a : Forest) → Stand (these []) a → asked Kind.Hole a ≡ true

module _ (given : Forest → Bool) (asked : Kind → Forest → Bool) (all_so : Forest → Bool) (h : IsShown given asked all_so) where
  -- ---- a node

  of_row : (c : Class) (k : Kind) (n : Note) (a r : Forest) → given (node k n a r) ≡ true → IsOf k a (λ p. Stand p a) c → asked k a ≡ true
  of_row c k n a r g of = ap (λ x. asked x a) of.4 ∙ h.rows of.0 of.1 (has is_private a) n a r (ap (λ x. given (node x n a r)) (sym of.4) ∙ g) of.3 of.5

  a_list : (kind k : Kind) (a : Forest) → k ≡ kind → is_list_kind kind ≡ true → asked k a ≡ true
  a_list kind k a is l = ap (λ x. asked x a) is ∙ h.lists kind a l

  here : (p : Place) (k : Kind) (n : Note) (a r : Forest) → is_sound p ≡ true → given (node k n a r) ≡ true → IsAt k a (λ p. Stand p a) p → asked k a ≡ true
  here (one c) k n a r s g of = of_row c k n a r g of
  here (maybe_one c) k n a r s g of = of_row c k n a r g of
  here beyond k n a r s g at = absurd at
  here (key_apart may) k n a r s g at = absurd at
  here (key_node keys true) k n a r s g at = of_row private_key k n a r g at.1
  here (key_node keys false) k n a r s g at = of_row expression k n a r g at
  here (list kind c) k n a r s g at = a_list kind k a at.0 (first_of_both (is_list_kind kind) _ s)
  here (list_with_holes kind c) k n a r s g at = a_list kind k a at.0 (first_of_both (is_list_kind kind) _ s)
  here (body c) k n a r s g at = a_list Kind.Statements k a at.0 refl
  here (item_or_hole c) k n a r s g (inl at) = ap (λ x. asked x a) at.0 ∙ h.holes a at.1
  here (item_or_hole c) k n a r s g (inr of) = of_row c k n a r g of
  here (item_of_body c) k n a r s g (inl of) = of_row a_prologue k n a r g of
  here (item_of_body c) k n a r s g (inr at) = of_row c k n a r g at.1

  -- ---- trees

  pub everywhere : (t : Forest) (plan : Plan) → plan_passes is_sound plan ≡ true → given t ≡ true → Stand plan t → all_so t ≡ true
  everywhere nothing plan s g st = h.ends
  everywhere (absent r) plan s g st = h.passes_none r (everywhere r (behind plan Kind.Hole) (behind_passes is_sound plan Kind.Hole s) (h.given_behind_none r g) st.1)
  everywhere (node k n a r) plan s g st =
      let planned = planned_below a (first_place plan) k st.0 in
      h.passes_node k n a r (both (asked k a) (all_so a && all_so r) (here (first_place plan) k n a r (first_passes is_sound plan refl s) g st.0)
      (both (all_so a) (all_so r) (everywhere a planned.0 planned.1 (h.given_below k n a r g) planned.2) (everywhere r (behind plan k) (behind_passes is_sound plan k s) (h.given_behind k n a r g) st.1)))

  pub fits_everywhere : (t : Forest) → Fits root t → given t ≡ true → all_so t ≡ true
  fits_everywhere t fits g = everywhere t (these (one root ∷ [])) refl g fits

-- of trees of which nothing else is known
abbrev pub any_tree : Forest → Bool
any_tree t = true
