-- Where nodes may stand doesn't depend on their notes.
use Rattle.std.proofs.Common.{◌≡◌, inl, inr, [], Bool, true, false, sym, subst}
use Rattle.js_syntax.specs.Class.{Class, a_prologue, expression, private_key}
use Rattle.js_syntax.specs.declared.node_kind.NodeKind.{NodeKind as Kind}
use Rattle.js_syntax.specs.declared.node_kind.NodeKind.TheVariants.{Hole as hole}
use Rattle.js_syntax.specs.Hint.{has, is_private}
use Rattle.js_syntax.specs.Node.{Forest, nothing, node, absent, bare}
use Rattle.js_syntax.specs.Table.{fields_of}
use Rattle.json_shape.specs.Shape.{Place, one, maybe_one, beyond, key_node, key_apart, list, list_with_holes, body, item_or_hole, item_of_body, places, Plan, these, all, all_or_holes, all_of_body, first_place, behind, IsOf, IsAt, Stand}
use Rattle.json_shape.proofs.NotesWritten.{has_bare}

-- of two rows below a node
module _ (k : Kind) (below other : Forest) (private : has is_private below ≡ has is_private other) (moves : (plan : Plan) → Stand plan below → Stand plan other) where
  of_moves : (c : Class) → IsOf k below (λ p. Stand p below) c → IsOf k other (λ p. Stand p other) c
  of_moves c of =
      (of.0, of.1, of.2, of.3, of.4, subst (λ (b : Bool). Stand (these (places b (fields_of of.0) of.1)) other) private (moves (these (places (has is_private below) (fields_of of.0) of.1)) of.5))

  at_moves : (p : Place) → IsAt k below (λ p. Stand p below) p → IsAt k other (λ p. Stand p other) p
  at_moves (one c) of = of_moves c of
  at_moves (maybe_one c) of = of_moves c of
  at_moves beyond at = absurd at
  at_moves (key_node keys true) at = (at.0, of_moves private_key at.1)
  at_moves (key_node keys false) of = of_moves expression of
  at_moves (key_apart may) at = absurd at
  at_moves (list kind c) at = (at.0, moves (all c) at.1)
  at_moves (list_with_holes kind c) at = (at.0, moves (all_or_holes c) at.1)
  at_moves (body c) at = (at.0, moves (all_of_body c) at.1)
  at_moves (item_or_hole c) (inl at) = inl (at.0, moves (these []) at.1)
  at_moves (item_or_hole c) (inr of) = inr (of_moves c of)
  at_moves (item_of_body c) (inl of) = inl (of_moves a_prologue of)
  at_moves (item_of_body c) (inr at) = inr (at.0, of_moves c at.1)

pub bare_stands : (t : Forest) (plan : Plan) → Stand plan t → Stand plan (bare t)
bare_stands nothing plan h = h
bare_stands (node k n below rest) plan h = (at_moves k below (bare below) (sym (has_bare is_private below)) (bare_stands below) (first_place plan) h.0, bare_stands rest (behind plan k) h.1)
bare_stands (absent rest) plan h = (h.0, bare_stands rest (behind plan hole) h.1)

pub stands_bare : (t : Forest) (plan : Plan) → Stand plan (bare t) → Stand plan t
stands_bare nothing plan h = h
stands_bare (node k n below rest) plan h = (at_moves k (bare below) below (has_bare is_private below) (stands_bare below) (first_place plan) h.0, stands_bare rest (behind plan k) h.1)
stands_bare (absent rest) plan h = (h.0, stands_bare rest (behind plan hole) h.1)
