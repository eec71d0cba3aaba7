-- Marks that pass down a tree, where a node's kind lets them: no node of some kinds stands at a place that is marked, where the rows of
-- the table that may stand there are of a set that is closed.
use Rattle.std.proofs.Common.{◌≡◌, ℕ, suc, inl, inr, [], ◌∷◌, Bool, true, false, not, ◌&&◌, ◌||◌, Some, refl, sym, subst}
use Rattle.js_syntax.specs.Class.{Class, a_prologue, expression, private_key}
use Rattle.js_syntax.specs.declared.node_kind.NodeKind.{NodeKind as Kind}
use Rattle.js_syntax.specs.declared.node_kind.NodeKind.TheVariants.{Hole as hole, Statements as statements}
use Rattle.js_syntax.specs.Hint.{has, is_private}
use Rattle.js_syntax.specs.Node.{Forest, nothing, node, absent}
use Rattle.js_syntax.specs.Table.{Row, fields_of, type_of, stands}
use Rattle.json_shape.specs.Shape.{Values, kind_in, first_of, Place, one, maybe_one, beyond, key_node, key_apart, list, list_with_holes, body, item_or_hole, item_of_body, places, Plan, these, all, all_or_holes, all_of_body, first_place, behind, after_body_item, is_directive_kind, IsOf, IsAt, Stand}
use Rattle.json_shape.proofs.Choice.{is_list_kind}
use Rattle.steps.proofs.Fit.CoreRows.{if_so, fields_pass, places_pass, places_so}
use Rattle.js_syntax.proofs.Truth.{first_of_both, second_of_both, both}

-- ---- marks

module _ (bad : Kind → Bool) (lets : Kind → (at : ℕ) → Bool) where
  abbrev pub shut : (marks : ℕ → Bool) → (at : ℕ) → Forest → Bool
  shut marks at nothing = true
  shut marks at (absent rest) = shut marks (suc at) rest
  shut marks at (node k n below rest) = not (marks at && bad k) && (shut (λ i. marks at && lets k i) 0 below && shut marks (suc at) rest)

  -- where no place is marked, there is nothing to show
  pub unmarked : (at : ℕ) (t : Forest) → shut (λ i. false) at t ≡ true
  unmarked at nothing = refl
  unmarked at (absent rest) = unmarked (suc at) rest
  unmarked at (node k n below rest) = both (shut (λ i. false) 0 below) (shut (λ i. false) (suc at) rest) (unmarked 0 below) (unmarked (suc at) rest)

-- ---- places of a set of classes

module _ (of_set : Class → Bool) where
  abbrev pub takes_set : Place → Bool
  takes_set (one c) = of_set c
  takes_set (maybe_one c) = of_set c
  takes_set beyond = true
  takes_set (key_node keys private) = of_set private_key && of_set expression
  takes_set (key_apart may) = true
  takes_set (list kind c) = is_list_kind kind && of_set c
  takes_set (list_with_holes kind c) = is_list_kind kind && of_set c
  takes_set (body c) = of_set c && of_set a_prologue
  takes_set (item_or_hole c) = of_set c
  takes_set (item_of_body c) = of_set c && of_set a_prologue

  -- a place that is marked takes the set
  abbrev pub takes_marked : (marks : ℕ → Bool) → ℕ → Place → Bool
  takes_marked marks at p = not (marks at) || takes_set p

  abbrev pub Passing : (marks : ℕ → Bool) → (at : ℕ) → Plan → Type 0
  Passing marks at (these ps) = places_pass (takes_marked marks) at ps ≡ true
  Passing marks at (all c) = (i : ℕ) → marks i ≡ true → of_set c ≡ true
  Passing marks at (all_or_holes c) = (i : ℕ) → marks i ≡ true → of_set c ≡ true
  Passing marks at (all_of_body c) = (i : ℕ) → marks i ≡ true → (of_set c && of_set a_prologue) ≡ true

  first_passing : (marks : ℕ → Bool) (at : ℕ) (plan : Plan) → Passing marks at plan → marks at ≡ true → takes_set (first_place plan) ≡ true
  first_passing marks at (these []) h m = refl
  first_passing marks at (these (p ∷ ps)) h m = if_so (marks at) (takes_set p) (first_of_both (takes_marked marks at p) (places_pass (takes_marked marks) (suc at) ps) h) m
  first_passing marks at (all c) h m = h at m
  first_passing marks at (all_or_holes c) h m = h at m
  first_passing marks at (all_of_body c) h m = h at m

  after_passing : (marks : ℕ → Bool) (at : ℕ) (c : Class) (b : Bool) → Passing marks at (all_of_body c) → Passing marks (suc at) (after_body_item c b)
  after_passing marks at c true h = h
  after_passing marks at c false h = λ i m. first_of_both (of_set c) (of_set a_prologue) (h i m)

  behind_passing : (marks : ℕ → Bool) (at : ℕ) (plan : Plan) (k : Kind) → Passing marks at plan → Passing marks (suc at) (behind plan k)
  behind_passing marks at (these []) k h = refl
  behind_passing marks at (these (p ∷ ps)) k h = second_of_both (takes_marked marks at p) (places_pass (takes_marked marks) (suc at) ps) h
  behind_passing marks at (all c) k h = h
  behind_passing marks at (all_or_holes c) k h = h
  behind_passing marks at (all_of_body c) k h = after_passing marks at c (is_directive_kind k) h

  -- the fields of a row pass, so its places do
  pub row_passing : (marks : ℕ → Bool) (r : Row) (vs : Values (fields_of r)) (private : Bool) → fields_pass (takes_marked marks) 0 (fields_of r) ≡ true → Passing marks 0 (these (places private (fields_of r) vs))
  row_passing marks r vs private h = places_so (takes_marked marks) private 0 (fields_of r) vs h

-- ---- trees

module _ (bad : Kind → Bool) (lets : Kind → (at : ℕ) → Bool) (of_set : Class → Bool) (in_set : Row → Bool)
    (good_lists : (kind : Kind) → is_list_kind kind ≡ true → not (bad kind) ≡ true)
    (good_hole : not (bad hole) ≡ true)
    (class_rows : (c : Class) (r : Row) → of_set c ≡ true → stands c (type_of r) ≡ Some (first_of r) → in_set r ≡ true)
    (row_fields : (r : Row) (vs : Values (fields_of r)) → in_set r ≡ true → (not (bad (kind_in r vs)) && fields_pass (takes_marked of_set (lets (kind_in r vs))) 0 (fields_of r)) ≡ true) where
  module _ (a : Forest) (below : (marks : ℕ → Bool) (plan : Plan) → Passing of_set marks 0 plan → Stand plan a → shut bad lets marks 0 a ≡ true) where
    -- a node, at a place that is marked or not
    abbrev IsShut : (is_marked : Bool) → Kind → Type 0
    IsShut is_marked k = (not (is_marked && bad k) && shut bad lets (λ i. is_marked && lets k i) 0 a) ≡ true

    shut_of : (k : Kind) (c : Class) → of_set c ≡ true → IsOf k a (λ p. Stand p a) c → IsShut true k
    shut_of k c h of =
        let kind = kind_in of.0 of.1 in
        let fields = row_fields of.0 of.1 (class_rows c of.0 h of.2) in
        let tests = fields_pass (takes_marked of_set (lets kind)) 0 (fields_of of.0) in
        subst (λ x. IsShut true x) (sym of.4)
        (both (not (bad kind)) (shut bad lets (lets kind) 0 a) (first_of_both (not (bad kind)) tests fields)
        (below (lets kind) (these (places (has is_private a) (fields_of of.0) of.1)) (row_passing of_set (lets kind) of.0 of.1 (has is_private a) (second_of_both (not (bad kind)) tests fields)) of.5))

    shut_list : (k kind : Kind) (plan : Plan) → k ≡ kind → is_list_kind kind ≡ true → Passing of_set (lets kind) 0 plan → Stand plan a → IsShut true k
    shut_list k kind plan is h passing st = subst (λ x. IsShut true x) (sym is) (both (not (bad kind)) (shut bad lets (lets kind) 0 a) (good_lists kind h) (below (lets kind) plan passing st))

    shut_hole : (k : Kind) → k ≡ hole → Stand (these []) a → IsShut true k
    shut_hole k is st = subst (λ x. IsShut true x) (sym is) (both (not (bad hole)) (shut bad lets (lets hole) 0 a) good_hole (below (lets hole) (these []) refl st))

    shut_at : (p : Place) (k : Kind) → takes_set of_set p ≡ true → IsAt k a (λ p. Stand p a) p → IsShut true k
    shut_at (one c) k h of = shut_of k c h of
    shut_at (maybe_one c) k h of = shut_of k c h of
    shut_at beyond k h at = absurd at
    shut_at (key_apart may) k h at = absurd at
    shut_at (key_node keys true) k h at = shut_of k private_key (first_of_both (of_set private_key) (of_set expression) h) at.1
    shut_at (key_node keys false) k h at = shut_of k expression (second_of_both (of_set private_key) (of_set expression) h) at
    shut_at (list kind c) k h at = shut_list k kind (all c) at.0 (first_of_both (is_list_kind kind) (of_set c) h) (λ i m. second_of_both (is_list_kind kind) (of_set c) h) at.1
    shut_at (list_with_holes kind c) k h at = shut_list k kind (all_or_holes c) at.0 (first_of_both (is_list_kind kind) (of_set c) h) (λ i m. second_of_both (is_list_kind kind) (of_set c) h) at.1
    shut_at (body c) k h at = shut_list k statements (all_of_body c) at.0 refl (λ i m. h) at.1
    shut_at (item_or_hole c) k h (inl at) = shut_hole k at.0 at.1
    shut_at (item_or_hole c) k h (inr of) = shut_of k c h of
    shut_at (item_of_body c) k h (inl of) = shut_of k a_prologue (second_of_both (of_set c) (of_set a_prologue) h) of
    shut_at (item_of_body c) k h (inr at) = shut_of k c (first_of_both (of_set c) (of_set a_prologue) h) at.1

    shut_here : (is_marked : Bool) (p : Place) (k : Kind) → (is_marked ≡ true → takes_set of_set p ≡ true) → IsAt k a (λ p. Stand p a) p → IsShut is_marked k
    shut_here true p k h at = shut_at p k (h refl) at
    shut_here false p k h at = unmarked bad lets 0 a

  pub shut_as_planned : (t : Forest) (marks : ℕ → Bool) (at : ℕ) (plan : Plan) → Passing of_set marks at plan → Stand plan t → shut bad lets marks at t ≡ true
  shut_as_planned nothing marks at plan h st = refl
  shut_as_planned (absent r) marks at plan h st = shut_as_planned r marks (suc at) (behind plan hole) (behind_passing of_set marks at plan hole h) st.1
  shut_as_planned (node k n a r) marks at plan h st =
      let here = shut_here a (λ marks plan. shut_as_planned a marks 0 plan) (marks at) (first_place plan) k (first_passing of_set marks at plan h) st.0 in
      let inside = shut bad lets (λ i. marks at && lets k i) 0 a in
      both (not (marks at && bad k)) (inside && shut bad lets marks (suc at) r) (first_of_both (not (marks at && bad k)) inside here)
      (both inside (shut bad lets marks (suc at) r) (second_of_both (not (marks at && bad k)) inside here)
      (shut_as_planned r marks (suc at) (behind plan k) (behind_passing of_set marks at plan k h) st.1))
