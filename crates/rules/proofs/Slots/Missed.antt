-- Of rows and trees, whether a node of some kinds stands at a place where it would be missed.
use Rattle.std.proofs.Common.{◌≡◌, ◌∙◌, ℕ, suc, ◌++◌, List, [], ◌∷◌, Bool, true, false, not, ◌&&◌, Some, None, slice_index_or, refl, sym, ap, true≢false}
use Rattle.std.proofs.lemmas.List.{reverse-append}
use Rattle.js_syntax.specs.Class.{root}
use Rattle.js_syntax.specs.declared.node_kind.NodeKind.{NodeKind as Kind}
use Rattle.js_syntax.specs.Node.{Forest, Tree, nothing, node, absent}
use Rattle.js_syntax.specs.Table.{Row, fields_of}
use Rattle.js_syntax.proofs.Truth.{first_of_both, second_of_both, both}
use Rattle.json_shape.specs.Shape.{Values, kind_in, IsChosen, Place as Planned, places, Plan, these, IsAt, Stand, Fits}
use Rattle.json_shape.proofs.Choice.{is_list_kind}
use Rattle.min_context.specs.Above.{parent_of, above_of}
use Rattle.min_context.specs.Place.{Place, told_of, inside, outside, top, goes_on}
use Rattle.min_context.specs.declared.ancestor.Above.{Above}
use Rattle.min_context.specs.declared.ancestor.Ancestor.{Ancestor}
use Rattle.min_context.specs.declared.ancestor.Ancestor.TheVariants.{Field as field, None as past_program}
use Rattle.min_context.specs.declared.ancestor.Parent.{Parent}
use Rattle.min_context.specs.declared.ancestor.Parent.TheVariants as parent
use Rattle.min_traverse.specs.Visits.{above_place}
use Rattle.steps.proofs.Fit.Everywhere.{IsShown, fits_everywhere, any_tree}
use Rattle.rules.specs.DeadCode.Quiet.{EachNode}

last_is : (above : List Ancestor) (a : Ancestor) → above_place (record { ancestors = above ++ a ∷ []; scope = 0; hoist_scope = 0; block_scope = 0 }) ≡ a
last_is above a = ap (λ l. slice_index_or l 0 past_program) (reverse-append above (a ∷ []))

not_there : (m w h : Bool) → (w ≡ true → h ≡ true) → not (m && h) ≡ true → not (m && w) ≡ true
not_there false w h may e = refl
not_there true false h may e = refl
not_there true true h may e = ap not (sym (may refl)) ∙ e

pub unmissed : (m w : Bool) → not (m && w) ≡ true → w ≡ true → m ≡ false
unmissed true true e h = absurd (true≢false (sym e))
unmissed true false e h = absurd (true≢false (sym h))
unmissed false w e h = refl

-- where hooks miss a node, and which kinds are watched for
module _ (is_missed : Ancestor → Bool) (is_watched : Kind → Bool) where
  -- none of a row stands where it would be missed
  abbrev pub none_missed : Parent → (at : ℕ) → Forest → Bool
  none_missed p at nothing = true
  none_missed p at (absent rest) = none_missed p (suc at) rest
  none_missed p at (node k n below rest) = not (is_missed (field p at) && is_watched k) && none_missed p (suc at) rest

  abbrev pub all_seen : Forest → Bool
  all_seen nothing = true
  all_seen (absent rest) = all_seen rest
  all_seen (node k n below rest) = none_missed (parent_of k) 0 below && (all_seen below && all_seen rest)

  pub plain_row : (p : Parent) → ((at : ℕ) → is_missed (field p at) ≡ false) → (at : ℕ) (a : Forest) → none_missed p at a ≡ true
  plain_row p plain at nothing = refl
  plain_row p plain at (absent r) = plain_row p plain (suc at) r
  plain_row p plain at (node k n b r) = both (not (is_missed (field p at) && is_watched k)) (none_missed p (suc at) r) (ap (λ m. not (m && is_watched k)) (plain at)) (plain_row p plain (suc at) r)

  -- ---- by the table, which says at which places of a row they may stand

  module _ (may_hold : Planned → Bool) where
    abbrev pub places_seen : Parent → (at : ℕ) → List Planned → Bool
    places_seen p at [] = true
    places_seen p at (q ∷ ps) = not (is_missed (field p at) && may_hold q) && places_seen p (suc at) ps

    module _ (may_there : (k : Kind) (a : Forest) (S : Plan → Type 0) (q : Planned) → IsAt k a S q → is_watched k ≡ true → may_hold q ≡ true) where
      row_seen : (p : Parent) (at : ℕ) (ps : List Planned) (a : Forest) → places_seen p at ps ≡ true → Stand (these ps) a → none_missed p at a ≡ true
      row_seen p at ps nothing s st = refl
      row_seen p at [] (absent r) s st = absurd st.0
      row_seen p at (q ∷ ps) (absent r) s st = row_seen p (suc at) ps r (second_of_both (not (is_missed (field p at) && may_hold q)) (places_seen p (suc at) ps) s) st.1
      row_seen p at [] (node k n b r) s st = absurd st.0
      row_seen p at (q ∷ ps) (node k n b r) s st =
          both (not (is_missed (field p at) && is_watched k)) (none_missed p (suc at) r)
          (not_there (is_missed (field p at)) (is_watched k) (may_hold q) (may_there k b (λ plan. Stand plan b) q st.0) (first_of_both (not (is_missed (field p at) && may_hold q)) (places_seen p (suc at) ps) s))
          (row_seen p (suc at) ps r (second_of_both (not (is_missed (field p at) && may_hold q)) (places_seen p (suc at) ps) s) st.1)

      module _ (rows : (r : Row) (vs : Values (fields_of r)) (private : Bool) → IsChosen r vs → places_seen (parent_of (kind_in r vs)) 0 (places private (fields_of r) vs) ≡ true)
          (lists : (k : Kind) (a : Forest) → is_list_kind k ≡ true → none_missed (parent_of k) 0 a ≡ true) (holes : (a : Forest) → none_missed parent.Other 0 a ≡ true) where
        shown : IsShown any_tree (λ k a. none_missed (parent_of k) 0 a) all_seen
        shown = record {
          ends = refl;
          passes_none = λ r h. h;
          passes_node = λ k n a r h. h;
          given_behind_none = λ r h. h;
          given_below = λ k n a r h. h;
          given_behind = λ k n a r h. h;
          rows = λ r vs private n a rest g chosen st. row_seen (parent_of (kind_in r vs)) 0 (places private (fields_of r) vs) a (rows r vs private chosen) st;
          lists = lists;
          holes = λ a st. holes a;
        }

        pub fits_seen : (t : Forest) → Fits root t → all_seen t ≡ true
        fits_seen t fits = fits_everywhere any_tree (λ k a. none_missed (parent_of k) 0 a) all_seen shown t fits refl

  -- ---- node by node

  abbrev pub IsSeen : Place → Tree → Type 0
  IsSeen p x = not (is_missed (above_place p) && is_watched x.kind) ≡ true

  -- behind the heritage of a class it is told whether there is one, and of a sequence's parts whether it goes on, which doesn't matter
  module _ (told_same : (p : Parent) (at : ℕ) (previous more : Bool) → is_missed (field (told_of p at previous more) at) ≡ is_missed (field p at)) (outermost : is_missed past_program ≡ false) where
    missed_below : (p : Place) (a : Above) (at : ℕ) (previous more : Bool) → is_missed (above_place (inside p a at previous more)) ≡ is_missed (field a.parent at)
    missed_below p a at previous more = ap is_missed (last_is p.ancestors (field (told_of a.parent at previous more) at)) ∙ told_same a.parent at previous more

    seen_row : (p : Place) (a : Above) (at : ℕ) (previous : Bool) (t : Forest) → none_missed a.parent at t ≡ true → all_seen t ≡ true → EachNode IsSeen (record { outer = p; above = Some a; at = at; previous = previous }) t
    seen_row p a at previous nothing m s = tt
    seen_row p a at previous (absent r) m s = seen_row p a (suc at) false r m s
    seen_row p a at previous (node k n b r) m s =
        let here = not (is_missed (field a.parent at) && is_watched k) in
        let later = none_missed a.parent (suc at) r in
        let inner = none_missed (parent_of k) 0 b in
        let deeper = second_of_both inner (all_seen b && all_seen r) s in (
          ap (λ q. not (q && is_watched k)) (missed_below p a at previous (goes_on r)) ∙ first_of_both here later m,
          seen_row (inside p a at previous (goes_on r)) (above_of k n) 0 false b (first_of_both inner (all_seen b && all_seen r) s) (first_of_both (all_seen b) (all_seen r) deeper),
          seen_row p a (suc at) true r (second_of_both here later m) (second_of_both (all_seen b) (all_seen r) deeper),
        )

    seen_outside : (at : ℕ) (previous : Bool) (t : Forest) → all_seen t ≡ true → EachNode IsSeen (record { outer = outside; above = None; at = at; previous = previous }) t
    seen_outside at previous nothing s = tt
    seen_outside at previous (absent r) s = seen_outside (suc at) false r s
    seen_outside at previous (node k n b r) s =
        let inner = none_missed (parent_of k) 0 b in
        let deeper = second_of_both inner (all_seen b && all_seen r) s in (
          ap (λ q. not (q && is_watched k)) outermost,
          seen_row outside (above_of k n) 0 false b (first_of_both inner (all_seen b && all_seen r) s) (first_of_both (all_seen b) (all_seen r) deeper),
          seen_outside (suc at) true r (second_of_both (all_seen b) (all_seen r) deeper),
        )

    pub each_seen : (t : Forest) → all_seen t ≡ true → EachNode IsSeen top t
    each_seen t s = seen_outside 0 false t s
