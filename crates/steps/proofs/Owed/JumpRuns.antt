-- An item behind a jump that leaves its list is a change that no run shows.
use Rattle.std.proofs.Common.{◌≡◌, ◌⊎◌, inl, inr, [], ◌∷◌, Bool, true, false, ◌||◌, Some, refl, sym, subst, true≢false}
use Rattle.std.proofs.lemmas.Bool.{or_cases}
use Rattle.js_syntax.specs.Class.{root}
use Rattle.js_syntax.specs.declared.node_kind.NodeKind.{NodeKind as Kind}
use Rattle.js_syntax.specs.Node.{Forest, Tree, node}
use Rattle.js_meaning_near.specs.Purpose.{Purposes, for_values, purpose_here, purposes_behind, wanted_below}
use Rattle.js_meaning_near.specs.Near.{is_calm, is_row, cuts_off, Row as NearRow, fields, items as near_items, row_below as near_row_below}
use Rattle.js_meaning_near.specs.Local.{DeclaresNothing, Cut, node_cut, cut_behind, cut_behind_none, Local, behind_jump, in_below, in_rest, in_absent}
use Rattle.json_shape.specs.Shape.{one, Plan, these, first_place, Stand, Fits}
use Rattle.json_shape.specs.Shape as shape
use Rattle.min_pass.specs.declared.around.Around.{Around as Asked}
use Rattle.min_pass.specs.declared.around.Row.TheVariants.{Items as items}
use Rattle.min_pass.specs.Around.{entered as asked_below, outermost as asked_of_program}
use Rattle.scope_laws.specs.Place.{Around, first, behind, behind_none, under, plug}
use Rattle.scope_laws.specs.Lists.{without}
use Rattle.steps.specs.Allowed.Places.{asked_at, IsItem}
use Rattle.steps.specs.Allowed.Unreached.{is_behind_jump}
use Rattle.steps.proofs.Fit.Holding.{is_sound, planned_below}
use Rattle.steps.proofs.Fit.Passing.{plan_passes, first_passes, behind_passes}
use Rattle.steps.specs.KeepForm.Part.{is_statement}
use Rattle.steps.proofs.Owed.LeftRuns.{list_of_both, reads_same}
use Rattle.steps.proofs.Owed.Made.{MadeBy, is_single, made_at}
use Rattle.steps.proofs.Owed.PartRuns.{calm_hoists}

-- it lies in the row behind the jump, or further in
abbrev CutThere : Purposes → NearRow → Asked → (jumped : Bool) → Forest → Forest → Type 0
CutThere us o w jumped t u = ((jumped ≡ true) × ((w.row ≡ items) × Cut t u)) ⊎ Local us o t u

module _ (x : Tree) (calm : is_calm x.kind ≡ true) (states : is_statement x.kind ≡ true) (declares : DeclaresNothing x.kind x.below) where
  local_cut : (us : Purposes) (o : NearRow) (w : Asked) (a : Around) (jumped : Bool) → (w.row ≡ items → o ≡ near_items) → (asked_at w a).row ≡ items → is_behind_jump jumped a ≡ true
      → (plan : Plan) → plan_passes is_sound plan ≡ true → Stand plan (plug a (Some x)) → CutThere us o w jumped (plug a (Some x)) (without a)
  local_cut us o w (first rest) jumped list item jump plan h st = inl (jump, (item, node_cut (calm_hoists x.kind calm) declares))
  local_cut us o w (behind k n below a) jumped list item jump plan h st =
      elim (local_cut (purposes_behind us) o w a (jumped || cuts_off k below) list item jump (shape.behind plan k) (behind_passes is_sound plan k h) st.1) [
        | inl found ↦ elim (or_cases jumped (cuts_off k below) found.0) [
          | inl before ↦ inl (before, (found.1.0, cut_behind found.1.1))
          | inr here ↦ inr (subst (λ p. Local us p (node k n below (plug a (Some x))) (node k n below (without a))) (sym (list found.1.0)) (behind_jump here found.1.1))
        ]
        | inr change ↦ inr (in_rest change)
      ]
  local_cut us o w (behind_none a) jumped list item jump plan h st =
      elim (local_cut (purposes_behind us) o w a jumped list item jump (shape.behind plan Kind.Hole) (behind_passes is_sound plan Kind.Hole h) st.1) [
        | inl found ↦ inl (found.0, (found.1.0, cut_behind_none found.1.1))
        | inr change ↦ inr (in_absent change)
      ]
  local_cut us o w (under k n a rest) jumped list item jump plan h st =
      let planned = planned_below (plug a (Some x)) (first_place plan) k st.0 in
      let single : is_single k ≡ true → MadeBy k (plug a (Some x)) = λ s. made_at (plug a (Some x)) k s (first_place plan) (first_passes is_sound plan refl h) st.0 in
      elim (local_cut (wanted_below (purpose_here us (is_row rest)) k) (near_row_below k) (asked_below w k) a false (list_of_both w.row k) item jump planned.0 planned.1 planned.2) [
        | inl found ↦ absurd (true≢false (sym found.0))
        | inr change ↦ inr (in_below (reads_same x states w k a item single) change)
      ]

  pub cut_is_local : (a : Around) → IsItem a → is_behind_jump false a ≡ true → Fits root (plug a (Some x)) → Local for_values fields (plug a (Some x)) (without a)
  cut_is_local a item jump fits =
      elim (local_cut for_values fields (asked_of_program true) a false (λ e. absurd cc) item jump (these (one root ∷ [])) refl fits) [
        | inl found ↦ absurd (true≢false (sym found.0))
        | inr change ↦ change
      ]
