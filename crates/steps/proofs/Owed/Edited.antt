-- What holds behind an edit, by its shape.
use Rattle.std.proofs.Common.{◌≡◌, ◌∙◌, ◌⊎◌, ◌≤◌, ◌<◌, true, false, true≢false, Some, inl, inr, arith, sym, ap}
use Rattle.js_syntax.specs.Class.{root}
use Rattle.js_syntax.specs.Facts.{weight}
use Rattle.js_syntax.specs.Node.{Forest, Tree, bare, total, forest_of}
use Rattle.json_shape.specs.Shape.{Fits}
use Rattle.form_rules.specs.Form.{IsWellFormed}
use Rattle.scope_rules.specs.Table.{Scoping}
use Rattle.scope_laws.specs.Place.{Around, first, behind, behind_none, under, plug}
use Rattle.scope_laws.specs.Lists.{without}
use Rattle.steps.specs.KeepForm.Sheds.{Sheds, outermost}
use Rattle.steps.proofs.KeepForm.Fitting.{fits_laid_out}
use Rattle.steps.proofs.KeepForm.Form.{stays_well_formed}
use Rattle.steps.specs.Allowed.Calls.{root_calls}
use Rattle.steps.specs.Allowed.Changing.{may_change_somewhere}
use Rattle.steps.specs.Allowed.Edits.{Edit, leaves, becomes, merges, passes, TreeEdits, no_tree_edit, one_tree_edit, Edits, no_edit, one_edit}
use Rattle.steps.specs.Allowed.MergedImports.{MergedImports}
use Rattle.steps.specs.Allowed.PassedExports.{PassedExports}
use Rattle.steps.specs.Fit.Sensible.{IsSensible}
use Rattle.steps.proofs.Fit.Sensible.{sensible, renoted}
use Rattle.steps.proofs.Fit.Enclosing.{fits_enclosed}
use Rattle.steps.proofs.Fit.Modules.{fits_program}
use Rattle.steps.specs.Owed.Kept.{IsKept}
use Rattle.steps.proofs.Owed.Calling.{takes, leave_root, replaced_root, bare_root}
use Rattle.steps.proofs.Owed.Changing.{node_may_change, item_may_change, bare_changes}
use Rattle.steps.proofs.Owed.FitsEdits.{edit_fits}
use Rattle.steps.proofs.Owed.MergedForm.{merged_well_formed}
use Rattle.steps.proofs.Owed.MergedLess.{merged_lighter, merged_calls, merged_may_change}
use Rattle.steps.proofs.Owed.MergedTables.{merged_keeps}
use Rattle.steps.proofs.Owed.PassedForm.{passed_well_formed}
use Rattle.steps.proofs.Owed.PassedLess.{passed_lighter, passed_calls, passed_may_change}
use Rattle.steps.proofs.Owed.PassedTables.{passed_keeps}
use Rattle.steps.proofs.Owed.Owed.{leaving, becoming}
use Rattle.steps.proofs.Owed.Shedding.{leaving_sheds}
use Rattle.steps.proofs.Owed.TableKept.{leaving_keeps}

-- ---- the rules of form

pub edit_sheds : (t u : Forest) → Edit t u → Fits root t → Sheds outermost t u ⊎ (MergedImports t u ⊎ PassedExports t u)
edit_sheds t u (leaves a x c) fits = inl (leaving_sheds a x (leaving a x c) (fits_laid_out t fits))
edit_sheds t u (becomes a x y c) fits = inl ((becoming a x y c).sheds fits)
edit_sheds t u (merges v w c) fits = inr (inl c)
edit_sheds t u (passes v w c) fits = inr (inr c)

still_formed : (t u : Forest) → Sheds outermost t u ⊎ (MergedImports t u ⊎ PassedExports t u) → Fits root t → IsWellFormed t → IsWellFormed u
still_formed t u (inl sheds) fits whole = stays_well_formed t u sheds whole
still_formed t u (inr (inl merged)) fits whole = merged_well_formed t u merged whole
still_formed t u (inr (inr passed)) fits whole = passed_well_formed t u passed fits whole

pub edit_sensible : (t u : Forest) → Edit t u → IsSensible t → IsSensible u
edit_sensible t u e s = sensible u (edit_fits t u e s.fits) (still_formed t u (edit_sheds t u e s.fits) s.fits s.well_formed)

pub edits_sensible : {t u : Forest} → Edits t u → IsSensible t → IsSensible u
edits_sensible (no_edit t u same) s = renoted t u same s
edits_sensible (one_edit t v w u same e more) s = edits_sensible more (edit_sensible v w e (renoted t v same s))

-- ---- the table of scopes, symbols and references

pub edit_keeps : (t u : Forest) → Edit t u → Fits root t → (s : Scoping) → IsKept s t → IsKept s u
edit_keeps t u (leaves a x c) fits s kept = leaving_keeps a x (leaving a x c) (fits_program t fits) (fits_enclosed t fits) s kept
edit_keeps t u (becomes a x y c) fits s kept = (becoming a x y c).kept fits s kept
edit_keeps t u (merges v w c) fits s kept = merged_keeps v w c s kept
edit_keeps t u (passes v w c) fits s kept = passed_keeps v w c s kept

pub tree_edits_keep : (t u : Forest) → TreeEdits t u → Fits root t → (s : Scoping) → IsKept s t → IsKept s u
tree_edits_keep t u (no_tree_edit v) fits s kept = kept
tree_edits_keep t u (one_tree_edit v w x e more) fits s kept = tree_edits_keep w x more (edit_fits v w e fits) s (edit_keeps v w e fits s kept)

-- ---- how much there is

left_lighter : (a : Around) (x : Tree) → 1 ≤ total weight (forest_of x) → total weight (without a) < total weight (plug a (Some x))
left_lighter (first rest) x h = Prim.omega (arith, h)
left_lighter (behind k n b a) x h = Prim.omega (arith, left_lighter a x h)
left_lighter (behind_none a) x h = left_lighter a x h
left_lighter (under k n a rest) x h = Prim.omega (arith, left_lighter a x h)

replaced_lighter : (a : Around) (x y : Tree) → total weight (forest_of y) < total weight (forest_of x) → total weight (plug a (Some y)) < total weight (plug a (Some x))
replaced_lighter (first rest) x y h = Prim.omega (arith, h)
replaced_lighter (behind k n b a) x y h = Prim.omega (arith, replaced_lighter a x y h)
replaced_lighter (behind_none a) x y h = replaced_lighter a x y h
replaced_lighter (under k n a rest) x y h = Prim.omega (arith, replaced_lighter a x y h)

pub edit_lighter : (t u : Forest) → Edit t u → total weight u < total weight t
edit_lighter t u (leaves a x c) = left_lighter a x (leaving a x c).weighs
edit_lighter t u (becomes a x y c) = replaced_lighter a x y (becoming a x y c).lighter
edit_lighter t u (merges v w c) = merged_lighter v w c
edit_lighter t u (passes v w c) = passed_lighter v w c

-- ---- calls of a program's own list

pub edit_calls : (t u : Forest) → Edit t u → root_calls t ≤ root_calls u
edit_calls t u (leaves a x c) =
    let owed = leaving a x c in
    Prim.omega (
      arith,
      leave_root a x owed.no_call (elim owed.listed [
        | inl item ↦ inl (ap takes item)
        | inr (inl declarator) ↦ inl (ap takes declarator.0)
        | inr (inr imported) ↦ inr imported
      ]),
    )
edit_calls t u (becomes a x y c) = replaced_root a x y (becoming a x y c).no_call (becoming a x y c).ends
edit_calls t u (merges v w c) = Prim.omega (arith, merged_calls v w c)
edit_calls t u (passes v w c) = Prim.omega (arith, passed_calls v w c)

bare_calls : (t u : Forest) → bare t ≡ bare u → root_calls t ≡ root_calls u
bare_calls t u e = sym (bare_root t) ∙ ap root_calls e ∙ bare_root u

pub edits_keep_calls : {t u : Forest} → Edits t u → root_calls t ≤ root_calls u
edits_keep_calls (no_edit t u same) = Prim.omega (arith, bare_calls t u same)
edits_keep_calls (one_edit t v w u same e more) = Prim.omega (arith, bare_calls t v same, edit_calls v w e, edits_keep_calls more)

-- ---- where nothing may change

pub edit_may_change : (t u : Forest) → Edit t u → may_change_somewhere t ≡ true
edit_may_change t u (leaves a x c) = item_may_change a x (leaving a x c).may_change
edit_may_change t u (becomes a x y c) = node_may_change a x (becoming a x y c).may_change
edit_may_change t u (merges v w c) = merged_may_change v w c
edit_may_change t u (passes v w c) = passed_may_change v w c

pub nothing_changes : (t u : Forest) → may_change_somewhere t ≡ false → Edits t u → bare t ≡ bare u
nothing_changes t u still (no_edit x y same) = same
nothing_changes t u still (one_edit x v w y same e more) =
    absurd (true≢false (sym (edit_may_change v w e) ∙ sym (bare_changes v) ∙ ap may_change_somewhere (sym same) ∙ bare_changes t ∙ still))
