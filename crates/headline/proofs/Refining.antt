-- Edits lead from a core module to a program that refines it.
use Rattle.std.proofs.Common.{◌≡◌, ◌∙◌, true, ◌&&◌, Some, refl, sym, ap, subst}
use Rattle.js_syntax.specs.Class.{root}
use Rattle.js_syntax.specs.declared.node_kind.NodeKind.{NodeKind as Kind}
use Rattle.js_syntax.specs.declared.scalar.SourceType.TheVariants as source_type
use Rattle.js_syntax.specs.Node.{Forest, Tree, nothing, node, bare}
use Rattle.js_syntax.proofs.Truth.{both}
use Rattle.js_meaning.specs.Kept.{Refined}
use Rattle.js_meaning_near.specs.Near.{fields, module_of}
use Rattle.js_meaning_near.specs.Purpose.{for_values}
use Rattle.js_meaning_near.specs.Local.{Local}
use Rattle.js_meaning_near.specs.Avoid.{InPlace}
use Rattle.js_meaning_near.specs.Fit.{whole}
use Rattle.js_meaning_near.proofs.Near.{refines_with_other_notes}
use Rattle.steps.specs.Allowed.Edits.{Edit, leaves, becomes, merges, passes, Edits, no_edit, one_edit}
use Rattle.steps.specs.Allowed.MergedImports.{MergedImports, imports_merge}
use Rattle.steps.specs.Allowed.PassedExports.{PassedExports, exports_pass}
use Rattle.steps.specs.Steps.{Step, outermost, all_core}
use Rattle.steps.specs.Naming.Placed.{is_well_placed}
use Rattle.json_shape.specs.Shape.{Fits}
use Rattle.form_rules.specs.Form.{IsWellFormed}
use Rattle.scope_laws.specs.Place.{Around, plug}
use Rattle.scope_laws.specs.Lists.{without}
use Rattle.steps.specs.Fit.Sensible.{IsSensible, IsSensibleModule}
use Rattle.steps.proofs.Fit.Sensible.{of_module, module_renoted}
use Rattle.steps.specs.Owed.Comes.{Comes}
use Rattle.steps.specs.Owed.Good.{Good}
use Rattle.steps.specs.Owed.Owed.{LeavesRuns, by_going, by_change, by_refining, SameRuns, by_step, by_coming, by_changing}
use Rattle.steps.proofs.Owed.Edited.{edit_sensible}
use Rattle.steps.proofs.Owed.Here.{good_module}
use Rattle.steps.proofs.Owed.LeftRuns.{core_left, still_module, left_refines}
use Rattle.steps.proofs.Fit.Held.{core_below}
use Rattle.steps.proofs.Owed.MergedRuns.{row_core, module_merged}
use Rattle.steps.proofs.Owed.PassedSteps.{module_core, passed_refines}
use Rattle.steps.proofs.Owed.Owed.{leaving, becoming}
use Rattle.steps.proofs.Owed.PartRuns.{core_stays, parts_stay_modules, module_refines, comes_refines}
use Rattle.headline.proofs.Sound.{Refines, step_refines, refines_joined}

-- ---- other notes

renoted : (t u : Forest) → bare t ≡ bare u → IsSensibleModule t → Refines t u
renoted t u e h =
    let g = module_renoted t u e h in
    record {
      left = g;
      refined = subst (λ x. Refined x u) (sym h.is) (subst (Refined (module_of h.note h.list_note h.items)) (sym g.is)
          (refines_with_other_notes h.note h.list_note g.note g.list_note h.items g.items (subst (InPlace whole fields) h.is h.in_place) (sym (ap bare h.is) ∙ e ∙ ap bare g.is)));
    }

-- ---- one edit

stepped : (t u : Forest) → (is_well_placed t ≡ true → Good t → Step outermost t u) → IsSensibleModule t → IsSensible u → Refines t u
stepped t u step h g = step_refines t u (step h.placed (good_module t h)) h g

-- a node that comes to another
come : (a : Around) (x y : Tree) → Comes a x y → IsSensibleModule (plug a (Some x)) → IsSensible (plug a (Some y)) → Refines (plug a (Some x)) (plug a (Some y))
come a x y comes h g =
    let fits = subst (Fits root) h.is h.sensible.fits in
    let core = subst (λ t. all_core t ≡ true) h.is h.core in
    let still = parts_stay_modules h.note h.list_note h.items a x y h.is comes fits in
    record {
      left = of_module (plug a (Some y)) (record { note = h.note; list_note = h.list_note; items = still.changed; is = still.is }) (core_stays a x y comes a h.core) g;
      refined = subst (λ t. Refined t (plug a (Some y))) (sym h.is) (comes_refines h.note h.list_note h.items a x y h.is comes fits core g.fits g.well_formed);
    }

becomes_refines : (a : Around) (x y : Tree) → SameRuns a x y → IsSensibleModule (plug a (Some x)) → IsSensible (plug a (Some y)) → Refines (plug a (Some x)) (plug a (Some y))
becomes_refines a x y (by_step step) h g = stepped (plug a (Some x)) (plug a (Some y)) step h g
becomes_refines a x y (by_coming comes) h g =
    come a x y (comes h.note h.list_note h.items h.is (subst (Fits root) h.is h.sensible.fits) (subst IsWellFormed h.is h.sensible.well_formed) (subst (λ t. all_core t ≡ true) h.is h.core)) h g
becomes_refines a x y (by_changing change) h g =
    let fits = subst (Fits root) h.is h.sensible.fits in
    let core = subst (λ t. all_core t ≡ true) h.is h.core in
    let here = change h.note h.list_note h.items h.is fits (subst IsWellFormed h.is h.sensible.well_formed) core in
    let local = subst (λ t. Local for_values fields t (plug a (Some y))) h.is here.0 in
    let still = still_module h.note h.list_note h.items (plug a (Some y)) local in
    record {
      left = of_module (plug a (Some y)) (record { note = h.note; list_note = h.list_note; items = still.changed; is = still.is }) here.1 g;
      refined = subst (λ t. Refined t (plug a (Some y))) (sym h.is) (module_refines h.note h.list_note h.items (plug a (Some y)) still g.fits g.well_formed here.1);
    }

-- an item that leaves
leaves_refines : (a : Around) (x : Tree) → LeavesRuns a x → IsSensibleModule (plug a (Some x)) → IsSensible (without a) → Refines (plug a (Some x)) (without a)
leaves_refines a x (by_going step) h g = stepped (plug a (Some x)) (without a) step h g
leaves_refines a x (by_change change) h g =
    let fits = subst (Fits root) h.is h.sensible.fits in
    let core = subst (λ t. all_core t ≡ true) h.is h.core in
    let here = subst (λ t. Local for_values fields t (without a)) h.is (change h.note h.list_note h.items h.is fits (subst IsWellFormed h.is h.sensible.well_formed) core) in
    let still = still_module h.note h.list_note h.items (without a) here in
    record {
      left = of_module (without a) (record { note = h.note; list_note = h.list_note; items = still.changed; is = still.is }) (core_left x a h.core) g;
      refined = subst (λ t. Refined t (without a)) (sym h.is) (left_refines h.note h.list_note h.items a x h.is here core g.fits g.well_formed);
    }
leaves_refines a x (by_refining refines) h g =
    let fits = subst (Fits root) h.is h.sensible.fits in
    let core = subst (λ t. all_core t ≡ true) h.is h.core in
    let made = refines h.note h.list_note h.items h.is fits (subst IsWellFormed h.is h.sensible.well_formed) core in
    record {
      left = of_module (without a) (record { note = h.note; list_note = h.list_note; items = made.items; is = made.is }) (core_left x a h.core) g;
      refined = subst (λ t. Refined t (without a)) (sym h.is) made.refined;
    }

-- two imports that become one
merges_refine : (t u : Forest) → MergedImports t u → IsSensibleModule t → IsSensible u → Refines t u
merges_refine _ _ (imports_merge n m r s merged none) h g =
    let list = node Kind.Statements m r nothing in
    let items = core_below Kind.Statements m r nothing (core_below (Kind.Program source_type.Module) n list nothing h.core) in
    record {
      left = of_module (module_of n m s) (record { note = n; list_note = m; items = s; is = refl }) (both (all_core s && true) true (both (all_core s) true (row_core merged items) refl) refl) g;
      refined = module_merged n m r s merged h;
    }

-- an import and an export that become one
passes_refine : (t u : Forest) → PassedExports t u → IsSensibleModule t → IsSensible u → Refines t u
passes_refine _ _ (exports_pass n m names r s z merged free none) h g =
    let list = node Kind.Statements m r nothing in
    let items = core_below Kind.Statements m r nothing (core_below (Kind.Program source_type.Module) n list nothing h.core) in
    record {
      left = of_module (module_of n m z) (record { note = n; list_note = m; items = z; is = refl }) (both (all_core z && true) true (both (all_core z) true (module_core merged items) refl) refl) g;
      refined = passed_refines n m names r s z merged free h;
    }

edit_refines : (t u : Forest) → Edit t u → IsSensibleModule t → Refines t u
edit_refines t u (leaves a x c) h = leaves_refines a x (leaving a x c).runs h (edit_sensible t u (leaves a x c) h.sensible)
edit_refines t u (becomes a x y c) h = becomes_refines a x y (becoming a x y c).runs h (edit_sensible t u (becomes a x y c) h.sensible)
edit_refines t u (merges v w c) h = merges_refine v w c h (edit_sensible t u (merges v w c) h.sensible)
edit_refines t u (passes v w c) h = passes_refine v w c h (edit_sensible t u (passes v w c) h.sensible)

-- ---- one after the other

pub edits_refine : {t u : Forest} → Edits t u → IsSensibleModule t → Refines t u
edits_refine (no_edit t u e) h = renoted t u e h
edits_refine (one_edit t v w u e edit rest) h =
    let before = renoted t v e h in
    let after = edit_refines v w edit before.left in
    refines_joined before (refines_joined after (edits_refine rest after.left))
