-- From a new table to the end of a walk.
use Rattle.std.proofs.Common.{ℕ, Bool, refl, sym}
use Rattle.js_syntax.specs.Class.{root}
use Rattle.js_syntax.specs.Node.{Forest}
use Rattle.json_shape.specs.Shape.{Fits}
use Rattle.scope_rules.specs.Site.{sites_of, found_in}
use Rattle.scope_rules.specs.Table.{scoping_of, symbols_declared}
use Rattle.scope_rules.specs.Mark.{marked, first_marks}
use Rattle.scope_table.specs.Editing.{pruned}
use Rattle.scope_table.specs.Refreshing.{refreshed}
use Rattle.scope_laws.proofs.Marking.{bare_marked}
use Rattle.steps.proofs.Fit.Notes.{fits_renoted}
use Rattle.steps.specs.Allowed.Edits.{TreeEdits}
use Rattle.rules.specs.Told.Parts.{FlagsTellOnly}
use Rattle.rules.proofs.Told.Alone.{flags_alone}
use Rattle.rules.proofs.Told.Nested.{new_nests, parents_alone}
use Rattle.rules.proofs.Told.New.{new_told_only}
use Rattle.rules.proofs.Told.Refreshed.{edits_refreshed}

pub walked_told_only : (t : Forest) → Fits root t → let f = found_in (sites_of t) in
    let now = marked (first_marks (symbols_declared f.bindings)) t in
    (u : Forest) → TreeEdits now u → (away : ℕ → Bool) → FlagsTellOnly (refreshed u (pruned away (scoping_of f))) u
walked_told_only t fits u edits away =
    let f = found_in (sites_of t) in
    let m = first_marks (symbols_declared f.bindings) in
    let s = scoping_of f in
    let now = marked m t in
    edits_refreshed (pruned away s) now u edits (fits_renoted t now (sym (bare_marked m t)) fits) (parents_alone now s (pruned away s) (λ n. refl) (new_nests t)) (flags_alone now s (pruned away s) (λ n. refl) (new_told_only t fits))
