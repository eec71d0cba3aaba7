-- What is answered by a new table is what is to be known.
use Rattle.std.proofs.Common.{◌≡◌, ℕ, Bool, true, Some, refl}
use Rattle.js_syntax.specs.Class.{root}
use Rattle.js_syntax.specs.Node.{Forest}
use Rattle.js_effects.specs.Silence.{is_marked}
use Rattle.json_shape.specs.Shape.{Fits}
use Rattle.scope_rules.specs.Mark.{marked, first_marks}
use Rattle.scope_rules.specs.Site.{sites_of, found_in}
use Rattle.scope_rules.specs.Table.{scoping_of, symbols_declared}
use Rattle.scope_counts.specs.Scopes.{unmarked}
use Rattle.steps.specs.Allowed.Exposure.{is_script}
use Rattle.rules.specs.DeadCode.Rules.{Facts}
use Rattle.rules.specs.DeadCode.Knows.{Knows}
use Rattle.rules.specs.DeadCode.Quiet.{IsExported}
use Rattle.rules.proofs.DeadCode.New.{new_known}
use Rattle.exported_names.specs.Answers.{bound_of}
use Rattle.exported_names.specs.Exported.{exported_of}
use Rattle.exported_names.proofs.Listing.{bound_told}
use Rattle.exported_names.proofs.Telling.{exports_told, exports_only}
use Rattle.exported_names.proofs.Placing.{new_placed}

pub known : (t : Forest) → Fits root t → (keeps_unused keeps_imports : Bool) → let f = found_in (sites_of t) in let u = marked (first_marks (symbols_declared f.bindings)) t in
    let facts : Facts = record { scoping = scoping_of f; bound = bound_of (scoping_of f); exported = exported_of (scoping_of f) u; is_script = is_script u; keeps_unused = keeps_unused; keeps_imports = keeps_imports } in
    Knows facts unmarked u
known t fits keeps_unused keeps_imports =
    let f = found_in (sites_of t) in
    let u = marked (first_marks (symbols_declared f.bindings)) t in
    let bound = bound_of (scoping_of f) in
    let exported = exported_of (scoping_of f) u in
    new_known t fits bound exported keeps_unused keeps_imports (bound_told (scoping_of f) bound refl) (exports_told (scoping_of f) u exported refl (new_placed t))

pub only : (t : Forest) → let f = found_in (sites_of t) in let u = marked (first_marks (symbols_declared f.bindings)) t in
    (symbol : ℕ) → is_marked (exported_of (scoping_of f) u) (Some symbol) ≡ true → IsExported u symbol
only t =
    let f = found_in (sites_of t) in
    let u = marked (first_marks (symbols_declared f.bindings)) t in
    exports_only (scoping_of f) u (exported_of (scoping_of f) u) refl (new_placed t)
