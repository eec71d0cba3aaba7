-- What one edit adds nothing to, edits one after the other add nothing to.
use Rattle.std.proofs.Common.{◌≡◌, ◌≤◌, inl, inr, ℕ, false, arith}
use Rattle.js_syntax.specs.Class.{root}
use Rattle.js_syntax.specs.Node.{Forest, bare}
use Rattle.json_shape.specs.Shape.{Fits}
use Rattle.steps.specs.Allowed.MergedImports.{MergedImports}
use Rattle.steps.specs.Allowed.PassedExports.{PassedExports}
use Rattle.steps.specs.Allowed.Edits.{Edit, Edits, no_edit, one_edit}
use Rattle.steps.proofs.Owed.FitsEdits.{edit_fits, renoted_fits}
use Rattle.steps.proofs.Marked.Cuts.{Cuts, edit_cuts}

-- a measure of trees that doesn't see their notes, and to which no edit adds
pub record IsShed (measure : Forest → ℕ) : Type 0 where
  pub renoted : (t u : Forest) → bare t ≡ bare u → measure t ≡ measure u
  pub cut : (t u : Forest) → Cuts false t u → measure u ≤ measure t
  pub merged : (t u : Forest) → MergedImports t u → measure u ≤ measure t
  pub passed : (t u : Forest) → PassedExports t u → measure u ≤ measure t

edit_shed : (measure : Forest → ℕ) → IsShed measure → (t u : Forest) → Edit t u → Fits root t → measure u ≤ measure t
edit_shed measure s t u edit fits = elim (edit_cuts t u edit fits) [
  | inl c ↦ s.cut t u c
  | inr (inl m) ↦ s.merged t u m
  | inr (inr p) ↦ s.passed t u p
]

pub edits_shed : (measure : Forest → ℕ) → IsShed measure → (t u : Forest) → Edits t u → Fits root t → measure u ≤ measure t
edits_shed measure s t u (no_edit v w same) fits = Prim.omega (arith, s.renoted v w same)
edits_shed measure s t u (one_edit v w x y same edit more) fits =
    let before = renoted_fits v w same fits in
    Prim.omega (arith, s.renoted v w same, edit_shed measure s w x edit before, edits_shed measure s x y more (edit_fits w x edit before))
