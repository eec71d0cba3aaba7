-- The table stays exact, with shorter lists, when an expression is rebuilt of its parts.
use Rattle.std.proofs.Common.{◌≡◌, true, false, refl, sym, subst}
use Rattle.std.specs.Prelude.{Some}
use Rattle.js_syntax.specs.declared.node_kind.NodeKind.{NodeKind as Kind}
use Rattle.js_syntax.specs.declared.node_kind.NodeKind.TheVariants.{Program as program}
use Rattle.js_syntax.specs.Node.{Forest, Tree, Note, node, alone, forest_of}
use Rattle.js_rebuilt.specs.Rebuilt.{Rebuilt}
use Rattle.scope_rules.specs.Table.{Scoping}
use Rattle.scope_laws.specs.Place.{Around, plug}
use Rattle.scope_counts.specs.Edits.{Rooted, program_with, place_in, SameScopes}
use Rattle.scope_counts.specs.Losing.{DeclaresNone, left}
use Rattle.scope_counts.specs.Scopes.{unmarked}
use Rattle.scope_counts.proofs.Stays.{exact_rebuilt}
use Rattle.scope_counts.proofs.Whole.{exact_with}
use Rattle.steps.specs.KeepForm.Part.{is_asked_for}
use Rattle.steps.specs.Owed.Kept.{is_program, IsKept}
use Rattle.steps.specs.Owed.Part.{DeclaresNothing}
use Rattle.steps.proofs.Owed.Places.{place_of, rest_of, same_scopes, inside_program, is_rooted}
use Rattle.steps.proofs.Owed.Pruning.{kept_but_marks}

parts_keep : (place : Rooted) (k l : Kind) (i j : Note) (b c r : Forest) → Rebuilt (alone k i b) (alone l j c) → DeclaresNone (alone k i b) → SameScopes (place_in place) (node k i b r) (node l j c r) → (s : Scoping)
    → IsKept s (program_with place (node k i b r)) → IsKept s (program_with place (node l j c r))
parts_keep place k l i j b c r rebuilt none scopes s kept =
    let t = node k i b r in
    let u = node l j c r in
    kept_but_marks place (left t u) t u s kept (exact_rebuilt place k l i j b c r rebuilt none scopes kept.table unmarked (left t u) (λ z. refl) ((exact_with place t kept.table).0 kept.exact))

no_program : (k : Kind) (n : Note) (below rest : Forest) → is_asked_for k ≡ false → is_program (node k n below rest) ≡ false
no_program (program source) n below rest h = absurd cc
no_program k n below rest h = refl

pub rebuilt_kept : (a : Around) (x y : Tree) → Rebuilt (forest_of x) (forest_of y) → DeclaresNothing (forest_of x) → is_asked_for x.kind ≡ false → is_program (plug a (Some x)) ≡ true → (s : Scoping)
    → IsKept s (plug a (Some x)) → IsKept s (plug a (Some y))
rebuilt_kept a x y rebuilt none unasked is s kept =
    let place = is_rooted a x (inside_program a x is (λ rest. no_program x.kind x.note x.below rest unasked)) is in
    let rest = rest_of a in
    subst (IsKept s) (sym (place.with_node y))
    (parts_keep place.rooted x.kind y.kind x.note y.note x.below y.below rest rebuilt (λ aims. none (λ at. aims) 0)
    (subst (λ b. SameScopes b (node x.kind x.note x.below rest) (node y.kind y.note y.below rest)) (sym place.place_is)
    (same_scopes x.kind y.kind x.note y.note x.below y.below rest (place_of place.inner))) s
    (subst (IsKept s) (place.with_node x) kept))
