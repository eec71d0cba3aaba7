-- The table stays exact, with shorter lists, when a node becomes a part of itself.
use Rattle.std.proofs.Common.{◌≡◌, ◌∙◌, ◌++◌, ℕ, suc, Bool, true, false, List, append-nil, refl, sym, ap, ap₂, subst, inl, true≢false}
use Rattle.std.specs.Prelude.{Some}
use Rattle.js_syntax.specs.declared.node_kind.NodeKind.{NodeKind as Kind}
use Rattle.js_syntax.specs.declared.node_kind.NodeKind.TheVariants.{Program as program}
use Rattle.js_syntax.specs.Node.{Forest, Tree, Note, nothing, node, joined}
use Rattle.scope_rules.specs.Table.{Scoping}
use Rattle.scope_laws.specs.Place.{Around, plug}
use Rattle.scope_counts.specs.Counts.{Decl, Aims, no_part, aims_inside, named, hoisted}
use Rattle.scope_counts.specs.Edits.{Rooted, program_with, place_in, SameScopes}
use Rattle.scope_counts.specs.Losing.{Loses, left, Plain}
use Rattle.scope_counts.specs.Scopes.{unmarked}
use Rattle.scope_counts.proofs.Leaving.{hoisted_joined}
use Rattle.scope_counts.proofs.Stays.{exact_with_part}
use Rattle.scope_counts.proofs.Whole.{exact_with}
use Rattle.steps.specs.Owed.Kept.{is_program, IsKept}
use Rattle.steps.specs.Owed.Part.{DeclaresNothing, IsPart}
use Rattle.steps.proofs.Owed.Places.{place_of, rest_of, same_scopes, inside_program, is_rooted}
use Rattle.steps.proofs.Owed.Pruning.{kept_but_marks}

-- ---- what is declared around

module _ (k l : Kind) (i j : Note) (b p q r : Forest) (plain : Plain k) (before : DeclaresNothing p) (after : DeclaresNothing q) where
  abbrev own : (ℕ → Aims) → ℕ → List Decl
  own aims at = named (aims at) j l ++ hoisted (aims_inside no_part (aims at) l b) 0 b

  declared_inside : (a : Aims) → hoisted (λ at. a) 0 (joined p (node l j b q)) ≡ named a j l ++ hoisted (aims_inside no_part a l b) 0 b
  declared_inside a =
      hoisted_joined (λ at. a) (λ n m. refl) 0 p (node l j b q)
      ∙ ap₂ (λ ds es. ds ++ (own (λ at. a) 0 ++ es)) (before (λ at. a) 0) (after (λ at. a) 1)
      ∙ append-nil (own (λ at. a) 0)

  same_declared : (aims : ℕ → Aims) (at : ℕ) → hoisted aims at (node k i (joined p (node l j b q)) r) ≡ hoisted aims at (node l j b r)
  same_declared aims at =
      let whole = joined p (node l j b q) in
      let inside : aims_inside no_part (aims at) k whole ≡ (λ n. aims at) = λ z. λ n. plain.aims_same no_part (aims at) whole n z in
      ap (λ ds. ds ++ hoisted aims (suc at) r)
      (ap₂ (λ ds es. ds ++ es) (plain.names_none (aims at) i) (ap (λ (f : ℕ → Aims). hoisted f 0 whole) inside ∙ declared_inside (aims at)))

  abbrev none_gone : ℕ → Bool
  none_gone s = false

  loses_same : (ds es : List Decl) → ds ≡ es → Loses none_gone ds es
  loses_same ds es e = subst (Loses none_gone ds) e (record { found = λ x. inl refl; among = λ d h. h })

  pub part_keeps : (place : Rooted) → SameScopes (place_in place) (node k i (joined p (node l j b q)) r) (node l j b r) → (s : Scoping)
      → IsKept s (program_with place (node k i (joined p (node l j b q)) r)) → IsKept s (program_with place (node l j b r))
  part_keeps place scopes s kept =
      let t = node k i (joined p (node l j b q)) r in
      let u = node l j b r in
      kept_but_marks place (left t u) t u s kept
      (exact_with_part none_gone place k l i j b p q r plain (λ aims at h. loses_same (hoisted aims at t) (hoisted aims at u) (same_declared aims at)) scopes (λ z g. absurd (true≢false (sym g)))
      kept.table unmarked (left t u) (λ z. refl) ((exact_with place t kept.table).0 kept.exact))

-- ---- of a program

no_program : (k : Kind) (n : Note) (below rest : Forest) → Plain k → is_program (node k n below rest) ≡ false
no_program (program source) n below rest plain = absurd (true≢false (plain.opens_none nothing))
no_program k n below rest plain = refl

pub parts_kept : (a : Around) (x y : Tree) → IsPart x y → is_program (plug a (Some x)) ≡ true → (s : Scoping) → IsKept s (plug a (Some x)) → IsKept s (plug a (Some y))
parts_kept a x y part is s kept =
    let place = is_rooted a x (inside_program a x is (λ rest. no_program x.kind x.note x.below rest part.plain)) is in
    let whole = joined part.before (node y.kind y.note y.below part.after) in
    let rest = rest_of a in
    let stands : node x.kind x.note x.below rest ≡ node x.kind x.note whole rest = ap (λ t. node x.kind x.note t rest) part.stands in
    subst (IsKept s) (sym (place.with_node y))
    (part_keeps x.kind y.kind x.note y.note y.below part.before part.after rest part.plain part.before_declares part.after_declares place.rooted
    (subst (λ b. SameScopes b (node x.kind x.note whole rest) (node y.kind y.note y.below rest)) (sym place.place_is)
    (same_scopes x.kind y.kind x.note y.note whole y.below rest (place_of place.inner))) s
    (subst (IsKept s) (place.with_node x ∙ ap (program_with place.rooted) stands) kept))
