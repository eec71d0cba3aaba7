-- The table stays exact when an `if` loses an alternate that is empty.
use Rattle.std.proofs.Common.{◌≡◌, ℕ, Bool, true, false, refl, sym, subst, inl, true≢false, arith}
use Rattle.std.specs.Prelude.{Some}
use Rattle.js_syntax.specs.declared.node_kind.NodeKind.{NodeKind as Kind}
use Rattle.js_syntax.specs.declared.node_kind.NodeKind.TheVariants.{IfStatement as if_statement, EmptyStatement as empty_statement}
use Rattle.js_syntax.specs.Node.{Forest, Tree, Note, nothing, node, absent}
use Rattle.scope_rules.specs.Table.{Scoping}
use Rattle.scope_laws.specs.Place.{Around, plug}
use Rattle.scope_counts.specs.Counts.{Aims, Weight, weights_inside, hoisted, bound_to, refs}
use Rattle.scope_counts.specs.Edits.{Rooted, program_with, place_in, SameScopes}
use Rattle.scope_counts.specs.Losing.{Loses, Thins, left}
use Rattle.scope_counts.specs.Scopes.{unmarked}
use Rattle.scope_counts.proofs.Losing.{refs_related}
use Rattle.scope_counts.proofs.Stays.{exact_stays}
use Rattle.scope_counts.proofs.Whole.{exact_with}
use Rattle.steps.specs.Owed.Kept.{is_program, IsKept}
use Rattle.steps.proofs.Owed.Places.{place_of, rest_of, same_scopes, IsInside, is_rooted}
use Rattle.steps.proofs.Owed.Pruning.{kept_but_marks}

module _ (t l : Kind) (n i j o : Note) (d b r : Forest) where
  abbrev old_row : Forest
  old_row = node t i d (node l j b (node empty_statement o nothing nothing))

  abbrev new_row : Forest
  new_row = node t i d (node l j b (absent nothing))

  abbrev old : Forest
  old = node if_statement n old_row r

  abbrev new : Forest
  new = node if_statement n new_row r

  abbrev none_gone : ℕ → Bool
  none_gone s = false

  same_declared : (aims : ℕ → Aims) (at : ℕ) → hoisted aims at old ≡ hoisted aims at new
  same_declared aims at = refl

  thins : Thins none_gone false old new
  thins = record {
    fewer = λ z. Prim.omega arith;
    same = λ s z wg ws vs at eg ew ev small tiny related none e. Prim.omega (arith, refs_related none_gone s z wg ws vs at old small tiny related none, inner_same s z vs at);
    references = λ d h. h;
    declarations = λ d h. h;
    agree = λ e. (e.0, (e.1.0, e.1.1, (e.1.2.0, e.1.2.1, tt)), e.2);
    apart = λ s. Prim.omega arith;
  }
    where
      inner_same : (s z : ℕ) (vs : ℕ → Weight) (at : ℕ) → refs (bound_to s z) (weights_inside (bound_to s z) if_statement new_row (vs at)) 0 new_row ≡ refs (bound_to s z) (weights_inside (bound_to s z) if_statement old_row (vs at)) 0 old_row
      inner_same s z vs at = refl

  alternate_keeps : (place : Rooted) → SameScopes (place_in place) old new → (s : Scoping) → IsKept s (program_with place old) → IsKept s (program_with place new)
  alternate_keeps place scopes s kept =
      kept_but_marks place (left old new) old new s kept
      (exact_stays none_gone place false old new thins (λ aims at h. subst (Loses none_gone (hoisted aims at old)) (same_declared aims at) (record { found = λ x. inl refl; among = λ d h. h })) scopes (λ e. absurd (true≢false (sym e))) (λ z g. absurd (true≢false (sym g)))
      kept.table unmarked (left old new) (λ z. refl) ((exact_with place old kept.table).0 kept.exact))

-- of a program
pub alternate_kept : (a : Around) (t l : Kind) (n i j o : Note) (d b : Forest) → is_program (plug a (Some (record { kind = if_statement; note = n; below = node t i d (node l j b (node empty_statement o nothing nothing)) }))) ≡ true → IsInside a → (s : Scoping)
    → IsKept s (plug a (Some (record { kind = if_statement; note = n; below = node t i d (node l j b (node empty_statement o nothing nothing)) }))) → IsKept s (plug a (Some (record { kind = if_statement; note = n; below = node t i d (node l j b (absent nothing)) })))
alternate_kept a t l n i j o d b is inside s kept =
    let before : Tree = record { kind = if_statement; note = n; below = node t i d (node l j b (node empty_statement o nothing nothing)) } in
    let after : Tree = record { kind = if_statement; note = n; below = node t i d (node l j b (absent nothing)) } in
    let place = is_rooted a before inside is in
    let rest = rest_of a in
    subst (IsKept s) (sym (place.with_node after))
    (alternate_keeps t l n i j o d b rest place.rooted
    (subst (λ z. SameScopes z (node if_statement n before.below rest) (node if_statement n after.below rest)) (sym place.place_is) (same_scopes if_statement if_statement n n before.below after.below rest (place_of place.inner))) s
    (subst (IsKept s) (place.with_node before) kept))
