-- The table stays exact when an expression becomes a statement of it, which declares nothing and makes no scope.
use Rattle.std.proofs.Common.{◌≡◌, ◌++◌, ◌+◌, ℕ, suc, Bool, true, false, List, [], append-nil, refl, sym, ap, subst, inl, true≢false, arith}
use Rattle.std.specs.Prelude.{Some}
use Rattle.js_syntax.specs.declared.node_kind.NodeKind.{NodeKind as Kind}
use Rattle.js_syntax.specs.declared.node_kind.NodeKind.TheVariants.{ExpressionStatement as expression_statement}
use Rattle.js_syntax.specs.Node.{Forest, Tree, Note, nothing, node}
use Rattle.scope_rules.specs.Table.{Scoping}
use Rattle.scope_laws.specs.Exact.{Among}
use Rattle.scope_laws.specs.Place.{Around, plug}
use Rattle.scope_counts.specs.Counts.{Decl, Aims, Weight, no_part, aims_inside, named, hoisted, own, weights_inside, bound_to, refs}
use Rattle.scope_counts.specs.Edits.{Rooted, program_with, place_in, SameScopes}
use Rattle.scope_counts.specs.Losing.{Loses, Thins, left, Plain, own_referring, referring, own_declaring, declaring}
use Rattle.scope_counts.specs.Scopes.{unmarked}
use Rattle.scope_counts.proofs.Leaving.{weights_plain}
use Rattle.scope_counts.proofs.Losing.{refs_related}
use Rattle.scope_counts.proofs.Stays.{exact_stays}
use Rattle.scope_counts.proofs.Whole.{exact_with}
use Rattle.steps.specs.Owed.Kept.{is_program, IsKept}
use Rattle.steps.proofs.Owed.Places.{place_of, rest_of, same_scopes, IsInside, is_rooted}
use Rattle.steps.proofs.Owed.Pruning.{kept_but_marks}

statement_is_plain : Plain expression_statement
statement_is_plain = record { opens_none = λ t. refl; aims_same = λ o a t i. refl; names_none = λ a n. refl; refers_none = λ w n. refl }

module _ (l : Kind) (i m : Note) (b r : Forest) where
  abbrev inner : Forest
  inner = node l i b nothing

  abbrev old : Forest
  old = node l i b r

  abbrev new : Forest
  new = node expression_statement m inner r

  abbrev none_gone : ℕ → Bool
  none_gone s = false

  same_declared : (aims : ℕ → Aims) (at : ℕ) → hoisted aims at old ≡ hoisted aims at new
  same_declared aims at =
      let own_names = named (aims at) i l ++ hoisted (aims_inside no_part (aims at) l b) 0 b in
      ap (λ ds. ds ++ hoisted aims (suc at) r) (sym (append-nil own_names))

  same_names : (own_of : Note → Kind → List Decl) (all : Forest → List Decl) → (d : Decl) → Among d (((own_of i l ++ all b) ++ []) ++ all r) → Among d ((own_of i l ++ all b) ++ all r)
  same_names own_of all d h = subst (λ ds. Among d (ds ++ all r)) (append-nil (own_of i l ++ all b)) h

  thins : Thins none_gone false old new
  thins = record {
    fewer = λ z. Prim.omega arith;
    same = λ s z wg ws vs at eg ew ev small tiny related none e.
        Prim.omega (arith, refs_related none_gone s z wg ws vs at old small tiny related none, inner_same s z vs at);
    references = λ d h. same_names own_referring referring d h;
    declarations = λ d h. same_names own_declaring declaring d h;
    agree = λ e. (λ o. absurd (true≢false (sym o)), (e.0, e.1, tt), e.2);
    apart = λ s. Prim.omega arith;
  }
    where
      inner_same : (s z : ℕ) (vs : ℕ → Weight) (at : ℕ) → refs (bound_to s z) (weights_inside (bound_to s z) expression_statement inner (vs at)) 0 inner ≡ own (vs at) i l + refs (bound_to s z) (weights_inside (bound_to s z) l b (vs at)) 0 b + 0
      inner_same s z vs at = ap (λ (w : Weight). own w i l + refs (bound_to s z) (weights_inside (bound_to s z) l b w) 0 b + 0) (weights_plain (bound_to s z) expression_statement inner (vs at) statement_is_plain 0)

  statement_keeps : (place : Rooted) → SameScopes (place_in place) old new → (s : Scoping) → IsKept s (program_with place old) → IsKept s (program_with place new)
  statement_keeps place scopes s kept =
      kept_but_marks place (left old new) old new s kept
      (exact_stays none_gone place false old new thins (λ aims at h. subst (Loses none_gone (hoisted aims at old)) (same_declared aims at) (record { found = λ x. inl refl; among = λ d h. h })) scopes (λ e. absurd (true≢false (sym e))) (λ z g. absurd (true≢false (sym g)))
      kept.table unmarked (left old new) (λ z. refl) ((exact_with place old kept.table).0 kept.exact))

-- of a program, at whose place another node stands
pub statement_kept : (a : Around) (x : Tree) → is_program (plug a (Some x)) ≡ true → IsInside a → (l : Kind) (i m : Note) (b : Forest) (s : Scoping)
    → IsKept s (plug a (Some (record { kind = l; note = i; below = b }))) → IsKept s (plug a (Some (record { kind = expression_statement; note = m; below = node l i b nothing })))
statement_kept a x is inside l i m b s kept =
    let place = is_rooted a x inside is in
    let rest = rest_of a in
    subst (IsKept s) (sym (place.with_node (record { kind = expression_statement; note = m; below = node l i b nothing })))
    (statement_keeps l i m b rest place.rooted
    (subst (λ z. SameScopes z (node l i b rest) (node expression_statement m (node l i b nothing) rest)) (sym place.place_is) (same_scopes l expression_statement i m b (node l i b nothing) rest (place_of place.inner))) s
    (subst (IsKept s) (place.with_node (record { kind = l; note = i; below = b })) kept))
