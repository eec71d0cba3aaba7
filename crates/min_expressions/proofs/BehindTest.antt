-- What follows a test that acts, as code does it and as the rule says it.
use Rattle.std.proofs.Common.{◌≡◌, ◌∙◌, ◌<◌, ◌+◌, ℕ, List, [], ◌∷◌, Bool, true, false, Option, Some, None, length, refl, sym, ap, subst, arith}
use Rattle.std.specs.Prelude.{slice_index_or}
use Rattle.std.specs.List.{remove}
use Rattle.js_syntax.specs.declared.node_kind.NodeKind.{NodeKind as Kind}
use Rattle.js_syntax.specs.declared.node_kind.NodeKind.TheVariants.{ConditionalExpression as conditional_expression, LogicalExpression as logical_expression}
use Rattle.js_syntax.specs.Node.{Forest, Tree, Note, nothing, node, absent, alone, row, forest_of}
use Rattle.scope_counts.specs.Counts.{ids}
use Rattle.min_context.specs.Edited.{evals, Leaves, DropsNode, Edited}
use Rattle.min_context.specs.Seen.{Seen}
use Rattle.steps.specs.Allowed.IndirectChoice.{truth_beside, way_beside, one_of, if_so, behind, behind_test}
use Rattle.min_expressions.specs.BehindTest.{leaving, branch_leaves, is_so, right_follows}
use Rattle.min_expressions.proofs.Chosen.{three}
use Rattle.min_expressions.proofs.Leaving.{emptied, edits_to}
use Rattle.min_expressions.proofs.Lists.{made, StaysInTurn, no_list}
use Rattle.min_expressions.proofs.Sided.{three_in}

-- ---- of a conditional: what stays and what leaves

pub record IsTested (k : Kind) (t : Forest) (at : ℕ) : Type 0 where
  pub items : List (Option Tree)
  pub gone : Tree
  pub unique : (ts : List (Option Tree)) → row ts ≡ t → ts ≡ items
  pub within : at < length items
  pub leaves : (d : Option Tree) → slice_index_or items at d ≡ Some gone
  pub becomes : (n m : Note) → behind_test n m k t ≡ Some (made n m (row (remove items at)))
  pub ids_split : (r : ℕ) (n p m : Note) → ids r (alone k n t) ≡ (ids r (forest_of gone) + ids r (alone k n nothing)) + ids r (forest_of (made p m (row (remove items at))))
  pub evals_split : (n p m : Note) → evals (alone k n t) ≡ (evals (forest_of gone) + evals (alone k n nothing)) + evals (forest_of (made p m (row (remove items at))))

no_index : {P : Type 0} {i : ℕ} → None ≡ Some i → P
no_index e = absurd Prim.cc

same_index : {i j : ℕ} → Some i ≡ Some j → i ≡ j
same_index e = Prim.cc

by_truth : (x y z : Tree) (known : Option Bool) → truth_beside x.kind x.note x.below ≡ known → (at : ℕ) → leaving known ≡ Some at → IsTested conditional_expression (three x y z) at
by_truth x y z None truth at e = no_index e
by_truth x y z (Some true) truth at e = subst (IsTested conditional_expression (three x y z)) (same_index e) (record {
  items = Some x ∷ Some y ∷ Some z ∷ [];
  gone = z;
  unique = λ ts w. three_in ts x y z w;
  within = Prim.omega arith;
  leaves = λ d. refl;
  becomes = λ n m. ap (λ o. behind n m x (one_of o y z)) truth;
  ids_split = λ r n p m. Prim.omega arith;
  evals_split = λ n p m. Prim.omega arith;
})
by_truth x y z (Some false) truth at e = subst (IsTested conditional_expression (three x y z)) (same_index e) (record {
  items = Some x ∷ Some y ∷ Some z ∷ [];
  gone = y;
  unique = λ ts w. three_in ts x y z w;
  within = Prim.omega arith;
  leaves = λ d. refl;
  becomes = λ n m. ap (λ o. behind n m x (one_of o y z)) truth;
  ids_split = λ r n p m. Prim.omega arith;
  evals_split = λ n p m. Prim.omega arith;
})

pub is_tested : (k : Kind) (t : Forest) (at : ℕ) → branch_leaves k t ≡ Some at → IsTested k t at
is_tested conditional_expression (node k n a (node l m b (node j i c nothing))) at e =
    by_truth (record { kind = k; note = n; below = a }) (record { kind = l; note = m; below = b }) (record { kind = j; note = i; below = c }) (truth_beside k n a) refl at e
is_tested conditional_expression t at e = no_index e
is_tested k t at e = no_index e

module _ {k : Kind} {t : Forest} {at : ℕ} (w : IsTested k t at) where
  pub is_there : (ts : List (Option Tree)) → row ts ≡ t → at < length ts
  is_there ts e = Prim.omega (arith, ap length (w.unique ts e), w.within)

  pub branch_gone : (ts : List (Option Tree)) (d : Option Tree) → row ts ≡ t → d ≡ slice_index_or ts at d → d ≡ Some w.gone
  branch_gone ts d e taken = taken ∙ ap (λ us. slice_index_or us at d) (w.unique ts e) ∙ w.leaves d

  pub two_left : (ts : List (Option Tree)) → row ts ≡ t → row (remove ts at) ≡ row (remove w.items at)
  two_left ts e = ap (λ us. row (remove us at)) (w.unique ts e)

pub tested_edits : {c d e : Seen} {v y : Tree} {branch : Option Tree} (x : Tree) (at : ℕ) (w : IsTested x.kind x.below at) (n m : Note) → y ≡ made n m (row (remove w.items at)) → branch ≡ Some w.gone
    → v.kind ≡ x.kind → v.note ≡ x.note → v.below ≡ nothing → Leaves c (λ r. ids r (row (branch ∷ []))) (evals (row (branch ∷ []))) d → DropsNode d v e → Edited c x y true e
tested_edits {c = c} {d = d} {e = e} {v = v} {y = y} x at w n m is gone kind note empty others itself =
    edits_to c d e x y
    (subst (λ b. Leaves c (λ r. ids r (row (b ∷ []))) (evals (row (b ∷ []))) d) gone others)
    (subst (λ u. DropsNode d u e) (emptied v x.kind x.note kind note empty) itself)
    (λ r. w.ids_split r x.note n m ∙ ap (λ u. (ids r (forest_of w.gone) + ids r (alone x.kind x.note nothing)) + ids r (forest_of u)) (sym is))
    (w.evals_split x.note n m ∙ ap (λ u. (evals (forest_of w.gone) + evals (alone x.kind x.note nothing)) + evals (forest_of u)) (sym is))

-- ---- of a logical expression: nothing leaves

so_true : (known : Option Bool) → is_so known ≡ true → known ≡ Some true
so_true (Some true) e = refl
so_true (Some false) e = absurd Prim.cc
so_true None e = absurd Prim.cc

pub is_left : (k : Kind) (t : Forest) → right_follows k t ≡ true → StaysInTurn behind_test k t
is_left (logical_expression o) (node k i a (node l j b nothing)) e = record {
  becomes = λ n m. ap (λ (known : Option Bool). behind n m (record { kind = k; note = i; below = a }) (if_so known (record { kind = l; note = j; below = b }))) (so_true (way_beside o k i a) e);
  no_id = λ r n b. Prim.omega arith;
  no_eval = λ n b. Prim.omega arith;
}
is_left (logical_expression o) nothing e = no_list e
is_left (logical_expression o) (absent rest) e = no_list e
is_left (logical_expression o) (node k i a nothing) e = no_list e
is_left (logical_expression o) (node k i a (absent rest)) e = no_list e
is_left (logical_expression o) (node k i a (node l j b (absent rest))) e = no_list e
is_left (logical_expression o) (node k i a (node l j b (node h p c nothing))) e = no_list e
is_left (logical_expression o) (node k i a (node l j b (node h p c (absent rest)))) e = no_list e
is_left (logical_expression o) (node k i a (node l j b (node h p c (node q u d rest)))) e = no_list e
is_left k t e = no_list e

-- ---- where neither does, the rule answers nothing

none_by_truth : (n m : Note) (x y z : Tree) (known : Option Bool) → leaving known ≡ None → behind n m x (one_of known y z) ≡ None
none_by_truth n m x y z None e = refl
none_by_truth n m x y z (Some true) e = absurd Prim.cc
none_by_truth n m x y z (Some false) e = absurd Prim.cc

none_by_way : (n m : Note) (x y : Tree) (known : Option Bool) → is_so known ≡ false → behind n m x (if_so known y) ≡ None
none_by_way n m x y None e = refl
none_by_way n m x y (Some true) e = absurd Prim.cc
none_by_way n m x y (Some false) e = refl

pub nothing_follows : (n m : Note) (k : Kind) (t : Forest) → branch_leaves k t ≡ None → right_follows k t ≡ false → behind_test n m k t ≡ None
nothing_follows n m conditional_expression (node k i a (node l j b (node h p c nothing))) e f =
    none_by_truth n m (record { kind = k; note = i; below = a }) (record { kind = l; note = j; below = b }) (record { kind = h; note = p; below = c }) (truth_beside k i a) e
nothing_follows n m conditional_expression nothing e f = refl
nothing_follows n m conditional_expression (absent rest) e f = refl
nothing_follows n m conditional_expression (node k i a nothing) e f = refl
nothing_follows n m conditional_expression (node k i a (absent rest)) e f = refl
nothing_follows n m conditional_expression (node k i a (node l j b nothing)) e f = refl
nothing_follows n m conditional_expression (node k i a (node l j b (absent rest))) e f = refl
nothing_follows n m conditional_expression (node k i a (node l j b (node h p c (absent rest)))) e f = refl
nothing_follows n m conditional_expression (node k i a (node l j b (node h p c (node q u d rest)))) e f = refl
nothing_follows n m (logical_expression o) (node k i a (node l j b nothing)) e f = none_by_way n m (record { kind = k; note = i; below = a }) (record { kind = l; note = j; below = b }) (way_beside o k i a) f
nothing_follows n m (logical_expression o) nothing e f = refl
nothing_follows n m (logical_expression o) (absent rest) e f = refl
nothing_follows n m (logical_expression o) (node k i a nothing) e f = refl
nothing_follows n m (logical_expression o) (node k i a (absent rest)) e f = refl
nothing_follows n m (logical_expression o) (node k i a (node l j b (absent rest))) e f = refl
nothing_follows n m (logical_expression o) (node k i a (node l j b (node h p c nothing))) e f = refl
nothing_follows n m (logical_expression o) (node k i a (node l j b (node h p c (absent rest)))) e f = refl
nothing_follows n m (logical_expression o) (node k i a (node l j b (node h p c (node q u d rest)))) e f = refl
nothing_follows n m k t e f = refl
