-- What leaves with a conditional of which one branch stays.
use Rattle.std.proofs.Common.{◌≡◌, ◌∙◌, ◌<◌, ◌+◌, ℕ, List, [], ◌∷◌, Bool, true, false, Option, Some, None, if◌then◌else◌, length, refl, sym, ap, ap₂, subst, arith}
use Rattle.std.specs.Prelude.{slice_index_or}
use Rattle.std.specs.List.{remove}
use Rattle.js_syntax.specs.declared.node_kind.NodeKind.{NodeKind as Kind}
use Rattle.js_syntax.specs.declared.node_kind.NodeKind.TheVariants.{ConditionalExpression as conditional_expression, LogicalExpression as logical_expression}
use Rattle.js_syntax.specs.declared.operator.LogicalOperator.{LogicalOperator}
use Rattle.js_syntax.specs.declared.operator.LogicalOperator.TheVariants as logical
use Rattle.js_syntax.specs.Node.{Forest, Tree, Note, nothing, node, absent, alone, row, forest_of}
use Rattle.scope_counts.specs.Counts.{ids}
use Rattle.min_context.specs.Edited.{evals, Leaves, DropsNode, Edited}
use Rattle.min_context.specs.Seen.{Seen}
use Rattle.steps.specs.Allowed.OneSidedChoice.{sides, one_sided}
use Rattle.rules.specs.Expressions.Uses.{Spot}
use Rattle.min_expressions.specs.OneSided.{operator_for, stays_one_sided, leaving_at}
use Rattle.min_expressions.specs.Unused.{tree_acts}
use Rattle.min_expressions.proofs.Chosen.{three, two}
use Rattle.min_expressions.proofs.Leaving.{emptied, edits_to}
use Rattle.min_expressions.proofs.Lists.{behind}

-- ---- a row of three

abbrev first_of : Forest → Option Tree
first_of (node k n b rest) = Some (record { kind = k; note = n; below = b })
first_of t = None

record FirstIn (ts : List (Option Tree)) (x : Tree) (rest : Forest) : Type 0 where
  others : List (Option Tree)
  whole : ts ≡ Some x ∷ others
  left : row others ≡ rest

first_in : (ts : List (Option Tree)) (x : Tree) (rest : Forest) → row ts ≡ node x.kind x.note x.below rest → FirstIn ts x rest
first_in [] x rest e = absurd Prim.cc
first_in (None ∷ ts) x rest e = absurd Prim.cc
first_in (Some t ∷ ts) x rest e = record { others = ts; whole = ap (λ (o : Option Tree). o ∷ ts) (ap first_of e); left = ap behind e }

none_in : (ts : List (Option Tree)) → row ts ≡ nothing → ts ≡ []
none_in [] e = refl
none_in (None ∷ ts) e = absurd Prim.cc
none_in (Some t ∷ ts) e = absurd Prim.cc

pub three_in : (ts : List (Option Tree)) (x y z : Tree) → row ts ≡ three x y z → ts ≡ Some x ∷ Some y ∷ Some z ∷ []
three_in ts x y z e =
    let a = first_in ts x (two y z) e in
    let b = first_in a.others y (forest_of z) a.left in
    let c = first_in b.others z nothing b.left in
    a.whole ∙ ap (λ us. Some x ∷ us) (b.whole ∙ ap (λ us. Some y ∷ us) (c.whole ∙ ap (λ us. Some z ∷ us) (none_in c.others c.left)))

pub two_in : (ts : List (Option Tree)) (x y : Tree) → row ts ≡ two x y → ts ≡ Some x ∷ Some y ∷ []
two_in ts x y e =
    let a = first_in ts x (forest_of y) e in
    let b = first_in a.others y nothing a.left in
    a.whole ∙ ap (λ us. Some x ∷ us) (b.whole ∙ ap (λ us. Some y ∷ us) (none_in b.others b.left))

-- ---- what stays and what leaves

pub record IsSided (k : Kind) (t : Forest) (o : LogicalOperator) : Type 0 where
  pub items : List (Option Tree)
  pub gone : Tree
  pub unique : (ts : List (Option Tree)) → row ts ≡ t → ts ≡ items
  pub within : leaving_at o < length items
  pub leaves : (d : Option Tree) → slice_index_or items (leaving_at o) d ≡ Some gone
  pub becomes : (n : Note) → one_sided n k t ≡ Some (record { kind = logical_expression o; note = n; below = row (remove items (leaving_at o)) })
  pub ids_split : (r : ℕ) (n m : Note) → ids r (alone k n t) ≡ (ids r (forest_of gone) + ids r (alone k n nothing)) + ids r (alone (logical_expression o) m (row (remove items (leaving_at o))))
  pub evals_split : (n m : Note) → evals (alone k n t) ≡ (evals (forest_of gone) + evals (alone k n nothing)) + evals (alone (logical_expression o) m (row (remove items (leaving_at o))))

no_operator : {P : Type 0} {o : LogicalOperator} → None ≡ Some o → P
no_operator e = absurd Prim.cc

same_operator : {o p : LogicalOperator} → Some o ≡ Some p → o ≡ p
same_operator e = Prim.cc

module _ (x y z : Tree) where
  abbrev one_by : Note → Bool → Bool → Option Tree
  one_by n b c = if b then (if c then None else Some (sides n logical.And x y)) else (if c then Some (sides n logical.Or x z) else None)

  by_acts : (b c : Bool) → tree_acts y ≡ b → tree_acts z ≡ c → (o : LogicalOperator) → (if b then (if c then None else Some logical.And) else (if c then Some logical.Or else None)) ≡ Some o → IsSided conditional_expression (three x y z) o
  by_acts true true p q o e = no_operator e
  by_acts false false p q o e = no_operator e
  by_acts true false p q o e = subst (IsSided conditional_expression (three x y z)) (same_operator e) (record {
    items = Some x ∷ Some y ∷ Some z ∷ [];
    gone = z;
    unique = λ ts w. three_in ts x y z w;
    within = Prim.omega arith;
    leaves = λ d. refl;
    becomes = λ n. ap₂ (one_by n) p q;
    ids_split = λ r n m. Prim.omega arith;
    evals_split = λ n m. Prim.omega arith;
  })
  by_acts false true p q o e = subst (IsSided conditional_expression (three x y z)) (same_operator e) (record {
    items = Some x ∷ Some y ∷ Some z ∷ [];
    gone = y;
    unique = λ ts w. three_in ts x y z w;
    within = Prim.omega arith;
    leaves = λ d. refl;
    becomes = λ n. ap₂ (one_by n) p q;
    ids_split = λ r n m. Prim.omega arith;
    evals_split = λ n m. Prim.omega arith;
  })

pub is_sided : (k : Kind) (t : Forest) (o : LogicalOperator) → operator_for k t ≡ Some o → IsSided k t o
is_sided conditional_expression (node k n a (node l m b (node j i c nothing))) o e =
    let y : Tree = record { kind = l; note = m; below = b } in
    let z : Tree = record { kind = j; note = i; below = c } in
    by_acts (record { kind = k; note = n; below = a }) y z (tree_acts y) (tree_acts z) refl refl o e
is_sided conditional_expression t o e = no_operator e
is_sided k t o e = no_operator e

-- ---- as code does it

module _ {k : Kind} {t : Forest} {o : LogicalOperator} (w : IsSided k t o) where
  pub is_there : (ts : List (Option Tree)) (i : ℕ) → row ts ≡ t → i ≡ leaving_at o → i < length ts
  is_there ts i e at = Prim.omega (arith, ap length (w.unique ts e), at, w.within)

  pub branch_gone : (ts : List (Option Tree)) (i : ℕ) (d : Option Tree) → row ts ≡ t → i ≡ leaving_at o → d ≡ slice_index_or ts i d → d ≡ Some w.gone
  branch_gone ts i d e at taken = taken ∙ ap₂ (λ us j. slice_index_or us j d) (w.unique ts e) at ∙ w.leaves d

  pub two_left : (ts : List (Option Tree)) (i : ℕ) → row ts ≡ t → i ≡ leaving_at o → row (remove ts i) ≡ row (remove w.items (leaving_at o))
  two_left ts i e at = ap₂ (λ us j. row (remove us j)) (w.unique ts e) at

pub sided_edits : {c d e : Seen} {v y : Tree} {branch : Option Tree} (x : Tree) (o : LogicalOperator) (w : IsSided x.kind x.below o) (n : Note) → y ≡ record { kind = logical_expression o; note = n; below = row (remove w.items (leaving_at o)) } → branch ≡ Some w.gone
    → v.kind ≡ x.kind → v.note ≡ x.note → v.below ≡ nothing → Leaves c (λ r. ids r (row (branch ∷ []))) (evals (row (branch ∷ []))) d → DropsNode d v e → Edited c x y true e
sided_edits {c = c} {d = d} {e = e} {v = v} {y = y} x o w n is gone kind note empty others itself =
    edits_to c d e x y
    (subst (λ b. Leaves c (λ r. ids r (row (b ∷ []))) (evals (row (b ∷ []))) d) gone others)
    (subst (λ u. DropsNode d u e) (emptied v x.kind x.note kind note empty) itself)
    (λ r. w.ids_split r x.note n ∙ ap (λ u. (ids r (forest_of w.gone) + ids r (alone x.kind x.note nothing)) + ids r (forest_of u)) (sym is))
    (w.evals_split x.note n ∙ ap (λ u. (evals (forest_of w.gone) + evals (alone x.kind x.note nothing)) + evals (forest_of u)) (sym is))

-- ---- as the rule says it

side_if : (b : Bool) (p : Option LogicalOperator) (o : LogicalOperator) → (if b then p else None) ≡ Some o → (b ≡ true) × (p ≡ Some o)
side_if true p o e = (refl, e)
side_if false p o e = no_operator e

no_side_if : (b : Bool) (p : Option LogicalOperator) (q : Option Tree) → (p ≡ None → q ≡ None) → (if b then p else None) ≡ None → (if b then q else None) ≡ None
no_side_if true p q h e = h e
no_side_if false p q h e = refl

neither_alone : (x y z : Tree) (n : Note) (b c : Bool) → (if b then (if c then None else Some logical.And) else (if c then Some logical.Or else None)) ≡ None → one_by x y z n b c ≡ None
neither_alone x y z n true true e = refl
neither_alone x y z n true false e = absurd Prim.cc
neither_alone x y z n false true e = absurd Prim.cc
neither_alone x y z n false false e = refl

none_sided : (n : Note) (k : Kind) (t : Forest) → operator_for k t ≡ None → one_sided n k t ≡ None
none_sided n conditional_expression (node k i a (node l m b (node j p c nothing))) e =
    let y : Tree = record { kind = l; note = m; below = b } in
    let z : Tree = record { kind = j; note = p; below = c } in
    neither_alone (record { kind = k; note = i; below = a }) y z n (tree_acts y) (tree_acts z) e
none_sided n conditional_expression nothing e = refl
none_sided n conditional_expression (absent rest) e = refl
none_sided n conditional_expression (node k i a nothing) e = refl
none_sided n conditional_expression (node k i a (absent rest)) e = refl
none_sided n conditional_expression (node k i a (node l m b nothing)) e = refl
none_sided n conditional_expression (node k i a (node l m b (absent rest))) e = refl
none_sided n conditional_expression (node k i a (node l m b (node j p c (absent rest)))) e = refl
none_sided n conditional_expression (node k i a (node l m b (node j p c (node h q d rest)))) e = refl
none_sided n k t e = refl

module _ (s : Spot) (k : Kind) (t : Forest) where
  pub operator_there : (o : LogicalOperator) → stays_one_sided s k t ≡ Some o → operator_for k t ≡ Some o
  operator_there o e = (side_if s.is_unused (operator_for k t) o e).1

  pub sided_left : (n : Note) (o : LogicalOperator) (y : Tree) → stays_one_sided s k t ≡ Some o → one_sided n k t ≡ Some y → (if s.is_unused then one_sided n k t else None) ≡ Some y
  sided_left n o y e f = ap (λ b. if b then one_sided n k t else None) (side_if s.is_unused (operator_for k t) o e).0 ∙ f

  pub sided_stays : (n : Note) → stays_one_sided s k t ≡ None → (if s.is_unused then one_sided n k t else None) ≡ None
  sided_stays n e = no_side_if s.is_unused (operator_for k t) (one_sided n k t) (none_sided n k t) e
