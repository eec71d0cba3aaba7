-- The part that counts comes to stand behind a zero, as the rule says it.
use Rattle.std.proofs.Common.{◌≡◌, ◌∙◌, ◌≤◌, ℕ, Bool, true, false, ◌||◌, Option, Some, None, if◌then◌else◌, is_some, refl, sym, ap, subst, arith}
use Rattle.std.specs.Option.{option_map}
use Rattle.std.specs.Prelude.{nat_lt}
use Rattle.js_syntax.specs.declared.node_kind.NodeKind.{NodeKind as Kind}
use Rattle.js_syntax.specs.declared.node_kind.NodeKind.TheVariants.{ConditionalExpression as conditional_expression, LogicalExpression as logical_expression}
use Rattle.js_syntax.specs.declared.operator.LogicalOperator.{LogicalOperator}
use Rattle.js_syntax.specs.Node.{Forest, Tree, Note, nothing, node, absent, forest_of}
use Rattle.scope_counts.specs.Counts.{ids}
use Rattle.symbol_sets.specs.Numbers.{has}
use Rattle.steps.specs.Allowed.IndirectChoice.{one_of, if_so, part_counts}
use Rattle.steps.specs.Allowed.KnownConditional.{truth_known}
use Rattle.steps.specs.Allowed.KnownSide.{side_known}
use Rattle.min_context.specs.Edited.{evals, Edited}
use Rattle.min_context.specs.Seen.{Seen}
use Rattle.min_traverse.specs.Lawful.{Rule, Does, or_same}
use Rattle.rules.specs.Expressions.Uses.{Spot}
use Rattle.rules.specs.Expressions.Indirect.{behind_if}
use Rattle.min_expressions.specs.Kept.{matters_at, child_at, parts_of, is_call}
use Rattle.min_expressions.specs.Indirect.{branch_behind, branch_of, side_behind, side_of, goes_behind, put_behind}
use Rattle.min_expressions.proofs.Chosen.{chosen, no_index, three, two, some_kept, second_kept, third_kept, right_kept}
use Rattle.min_expressions.proofs.Lists.{no_tree}

-- a part that may not stand there itself
abbrev if_matters : Spot → Option Tree → Option Tree
if_matters s None = None
if_matters s (Some z) = if matters_at s z then Some z else None

module _ (s : Spot) where
  -- ---- the branch of a conditional

  branch_chosen : (truth : Option Bool) (x y z : Tree) → chosen (branch_behind s truth y z) (three x y z) ≡ if_matters s (one_of truth y z)
  branch_chosen None x y z = refl
  branch_chosen (Some true) x y z = second_kept (matters_at s y) x y z
  branch_chosen (Some false) x y z = third_kept (matters_at s z) x y z

  by_test : (t : Forest) → chosen (branch_of s (parts_of t)) t ≡ if_matters s (part_counts conditional_expression t)
  by_test (node t m a (node k i b (node l j c nothing))) =
      branch_chosen (truth_known t m a) (record { kind = t; note = m; below = a }) (record { kind = k; note = i; below = b }) (record { kind = l; note = j; below = c })
  by_test nothing = refl
  by_test (absent rest) = refl
  by_test (node t m a nothing) = refl
  by_test (node t m a (absent rest)) = refl
  by_test (node t m a (node k i b nothing)) = refl
  by_test (node t m a (node k i b (absent rest))) = refl
  by_test (node t m a (node k i b (node l j c (absent rest)))) = refl
  by_test (node t m a (node k i b (node l j c (node h p d rest)))) = refl

  -- ---- the side of a logical expression

  side_chosen : (right : Option Bool) (x y : Tree) → chosen (side_behind s right y) (two x y) ≡ if_matters s (if_so right y)
  side_chosen None x y = refl
  side_chosen (Some true) x y = right_kept (matters_at s y) x y
  side_chosen (Some false) x y = refl

  by_left : (o : LogicalOperator) (t : Forest) → chosen (side_of s o (parts_of t)) t ≡ if_matters s (part_counts (logical_expression o) t)
  by_left o (node t m a (node k i b nothing)) = side_chosen (side_known o t m a) (record { kind = t; note = m; below = a }) (record { kind = k; note = i; below = b })
  by_left o nothing = refl
  by_left o (absent rest) = refl
  by_left o (node t m a nothing) = refl
  by_left o (node t m a (absent rest)) = refl
  by_left o (node t m a (node k i b (absent rest))) = refl
  by_left o (node t m a (node k i b (node l j c nothing))) = refl
  by_left o (node t m a (node k i b (node l j c (absent rest)))) = refl
  by_left o (node t m a (node k i b (node l j c (node h p d rest)))) = refl

  -- ---- either of them

  part_chosen : (k : Kind) (t : Forest) → chosen (goes_behind s k t) t ≡ if_matters s (part_counts k t)
  part_chosen conditional_expression t = by_test t
  part_chosen (logical_expression o) t = by_left o t
  part_chosen k t = refl

  put_if : (n : Note) (b : Bool) (z : Tree) → option_map (put_behind n) (if b then Some z else None) ≡ (if b then Some (put_behind n z) else None)
  put_if n true z = refl
  put_if n false z = refl

  put_same : (n : Note) (o : Option Tree) → option_map (put_behind n) (if_matters s o) ≡ behind_if s n o
  put_same n None = refl
  put_same n (Some z) = put_if n (matters_at s z) z

  behind_chosen : (n : Note) (k : Kind) (t : Forest) → option_map (put_behind n) (chosen (goes_behind s k t) t) ≡ behind_if s n (part_counts k t)
  behind_chosen n k t = ap (option_map (put_behind n)) (part_chosen k t) ∙ put_same n (part_counts k t)

  pub goes_as_ruled : (n : Note) (k : Kind) (t : Forest) (i : ℕ) (y : Tree) → goes_behind s k t ≡ Some i → option_map (put_behind n) (child_at i t) ≡ Some y → behind_if s n (part_counts k t) ≡ Some y
  goes_as_ruled n k t i y e f = sym (behind_chosen n k t) ∙ ap (λ o. option_map (put_behind n) (chosen o t)) e ∙ f

  pub stays_as_ruled : (n : Note) (k : Kind) (t : Forest) → goes_behind s k t ≡ None → behind_if s n (part_counts k t) ≡ None
  stays_as_ruled n k t e = sym (behind_chosen n k t) ∙ ap (λ o. option_map (put_behind n) (chosen o t)) e

  -- ---- it is there, behind the first, and no call loses it

  pub record IsBehind (k : Kind) (t : Forest) (i : ℕ) : Type 0 where
    pub there : is_some (child_at i t) ≡ true
    pub second : 1 ≤ i
    pub call : is_call k ≡ false

  branch_there : (truth : Option Bool) (x y z : Tree) (i : ℕ) → branch_behind s truth y z ≡ Some i → IsBehind conditional_expression (three x y z) i
  branch_there None x y z i e = no_index e
  branch_there (Some true) x y z i e = subst (IsBehind conditional_expression (three x y z)) (some_kept (matters_at s y) 1 i e) (record { there = refl; second = Prim.omega arith; call = refl })
  branch_there (Some false) x y z i e = subst (IsBehind conditional_expression (three x y z)) (some_kept (matters_at s z) 2 i e) (record { there = refl; second = Prim.omega arith; call = refl })

  branches_there : (t : Forest) (i : ℕ) → branch_of s (parts_of t) ≡ Some i → IsBehind conditional_expression t i
  branches_there (node k n a (node l m b (node j p c nothing))) i e = branch_there (truth_known k n a) (record { kind = k; note = n; below = a }) (record { kind = l; note = m; below = b }) (record { kind = j; note = p; below = c }) i e
  branches_there nothing i e = no_index e
  branches_there (absent rest) i e = no_index e
  branches_there (node k n a nothing) i e = no_index e
  branches_there (node k n a (absent rest)) i e = no_index e
  branches_there (node k n a (node l m b nothing)) i e = no_index e
  branches_there (node k n a (node l m b (absent rest))) i e = no_index e
  branches_there (node k n a (node l m b (node j p c (absent rest)))) i e = no_index e
  branches_there (node k n a (node l m b (node j p c (node h q d rest)))) i e = no_index e

  side_there : (o : LogicalOperator) (right : Option Bool) (x y : Tree) (i : ℕ) → side_behind s right y ≡ Some i → IsBehind (logical_expression o) (two x y) i
  side_there o None x y i e = no_index e
  side_there o (Some true) x y i e = subst (IsBehind (logical_expression o) (two x y)) (some_kept (matters_at s y) 1 i e) (record { there = refl; second = Prim.omega arith; call = refl })
  side_there o (Some false) x y i e = no_index e

  sides_there : (o : LogicalOperator) (t : Forest) (i : ℕ) → side_of s o (parts_of t) ≡ Some i → IsBehind (logical_expression o) t i
  sides_there o (node k n a (node l m b nothing)) i e = side_there o (side_known o k n a) (record { kind = k; note = n; below = a }) (record { kind = l; note = m; below = b }) i e
  sides_there o nothing i e = no_index e
  sides_there o (absent rest) i e = no_index e
  sides_there o (node k n a nothing) i e = no_index e
  sides_there o (node k n a (absent rest)) i e = no_index e
  sides_there o (node k n a (node l m b (absent rest))) i e = no_index e
  sides_there o (node k n a (node l m b (node j p c nothing))) i e = no_index e
  sides_there o (node k n a (node l m b (node j p c (absent rest)))) i e = no_index e
  sides_there o (node k n a (node l m b (node j p c (node h q d rest)))) i e = no_index e

  pub is_behind : (k : Kind) (t : Forest) (i : ℕ) → goes_behind s k t ≡ Some i → IsBehind k t i
  is_behind conditional_expression t i e = branches_there t i e
  is_behind (logical_expression o) t i e = sides_there o t i e
  is_behind k t i e = no_index e

-- ---- what leaves: the zero before it counts for nothing

pub edited_behind : {c e : Seen} {x z y w : Tree} (n : Note) → y ≡ w → w ≡ put_behind n z → Edited c x z true e → Edited c x y true e
edited_behind {c = c} {e = e} {x = x} {z = z} {y = y} {w = w} n put is edited =
    subst (λ u. Edited c x u true e) (sym (put ∙ is)) (record {
      same = edited.same;
      room = edited.room;
      marks = λ r h. edited.marks r h ∙ ap (λ m. has c.marked r || nat_lt m (ids r (forest_of x))) (ids_same r);
      evals = edited.evals ∙ ap (λ m. c.eval_dropped || nat_lt m (evals (forest_of x))) evals_same;
      asked = edited.asked;
      none = edited.none;
    })
  where
    ids_same : (r : ℕ) → ids r (forest_of z) ≡ ids r (forest_of (put_behind n z))
    ids_same r = Prim.omega arith

    evals_same : evals (forest_of z) ≡ evals (forest_of (put_behind n z))
    evals_same = Prim.omega arith

-- ---- a call that did nothing

pub nothing_done : {c d : Seen} {x y : Tree} (rule : Rule) → Does rule c x false d y → (y ≡ x) × (d ≡ c)
nothing_done {c = c} {x = x} rule w = (w.tree ∙ ap (or_same x) (no_tree (rule c x) (sym w.answers)), w.edited.none (sym w.answers))
