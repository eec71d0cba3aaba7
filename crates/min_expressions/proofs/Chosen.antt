-- The child that comes out is what the rule answers.
use Rattle.std.proofs.Common.{◌≡◌, ◌∙◌, ℕ, Bool, true, false, Option, Some, None, if◌then◌else◌, is_some, refl, ap, subst}
use Rattle.js_syntax.specs.declared.node_kind.NodeKind.{NodeKind as Kind}
use Rattle.js_syntax.specs.declared.node_kind.NodeKind.TheVariants.{ConditionalExpression as conditional_expression, LogicalExpression as logical_expression}
use Rattle.js_syntax.specs.declared.operator.LogicalOperator.{LogicalOperator}
use Rattle.js_syntax.specs.Node.{Forest, Tree, Note, nothing, node, absent}
use Rattle.steps.specs.Allowed.KnownConditional.{truth_known}
use Rattle.steps.specs.Allowed.KnownSide.{side_known}
use Rattle.steps.specs.Allowed.Uses.{stands_bare}
use Rattle.rules.specs.Expressions.Uses.{Spot}
use Rattle.rules.specs.Expressions.Known.{branch_taken, by_condition, conditional_becomes, side_taken, by_left_side, logical_becomes}
use Rattle.min_expressions.specs.Kept.{child_at, kept_if, branch_kept, branch_of, conditional_keeps, side_kept, side_of, logical_keeps, parts_of}

-- the child at an index, if there is one
abbrev pub chosen : Option ℕ → Forest → Option Tree
chosen None t = None
chosen (Some i) t = child_at i t

pub no_index : {P : Type 0} {i : ℕ} → None ≡ Some i → P
no_index e = absurd Prim.cc

abbrev pub three : (x y z : Tree) → Forest
three x y z = node x.kind x.note x.below (node y.kind y.note y.below (node z.kind z.note z.below nothing))

abbrev pub two : (x y : Tree) → Forest
two x y = node x.kind x.note x.below (node y.kind y.note y.below nothing)

pub some_kept : (b : Bool) (n i : ℕ) → kept_if b n ≡ Some i → n ≡ i
some_kept true n i e = Prim.cc
some_kept false n i e = no_index e

pub second_kept : (b : Bool) (x y z : Tree) → chosen (kept_if b 1) (three x y z) ≡ (if b then Some y else None)
second_kept true x y z = refl
second_kept false x y z = refl

pub third_kept : (b : Bool) (x y z : Tree) → chosen (kept_if b 2) (three x y z) ≡ (if b then Some z else None)
third_kept true x y z = refl
third_kept false x y z = refl

pub right_kept : (b : Bool) (x y : Tree) → chosen (kept_if b 1) (two x y) ≡ (if b then Some y else None)
right_kept true x y = refl
right_kept false x y = refl

pub left_kept : (b : Bool) (x y : Tree) → chosen (kept_if b 0) (two x y) ≡ (if b then Some x else None)
left_kept true x y = refl
left_kept false x y = refl

module _ (s : Spot) where
  abbrev may : Tree → Bool
  may x = stands_bare s.used_as s.in_with x.kind x.below

  -- ---- the branch of a conditional

  branch_chosen : (truth : Option Bool) (x y z : Tree) → chosen (branch_kept s truth y z) (three x y z) ≡ branch_taken s truth (two y z)
  branch_chosen None x y z = refl
  branch_chosen (Some true) x y z = second_kept (may y) x y z
  branch_chosen (Some false) x y z = third_kept (may z) x y z

  by_truth : (truth : Option Bool) (t : Kind) (m : Note) (a branches : Forest) → truth_known t m a ≡ truth → chosen (branch_of s (parts_of (node t m a branches))) (node t m a branches) ≡ branch_taken s truth branches
  by_truth truth t m a (node k i b (node l j c nothing)) w =
      let x : Tree = record { kind = t; note = m; below = a } in
      let y : Tree = record { kind = k; note = i; below = b } in
      let z : Tree = record { kind = l; note = j; below = c } in
      ap (λ u. chosen (branch_kept s u y z) (three x y z)) w ∙ branch_chosen truth x y z
  by_truth None t m a nothing w = refl
  by_truth None t m a (absent rest) w = refl
  by_truth None t m a (node k i b nothing) w = refl
  by_truth None t m a (node k i b (absent rest)) w = refl
  by_truth None t m a (node k i b (node l j c (absent rest))) w = refl
  by_truth None t m a (node k i b (node l j c (node h p d rest))) w = refl
  by_truth (Some true) t m a nothing w = refl
  by_truth (Some true) t m a (absent rest) w = refl
  by_truth (Some true) t m a (node k i b nothing) w = refl
  by_truth (Some true) t m a (node k i b (absent rest)) w = refl
  by_truth (Some true) t m a (node k i b (node l j c (absent rest))) w = refl
  by_truth (Some true) t m a (node k i b (node l j c (node h p d rest))) w = refl
  by_truth (Some false) t m a nothing w = refl
  by_truth (Some false) t m a (absent rest) w = refl
  by_truth (Some false) t m a (node k i b nothing) w = refl
  by_truth (Some false) t m a (node k i b (absent rest)) w = refl
  by_truth (Some false) t m a (node k i b (node l j c (absent rest))) w = refl
  by_truth (Some false) t m a (node k i b (node l j c (node h p d rest))) w = refl

  by_test : (t : Forest) → chosen (branch_of s (parts_of t)) t ≡ by_condition s t
  by_test nothing = refl
  by_test (absent rest) = refl
  by_test (node t m a branches) = by_truth (truth_known t m a) t m a branches refl

  pub conditional_chosen : (k : Kind) (t : Forest) → chosen (conditional_keeps s k t) t ≡ conditional_becomes s k t
  conditional_chosen conditional_expression t = by_test t
  conditional_chosen k t = refl

  branch_there : (truth : Option Bool) (x y z : Tree) (i : ℕ) → branch_kept s truth y z ≡ Some i → is_some (child_at i (three x y z)) ≡ true
  branch_there None x y z i e = no_index e
  branch_there (Some true) x y z i e = subst (λ n. is_some (child_at n (three x y z)) ≡ true) (some_kept (may y) 1 i e) refl
  branch_there (Some false) x y z i e = subst (λ n. is_some (child_at n (three x y z)) ≡ true) (some_kept (may z) 2 i e) refl

  parts_there : (t : Forest) (i : ℕ) → branch_of s (parts_of t) ≡ Some i → is_some (child_at i t) ≡ true
  parts_there (node k n a (node l m b (node j p c nothing))) i e = branch_there (truth_known k n a) (record { kind = k; note = n; below = a }) (record { kind = l; note = m; below = b }) (record { kind = j; note = p; below = c }) i e
  parts_there nothing i e = no_index e
  parts_there (absent rest) i e = no_index e
  parts_there (node k n a nothing) i e = no_index e
  parts_there (node k n a (absent rest)) i e = no_index e
  parts_there (node k n a (node l m b nothing)) i e = no_index e
  parts_there (node k n a (node l m b (absent rest))) i e = no_index e
  parts_there (node k n a (node l m b (node j p c (absent rest)))) i e = no_index e
  parts_there (node k n a (node l m b (node j p c (node h q d rest)))) i e = no_index e

  pub conditional_there : (k : Kind) (t : Forest) (i : ℕ) → conditional_keeps s k t ≡ Some i → is_some (child_at i t) ≡ true
  conditional_there conditional_expression t i e = parts_there t i e
  conditional_there k t i e = no_index e

  -- ---- the side of a logical expression

  side_chosen : (right : Option Bool) (x y : Tree) → chosen (side_kept s right x y) (two x y) ≡ side_taken s right x y
  side_chosen None x y = refl
  side_chosen (Some true) x y = right_kept (may y) x y
  side_chosen (Some false) x y = left_kept (may x) x y

  by_left : (o : LogicalOperator) (t : Forest) → chosen (side_of s o (parts_of t)) t ≡ by_left_side s o t
  by_left o (node t m a (node k i b nothing)) = side_chosen (side_known o t m a) (record { kind = t; note = m; below = a }) (record { kind = k; note = i; below = b })
  by_left o nothing = refl
  by_left o (absent rest) = refl
  by_left o (node t m a nothing) = refl
  by_left o (node t m a (absent rest)) = refl
  by_left o (node t m a (node k i b (absent rest))) = refl
  by_left o (node t m a (node k i b (node l j c nothing))) = refl
  by_left o (node t m a (node k i b (node l j c (absent rest)))) = refl
  by_left o (node t m a (node k i b (node l j c (node h p d rest)))) = refl

  pub logical_chosen : (k : Kind) (t : Forest) → chosen (logical_keeps s k t) t ≡ logical_becomes s k t
  logical_chosen (logical_expression o) t = by_left o t
  logical_chosen k t = refl

  side_there : (right : Option Bool) (x y : Tree) (i : ℕ) → side_kept s right x y ≡ Some i → is_some (child_at i (two x y)) ≡ true
  side_there None x y i e = no_index e
  side_there (Some true) x y i e = subst (λ n. is_some (child_at n (two x y)) ≡ true) (some_kept (may y) 1 i e) refl
  side_there (Some false) x y i e = subst (λ n. is_some (child_at n (two x y)) ≡ true) (some_kept (may x) 0 i e) refl

  sides_there : (o : LogicalOperator) (t : Forest) (i : ℕ) → side_of s o (parts_of t) ≡ Some i → is_some (child_at i t) ≡ true
  sides_there o (node k n a (node l m b nothing)) i e = side_there (side_known o k n a) (record { kind = k; note = n; below = a }) (record { kind = l; note = m; below = b }) i e
  sides_there o nothing i e = no_index e
  sides_there o (absent rest) i e = no_index e
  sides_there o (node k n a nothing) i e = no_index e
  sides_there o (node k n a (absent rest)) i e = no_index e
  sides_there o (node k n a (node l m b (absent rest))) i e = no_index e
  sides_there o (node k n a (node l m b (node j p c nothing))) i e = no_index e
  sides_there o (node k n a (node l m b (node j p c (absent rest)))) i e = no_index e
  sides_there o (node k n a (node l m b (node j p c (node h q d rest)))) i e = no_index e

  pub logical_there : (k : Kind) (t : Forest) (i : ℕ) → logical_keeps s k t ≡ Some i → is_some (child_at i t) ≡ true
  logical_there (logical_expression o) t i e = sides_there o t i e
  logical_there k t i e = no_index e
