-- A branch that isn't taken weighs less, and refers to no more, without what leaves it.
use Rattle.std.proofs.Common.{◌≡◌, ◌∙◌, ◌≤◌, ◌+◌, ℕ, Bool, true, false, ◌&&◌, ◌||◌, Option, Some, None, if◌then◌else◌, refl, sym, subst, true≢false, arith}
use Rattle.js_syntax.specs.declared.node_kind.NodeKind.{NodeKind as Kind}
use Rattle.js_syntax.specs.declared.node_kind.NodeKind.TheVariants.{IfStatement as if_statement}
use Rattle.js_syntax.specs.Facts.{weight}
use Rattle.js_syntax.specs.Node.{Forest, Tree, Note, nothing, node, absent, total}
use Rattle.js_syntax.proofs.Truth.{first_of_both, second_of_both}
use Rattle.scope_counts.specs.Counts.{ids}
use Rattle.steps.specs.Allowed.Branches.{declares_no_name}
use Rattle.steps.specs.Allowed.KnownIf.{an_if}
use Rattle.steps.specs.Allowed.Unreached.{only_runs}
use Rattle.steps.specs.Allowed.Untaken.{truth_given, runs_inside}
use Rattle.steps.specs.Allowed.UnrunValue.{passes, may_be_dropped}
use Rattle.steps.proofs.Owed.Unreached.{runs_weigh}
use Rattle.steps.proofs.Owed.UnrunValue.{dropped}
use Rattle.rules.specs.Expressions.Untaken.{is_list, may_go, is_declarator, zero_for, value_left, value_drops, values_of, values_rid, drops_of, values_drop, rid, row_loses, branch_left, branch_loses, what_stays, if_left}
use Rattle.rules.proofs.Expressions.Becoming.{no_answer, chosen, chosen_if, IsLess}

pub no_kind : {A : Type 0} → false ≡ true → A
no_kind e = absurd (true≢false (sym e))

-- by a count of nodes that a zero has no more of than what it stands for
record Counts (m : Forest → ℕ) : Type 0 where
  pub none : (r : Forest) → m (absent r) ≡ m r
  pub here : Kind → Note → ℕ
  node_has : (k : Kind) (n : Note) (b r : Forest) → m (node k n b r) ≡ here k n + m b + m r
  zero_has : (l : Kind) (n : Note) (c : Forest) → may_be_dropped l ≡ true → here (zero_for n).kind (zero_for n).note + m nothing ≤ here l n + m c

module _ (m : Forest → ℕ) (it : Counts m) where
  zero_fewer : (k : Kind) (n : Note) (b : Forest) (l : Kind) (o : Note) (c r : Forest) (drops : Bool) → may_be_dropped l ≡ drops → m (node k n b (if drops then node (zero_for o).kind (zero_for o).note nothing r else node l o c r)) ≤ m (node k n b (node l o c r))
  zero_fewer k n b l o c r true is =
      Prim.omega (arith, it.zero_has l o c is, it.node_has k n b (node (zero_for o).kind (zero_for o).note nothing r), it.node_has k n b (node l o c r), it.node_has (zero_for o).kind (zero_for o).note nothing r, it.node_has l o c r)
  zero_fewer k n b l o c r false is = Prim.omega arith

  value_fewer : (t : Forest) → m (value_left t) ≤ m t
  value_fewer nothing = Prim.omega arith
  value_fewer (absent r) = Prim.omega arith
  value_fewer (node k n b nothing) = Prim.omega arith
  value_fewer (node k n b (absent r)) = Prim.omega arith
  value_fewer (node k n b (node l o c r)) = zero_fewer k n b l o c r (may_be_dropped l) refl

  of_fewer : (t u : Forest) (p d : Bool) → m u ≤ m t → m (if p then (if d then value_left u else u) else t) ≤ m t
  of_fewer t u true true h = Prim.omega (arith, h, value_fewer u)
  of_fewer t u true false h = h
  of_fewer t u false d h = Prim.omega arith

  values_fewer : (t : Forest) → m (values_rid t) ≤ m t
  values_fewer nothing = Prim.omega arith
  values_fewer (absent rest) = Prim.omega (arith, it.none rest, it.none (values_rid rest), values_fewer rest)
  values_fewer (node k n b rest) =
      Prim.omega (arith, of_fewer b (values_rid b) (passes k) (is_declarator k) (values_fewer b), values_fewer rest, it.node_has k n b rest, it.node_has k n (values_of k b (values_rid b)) (values_rid rest))

  below_fewer : (b c d : Forest) (runs : Bool) → m c ≤ m b → m d ≤ m b → m (if runs then c else d) ≤ m b
  below_fewer b c d true h g = h
  below_fewer b c d false h g = g

  fewer_by : (k : Kind) (n : Note) (b c rest left : Forest) (goes : Bool) → m c ≤ m b → m left ≤ m rest → m (if goes then left else node k n c left) ≤ m (node k n b rest)
  fewer_by k n b c rest left true h g = Prim.omega (arith, g, it.node_has k n b rest)
  fewer_by k n b c rest left false h g = Prim.omega (arith, h, g, it.node_has k n b rest, it.node_has k n c left)

  fewer : (listed : Bool) (t : Forest) → m (rid listed t) ≤ m t
  fewer listed nothing = Prim.omega arith
  fewer listed (absent rest) = Prim.omega (arith, it.none rest, it.none (rid listed rest), fewer listed rest)
  fewer listed (node k n b rest) =
      fewer_by k n b (branch_left k b) rest (rid listed rest) (may_go listed k b)
      (below_fewer b (rid (is_list k) b) (values_of k b (values_rid b)) (runs_inside k) (fewer (is_list k) b) (of_fewer b (values_rid b) (passes k) (is_declarator k) (values_fewer b))) (fewer listed rest)

  branch_fewer : (k : Kind) (b : Forest) → m (branch_left k b) ≤ m b
  branch_fewer k b = below_fewer b (rid (is_list k) b) (values_of k b (values_rid b)) (runs_inside k) (fewer (is_list k) b) (of_fewer b (values_rid b) (passes k) (is_declarator k) (values_fewer b))

by_ids : (r : ℕ) → Counts (λ t. ids r t)
by_ids r = record { none = λ t. refl; here = λ k n. ids r (node k n nothing nothing); node_has = λ k n b t. Prim.omega arith; zero_has = λ l n c h. Prim.omega arith }

dropped_weighs : (l : Kind) → may_be_dropped l ≡ true → 2 ≤ weight l
dropped_weighs l h = (dropped l h).weighs

by_weight : Counts (λ t. total weight t)
by_weight = record { none = λ t. refl; here = λ k n. weight k; node_has = λ k n b t. Prim.omega arith; zero_has = λ l n c h. Prim.omega (arith, dropped_weighs l h) }

pub thinner : (r : ℕ) (k : Kind) (b : Forest) → ids r (branch_left k b) ≤ ids r b
thinner r k b = branch_fewer (λ t. ids r t) (by_ids r) k b

no_heavier : (listed : Bool) (t : Forest) → total weight (rid listed t) ≤ total weight t
no_heavier listed t = fewer (λ u. total weight u) by_weight listed t

values_no_heavier : (t : Forest) → total weight (values_rid t) ≤ total weight t
values_no_heavier t = values_fewer (λ u. total weight u) by_weight t

goes_weighs : (listed : Bool) (k : Kind) (b : Forest) → may_go listed k b ≡ true → 1 ≤ weight k
goes_weighs listed k b h = runs_weigh k (first_of_both (only_runs k) (declares_no_name k b) (second_of_both listed (only_runs k && declares_no_name k b) h))

-- a value that is dropped, be it that others were before
zero_lighter : (k : Kind) (n : Note) (b : Forest) (l : Kind) (o : Note) (c r : Forest) (drops : Bool) → may_be_dropped l ≡ drops → drops ≡ true
    → total weight (node k n b (if drops then node (zero_for o).kind (zero_for o).note nothing r else node l o c r)) + 1 ≤ total weight (node k n b (node l o c r))
zero_lighter k n b l o c r true is h = Prim.omega (arith, dropped_weighs l is)
zero_lighter k n b l o c r false is h = no_kind h

value_lighter : (t : Forest) → value_drops t ≡ true → total weight (value_left t) + 1 ≤ total weight t
value_lighter nothing h = no_kind h
value_lighter (absent r) h = no_kind h
value_lighter (node k n b nothing) h = no_kind h
value_lighter (node k n b (absent r)) h = no_kind h
value_lighter (node k n b (node l o c r)) h = zero_lighter k n b l o c r (may_be_dropped l) refl h

-- other values don't matter to it
still_drops : (t : Forest) → value_drops (values_rid t) ≡ value_drops t
still_drops nothing = refl
still_drops (absent r) = refl
still_drops (node k n b nothing) = refl
still_drops (node k n b (absent r)) = refl
still_drops (node k n b (node l o c r)) = refl

of_lighter : (k : Kind) (t u : Forest) (p d inner drops : Bool) → (p && (inner || d && drops)) ≡ true → value_drops u ≡ drops → total weight u ≤ total weight t → (inner ≡ true → total weight u + 1 ≤ total weight t)
    → total weight (if p then (if d then value_left u else u) else t) + 1 ≤ total weight t
of_lighter k t u true true true drops h is no_more less = Prim.omega (arith, less refl, value_fewer (λ v. total weight v) by_weight u)
of_lighter k t u true true false drops h is no_more less = Prim.omega (arith, value_lighter u (is ∙ h), no_more)
of_lighter k t u true false true drops h is no_more less = less refl
of_lighter k t u true false false drops h is no_more less = no_kind h
of_lighter k t u false d inner drops h is no_more less = no_kind h

either_lighter : (b c rest left : Forest) (here more : Bool) → (here || more) ≡ true → total weight c ≤ total weight b → total weight left ≤ total weight rest → (here ≡ true → total weight c + 1 ≤ total weight b) → (more ≡ true → total weight left + 1 ≤ total weight rest)
    → total weight c + total weight left + 1 ≤ total weight b + total weight rest
either_lighter b c rest left true more h inside after less later = Prim.omega (arith, after, less refl)
either_lighter b c rest left false true h inside after less later = Prim.omega (arith, inside, later refl)
either_lighter b c rest left false false h inside after less later = no_kind h

values_lighter : (t : Forest) → values_drop t ≡ true → total weight (values_rid t) + 1 ≤ total weight t
values_lighter nothing h = no_kind h
values_lighter (absent rest) h = values_lighter rest h
values_lighter (node k n b rest) h =
    let both = either_lighter b (values_of k b (values_rid b)) rest (values_rid rest) (drops_of k b (values_drop b)) (values_drop rest) h (of_fewer (λ u. total weight u) by_weight b (values_rid b) (passes k) (is_declarator k) (values_no_heavier b)) (values_no_heavier rest)
    (λ e. of_lighter k b (values_rid b) (passes k) (is_declarator k) (values_drop b) (value_drops b) e (still_drops b) (values_no_heavier b) (λ i. values_lighter b i)) (λ e. values_lighter rest e) in
    Prim.omega (arith, both)

below_lighter : (b c d : Forest) (runs inner drops : Bool) → (if runs then inner else drops) ≡ true → (inner ≡ true → total weight c + 1 ≤ total weight b) → (drops ≡ true → total weight d + 1 ≤ total weight b) → total weight (if runs then c else d) + 1 ≤ total weight b
below_lighter b c d true inner drops h less fewer = less h
below_lighter b c d false inner drops h less fewer = fewer h

lighter_by : (listed : Bool) (k : Kind) (n : Note) (b c rest left : Forest) (inner more goes : Bool) → may_go listed k b ≡ goes → (goes || (inner || more)) ≡ true → total weight c ≤ total weight b → total weight left ≤ total weight rest
    → (inner ≡ true → total weight c + 1 ≤ total weight b) → (more ≡ true → total weight left + 1 ≤ total weight rest) → total weight (if goes then left else node k n c left) + 1 ≤ total weight (node k n b rest)
lighter_by listed k n b c rest left inner more true is h inside after less later = Prim.omega (arith, after, goes_weighs listed k b is)
lighter_by listed k n b c rest left inner more false is h inside after less later = let both = either_lighter b c rest left inner more h inside after less later in Prim.omega (arith, both)

values_below_lighter : (k : Kind) (b : Forest) → drops_of k b (values_drop b) ≡ true → total weight (values_of k b (values_rid b)) + 1 ≤ total weight b
values_below_lighter k b h = of_lighter k b (values_rid b) (passes k) (is_declarator k) (values_drop b) (value_drops b) h (still_drops b) (values_no_heavier b) (λ i. values_lighter b i)

lighter : (listed : Bool) (t : Forest) → row_loses listed t ≡ true → total weight (rid listed t) + 1 ≤ total weight t
lighter listed nothing h = no_kind h
lighter listed (absent rest) h = lighter listed rest h
lighter listed (node k n b rest) h =
    lighter_by listed k n b (branch_left k b) rest (rid listed rest) (branch_loses k b) (row_loses listed rest) (may_go listed k b) refl h (branch_fewer (λ u. total weight u) by_weight k b) (no_heavier listed rest)
    (λ e. below_lighter b (rid (is_list k) b) (values_of k b (values_rid b)) (runs_inside k) (row_loses (is_list k) b) (drops_of k b (values_drop b)) e (λ i. lighter (is_list k) b i) (values_below_lighter k b)) (λ e. lighter listed rest e)

branch_lighter : (k : Kind) (b : Forest) → branch_loses k b ≡ true → total weight (branch_left k b) + 1 ≤ total weight b
branch_lighter k b h = below_lighter b (rid (is_list k) b) (values_of k b (values_rid b)) (runs_inside k) (row_loses (is_list k) b) (drops_of k b (values_drop b)) h (λ i. lighter (is_list k) b i) (values_below_lighter k b)

less_by_truth : (n : Note) (t : Kind) (m : Note) (d : Forest) (truth : Option Bool) (branches : Forest) (y : Tree) → what_stays n t m d truth branches ≡ Some y → IsLess (an_if n t m d branches) y
less_by_truth n t m d (Some false) (node k i b alternate) y e =
    elim (chosen_if (branch_loses k b) (an_if n t m d (node k i (branch_left k b) alternate)) y e) [
      | chosen has same ↦
          subst (λ z. IsLess (an_if n t m d (node k i b alternate)) z) same (record {
            thins = λ r. Prim.omega (arith, thinner r k b);
            lighter = Prim.omega (arith, branch_lighter k b has);
          })
    ]
less_by_truth n t m d (Some true) (node k i b (node l j c r)) y e =
    elim (chosen_if (branch_loses l c) (an_if n t m d (node k i b (node l j (branch_left l c) r))) y e) [
      | chosen has same ↦
          subst (λ z. IsLess (an_if n t m d (node k i b (node l j c r))) z) same (record {
            thins = λ x. Prim.omega (arith, thinner x l c);
            lighter = Prim.omega (arith, branch_lighter l c has);
          })
    ]
less_by_truth n t m d None branches y e = no_answer e
less_by_truth n t m d (Some false) nothing y e = no_answer e
less_by_truth n t m d (Some false) (absent r) y e = no_answer e
less_by_truth n t m d (Some true) nothing y e = no_answer e
less_by_truth n t m d (Some true) (absent r) y e = no_answer e
less_by_truth n t m d (Some true) (node k i b nothing) y e = no_answer e
less_by_truth n t m d (Some true) (node k i b (absent r)) y e = no_answer e

left_is_less_at : (n : Note) (k : Kind) (below : Forest) (y : Tree) → if_left n k below ≡ Some y → IsLess (record { kind = k; note = n; below = below }) y
left_is_less_at n if_statement (node t m d branches) y e = less_by_truth n t m d (truth_given t m d) branches y e
left_is_less_at n if_statement nothing y e = no_answer e
left_is_less_at n if_statement (absent r) y e = no_answer e
left_is_less_at n k below y e = no_answer e

pub left_is_less : (x y : Tree) → if_left x.note x.kind x.below ≡ Some y → IsLess x y
left_is_less x y e = left_is_less_at x.note x.kind x.below y e
