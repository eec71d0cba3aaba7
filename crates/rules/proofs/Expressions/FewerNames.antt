-- A branch that isn't taken weighs less, and refers to no more, with declarations of names in the place of statements.
use Rattle.std.proofs.Common.{◌≡◌, inl, inr, ◌≤◌, ◌+◌, ℕ, List, [], ◌∷◌, Bool, true, false, ◌&&◌, ◌||◌, Option, Some, None, if◌then◌else◌, refl, ap, subst, arith}
use Rattle.std.specs.Prelude.{map}
use Rattle.js_syntax.specs.declared.node_kind.NodeKind.{NodeKind as Kind}
use Rattle.js_syntax.specs.declared.node_kind.NodeKind.TheVariants.{Declarators as declarators, IfStatement as if_statement}
use Rattle.js_syntax.specs.Facts.{weight}
use Rattle.js_syntax.specs.Node.{Forest, Tree, Note, nothing, node, absent, nowhere, alone, row, total}
use Rattle.kept_names.specs.Kept.{kept, declarator_of, declaration_of}
use Rattle.scope_counts.specs.Counts.{ids}
use Rattle.scope_laws.specs.Place.{placed}
use Rattle.steps.specs.Allowed.KnownIf.{an_if}
use Rattle.steps.specs.Allowed.Untaken.{truth_given, runs_inside}
use Rattle.steps.specs.KeepForm.Part.{a_var}
use Rattle.steps.proofs.VarNames.Counted.{Sums, total_sums, whole, kept_few}
use Rattle.steps.proofs.VarNames.HasNames.{some_kept}
use Rattle.rules.specs.Expressions.LeftNames.{leaves_names, names_of, with_names, row_leaves, branch_leaves, branch_named, what_is_named, if_named}
use Rattle.rules.specs.Expressions.Untaken.{is_list}
use Rattle.rules.proofs.Expressions.Becoming.{no_answer, chosen, chosen_if, IsLess}
use Rattle.rules.proofs.Expressions.LeftNames.{leaving, is_named, kept_there}
use Rattle.rules.proofs.Expressions.Thinner.{no_kind}

module _ (m : Forest → ℕ) (it : Sums m) where
  declared_counts : (ts : List Tree) (left : Forest) → ((ts ≡ []) → ⊥) → m (placed (declaration_of (map declarator_of ts)) left) ≡ whole m it ts + m left
  declared_counts [] left some = absurd (some refl)
  declared_counts (t ∷ ts) left some =
      let inner = node declarators nowhere (row (map declarator_of (t ∷ ts))) nothing in
      Prim.omega (arith, it.ends, it.has a_var nowhere inner left, it.has a_var nowhere inner nothing)

  -- such a declaration counts no more than there is below the statement
  names_fewer : (listed : Bool) (k : Kind) (n : Note) (b left : Forest) → leaves_names listed k b ≡ true → m (placed (names_of k n b) left) ≤ m b + m left
  names_fewer listed k n b left h =
      let named = is_named listed k b h in
      let some : (kept b ≡ []) → ⊥ = some_kept b named.plain named.some in
      elim (kept_few m it b named.plain) [
        | inl none ↦ absurd (some none)
        | inr few ↦ Prim.omega (arith, few, declared_counts (kept b) left some, ap (λ ts. m (placed (declaration_of (map declarator_of ts)) left)) (kept_there n named))
      ]

  below_fewer : (b c : Forest) (runs : Bool) → m c ≤ m b → m (if runs then c else b) ≤ m b
  below_fewer b c true h = h
  below_fewer b c false h = Prim.omega arith

  fewer_by : (listed : Bool) (k : Kind) (n : Note) (b c rest left : Forest) (goes : Bool) → leaves_names listed k b ≡ goes → m c ≤ m b → m left ≤ m rest → m (if goes then placed (names_of k n b) left else node k n c left) ≤ m (node k n b rest)
  fewer_by listed k n b c rest left true is h g = Prim.omega (arith, g, names_fewer listed k n b left is, it.has k n b rest)
  fewer_by listed k n b c rest left false is h g = Prim.omega (arith, h, g, it.has k n b rest, it.has k n c left)

  fewer : (listed : Bool) (t : Forest) → m (with_names listed t) ≤ m t
  fewer listed nothing = Prim.omega arith
  fewer listed (absent rest) = Prim.omega (arith, it.none rest, it.none (with_names listed rest), fewer listed rest)
  fewer listed (node k n b rest) =
      fewer_by listed k n b (branch_named k b) rest (with_names listed rest) (leaves_names listed k b) refl (below_fewer b (with_names (is_list k) b) (runs_inside k) (fewer (is_list k) b)) (fewer listed rest)

  branch_fewer : (k : Kind) (b : Forest) → m (branch_named k b) ≤ m b
  branch_fewer k b = below_fewer b (with_names (is_list k) b) (runs_inside k) (fewer (is_list k) b)

id_sums : (r : ℕ) → Sums (λ t. ids r t)
id_sums r = record { here = λ k n. ids r (alone k n nothing); ends = refl; none = λ t. refl; has = λ k n b t. Prim.omega arith; var_anywhere = λ n i. refl; list_anywhere = λ n i. refl; declarator_anywhere = λ n i. refl }

-- ---- by weight

lighter_by : (listed : Bool) (k : Kind) (n : Note) (b c rest left : Forest) (inner more goes : Bool) → leaves_names listed k b ≡ goes → (goes || (inner || more)) ≡ true → total weight c ≤ total weight b → total weight left ≤ total weight rest
    → (inner ≡ true → total weight c + 1 ≤ total weight b) → (more ≡ true → total weight left + 1 ≤ total weight rest) → total weight (if goes then placed (names_of k n b) left else node k n c left) + 1 ≤ total weight (node k n b rest)
lighter_by listed k n b c rest left inner more true is h inside after less later =
    Prim.omega (arith, after, names_fewer (total weight) (total_sums weight) listed k n b left is, (leaving k (is_named listed k b is).leaves).weighs)
lighter_by listed k n b c rest left true more false is h inside after less later = Prim.omega (arith, after, less refl)
lighter_by listed k n b c rest left false true false is h inside after less later = Prim.omega (arith, inside, later refl)
lighter_by listed k n b c rest left false false false is h inside after less later = no_kind h

below_lighter : (b c : Forest) (runs inner : Bool) → (runs && inner) ≡ true → (inner ≡ true → total weight c + 1 ≤ total weight b) → total weight (if runs then c else b) + 1 ≤ total weight b
below_lighter b c true inner h less = less h
below_lighter b c false inner h less = no_kind h

no_heavier : (listed : Bool) (t : Forest) → total weight (with_names listed t) ≤ total weight t
no_heavier listed t = fewer (total weight) (total_sums weight) listed t

lighter : (listed : Bool) (t : Forest) → row_leaves listed t ≡ true → total weight (with_names listed t) + 1 ≤ total weight t
lighter listed nothing h = no_kind h
lighter listed (absent rest) h = lighter listed rest h
lighter listed (node k n b rest) h =
    lighter_by listed k n b (branch_named k b) rest (with_names listed rest) (branch_leaves k b) (row_leaves listed rest) (leaves_names listed k b) refl h (branch_fewer (total weight) (total_sums weight) k b) (no_heavier listed rest)
    (λ e. below_lighter b (with_names (is_list k) b) (runs_inside k) (row_leaves (is_list k) b) e (λ i. lighter (is_list k) b i)) (λ e. lighter listed rest e)

branch_lighter : (k : Kind) (b : Forest) → branch_leaves k b ≡ true → total weight (branch_named k b) + 1 ≤ total weight b
branch_lighter k b h = below_lighter b (with_names (is_list k) b) (runs_inside k) (row_leaves (is_list k) b) h (λ i. lighter (is_list k) b i)

thinner : (r : ℕ) (k : Kind) (b : Forest) → ids r (branch_named k b) ≤ ids r b
thinner r k b = branch_fewer (λ t. ids r t) (id_sums r) k b

-- ---- of an `if`

less_by_truth : (n : Note) (t : Kind) (m : Note) (d : Forest) (truth : Option Bool) (branches : Forest) (y : Tree) → what_is_named n t m d truth branches ≡ Some y → IsLess (an_if n t m d branches) y
less_by_truth n t m d (Some false) (node k i b alternate) y e =
    elim (chosen_if (branch_leaves k b) (an_if n t m d (node k i (branch_named k b) alternate)) y e) [
      | chosen has same ↦
          subst (λ z. IsLess (an_if n t m d (node k i b alternate)) z) same (record {
            thins = λ r. Prim.omega (arith, thinner r k b);
            lighter = Prim.omega (arith, branch_lighter k b has);
          })
    ]
less_by_truth n t m d (Some true) (node k i b (node l j c r)) y e =
    elim (chosen_if (branch_leaves l c) (an_if n t m d (node k i b (node l j (branch_named l c) r))) y e) [
      | chosen has same ↦
          subst (λ z. IsLess (an_if n t m d (node k i b (node l j c r))) z) same (record {
            thins = λ x. Prim.omega (arith, thinner x l c);
            lighter = Prim.omega (arith, branch_lighter l c has);
          })
    ]
less_by_truth n t m d None branches y e = no_answer e
less_by_truth n t m d (Some false) nothing y e = no_answer e
less_by_truth n t m d (Some false) (absent r) y e = no_answer e
less_by_truth n t m d (Some true) nothing y e = no_answer e
less_by_truth n t m d (Some true) (absent r) y e = no_answer e
less_by_truth n t m d (Some true) (node k i b nothing) y e = no_answer e
less_by_truth n t m d (Some true) (node k i b (absent r)) y e = no_answer e

named_is_less_at : (n : Note) (k : Kind) (below : Forest) (y : Tree) → if_named n k below ≡ Some y → IsLess (record { kind = k; note = n; below = below }) y
named_is_less_at n if_statement (node t m d branches) y e = less_by_truth n t m d (truth_given t m d) branches y e
named_is_less_at n if_statement nothing y e = no_answer e
named_is_less_at n if_statement (absent r) y e = no_answer e
named_is_less_at n k below y e = no_answer e

pub named_is_less : (x y : Tree) → if_named x.note x.kind x.below ≡ Some y → IsLess x y
named_is_less x y e = named_is_less_at x.note x.kind x.below y e
