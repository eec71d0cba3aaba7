-- An import without the names that go is lighter, and has the same references and calls.
use Rattle.std.proofs.Common.{◌≡◌, ◌≤◌, ◌+◌, ℕ, Bool, true, false, ◌||◌, if◌then◌else◌, cond, is_some, Some, refl, subst, arith}
use Rattle.js_syntax.specs.declared.node_kind.NodeKind.{NodeKind as Kind}
use Rattle.js_syntax.specs.declared.node_kind.NodeKind.TheVariants.{ImportSpecifier as import_specifier, ImportDefaultSpecifier as import_default_specifier, ImportNamespaceSpecifier as import_namespace_specifier}
use Rattle.js_syntax.specs.Facts as facts
use Rattle.js_syntax.specs.Node.{Forest, Tree, Note, nothing, node, absent, forest_of, total}
use Rattle.js_tree.specs.Names.{eval_of_call}
use Rattle.min_context.specs.Edited.{evals}
use Rattle.scope_counts.specs.Counts.{Weight, own, tally, by_id, ids}
use Rattle.rules.specs.DeadCode.Rules.{Facts, Where}
use Rattle.rules.specs.Imports.Rules.{specifier_goes, one_goes, names_left, pruned}
use Rattle.rules.proofs.Imports.Pruned.{wrong, an_import_of, Goes, a_name, goes_view, prunes}

abbrev one_if : Bool → ℕ
one_if b = cond b 1 0

module _ (f : Facts) (w : Where) where
  -- ---- weights

  specifier_weighs : (k : Kind) (below : Forest) → specifier_goes f w k below ≡ true → 1 ≤ facts.weight k
  specifier_weighs (import_specifier name) below e = Prim.omega arith
  specifier_weighs import_default_specifier below e = Prim.omega arith
  specifier_weighs import_namespace_specifier below e = Prim.omega arith
  specifier_weighs k below e = wrong e

  lighter_if : (g : Bool) (k : Kind) (n : Note) (below rest left : Forest) (o : Bool) → (g ≡ true → 1 ≤ facts.weight k) → total facts.weight left + one_if o ≤ total facts.weight rest
      → total facts.weight (if g then left else node k n below left) + one_if (g || o) ≤ total facts.weight (node k n below rest)
  lighter_if true k n below rest left o weighs later = let one : 1 ≤ facts.weight k = weighs refl in Prim.omega (arith, one, later)
  lighter_if false k n below rest left o weighs later = Prim.omega (arith, later)

  names_lighter : (names : Forest) → total facts.weight (names_left f w names) + one_if (one_goes f w names) ≤ total facts.weight names
  names_lighter nothing = Prim.omega arith
  names_lighter (absent rest) = names_lighter rest
  names_lighter (node k n below rest) = lighter_if (specifier_goes f w k below) k n below rest (names_left f w rest) (one_goes f w rest) (specifier_weighs k below) (names_lighter rest)

  pub pruned_lighter : (x y : Tree) → pruned f w x ≡ Some y → total facts.weight (forest_of y) + 1 ≤ total facts.weight (forest_of x)
  pruned_lighter x y is =
      let o = prunes f w x y is in
      let names : total facts.weight (names_left f w o.names) + 1 ≤ total facts.weight o.names = subst (λ b. total facts.weight (names_left f w o.names) + one_if b ≤ total facts.weight o.names) o.goes (names_lighter o.names) in
      subst (λ (t : Tree). total facts.weight (forest_of y) + 1 ≤ total facts.weight (forest_of t)) o.old
      (subst (λ (t : Tree). total facts.weight (forest_of t) + 1 ≤ total facts.weight (forest_of (an_import_of o.source o.note o.list_note o.names))) o.new (Prim.omega (arith, names)))

  -- ---- references

  none_counted : (v : Weight) (k : Kind) (n : Note) (below : Forest) → Goes f w k below → own v n k + tally v below ≡ 0
  none_counted v (import_specifier name) n below (a_name x j binds unused) = Prim.omega arith
  none_counted v import_default_specifier n below (a_name x j binds unused) = Prim.omega arith
  none_counted v import_namespace_specifier n below (a_name x j binds unused) = Prim.omega arith
  none_counted v k n below (a_name x j binds unused) = wrong binds

  counted_if : (g : Bool) (v : Weight) (k : Kind) (n : Note) (below rest left : Forest) → (g ≡ true → own v n k + tally v below ≡ 0) → tally v left ≡ tally v rest → tally v (if g then left else node k n below left) ≡ tally v (node k n below rest)
  counted_if true v k n below rest left none later = let no : own v n k + tally v below ≡ 0 = none refl in Prim.omega (arith, no, later)
  counted_if false v k n below rest left none later = Prim.omega (arith, later)

  names_counted : (v : Weight) (names : Forest) → tally v (names_left f w names) ≡ tally v names
  names_counted v nothing = refl
  names_counted v (absent rest) = names_counted v rest
  names_counted v (node k n below rest) = counted_if (specifier_goes f w k below) v k n below rest (names_left f w rest) (λ e. none_counted v k n below (goes_view f w k below e)) (names_counted v rest)

  pub pruned_refers : (x y : Tree) → pruned f w x ≡ Some y → (r : ℕ) → ids r (forest_of y) ≡ ids r (forest_of x)
  pruned_refers x y is r =
      let o = prunes f w x y is in
      let names : tally (by_id r) (names_left f w o.names) ≡ tally (by_id r) o.names = names_counted (by_id r) o.names in
      subst (λ (t : Tree). ids r (forest_of y) ≡ ids r (forest_of t)) o.old (subst (λ (t : Tree). ids r (forest_of t) ≡ ids r (forest_of (an_import_of o.source o.note o.list_note o.names))) o.new (Prim.omega (arith, names)))

  -- ---- calls

  none_called : (k : Kind) (below : Forest) → Goes f w k below → cond (is_some (eval_of_call k below)) 1 0 + evals below ≡ 0
  none_called (import_specifier name) below (a_name x j binds unused) = Prim.omega arith
  none_called import_default_specifier below (a_name x j binds unused) = Prim.omega arith
  none_called import_namespace_specifier below (a_name x j binds unused) = Prim.omega arith
  none_called k below (a_name x j binds unused) = wrong binds

  called_if : (g : Bool) (k : Kind) (n : Note) (below rest left : Forest) → (g ≡ true → cond (is_some (eval_of_call k below)) 1 0 + evals below ≡ 0) → evals left ≡ evals rest → evals (if g then left else node k n below left) ≡ evals (node k n below rest)
  called_if true k n below rest left none later = let no : cond (is_some (eval_of_call k below)) 1 0 + evals below ≡ 0 = none refl in Prim.omega (arith, no, later)
  called_if false k n below rest left none later = Prim.omega (arith, later)

  names_called : (names : Forest) → evals (names_left f w names) ≡ evals names
  names_called nothing = refl
  names_called (absent rest) = names_called rest
  names_called (node k n below rest) = called_if (specifier_goes f w k below) k n below rest (names_left f w rest) (λ e. none_called k below (goes_view f w k below e)) (names_called rest)

  pub pruned_calls : (x y : Tree) → pruned f w x ≡ Some y → evals (forest_of y) ≡ evals (forest_of x)
  pruned_calls x y is =
      let o = prunes f w x y is in
      let names : evals (names_left f w o.names) ≡ evals o.names = names_called o.names in
      subst (λ (t : Tree). evals (forest_of y) ≡ evals (forest_of t)) o.old (subst (λ (t : Tree). evals (forest_of t) ≡ evals (forest_of (an_import_of o.source o.note o.list_note o.names))) o.new (Prim.omega (arith, names)))
