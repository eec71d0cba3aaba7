-- What an `if` owes of which the test is known, which becomes the branch that is taken.
use Rattle.std.proofs.Common.{◌≡◌, ◌<◌, ◌&&◌, [], true, false, Some, arith, refl, sym, subst}
use Rattle.js_syntax.specs.Class.{Class, root}
use Rattle.js_syntax.specs.declared.node_kind.NodeKind.{NodeKind as Kind}
use Rattle.js_syntax.specs.declared.node_kind.NodeKind.TheVariants.{IfStatement as if_statement}
use Rattle.js_syntax.specs.Facts.{weight}
use Rattle.js_syntax.specs.Node.{Note, Forest, Tree, nothing, node, forest_of, total}
use Rattle.js_meaning.specs.Scope.{import_decls}
use Rattle.js_meaning.specs.Value.{Text}
use Rattle.js_meaning_near.specs.Local.{for_part}
use Rattle.json_shape.specs.Shape.{Fits}
use Rattle.known_tests.proofs.Taken.{statement_holds, statement_fails}
use Rattle.form_rules.specs.Scope.{sought_below}
use Rattle.scope_counts.proofs.Leaving.{if_is_plain}
use Rattle.scope_laws.specs.Place.{Around, plug}
use Rattle.steps.specs.Allowed.Branches.{declares_none, declares_no_name}
use Rattle.steps.specs.Allowed.KnownIf.{an_if, KnownIf, consequent_is_run, alternate_is_run}
use Rattle.steps.specs.Allowed.Wanted.{wanted_at}
use Rattle.js_syntax.proofs.Truth.{both, first_of_both}
use Rattle.steps.specs.Fit.Enclosed.{is_enclosed_at, is_enclosed}
use Rattle.steps.proofs.Fit.Enclosing.{fits_enclosed}
use Rattle.steps.specs.Owed.Comes.{Comes}
use Rattle.steps.specs.Owed.Owed.{ComesOut, ByPart}
use Rattle.steps.specs.Owed.Part.{IsPart}
use Rattle.steps.specs.Owed.TakesPlace.{TakesPlace}
use Rattle.steps.proofs.Owed.Bare.{branch_comes_out}
use Rattle.steps.proofs.Owed.BranchKinds.{branch_told, branch_calm, branch_unasked}
use Rattle.steps.proofs.Owed.ByPart.{part_lighter}
use Rattle.steps.proofs.Owed.ChoiceParts.{TestAndBranches, parts_of_if}
use Rattle.steps.proofs.Owed.ChoiceRuns.{consequent_core, alternate_core, imports_before, imports_behind, no_imports_below}
use Rattle.steps.proofs.Owed.Expressions.{expression_declares_none, expression_declares_nothing}
use Rattle.steps.proofs.Owed.FitsTaking.{as_if, if_stood, if_below}
use Rattle.steps.proofs.Owed.Inside.{enclosed_here, enclosed_below, enclosed_rest}
use Rattle.steps.proofs.Owed.KnownTests.{test_tells}
use Rattle.steps.proofs.Owed.Outward.{declares_row, declares_nothing}
use Rattle.steps.proofs.Owed.PartForm.{Stands, nothing_declared, outside_below}
use Rattle.steps.proofs.Owed.Undeclared.{no_variables, NoVariables, alone_plainly, last_plainly, statement_plainly}
use Rattle.steps.proofs.Owed.Unseen.{enclosed_there}

if_lighter : (x y : Tree) → KnownIf x y → total weight (forest_of y) < total weight (forest_of x)
if_lighter x y (consequent_is_run n m i t k d b alternate truth branch field none) = part_lighter if_statement k n i x.below b (node t m d nothing) alternate (Prim.omega arith) refl
if_lighter x y (alternate_is_run n m i j t k l d b c truth branch none) = part_lighter if_statement l n j x.below c (node t m d (node k i b nothing)) nothing (Prim.omega arith) refl

if_comes_out : (a : Around) (x y : Tree) → KnownIf x y → ComesOut a y
if_comes_out a x y (consequent_is_run n m i t k d b alternate truth branch field none) = branch_comes_out a k i b branch
if_comes_out a x y (alternate_is_run n m i j t k l d b c truth branch none) = branch_comes_out a l j c branch

-- by the table of node types, and by the rules of form
if_takes : (x y : Tree) → KnownIf x y → TakesPlace x y
if_takes x y (consequent_is_run n m i t k d b alternate truth branch field none) = record {
  classes = λ (to : Class) fits. (as_if k b to (if_stood to n x.below fits) (if_below to n x.below fits).1.0, tt);
  old_told = refl;
  new_told = branch_told k branch;
}
if_takes x y (alternate_is_run n m i j t k l d b c truth branch none) = record {
  classes = λ (to : Class) fits. (as_if l c to (if_stood to n x.below fits) (if_below to n x.below fits).1.1.0, tt);
  old_told = refl;
  new_told = branch_told l branch;
}

-- the test is an expression, which declares nothing
pub tested_row : (t : Kind) (m : Note) (d r : Forest) → declares_none (node t m d nothing) ≡ true → declares_none r ≡ true → declares_none (node t m d r) ≡ true
tested_row t m d r h g = both (declares_no_name t d) (declares_none r) (first_of_both (declares_no_name t d) true h) g

pub test_gone : (t : Kind) (m : Note) (d r : Forest) → declares_none (node t m d nothing) ≡ true → ((source : Text) → import_decls source (node t m d r) ≡ []) → NoVariables (node t m d nothing)
test_gone t m d r h imports = record { vars = no_variables (node t m d nothing) h; imports = λ source. imports_before source t m d r (imports source) }

if_stands : (x y : Tree) → KnownIf x y → TestAndBranches x.below → Stands x y
if_stands x y (consequent_is_run n m i t k d b alternate taken branch one silent) parts =
    let unasked = branch_unasked k branch in
    record {
      before = node t m d nothing;
      after = alternate;
      note = i;
      is_part = refl;
      gives = refl;
      unasked = unasked.0;
      alike = unasked.1;
      none_before = λ s p. nothing_declared (sought_below s if_statement) p (node t m d nothing) (outside_below s if_statement (node t m d nothing)) (expression_declares_none (node t m d nothing) (parts.0, tt));
      none_after = λ s p. nothing_declared (sought_below s if_statement) p alternate (outside_below s if_statement alternate) silent;
    }
if_stands x y (alternate_is_run n m i j t k l d b c taken branch silent) parts =
    let unasked = branch_unasked l branch in
    record {
      before = node t m d (node k i b nothing);
      after = nothing;
      note = j;
      is_part = refl;
      gives = refl;
      unasked = unasked.0;
      alike = unasked.1;
      none_before = λ s p. nothing_declared (sought_below s if_statement) p (node t m d (node k i b nothing)) (outside_below s if_statement (node t m d (node k i b nothing))) (tested_row t m d (node k i b nothing) (expression_declares_none (node t m d nothing) (parts.0, tt)) silent);
      none_after = λ s p. refl;
    }

-- by its table of names
pub enclosed_alone : (k : Kind) (n : Note) (b r : Forest) → is_enclosed (node k n b r) ≡ true → is_enclosed (node k n b nothing) ≡ true
enclosed_alone k n b r e = both (is_enclosed_at k b) (is_enclosed b && true) (enclosed_here k n b r e) (both (is_enclosed b) true (enclosed_below k n b r e) refl)

if_is_part : (a : Around) (x y : Tree) → KnownIf x y → TestAndBranches x.below → is_enclosed (plug a (Some x)) ≡ true → IsPart x y
if_is_part a x y (consequent_is_run n m i t k d b alternate truth branch field none) parts e =
    let branches = enclosed_rest t m d (node k i b alternate) (enclosed_there a if_statement n x.below e).1 in
    record {
      before = node t m d nothing;
      after = alternate;
      stands = refl;
      plain = if_is_plain;
      before_declares = expression_declares_nothing (node t m d nothing) (parts.0, tt);
      after_declares = declares_nothing alternate none (enclosed_rest k i b alternate branches);
    }
if_is_part a x y (alternate_is_run n m i j t k l d b c truth branch none) parts e =
    let branches = enclosed_rest t m d (node k i b (node l j c nothing)) (enclosed_there a if_statement n x.below e).1 in
    record {
      before = node t m d (node k i b nothing);
      after = nothing;
      stands = refl;
      plain = if_is_plain;
      before_declares = declares_row t m d (node k i b nothing) (expression_declares_nothing (node t m d nothing) (parts.0, tt)) (declares_nothing (node k i b nothing) none (enclosed_alone k i b (node l j c nothing) branches));
      after_declares = λ aims at. refl;
    }

-- by its runs
if_comes : (a : Around) (x y : Tree) → KnownIf x y → TestAndBranches x.below → ((source : Text) → import_decls source x.below ≡ []) → Comes a x y
if_comes a _ _ (consequent_is_run n m i t k d b alternate truth branch field none) parts h =
    let calm = branch_calm k branch in
    let branches = node k i b alternate in
    let tested = test_gone t m d branches (expression_declares_none (node t m d nothing) (parts.0, tt)) h in
    let gone : NoVariables alternate = record { vars = no_variables alternate none; imports = λ source. imports_behind source k i b alternate (imports_behind source t m d branches (h source)) } in
    record {
      inner = b;
      same = refl;
      stands = for_part (λ st. statement_holds (wanted_at a) st t m i d k b alternate (test_tells t m d true truth) calm field);
      old_calm = refl;
      declares = statement_plainly (last_plainly t m d branches k b tested (alone_plainly k i b alternate gone));
      core = consequent_core Kind.IfStatement k n m i t d b alternate;
    }
if_comes a _ _ (alternate_is_run n m i j t k l d b c truth branch none) parts h =
    let calm = branch_calm l branch in
    let branches = node k i b (node l j c nothing) in
    let tested = test_gone t m d branches (expression_declares_none (node t m d nothing) (parts.0, tt)) h in
    let gone : NoVariables (node k i b nothing) = record { vars = no_variables (node k i b nothing) none; imports = λ source. imports_before source k i b (node l j c nothing) (imports_behind source t m d branches (h source)) } in
    let plain = last_plainly k i b (node l j c nothing) l c gone (alone_plainly l j c nothing (record { vars = refl; imports = λ source. refl })) in
    record {
      inner = c;
      same = refl;
      stands = for_part (λ st. statement_fails (wanted_at a) st t m i j d k l b c (test_tells t m d false truth) calm);
      old_calm = refl;
      declares = statement_plainly (last_plainly t m d branches l c tested plain);
      core = alternate_core Kind.IfStatement k l n m i j t d b c;
    }

known_owes : (n : Note) (t : Kind) (m : Note) (d branches : Forest) (a : Around) (y : Tree) → KnownIf (an_if n t m d branches) y → ByPart a (an_if n t m d branches) y
known_owes n t m d branches a y known =
    let x = an_if n t m d branches in
    record {
      lighter = if_lighter x y known;
      no_call = record { counts = refl; lists = λ i. refl; begins = λ i. refl; calls = refl };
      ends = refl;
      may_change = refl;
      takes = λ fits. if_takes x y known;
      stands = λ fits. if_stands x y known (parts_of_if a n x.below fits);
      comes_out = if_comes_out a x y known;
      part = λ fits. if_is_part a x y known (parts_of_if a n x.below fits) (fits_enclosed (plug a (Some x)) fits);
      coming = λ o p r is fits form core. if_comes a x y known (parts_of_if a n x.below (subst (Fits root) (sym is) fits)) (no_imports_below o p r a x y is fits form core if_statement refl refl (λ q i. refl));
    }

pub known_if_owes : (a : Around) (x y : Tree) → KnownIf x y → ByPart a x y
known_if_owes a x y (consequent_is_run n m i t k d b alternate truth branch field none) = known_owes n t m d (node k i b alternate) a y (consequent_is_run n m i t k d b alternate truth branch field none)
known_if_owes a x y (alternate_is_run n m i j t k l d b c truth branch none) = known_owes n t m d (node k i b (node l j c nothing)) a y (alternate_is_run n m i j t k l d b c truth branch none)
