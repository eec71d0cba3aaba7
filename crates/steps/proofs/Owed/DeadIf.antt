-- What an `if` owes with no branch to take, which becomes empty.
use Rattle.std.proofs.Common.{inl, ◌≡◌, [], true, false, Some, arith, refl, sym, subst}
use Rattle.js_syntax.specs.Class.{Class, root}
use Rattle.js_syntax.specs.declared.node_kind.NodeKind.{NodeKind as Kind}
use Rattle.js_syntax.specs.declared.node_kind.NodeKind.TheVariants.{IfStatement as if_statement, EmptyStatement as empty_statement}
use Rattle.js_syntax.specs.Node.{Note, Forest, Tree, nothing, node, absent, forest_of}
use Rattle.js_syntax.specs.Table.{an_empty_statement}
use Rattle.js_syntax.proofs.Truth.{both}
use Rattle.js_meaning.specs.Scope.{import_decls}
use Rattle.js_meaning.specs.Value.{Text}
use Rattle.js_meaning_near.specs.Local.{for_part}
use Rattle.json_shape.specs.Shape.{Fits}
use Rattle.known_tests.proofs.Taken.{statement_is_empty}
use Rattle.scope_laws.specs.Place.{Around, plug}
use Rattle.steps.specs.Allowed.Branches.{declares_none}
use Rattle.steps.specs.Allowed.DeadIf.{DeadIf, nothing_is_run}
use Rattle.steps.specs.Allowed.KnownConditional.{truth_known}
use Rattle.steps.specs.Allowed.KnownIf.{an_if}
use Rattle.steps.specs.Allowed.Wanted.{wanted_at}
use Rattle.steps.proofs.Fit.Enclosing.{fits_enclosed}
use Rattle.steps.proofs.Fit.Modules.{fits_program}
use Rattle.steps.specs.Owed.Comes.{Comes}
use Rattle.steps.specs.Owed.Owed.{Becoming, by_coming}
use Rattle.steps.specs.Owed.Part as part
use Rattle.steps.specs.Owed.TakesPlace.{TakesPlace}
use Rattle.steps.proofs.Owed.ChoiceParts.{parts_of_if}
use Rattle.steps.proofs.Owed.ChoiceRuns.{no_imports_below}
use Rattle.steps.proofs.Owed.Expressions.{expression_declares_none}
use Rattle.steps.proofs.Owed.FitsBecoming.{becoming_fits}
use Rattle.steps.proofs.Owed.FitsTaking.{as_if, if_stood}
use Rattle.steps.proofs.Owed.KnownIf.{tested_row}
use Rattle.steps.proofs.Owed.KnownTests.{test_tells, test_weighs}
use Rattle.steps.proofs.Owed.Outward.{declares_nothing}
use Rattle.steps.proofs.Owed.PartForm.{nothing_declared, if_stays_outside, emptied_if_sheds}
use Rattle.steps.proofs.Owed.Places.{inside_program}
use Rattle.steps.proofs.Owed.Undeclared.{no_variables, emptied_plainly}
use Rattle.steps.proofs.Owed.Unseen.{enclosed_alone_there}
use Rattle.steps.proofs.Owed.UnseenCounts.{idle_empties}

module _ (a : Around) (n m i o : Note) (t k : Kind) (d b : Forest) (truth : truth_known t m d ≡ Some false) (none : declares_none (node k i b nothing) ≡ true) where
  abbrev branch : Forest
  branch = node k i b (absent nothing)

  abbrev below : Forest
  below = node t m d branch

  abbrev x : Tree
  x = an_if n t m d branch

  abbrev y : Tree
  y = record { kind = empty_statement; note = o; below = nothing }

  -- the test is an expression, and the branch declares no name
  none_below : Fits root (plug a (Some x)) → declares_none below ≡ true
  none_below fits = tested_row t m d branch (expression_declares_none (node t m d nothing) ((parts_of_if a n below fits).0, tt)) none

  none_there : Fits root (plug a (Some x)) → declares_none (forest_of x) ≡ true
  none_there fits = both (declares_none below) true (none_below fits) refl

  takes : TakesPlace x y
  takes = record { classes = λ (to : Class) fits. (as_if empty_statement nothing to (if_stood to n below fits) (an_empty_statement, tt, refl, tt, refl, tt), tt); old_told = refl; new_told = refl }

  comes : ((source : Text) → import_decls source below ≡ []) → declares_none below ≡ true → Comes a x y
  comes imports undeclared = record {
    inner = nothing;
    same = refl;
    stands = for_part (λ st. statement_is_empty (wanted_at a) st t m i d k b (test_tells t m d false truth));
    old_calm = refl;
    declares = emptied_plainly below (record { vars = no_variables below undeclared; imports = imports });
    core = λ c. refl;
  }

  idle : Fits root (plug a (Some x)) → part.DeclaresNothing (forest_of x)
  idle fits = declares_nothing (forest_of x) (none_there fits) (enclosed_alone_there a if_statement n below (fits_enclosed (plug a (Some x)) fits))

  owes : Becoming a x y
  owes = record {
    lighter = Prim.omega (arith, test_weighs t m d false truth);
    no_call = record { counts = refl; lists = λ j. refl; begins = λ j. refl; calls = inl refl };
    ends = inl refl;
    may_change = inl refl;
    fits = becoming_fits a x y takes;
    sheds = λ fits. emptied_if_sheds a n o below (λ s at. nothing_declared s at (forest_of x) (if_stays_outside s n below) (none_there fits)) fits;
    kept = λ fits s kept. idle_empties a x (idle fits) (fits_program (plug a (Some x)) fits) (inside_program a x (fits_program (plug a (Some x)) fits) (λ rest. refl)) o s kept;
    runs = by_coming (λ p q r is fits form core. comes (no_imports_below p q r a x y is fits form core if_statement refl refl (λ s j. refl)) (none_below (subst (Fits root) (sym is) fits)));
  }

pub dead_if_owes : (a : Around) (x y : Tree) → DeadIf x y → Becoming a x y
dead_if_owes a x y (nothing_is_run n m i o t k d b truth none) = owes a n m i o t k d b truth none
