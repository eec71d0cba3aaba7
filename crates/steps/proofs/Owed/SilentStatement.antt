-- What a statement of a silent expression owes, which becomes empty.
use Rattle.std.proofs.Common.{inl, inr, ◌≡◌, false, not, Some, arith, refl, ap}
use Rattle.js_syntax.specs.Class.{Class}
use Rattle.js_syntax.specs.declared.node_kind.NodeKind.{NodeKind as Kind}
use Rattle.js_syntax.specs.Node.{Tree, alone}
use Rattle.scope_laws.specs.Place.{Around, plug}
use Rattle.steps.proofs.KeepTable.Emptied.{empty_of}
use Rattle.steps.specs.Allowed.Calls.{is_call, counted}
use Rattle.steps.specs.Allowed.Places.{in_class_at}
use Rattle.steps.specs.Allowed.Silent.{inside_of}
use Rattle.steps.specs.Allowed.SilentStatement.{SilentStatementEmpties, silent_statement_empties}
use Rattle.steps.proofs.Fit.Enclosing.{fits_enclosed}
use Rattle.steps.proofs.Fit.Modules.{fits_program}
use Rattle.steps.proofs.KeepForm.Fitting.{fits_laid_out}
use Rattle.steps.specs.Owed.Owed.{Becoming, by_step}
use Rattle.steps.specs.Owed.TakesPlace.{TakesPlace}
use Rattle.steps.proofs.Owed.AsSteps.{statement_step}
use Rattle.steps.proofs.Owed.Calling.{silent_is_no_call, there}
use Rattle.steps.proofs.Owed.FitsBecoming.{becoming_fits}
use Rattle.steps.proofs.Owed.Shedding.{emptied_sheds}
use Rattle.steps.proofs.Owed.TableKept.{emptied_keeps}

empty_takes : (x y : Tree) (a : Around) → SilentStatementEmpties a x y → TakesPlace x y
empty_takes x y a (silent_statement_empties n m l k inner idle) = record {
  classes = λ (to : Class) fits. (empty_of (alone k l inner) to fits.0, tt);
  old_told = refl;
  new_told = refl;
}

pub silent_statement_owes : (a : Around) (x y : Tree) → SilentStatementEmpties a x y → Becoming a x y
silent_statement_owes a x y (silent_statement_empties n m l k inner silent) =
    let expression = alone k l inner in
    let old : Tree = record { kind = Kind.ExpressionStatement; note = n; below = expression } in
    let no_call = there {P = is_call k ≡ false} false _ 0 0 a _ (λ w c next h. silent_is_no_call _ (inside_of (in_class_at a) w) c next k l inner h) silent in
    let t = plug a (Some old) in
    record {
      lighter = Prim.omega arith;
      no_call = record { counts = ap (counted Kind.ExpressionStatement) no_call; lists = λ i. refl; begins = λ i. refl; calls = inl refl };
      ends = inr refl;
      may_change = inl (ap not no_call);
      fits = becoming_fits a old y (empty_takes old y a (silent_statement_empties n m l k inner silent));
      sheds = λ fits. emptied_sheds a n m expression (fits_laid_out t fits);
      kept = λ fits s kept. emptied_keeps a n m l k inner silent (fits_program t fits) (fits_enclosed t fits) s kept;
      runs = by_step (λ w good. statement_step a n m l k inner w good silent);
    }
