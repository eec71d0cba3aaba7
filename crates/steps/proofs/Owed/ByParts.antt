-- What an expression owes that is rebuilt of its parts, it owes as a node that becomes another.
use Rattle.std.proofs.Common.{inl, ◌≡◌, ◌∙◌, [], ◌∷◌, Bool, true, false, not, ◌&&◌, ◌||◌, Some, refl, sym, ap}
use Rattle.js_syntax.specs.Class.{root, expression}
use Rattle.js_syntax.specs.declared.node_kind.NodeKind.{NodeKind as Kind}
use Rattle.js_syntax.specs.declared.node_kind.NodeKind.TheVariants.{ReferenceName as reference_name, Hole as hole}
use Rattle.js_syntax.specs.Node.{Tree, nothing, forest_of}
use Rattle.json_shape.specs.Shape.{one, these, Fits}
use Rattle.json_shape.proofs.Choice.{is_list_kind}
use Rattle.scope_laws.specs.Place.{Around, plug}
use Rattle.steps.proofs.Fit.Modules.{fits_program}
use Rattle.steps.specs.KeepForm.Row.{other}
use Rattle.steps.specs.KeepForm.Layout.{is_laid_out}
use Rattle.steps.specs.KeepForm.Part.{gives_way, is_statement, is_asked_for, RebuildsTo, by_parts as replaced_by_parts}
use Rattle.steps.proofs.KeepForm.Firm.{is_told_apart, gives}
use Rattle.steps.proofs.KeepForm.Fitting.{laid_as_planned}
use Rattle.steps.proofs.KeepForm.Laid.{laid_below}
use Rattle.steps.proofs.KeepForm.Order.{of_expression}
use Rattle.steps.proofs.KeepForm.Rows.{is_other}
use Rattle.steps.specs.Owed.Owed.{is_read_name, ByParts, Becoming}
use Rattle.steps.specs.Owed.TakesPlace.{is_told_by_class}
use Rattle.steps.proofs.Owed.BranchKinds.{no_statement}
use Rattle.steps.proofs.Owed.Expressions.{expression_declares_none, expression_stays_outside, expression_declares_nothing}
use Rattle.steps.proofs.Owed.Calling.{other_uncalled}
use Rattle.steps.proofs.Owed.FitsBecoming.{told_no_list, taken_as, old_is_told, taking_fits}
use Rattle.steps.proofs.Owed.PartForm.{nothing_declared, replaced_sheds}
use Rattle.steps.proofs.Owed.RebuiltCounts.{rebuilt_kept}

-- ---- the rules of form

not_apart : (k : Kind) → is_told_by_class k ≡ true → is_read_name k ≡ false → is_told_apart k ≡ false
not_apart hole told no_name = absurd cc
not_apart (reference_name x) told no_name = absurd cc
not_apart k told no_name = refl

pub moves : (k : Kind) → is_told_by_class k ≡ true → is_read_name k ≡ false → is_statement k ≡ false → is_asked_for k ≡ false → gives k ≡ true
moves k told no_name no_one unasked = all (gives_way k) (is_statement k) (is_asked_for k) (is_list_kind k) (is_told_apart k) no_one unasked (told_no_list k told) (not_apart k told no_name)
  where
    all : (g s q l h : Bool) → s ≡ false → q ≡ false → l ≡ false → h ≡ false → (g || (not (s || q) && not (l || h))) ≡ true
    all true s q l h d e f i = refl
    all false true q l h d e f i = absurd cc
    all false false true l h d e f i = absurd cc
    all false false false true h d e f i = absurd cc
    all false false false false true d e f i = absurd cc
    all false false false false false d e f i = refl

module _ (a : Around) (x y : Tree) (owed : ByParts a x y) (fits : Fits root (plug a (Some x))) where
  old_fits : Fits expression (forest_of x)
  old_fits = owed.fits_expression fits

  new_fits : Fits expression (forest_of y)
  new_fits = taken_as (owed.takes fits) expression refl old_fits

  is_expression : is_statement y.kind ≡ false
  is_expression = no_statement y.kind y.below new_fits.0

  laid : is_laid_out other y.below ≡ true
  laid =
      ap (λ row. is_laid_out row y.below) (sym (is_other other y.kind (of_expression y.kind (owed.unasked fits) is_expression)))
      ∙ laid_below other y.kind y.note y.below nothing (laid_as_planned (forest_of y) other (these (one expression ∷ [])) refl new_fits)

  rebuilds : RebuildsTo x.kind x.note x.below y.kind y.note y.below
  rebuilds = record {
    rebuilt = owed.rebuilt fits;
    old_unasked = owed.old_unasked fits;
    unasked = owed.unasked fits;
    old_expression = no_statement x.kind x.below old_fits.0;
    expression = is_expression;
    none = λ s p. nothing_declared s p (forest_of x) (expression_stays_outside s (forest_of x) old_fits) (expression_declares_none (forest_of x) old_fits);
    still_none = λ s p. nothing_declared s p (forest_of y) (expression_stays_outside s (forest_of y) new_fits) (expression_declares_none (forest_of y) new_fits);
    laid_out = laid;
  }

  old_moves : gives x.kind ≡ true
  old_moves = moves x.kind (old_is_told (owed.takes fits)) owed.no_name (no_statement x.kind x.below old_fits.0) (owed.old_unasked fits)

pub by_parts : (a : Around) (x y : Tree) → ByParts a x y → Becoming a x y
by_parts a x y owed = record {
  lighter = owed.lighter;
  no_call = other_uncalled a x owed.no_call;
  ends = inl owed.ends;
  may_change = inl owed.may_change;
  fits = λ fits. taking_fits a x y (owed.takes fits) fits;
  sheds = λ fits. replaced_sheds a x y (replaced_by_parts (rebuilds a x y owed fits)) (old_moves a x y owed fits) owed.comes_out.undeleted fits;
  kept = λ fits s kept. rebuilt_kept a x y (owed.rebuilt fits) (expression_declares_nothing (forest_of x) (old_fits a x y owed fits)) (owed.old_unasked fits) (fits_program (plug a (Some x)) fits) s kept;
  runs = owed.runs;
}
