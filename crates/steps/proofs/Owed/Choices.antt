-- What conditionals and logical expressions owe alike that become another expression.
use Rattle.std.proofs.Common.{◌≡◌, [], ◌∷◌, true, false, Some, refl, sym, subst}
use Rattle.js_syntax.specs.Class.{Class, root, expression}
use Rattle.js_syntax.specs.declared.node_kind.NodeKind.{NodeKind as Kind}
use Rattle.js_syntax.specs.declared.node_kind.NodeKind.TheVariants.{ConditionalExpression as conditional_expression, LogicalExpression as logical_expression}
use Rattle.js_syntax.specs.declared.operator.LogicalOperator.{LogicalOperator}
use Rattle.js_syntax.specs.Node.{Note, Forest, Tree, nothing, node}
use Rattle.js_syntax.specs.Table.{a_logical_expression, a_conditional_expression}
use Rattle.js_meaning_near.specs.Near.{is_calm, module_of}
use Rattle.json_shape.specs.Shape.{one, these, Fits}
use Rattle.form_rules.specs.Form.{IsWellFormed}
use Rattle.scope_laws.specs.Place.{Around, plug}
use Rattle.steps.specs.Steps.{all_core}
use Rattle.steps.specs.Allowed.Calls.{may_end}
use Rattle.steps.specs.Allowed.KnownConditional.{a_conditional}
use Rattle.steps.specs.Allowed.KnownSide.{a_logical}
use Rattle.steps.proofs.Fit.CoreCalm.{nameless_as_planned}
use Rattle.steps.proofs.Fit.Held.{core_below}
use Rattle.steps.specs.KeepForm.Part.{is_asked_for}
use Rattle.steps.specs.Owed.Owed.{MayChange, IsOther, is_read_name}
use Rattle.steps.specs.Owed.TakesPlace.{TakesPlace}
use Rattle.steps.proofs.Owed.BranchKinds.{IsExpression, expression_told}
use Rattle.steps.proofs.Owed.ChoiceParts.{parts_of_conditional, sides_of_logical}
use Rattle.steps.proofs.Owed.ChoiceRuns.{core_there, no_imports_below}
use Rattle.steps.proofs.Owed.FitsTaking.{as_conditional, conditional_stood, as_logical, logical_stood}
use Rattle.steps.proofs.Owed.Undeclared.{DeclaresNothing}

-- all of whose parts are there
pub data IsChoice : Tree → Type 0 where
  a_conditional_is : (o p i j : Note) (t k l : Kind) (d b c : Forest) → IsChoice (a_conditional o t p d (node k i b (node l j c nothing)))
  a_logical_is : (q : LogicalOperator) (o p i : Note) (t k : Kind) (d b : Forest) → IsChoice (a_logical q o t p d (node k i b nothing))

pub choice_calm : {x : Tree} → IsChoice x → is_calm x.kind ≡ true
choice_calm (a_conditional_is o p i j t k l d b c) = refl
choice_calm (a_logical_is q o p i t k d b) = refl

pub choice_is_other : {x : Tree} → IsChoice x → IsOther x
choice_is_other (a_conditional_is o p i j t k l d b c) = record { counts = refl; lists = λ h. refl; begins = λ h. refl; calls = refl }
choice_is_other (a_logical_is q o p i t k d b) = record { counts = refl; lists = λ h. refl; begins = λ h. refl; calls = refl }

pub choice_ends : {x : Tree} → IsChoice x → may_end x.kind ≡ true
choice_ends (a_conditional_is o p i j t k l d b c) = refl
choice_ends (a_logical_is q o p i t k d b) = refl

pub choice_may_change : (a : Around) {x : Tree} → IsChoice x → MayChange a x
choice_may_change a (a_conditional_is o p i j t k l d b c) = refl
choice_may_change a (a_logical_is q o p i t k d b) = refl

pub choice_no_name : {x : Tree} → IsChoice x → is_read_name x.kind ≡ false
choice_no_name (a_conditional_is o p i j t k l d b c) = refl
choice_no_name (a_logical_is q o p i t k d b) = refl

pub choice_unasked : {x : Tree} → IsChoice x → is_asked_for x.kind ≡ false
choice_unasked (a_conditional_is o p i j t k l d b c) = refl
choice_unasked (a_logical_is q o p i t k d b) = refl

-- ---- by the table of node types

pub choice_expression : (a : Around) {x : Tree} → IsChoice x → Fits root (plug a (Some x)) → IsExpression x.kind x.below
choice_expression a {x = x} (a_conditional_is o p i j t k l d b c) fits = (a_conditional_expression, tt, refl, tt, refl, parts_of_conditional a o x.below fits)
choice_expression a {x = x} (a_logical_is q o p i t k d b) fits = (a_logical_expression, (q, tt), refl, tt, refl, sides_of_logical a q o x.below fits)

-- an expression may take its place
pub choice_takes : {x : Tree} (y : Tree) → IsChoice x → IsExpression y.kind y.below → TakesPlace x y
choice_takes {x = x} y (a_conditional_is o p i j t k l d b c) of =
    record { classes = λ (to : Class) f. (as_conditional y.kind y.below to (conditional_stood to o x.below f) of, tt); old_told = refl; new_told = expression_told y.kind y.below of }
choice_takes {x = x} y (a_logical_is q o p i t k d b) of =
    record { classes = λ (to : Class) f. (as_logical y.kind y.below to (logical_stood to o x.below q f) of, tt); old_told = refl; new_told = expression_told y.kind y.below of }

-- ---- in a core module it declares nothing

module _ (n m : Note) (program : Forest) (a : Around) (y : Tree) (fits : Fits root (module_of n m program)) (form : IsWellFormed (module_of n m program)) (core : all_core (module_of n m program) ≡ true) where
  pub choice_declares : {x : Tree} → IsChoice x → plug a (Some x) ≡ module_of n m program → DeclaresNothing x.below
  choice_declares {x = x} (a_conditional_is o p i j t k l d b c) is = record {
    bound = nameless_as_planned x.below (these (one expression ∷ one expression ∷ one expression ∷ [])) refl (parts_of_conditional a o x.below (subst (Fits root) (sym is) fits)) (core_below x.kind o x.below nothing (core_there a x (subst (λ t. all_core t ≡ true) (sym is) core)));
    imports = no_imports_below n m program a x y is fits form core conditional_expression refl refl (λ s h. refl);
  }
  choice_declares {x = x} (a_logical_is q o p i t k d b) is = record {
    bound = nameless_as_planned x.below (these (one expression ∷ one expression ∷ [])) refl (sides_of_logical a q o x.below (subst (Fits root) (sym is) fits)) (core_below x.kind o x.below nothing (core_there a x (subst (λ t. all_core t ≡ true) (sym is) core)));
    imports = no_imports_below n m program a x y is fits form core (logical_expression q) refl refl (λ s h. refl);
  }
