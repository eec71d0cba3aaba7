-- A test, or a left side, of which enough is known tells so in every run.
use Rattle.std.proofs.Common.{◌≡◌, ◌≤◌, Bool, true, false, ◌||◌, Option, Some, None, if◌then◌else◌, refl}
use Rattle.js_syntax.specs.declared.node_kind.NodeKind.{NodeKind as Kind}
use Rattle.js_syntax.specs.declared.operator.LogicalOperator.{LogicalOperator}
use Rattle.js_syntax.specs.Facts.{weight}
use Rattle.js_syntax.specs.Node.{Forest, Note, alone}
use Rattle.js_tree.specs.Count.{one_each}
use Rattle.js_tree.specs.Walk.{is_list}
use Rattle.js_effects.specs.Answers.{bare_answers}
use Rattle.js_effects.specs.Values.{truth_of}
use Rattle.js_meaning.specs.Operator.{truthy, goes_right}
use Rattle.known_tests.specs.Tells.{Tells, GivesAlone, way_known}
use Rattle.known_tests.proofs.ByForm.{truth_tells, way_tells}
use Rattle.known_tests.proofs.Alone.{gives_alone}
use Rattle.steps.specs.Allowed.KnownConditional.{truth_known}
use Rattle.steps.specs.Allowed.KnownSide.{side_known}
use Rattle.steps.specs.Allowed.UnusedOperation.{acts}
use Rattle.steps.proofs.Owed.UnusedList.{idle_weighs}

pub counts_one : (k : Kind) → is_list k ≡ false → one_each k ≡ 1
counts_one Kind.Statements h = absurd cc
counts_one Kind.Cases h = absurd cc
counts_one Kind.Declarators h = absurd cc
counts_one Kind.Parameters h = absurd cc
counts_one Kind.Members h = absurd cc
counts_one Kind.Elements h = absurd cc
counts_one Kind.Properties h = absurd cc
counts_one Kind.Expressions h = absurd cc
counts_one Kind.Arguments h = absurd cc
counts_one Kind.Quasis h = absurd cc
counts_one Kind.Specifiers h = absurd cc
counts_one k h = refl

module _ (k : Kind) (n : Note) (a : Forest) where
  decided : (known : Option Bool) (b : Bool) → (if acts k n a || is_list k then None else known) ≡ Some b → (acts k n a ≡ false) × (is_list k ≡ false) × (known ≡ Some b)
  decided known b is = each (acts k n a) (is_list k) refl refl is
    where
      each : (x y : Bool) → acts k n a ≡ x → is_list k ≡ y → (if x || y then None else known) ≡ Some b → (acts k n a ≡ false) × (is_list k ≡ false) × (known ≡ Some b)
      each true y e f h = absurd cc
      each false true e f h = absurd cc
      each false false e f h = (e, f, h)

  pub test_tells : (b : Bool) → truth_known k n a ≡ Some b → Tells (λ v. truthy v ≡ b) k a
  test_tells b is = let it = decided (truth_of bare_answers (alone k n a)) b is in truth_tells k n a b it.0 it.2

  pub side_tells : (o : LogicalOperator) (b : Bool) → side_known o k n a ≡ Some b → Tells (λ v. goes_right o v ≡ b) k a × GivesAlone k a
  side_tells o b is = let it = decided (way_known o (alone k n a)) b is in (way_tells o k n a b it.0 it.2, gives_alone k n a it.0)

  -- it weighs something
  pub test_weighs : (b : Bool) → truth_known k n a ≡ Some b → 1 ≤ weight k
  test_weighs b is = let it = decided (truth_of bare_answers (alone k n a)) b is in idle_weighs k n a it.0 it.1

  pub side_weighs : (o : LogicalOperator) (b : Bool) → side_known o k n a ≡ Some b → 1 ≤ weight k
  side_weighs o b is = let it = decided (way_known o (alone k n a)) b is in idle_weighs k n a it.0 it.1

  -- and is a node of its own
  pub test_counts : (b : Bool) → truth_known k n a ≡ Some b → one_each k ≡ 1
  test_counts b is = counts_one k (decided (truth_of bare_answers (alone k n a)) b is).1

  pub side_counts : (o : LogicalOperator) (b : Bool) → side_known o k n a ≡ Some b → one_each k ≡ 1
  side_counts o b is = counts_one k (decided (way_known o (alone k n a)) b is).1
