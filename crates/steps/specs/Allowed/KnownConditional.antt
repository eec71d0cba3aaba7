-- A conditional on a test that does nothing but give a value, of which it is known by its form whether it is true, becomes the branch
-- that is taken (ECMA-262 13.14), unless it matters there that this stands there itself.
use Rattle.std.specs.Prelude.{◌≡◌, Bool, true, false, ◌||◌, Option, Some, None, if◌then◌else◌}
use Rattle.js_syntax.specs.declared.node_kind.NodeKind.{NodeKind as Kind}
use Rattle.js_syntax.specs.declared.node_kind.NodeKind.TheVariants.{ConditionalExpression as conditional_expression}
use Rattle.js_syntax.specs.Node.{Forest, Tree, Note, nothing, node, alone}
use Rattle.js_tree.specs.Walk.{is_list}
use Rattle.js_effects.specs.Answers.{bare_answers}
use Rattle.js_effects.specs.Values.{truth_of}
use Rattle.scope_laws.specs.Place.{Around}
use Rattle.steps.specs.Allowed.Places.{MayStandBare}
use Rattle.steps.specs.Allowed.UnusedOperation.{acts}

-- whether it is true, of a test that doesn't act, wherever it stands, and is no list: nothing is known of names
abbrev pub truth_known : Kind → Note → (below : Forest) → Option Bool
truth_known k n a = if acts k n a || is_list k then None else truth_of bare_answers (alone k n a)

abbrev pub a_conditional : (n : Note) → (k : Kind) (m : Note) (a : Forest) → (branches : Forest) → Tree
a_conditional n k m a branches = record { kind = conditional_expression; note = n; below = node k m a branches }

pub data KnownConditional (p : Around) : (x y : Tree) → Type 0 where
  consequent_is_taken : (n m i j : Note) (t k l : Kind) (a b c : Forest) → truth_known t m a ≡ Some true → MayStandBare p k b
      → KnownConditional p (a_conditional n t m a (node k i b (node l j c nothing))) (record { kind = k; note = i; below = b })
  alternate_is_taken : (n m i j : Note) (t k l : Kind) (a b c : Forest) → truth_known t m a ≡ Some false → MayStandBare p l c
      → KnownConditional p (a_conditional n t m a (node k i b (node l j c nothing))) (record { kind = l; note = j; below = c })
