-- An operation becomes a sequence of its sides, and nothing leaves with it.
use Rattle.std.proofs.Common.{◌≡◌, ◌∙◌, Bool, true, false, ◌&&◌, Option, Some, None, if◌then◌else◌, refl, sym, ap, true≢false, arith}
use Rattle.js_syntax.specs.declared.node_kind.NodeKind.{NodeKind as Kind}
use Rattle.js_syntax.specs.declared.node_kind.NodeKind.TheVariants.{BinaryExpression as binary_expression}
use Rattle.js_syntax.specs.Node.{Forest, Tree, Note, nothing, node, absent}
use Rattle.js_effects.specs.Silence.{only_combines}
use Rattle.steps.specs.Allowed.TwoSides.{text_emptied, two_sides}
use Rattle.steps.specs.Allowed.UnusedOperation.{acts}
use Rattle.rules.specs.Expressions.Uses.{Spot}
use Rattle.min_expressions.specs.TwoSides.{sides_act, sides_go}
use Rattle.min_expressions.proofs.Lists.{made, StaysInTurn, no_list}

pub both_true : (a b : Bool) → a && b ≡ true → (a ≡ true) × (b ≡ true)
both_true true b e = (refl, e)
both_true false b e = absurd (true≢false (sym e))

pub no_pair : {P : Type 0} (b : Bool) → b && false ≡ true → P
no_pair true e = no_list e
no_pair false e = no_list e

pub never : (b : Bool) → b && false ≡ false
never true = refl
never false = refl

pub if_true : (b : Bool) (o p : Option Tree) → b ≡ true → (if b then o else p) ≡ o
if_true true o p e = refl
if_true false o p e = absurd (true≢false (sym e))

pub if_false : (b : Bool) (o p : Option Tree) → b ≡ false → (if b then o else p) ≡ p
if_false true o p e = absurd (true≢false e)
if_false false o p e = refl

pub is_compared : (k : Kind) (t : Forest) → sides_act k t ≡ true → StaysInTurn two_sides k t
is_compared (binary_expression o) (node k i a (node l j b nothing)) e = record {
  becomes = λ n m. if_true (only_combines (binary_expression o) (node k i a (node l j b nothing)) && (acts k i a && acts l j b)) (Some (made n m (node k i a (node l j b nothing)))) (text_emptied n (binary_expression o) (node k i a (node l j b nothing))) e;
  no_id = λ r n b. Prim.omega arith;
  no_eval = λ n b. Prim.omega arith;
}
is_compared (binary_expression o) nothing e = no_pair (only_combines (binary_expression o) nothing) e
is_compared (binary_expression o) (absent rest) e = no_pair (only_combines (binary_expression o) (absent rest)) e
is_compared (binary_expression o) (node k i a nothing) e = no_pair (only_combines (binary_expression o) (node k i a nothing)) e
is_compared (binary_expression o) (node k i a (absent rest)) e = no_pair (only_combines (binary_expression o) (node k i a (absent rest))) e
is_compared (binary_expression o) (node k i a (node l j b (absent rest))) e = no_pair (only_combines (binary_expression o) (node k i a (node l j b (absent rest)))) e
is_compared (binary_expression o) (node k i a (node l j b (node h p c nothing))) e = no_pair (only_combines (binary_expression o) (node k i a (node l j b (node h p c nothing)))) e
is_compared (binary_expression o) (node k i a (node l j b (node h p c (absent rest)))) e = no_pair (only_combines (binary_expression o) (node k i a (node l j b (node h p c (absent rest))))) e
is_compared (binary_expression o) (node k i a (node l j b (node h p c (node q u d rest)))) e = no_pair (only_combines (binary_expression o) (node k i a (node l j b (node h p c (node q u d rest))))) e
is_compared k t e = no_list e

-- ---- as the rule says it

module _ (s : Spot) (n m : Note) (k : Kind) (t : Forest) where
  pub sides_there : sides_go s k t ≡ true → sides_act k t ≡ true
  sides_there e = (both_true s.is_unused (sides_act k t) e).1

  pub sides_left : (y : Tree) → sides_go s k t ≡ true → two_sides n m k t ≡ Some y → (if s.is_unused then two_sides n m k t else None) ≡ Some y
  sides_left y e f = ap (λ b. if b then two_sides n m k t else None) (both_true s.is_unused (sides_act k t) e).0 ∙ f
