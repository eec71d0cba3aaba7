-- Where nobody takes the value of an expression.
use Rattle.std.specs.Prelude.{ℕ, suc, Bool, true, false, not, ◌==◌, if◌then◌else◌}
use Rattle.js_effects.specs.Silence.{is_nothing}
use Rattle.js_syntax.specs.declared.node_kind.NodeKind.{NodeKind as Kind}
use Rattle.js_syntax.specs.declared.node_kind.NodeKind.TheVariants.{ExpressionStatement as expression_statement, ForStatement as for_statement, ParenthesizedExpression as parenthesized_expression, SequenceExpression as sequence_expression, Expressions as expressions, LogicalExpression as logical_expression, ConditionalExpression as conditional_expression}
use Rattle.scope_laws.specs.Place.{Around, first, behind, behind_none, under}

-- whether somebody takes a value, or nobody; of the parts of a list, whether somebody takes that of the last alone
pub data Taker : Type 0 where
  somebody : Taker
  nobody : Taker
  last_alone : Taker

abbrev pub is_nobody : Taker → Bool
is_nobody nobody = true
is_nobody t = false

abbrev pub nobody_if : Bool → Taker
nobody_if b = if b then nobody else somebody

-- in parentheses (ECMA-262 13.2.9.3)
abbrev pub in_parentheses : Taker → Taker
in_parentheses nobody = nobody
in_parentheses t = somebody

-- the list of a sequence, and its parts: nobody takes what those give behind which more stand (13.16.1)
abbrev pub of_sequence : Taker → (at : ℕ) → Taker
of_sequence nobody at = nobody
of_sequence t at = if at == 0 then last_alone else somebody

abbrev pub of_part : Taker → (more : Bool) → Taker
of_part nobody more = nobody
of_part last_alone more = nobody_if more
of_part somebody more = somebody

-- the branches of a choice, and the right side of a logical expression (13.13.1, 13.14.1)
abbrev pub of_branch : Taker → (at : ℕ) → Taker
of_branch nobody at = nobody_if (not (at == 0))
of_branch t at = somebody

-- Of the child at an index below a node, with more behind it or none: nobody takes a statement's (14.5.1), nor that of the update of a
-- `for` (14.7.4.3).
abbrev pub taken_below : Taker → Kind → (at : ℕ) → (more : Bool) → Taker
taken_below t expression_statement at more = nobody
taken_below t for_statement at more = nobody_if (at == 2)
taken_below t parenthesized_expression at more = in_parentheses t
taken_below t sequence_expression at more = of_sequence t at
taken_below t expressions at more = of_part t more
taken_below t (logical_expression operator) at more = of_branch t at
taken_below t conditional_expression at more = of_branch t at
taken_below t k at more = somebody

abbrev pub taken_there : (ts : ℕ → (more : Bool) → Taker) → (at : ℕ) → Around → Taker
taken_there ts at (first rest) = ts at (not (is_nothing rest))
taken_there ts at (behind k n below a) = taken_there ts (suc at) a
taken_there ts at (behind_none a) = taken_there ts (suc at) a
taken_there ts at (under k n a rest) = taken_there (taken_below (ts at (not (is_nothing rest))) k) 0 a

-- at a place
abbrev pub is_unused_at : Around → Bool
is_unused_at a = is_nobody (taken_there (λ i more. somebody) 0 a)
