-- Expressions of which nothing becomes, by their kinds alone.
use Rattle.std.proofs.Common.{◌≡◌, ◌∙◌, ℕ, Bool, true, false, not, ◌||◌, Option, None, if◌then◌else◌, refl, ap, true≢false}
use Rattle.js_syntax.specs.declared.node_kind.NodeKind.{NodeKind as Kind}
use Rattle.js_syntax.specs.declared.node_kind.NodeKind.TheVariants.{UnaryExpression as unary_expression, BinaryExpression as binary_expression, LogicalExpression as logical_expression, ConditionalExpression as conditional_expression, SequenceExpression as sequence_expression, ArrayExpression as array_expression, ObjectExpression as object_expression, TemplateLiteral as template_literal}
use Rattle.js_syntax.specs.Node.{Forest, Tree, Note, alone}
use Rattle.js_effects.specs.Answers.{bare_answers}
use Rattle.js_effects.specs.Values.{value_of}
use Rattle.min_context.specs.Seen.{Seen}
use Rattle.min_traverse.specs.Lawful.{or_else}
use Rattle.steps.specs.Allowed.KnownOperation.{gives_negative, known_negative, as_negative}
use Rattle.steps.specs.Allowed.UnusedOperation.{acts}
use Rattle.rules.specs.Expressions.Operations.{minus_there}
use Rattle.rules.specs.Expressions.Uses.{spot_of}
use Rattle.rules.specs.Expressions.Known.{at_expression_end}
use Rattle.min_expressions.specs.Foldable.{may_fold}

none_either_way : (b : Bool) → (let none : Option Tree = None in if b then none else none) ≡ None
none_either_way true = refl
none_either_way false = refl

never : (b : Bool) (o : Option ℕ) → (if b || true then None else o) ≡ None
never true o = refl
never false o = refl

no_negative : (n : Note) (k : Kind) (b : Forest) → gives_negative k b ≡ false → minus_there n (known_negative k n b) ≡ None
no_negative n k b none =
    ap (λ (g : Bool). minus_there n (if acts k n b || not g then None else as_negative (value_of bare_answers (alone k n b)))) none
    ∙ ap (minus_there n) (never (acts k n b) (as_negative (value_of bare_answers (alone k n b))))

pub nothing_becomes : (c : Seen) (k : Kind) (n : Note) (b : Forest) → may_fold k ≡ false → at_expression_end c (record { kind = k; note = n; below = b }) ≡ None
nothing_becomes c (unary_expression o) n b h = absurd (true≢false h)
nothing_becomes c (binary_expression o) n b h = absurd (true≢false h)
nothing_becomes c (logical_expression o) n b h = absurd (true≢false h)
nothing_becomes c conditional_expression n b h = absurd (true≢false h)
nothing_becomes c sequence_expression n b h = absurd (true≢false h)
nothing_becomes c array_expression n b h = absurd (true≢false h)
nothing_becomes c object_expression n b h = absurd (true≢false h)
nothing_becomes c template_literal n b h = absurd (true≢false h)
nothing_becomes c k n b h =
    let unused = none_either_way (spot_of c.place).is_unused in
    λ i. or_else (or_else (or_else (or_else (or_else (or_else (or_else (or_else (or_else None None) (unused i)) (unused i)) None) (unused i)) None) (unused i)) (unused i)) (no_negative n k b refl i)
