-- An operation on two sides of which nobody takes the value, and of which both act, becomes a sequence of these, if it does nothing itself
-- (ECMA-262 13.6 to 13.12). Of a sum that may convert an object a text on one side becomes empty: the other side is converted alike
-- (13.15.3). So does what does nothing but give a text, and so do the texts of a template, between which its substitutions are converted
-- (13.2.8.6).
use Rattle.std.specs.Prelude.{◌≡◌, List, [], ◌∷◌, ℕ, suc, ◌==◌, Bool, true, false, not, ◌&&◌, ◌||◌, Option, Some, None, if◌then◌else◌}
use Rattle.js_syntax.specs.declared.node_kind.NodeKind.{NodeKind as Kind}
use Rattle.js_syntax.specs.declared.node_kind.NodeKind.TheVariants.{BinaryExpression as binary_expression, SequenceExpression as sequence_expression, Expressions as expressions, Literal as literal, TemplateLiteral as template_literal, Quasis as quasis, TemplateElement as template_element}
use Rattle.js_syntax.specs.declared.operator.BinaryOperator.TheVariants.{Addition as addition}
use Rattle.js_syntax.specs.declared.value.LiteralValue.TheVariants as value
use Rattle.js_syntax.specs.Node.{Forest, Tree, Note, nothing, node, absent, alone}
use Rattle.js_syntax.specs.declared.value.TemplateText.{TemplateText}
use Rattle.form_rules.specs.Rules.{length_of}
use Rattle.js_effects.specs.declared.value.ValueType.{ValueType}
use Rattle.js_effects.specs.declared.value.ValueType.TheVariants.{String}
use Rattle.js_effects.specs.Answers.{bare_answers}
use Rattle.js_effects.specs.Kinds.{type_of}
use Rattle.js_effects.specs.Silence.{only_combines}
use Rattle.js_tree.specs.Walk.{is_list}
use Rattle.scope_laws.specs.Place.{Around}
use Rattle.steps.specs.Allowed.Unused.{is_unused_at}
use Rattle.steps.specs.Allowed.UnusedOperation.{acts}

abbrev pub empty_text : Kind
empty_text = literal (value.Text [])

abbrev pub is_empty_text : Kind → Bool
is_empty_text (literal (value.Text [])) = true
is_empty_text k = false

abbrev pub is_text_type : ValueType → Bool
is_text_type String = true
is_text_type t = false

-- Whether an expression does nothing but give a text, as far as its form tells, and isn't the literal of the empty one. A list weighs
-- nothing, and none stands among expressions.
abbrev pub gives_text : Kind → Note → (below : Forest) → Bool
gives_text k n a = not (is_empty_text k) && (not (acts k n a || is_list k) && is_text_type (type_of bare_answers (alone k n a)))

-- whether a text of a template, as it is written, isn't empty
abbrev pub is_written : (raw : List ℕ) → Bool
is_written [] = false
is_written (c ∷ cs) = true

abbrev pub has_text : Kind → Bool
has_text (template_element text tail) = is_written text.raw
has_text k = false

abbrev pub has_texts : (elements : Forest) → Bool
has_texts nothing = false
has_texts (absent rest) = has_texts rest
has_texts (node k n a rest) = has_text k || has_texts rest

abbrev pub no_text : TemplateText
no_text = record { raw = []; cooked = Some [] }

abbrev pub without_text : Kind → Kind
without_text (template_element text tail) = template_element no_text tail
without_text k = k

abbrev pub without_texts : (elements : Forest) → Forest
without_texts nothing = nothing
without_texts (absent rest) = absent (without_texts rest)
without_texts (node k n a rest) = node (without_text k) n a (without_texts rest)

-- one text more than substitutions, as a rule of form asks (ECMA-262 12.9.6)
abbrev pub is_whole : (elements parts : Forest) → Bool
is_whole elements parts = length_of elements == suc (length_of parts)

-- a text of a sum beside what acts, and all texts of a template
abbrev pub text_emptied : (n : Note) → Kind → (below : Forest) → Option Tree
text_emptied n (binary_expression addition) (node k i a (node l j b nothing)) =
    if gives_text k i a && acts l j b
    then Some (record { kind = binary_expression addition; note = n; below = node empty_text i nothing (node l j b nothing) })
    else if gives_text l j b && acts k i a then Some (record { kind = binary_expression addition; note = n; below = node k i a (node empty_text j nothing nothing) }) else None
text_emptied n template_literal (node quasis i elements (node expressions j parts nothing)) =
    if has_texts elements && is_whole elements parts then Some (record { kind = template_literal; note = n; below = node quasis i (without_texts elements) (node expressions j parts nothing) }) else None
text_emptied n k below = None

abbrev pub two_sides : (n m : Note) → Kind → (below : Forest) → Option Tree
two_sides n m (binary_expression o) (node k i a (node l j b nothing)) =
    if only_combines (binary_expression o) (node k i a (node l j b nothing)) && (acts k i a && acts l j b)
    then Some (record { kind = sequence_expression; note = n; below = node expressions m (node k i a (node l j b nothing)) nothing })
    else text_emptied n (binary_expression o) (node k i a (node l j b nothing))
two_sides n m template_literal below = text_emptied n template_literal below
two_sides n m k below = None

pub data TwoSides (a : Around) : (x y : Tree) → Type 0 where
  both_sides_act : (n m : Note) (x y : Tree) → is_unused_at a ≡ true → two_sides n m x.kind x.below ≡ Some y → TwoSides a x y
