-- What comes of an array, an object literal, a sequence, a choice, an operation on two sides or one of known value counts no more.
use Rattle.std.proofs.Common.{◌≡◌, ◌≤◌, ◌+◌, ℕ, pos, [], Bool, true, arith, refl, codes}
use Rattle.js_syntax.specs.declared.node_kind.NodeKind.{NodeKind as Kind}
use Rattle.js_syntax.specs.declared.node_kind.NodeKind.TheVariants.{EmptyStatement as empty_statement, ExpressionStatement as expression_statement, ArrayExpression as array_expression, Elements as elements, ObjectExpression as object_expression, Properties as properties, BinaryExpression as binary_expression, SequenceExpression as sequence_expression, TemplateLiteral as template_literal, Expressions as expressions, ConditionalExpression as conditional_expression, LogicalExpression as logical_expression, UnaryExpression as unary_expression, Literal as literal, TemplateElement as template_element, ImportSpecifier as import_specifier, ImportDefaultSpecifier as import_default_specifier, VariableDeclaration as variable_declaration}
use Rattle.js_syntax.specs.declared.value.ModuleName.TheVariants.{Name as plain_name}
use Rattle.js_syntax.specs.declared.operator.BinaryOperator.{BinaryOperator}
use Rattle.js_syntax.specs.declared.operator.UnaryOperator.{UnaryOperator}
use Rattle.js_syntax.specs.declared.operator.UnaryOperator.TheVariants.{UnaryNegation}
use Rattle.js_syntax.specs.declared.operator.LogicalOperator.{LogicalOperator}
use Rattle.js_syntax.specs.declared.value.LiteralValue.{LiteralValue}
use Rattle.js_syntax.specs.declared.value.LiteralValue.TheVariants as value
use Rattle.js_syntax.specs.Node.{Forest, nothing, node, absent, total}
use Rattle.js_syntax.specs.declared.value.TemplateText.{TemplateText}
use Rattle.json_kept.proofs.Depths.{total_joined}
use Rattle.steps.specs.KeepForm.Part.{may_be_idle, is_tested}
use Rattle.steps.proofs.Owed.KnownSizes.{IsSmall}
use Rattle.js_tree.specs.Count.{one_each}
use Rattle.steps.specs.Allowed.TwoSides.{no_text, without_text, without_texts}
use Rattle.steps.proofs.Marked.Picked.{SomeOf, none, stays, leaves, opens, absent_leaves, absent_stays, Picks, one_part, several, some_elements, part_behind_zero, last_behind_zero, two_parts, after_test, known, signed, zeroed, one_substitution, substitutions, in_turn, with_less_text, with_no_texts, Emptied, this_one, a_later_one}
use Rattle.js_syntax.specs.declared.kind.VariableKind.{VariableKind}

-- `default as a`
abbrev pub default_named : Kind
default_named = import_specifier (plain_name (codes "default"))

-- counts by which what edits build counts no more than what it is built of
pub record IsSparing (counts : Kind → ℕ) : Type 0 where
  pub empty : counts empty_statement ≤ counts expression_statement
  pub empty_idle : (k : Kind) → may_be_idle k ≡ true → counts empty_statement ≤ counts k
  pub statement_of_test : (k : Kind) → is_tested k ≡ true → counts expression_statement ≤ counts k
  pub statement_of_value : (how : VariableKind) → counts expression_statement ≤ counts (variable_declaration how)
  pub of_array : counts sequence_expression ≤ counts array_expression
  pub of_elements : counts expressions ≤ counts elements
  pub of_template : counts sequence_expression ≤ counts template_literal
  pub of_object : counts sequence_expression ≤ counts object_expression
  pub of_properties : counts expressions ≤ counts properties
  pub of_comparison : (o : BinaryOperator) → counts sequence_expression + counts expressions ≤ counts (binary_expression o)
  pub of_conditional : counts sequence_expression + counts expressions ≤ counts conditional_expression
  pub of_logical : (o : LogicalOperator) → counts sequence_expression + counts expressions ≤ counts (logical_expression o)
  pub of_choice : (o : LogicalOperator) → counts (logical_expression o) ≤ counts conditional_expression
  pub zero : (t : Kind) → one_each t ≡ 1 → counts (literal (value.Number (pos 0))) ≤ counts t
  pub of_one : (o : UnaryOperator) (w : LiteralValue) → IsSmall w → counts (literal w) ≤ counts (unary_expression o)
  pub of_two : (o : BinaryOperator) (w : LiteralValue) → IsSmall w → counts (literal w) ≤ counts (binary_expression o)
  pub minus_of_one : (o : UnaryOperator) → counts (unary_expression UnaryNegation) ≤ counts (unary_expression o)
  pub minus_of_two : (o : BinaryOperator) → counts (unary_expression UnaryNegation) ≤ counts (binary_expression o)
  pub operand : (t : Kind) (w : LiteralValue) → one_each t ≡ 1 → IsSmall w → counts (literal w) ≤ counts t
  pub default_named : counts default_named ≤ counts import_default_specifier
  pub of_element : (text : TemplateText) (tail : Bool) → counts (template_element no_text tail) ≤ counts (template_element text tail)

-- as they are where none of that is counted
pub uncounted : (counts : Kind → ℕ) → counts empty_statement ≡ 0 → counts expression_statement ≡ 0 → counts sequence_expression ≡ 0 → counts expressions ≡ 0 → ((w : LiteralValue) → IsSmall w → counts (literal w) ≡ 0) → ((o : LogicalOperator) → counts (logical_expression o) ≡ 0) → counts (unary_expression UnaryNegation) ≡ 0
    → ((tail : Bool) → counts (template_element no_text tail) ≡ 0) → counts default_named ≡ 0 → IsSparing counts
uncounted counts empty statement sequence list small logical minus element default = record {
  empty = Prim.omega (arith, empty);
  empty_idle = λ k idle. Prim.omega (arith, empty);
  statement_of_test = λ k tested. Prim.omega (arith, statement);
  statement_of_value = λ how. Prim.omega (arith, statement);
  of_array = Prim.omega (arith, sequence);
  of_elements = Prim.omega (arith, list);
  of_template = Prim.omega (arith, sequence);
  of_object = Prim.omega (arith, sequence);
  of_properties = Prim.omega (arith, list);
  of_comparison = λ o. Prim.omega (arith, sequence, list);
  of_conditional = Prim.omega (arith, sequence, list);
  of_logical = λ o. Prim.omega (arith, sequence, list);
  of_choice = λ o. Prim.omega (arith, logical o);
  zero = λ t h. Prim.omega (arith, small (value.Number (pos 0)) refl);
  of_one = λ o w h. Prim.omega (arith, small w h);
  of_two = λ o w h. Prim.omega (arith, small w h);
  minus_of_one = λ o. Prim.omega (arith, minus);
  minus_of_two = λ o. Prim.omega (arith, minus);
  operand = λ t w h s. Prim.omega (arith, small w s);
  default_named = Prim.omega (arith, default);
  of_element = λ text tail. Prim.omega (arith, element tail);
}

module _ (counts : Kind → ℕ) where
  some_counts : {r s : Forest} → SomeOf r s → total counts s ≤ total counts r
  some_counts none = Prim.omega arith
  some_counts (stays rest) = Prim.omega (arith, some_counts rest)
  some_counts (leaves rest) = Prim.omega (arith, some_counts rest)
  some_counts (opens {a = a} {r = r} rest) = Prim.omega (arith, total_joined counts a r, some_counts rest)
  some_counts (absent_leaves rest) = some_counts rest
  some_counts (absent_stays rest) = some_counts rest

  emptied_counts : IsSparing counts → {r s : Forest} → Emptied r s → total counts s ≤ total counts r
  emptied_counts spares (this_one {k = k} one) = Prim.omega (arith, spares.operand k (value.Text []) one tt)
  emptied_counts spares (a_later_one rest) = Prim.omega (arith, emptied_counts spares rest)

  element_counts : IsSparing counts → (k : Kind) → counts (without_text k) ≤ counts k
  element_counts spares (template_element text tail) = spares.of_element text tail
  element_counts spares k = Prim.omega arith

  elements_count : IsSparing counts → (t : Forest) → total counts (without_texts t) ≤ total counts t
  elements_count spares nothing = Prim.omega arith
  elements_count spares (absent t) = elements_count spares t
  elements_count spares (node k n a t) = Prim.omega (arith, element_counts spares k, elements_count spares t)

  pub picked_counts : IsSparing counts → {k l : Kind} {a b : Forest} → Picks k a l b → counts l + total counts b ≤ counts k + total counts a
  picked_counts spares (one_part k j l i m parts inner holds some) = Prim.omega (arith, some_counts some)
  picked_counts spares (several array_expression elements i m parts left holds some) = Prim.omega (arith, spares.of_array, spares.of_elements, some_counts some)
  picked_counts spares (several object_expression properties i m parts left holds some) = Prim.omega (arith, spares.of_object, spares.of_properties, some_counts some)
  picked_counts spares (several sequence_expression expressions i m parts left holds some) = Prim.omega (arith, some_counts some)
  picked_counts spares (several k j i m parts left holds some) = absurd cc
  picked_counts spares (some_elements i m parts left some) = Prim.omega (arith, some_counts some)
  picked_counts spares (part_behind_zero conditional_expression l t o m i p d parts inner choice one some) = Prim.omega (arith, spares.of_conditional, spares.zero t one, some_counts some)
  picked_counts spares (part_behind_zero (logical_expression q) l t o m i p d parts inner choice one some) = Prim.omega (arith, spares.of_logical q, spares.zero t one, some_counts some)
  picked_counts spares (part_behind_zero k l t o m i p d parts inner choice one some) = absurd cc
  picked_counts spares (last_behind_zero j l i m o p q b parts inner one some) = Prim.omega (arith, spares.zero j one, some_counts some)
  picked_counts spares (two_parts o parts left some) = Prim.omega (arith, spares.of_choice o, some_counts some)
  picked_counts spares (after_test conditional_expression m parts left choice some) = Prim.omega (arith, spares.of_conditional, some_counts some)
  picked_counts spares (after_test (logical_expression q) m parts left choice some) = Prim.omega (arith, spares.of_logical q, some_counts some)
  picked_counts spares (after_test k m parts left choice some) = absurd cc
  picked_counts spares (one_substitution l h i m texts parts inner some) = Prim.omega (arith, some_counts some)
  picked_counts spares (substitutions h i m texts parts left some) = Prim.omega (arith, spares.of_template, some_counts some)
  picked_counts spares (in_turn o m sides) = Prim.omega (arith, spares.of_comparison o)
  picked_counts spares (with_less_text o old new less) = Prim.omega (arith, emptied_counts spares less)
  picked_counts spares (with_no_texts h texts rest) = Prim.omega (arith, elements_count spares texts)
  picked_counts spares (known (unary_expression o) below w operator small) = Prim.omega (arith, spares.of_one o w small)
  picked_counts spares (known (binary_expression o) below w operator small) = Prim.omega (arith, spares.of_two o w small)
  picked_counts spares (known k below w operator small) = absurd cc
  picked_counts spares (signed (unary_expression o) t i m d rest w operator one small) = Prim.omega (arith, spares.minus_of_one o, spares.operand t w one small)
  picked_counts spares (signed (binary_expression o) t i m d rest w operator one small) = Prim.omega (arith, spares.minus_of_two o, spares.operand t w one small)
  picked_counts spares (signed k t i m d rest w operator one small) = absurd cc
  picked_counts spares (zeroed k below one) = Prim.omega (arith, spares.zero k one)
