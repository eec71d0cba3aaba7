-- What holds of the kinds that may stand in the place of a choice or of a logical expression.
use Rattle.std.proofs.Common.{◌≡◌, Bool, true, false, not, ◌&&◌, ◌||◌, Some, refl, sym, ap, ◌∙◌, true≢false}
use Rattle.js_syntax.specs.Class.{expression}
use Rattle.js_syntax.specs.declared.node_kind.NodeKind.{NodeKind as Kind}
use Rattle.js_syntax.specs.declared.node_kind.NodeKind.TheVariants.{Function as function, Class as class, EmptyStatement as empty_statement, ExpressionStatement as expression_statement, BlockStatement as block_statement, IfStatement as if_statement, BreakStatement as break_statement, ContinueStatement as continue_statement, ReturnStatement as return_statement, ThrowStatement as throw_statement, SwitchStatement as switch_statement, TryStatement as try_statement}
use Rattle.js_syntax.specs.Node.{Forest}
use Rattle.js_syntax.specs.Table.{Row, a_function_expression, an_arrow_function, a_class_expression, a_reference_name, a_literal, a_reg_exp, a_this_expression, an_array_expression, an_object_expression, a_sequence_expression, a_unary_expression, an_update_expression, a_binary_expression, an_in_expression, a_logical_expression, an_assignment_expression, a_compound_assignment, a_conditional_expression, a_call_expression, a_new_expression, a_member_expression, a_chain_expression, a_parenthesized_expression, a_template_literal, a_tagged_template_expression, a_new_target, an_import_meta, an_import_expression, fields_of, type_of, stands}
use Rattle.js_syntax.proofs.Truth.{not_true, first_of_both, second_of_both}
use Rattle.js_meaning_near.specs.Near.{is_calm}
use Rattle.json_shape.specs.Shape.{Values, kind_in, first_of, IsOf, Stand}
use Rattle.steps.specs.Allowed.Branches.{is_branch}
use Rattle.steps.specs.Allowed.EmptyIf.{begins_no_statement}
use Rattle.steps.specs.Allowed.Uses.{Use, stands_bare}
use Rattle.steps.specs.KeepForm.Part.{is_statement, is_asked_for}
use Rattle.steps.specs.Owed.TakesPlace.{is_told_by_class}

-- ---- branches of an `if`

-- nothing around asks for them but by their class
pub branch_told : (k : Kind) → is_branch k ≡ true → is_told_by_class k ≡ true
branch_told Kind.EmptyStatement branch = refl
branch_told Kind.ExpressionStatement branch = refl
branch_told Kind.BlockStatement branch = refl
branch_told Kind.IfStatement branch = refl
branch_told (Kind.BreakStatement label) branch = refl
branch_told (Kind.ContinueStatement label) branch = refl
branch_told Kind.ReturnStatement branch = refl
branch_told Kind.ThrowStatement branch = refl
branch_told Kind.SwitchStatement branch = refl
branch_told Kind.TryStatement branch = refl
branch_told k branch = absurd cc

-- they start nothing, and declare nothing themselves
pub branch_calm : (k : Kind) → is_branch k ≡ true → is_calm k ≡ true
branch_calm Kind.EmptyStatement h = refl
branch_calm Kind.ExpressionStatement h = refl
branch_calm Kind.BlockStatement h = refl
branch_calm Kind.IfStatement h = refl
branch_calm (Kind.BreakStatement l) h = refl
branch_calm (Kind.ContinueStatement l) h = refl
branch_calm Kind.ReturnStatement h = refl
branch_calm Kind.ThrowStatement h = refl
branch_calm Kind.SwitchStatement h = refl
branch_calm Kind.TryStatement h = refl
branch_calm k h = absurd (true≢false (sym h))

-- no rule of form asks for them
pub branch_unasked : (k : Kind) → is_branch k ≡ true → (is_asked_for k ≡ false) × (is_statement k ≡ true)
branch_unasked empty_statement h = (refl, refl)
branch_unasked expression_statement h = (refl, refl)
branch_unasked block_statement h = (refl, refl)
branch_unasked if_statement h = (refl, refl)
branch_unasked (break_statement label) h = (refl, refl)
branch_unasked (continue_statement label) h = (refl, refl)
branch_unasked return_statement h = (refl, refl)
branch_unasked throw_statement h = (refl, refl)
branch_unasked switch_statement h = (refl, refl)
branch_unasked try_statement h = (refl, refl)
branch_unasked k h = absurd cc

-- ---- expressions

-- functions and classes, for which rules of form ask
abbrev may_be_named : Kind → Bool
may_be_named (function how pure) = true
may_be_named (class how) = true
may_be_named k = false

abbrev is_quiet_kind : Kind → Bool
is_quiet_kind k = is_told_by_class k && ((may_be_named k || not (is_asked_for k)) && not (is_statement k))

expression_row : (r : Row) (vs : Values (fields_of r)) → stands expression (type_of r) ≡ Some (first_of r) → is_quiet_kind (kind_in r vs) ≡ true
expression_row a_function_expression vs h = refl
expression_row an_arrow_function vs h = refl
expression_row a_class_expression vs h = refl
expression_row a_reference_name vs h = refl
expression_row a_literal vs h = refl
expression_row a_reg_exp vs h = refl
expression_row a_this_expression vs h = refl
expression_row an_array_expression vs h = refl
expression_row an_object_expression vs h = refl
expression_row a_sequence_expression vs h = refl
expression_row a_unary_expression vs h = refl
expression_row an_update_expression vs h = refl
expression_row a_binary_expression vs h = refl
expression_row an_in_expression vs h = refl
expression_row a_logical_expression vs h = refl
expression_row an_assignment_expression vs h = refl
expression_row a_compound_assignment vs h = refl
expression_row a_conditional_expression vs h = refl
expression_row a_call_expression vs h = refl
expression_row a_new_expression vs h = refl
expression_row a_member_expression vs h = refl
expression_row a_chain_expression vs h = refl
expression_row a_parenthesized_expression vs h = refl
expression_row a_template_literal vs h = refl
expression_row a_tagged_template_expression vs h = refl
expression_row a_new_target vs h = refl
expression_row an_import_meta vs h = refl
expression_row an_import_expression vs h = refl
expression_row r vs h = absurd cc

-- one of the table
abbrev pub IsExpression : Kind → (below : Forest) → Type 0
IsExpression k b = IsOf k b (λ p. Stand p b) expression

module _ (k : Kind) (b : Forest) (of : IsExpression k b) where
  quiet_kind : is_quiet_kind k ≡ true
  quiet_kind = ap is_quiet_kind of.4 ∙ expression_row of.0 of.1 of.2

  pub expression_told : is_told_by_class k ≡ true
  expression_told = first_of_both (is_told_by_class k) ((may_be_named k || not (is_asked_for k)) && not (is_statement k)) quiet_kind

  pub no_statement : is_statement k ≡ false
  no_statement = not_true (is_statement k) (second_of_both (may_be_named k || not (is_asked_for k)) (not (is_statement k)) (second_of_both (is_told_by_class k) ((may_be_named k || not (is_asked_for k)) && not (is_statement k)) quiet_kind))

  named_or_unasked : (may_be_named k || not (is_asked_for k)) ≡ true
  named_or_unasked = first_of_both (may_be_named k || not (is_asked_for k)) (not (is_statement k)) (second_of_both (is_told_by_class k) ((may_be_named k || not (is_asked_for k)) && not (is_statement k)) quiet_kind)

  pub unnamed_unasked : begins_no_statement k ≡ false → is_asked_for k ≡ false
  unnamed_unasked unnamed = not_true (is_asked_for k) (ap (λ n. n || not (is_asked_for k)) (sym unnamed ∙ same_kinds k) ∙ named_or_unasked)
    where
      same_kinds : (k : Kind) → begins_no_statement k ≡ may_be_named k
      same_kinds (function how pure) = refl
      same_kinds (class how) = refl
      same_kinds k = refl

  pub bare_unasked : (u : Use) (in_with : Bool) → stands_bare u in_with k b ≡ true → is_asked_for k ≡ false
  bare_unasked u in_with bare = not_true (is_asked_for k) (ap (λ n. n || not (is_asked_for k)) (sym (nameless u in_with k b bare)) ∙ named_or_unasked)
    where
      nameless : (u : Use) (in_with : Bool) (k : Kind) (b : Forest) → stands_bare u in_with k b ≡ true → may_be_named k ≡ false
      nameless u in_with (function how pure) b h = absurd (true≢false (sym h))
      nameless u in_with (class how) b h = absurd (true≢false (sym h))
      nameless u in_with k b h = refl
