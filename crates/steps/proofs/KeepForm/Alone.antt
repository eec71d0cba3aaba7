-- A node breaks the same rules in contexts that differ in what is said of a node alone.
use Rattle.std.proofs.Common.{◌≡◌, ℕ, pos, negsuc, List, [], ◌++◌, ◌==◌, None, Some, Bool, true, false, ◌&&◌, if◌then◌else◌, refl, sym, ap, ◌∙◌}
use Rattle.js_syntax.specs.declared.node_kind.NodeKind.{NodeKind as Kind}
use Rattle.js_syntax.specs.declared.node_kind.NodeKind.TheVariants.{IfStatement as if_statement, TryStatement as try_statement, ConditionalExpression as conditional_expression, BinaryExpression as binary_expression, LogicalExpression as logical_expression, Function as function, Class as class, VariableDeclaration as variable_declaration, BreakStatement as break_statement, ContinueStatement as continue_statement, UnaryExpression as unary_expression, Literal as literal}
use Rattle.js_syntax.specs.declared.value.LiteralValue.TheVariants as value
use Rattle.js_syntax.specs.declared.operator.UnaryOperator.TheVariants as unary
use Rattle.js_syntax.specs.Node.{Forest}
use Rattle.form_rules.specs.declared.rule.Break.{Break}
use Rattle.form_rules.specs.Break.{unless}
use Rattle.form_rules.specs.Scope.{later, clash, both_parameters, variable_of_catch}
use Rattle.form_rules.specs.Context.{Context, below_it, as_body, inside}
use Rattle.form_rules.specs.Rules.{each_breaks, declared_places, declared_by, may_repeat_parameters, is_declaration, parts_of, rule_1, rule_2, rule_3, rule_4, rule_5, rule_6, rule_7, rule_8, rule_9, rule_10, rule_11, rule_12, broken_at}
use Rattle.steps.specs.KeepForm.Part.{gives_way, is_asked_for}
use Rattle.steps.proofs.KeepForm.Rules.{each_kept}

-- ---- contexts, but for what is said of a node alone

pub passed_on : (c : Context) (k : Kind) (a : Forest) (at : ℕ) → gives_way k ≡ true → below_it (inside c k a at) ≡ below_it c
passed_on c if_statement a at h = either (at == 0)
  where
    either : (is_test : Bool) → below_it (if is_test then below_it c else as_body c) ≡ below_it c
    either true = refl
    either false = refl
passed_on c try_statement a at h = refl
passed_on c conditional_expression a at h = refl
passed_on c (logical_expression operator) a at h = refl
passed_on c (unary_expression operator) a at h = refl
passed_on c (binary_expression operator) a at h = refl
passed_on c k a at h = absurd cc

pub inside_alike : (c : Context) (k : Kind) (a : Forest) (at : ℕ) → is_asked_for k ≡ false → inside (below_it c) k a at ≡ inside c k a at
inside_alike c (function how pure) a at h = absurd cc
inside_alike c k a at h = refl

no_declaration : (k : Kind) → is_asked_for k ≡ false → is_declaration k ≡ false
no_declaration (variable_declaration how) h = absurd cc
no_declaration (class how) h = absurd cc
no_declaration (function how pure) h = absurd cc
no_declaration k h = refl

never_both : (b : Bool) → (b && false) ≡ false
never_both true = refl
never_both false = refl

declared_alike : (c : Context) (k : Kind) (p : ℕ) (a : Forest) → declared_by (below_it c) k p a ≡ declared_by c k p a
declared_alike c k p a = refl

repeat_alike : (c : Context) (k : Kind) (a : Forest) → is_asked_for k ≡ false → may_repeat_parameters (below_it c) k a ≡ may_repeat_parameters c k a
repeat_alike c (function how pure) a h = absurd cc
repeat_alike c k a h = refl

rule_3_alike : (k : Kind) (p : ℕ) (a : Forest) (c : Context) → rule_3 (below_it c) k p a ≡ rule_3 c k p a
rule_3_alike (break_statement None) p a c = refl
rule_3_alike (break_statement (Some s)) p a c = refl
rule_3_alike (continue_statement None) p a c = refl
rule_3_alike (continue_statement (Some s)) p a c = refl
rule_3_alike k p a c = refl

rule_4_alike : (k : Kind) (p : ℕ) (a : Forest) (c : Context) → rule_4 (below_it c) k p a ≡ rule_4 c k p a
rule_4_alike k p a c = refl

rule_5_alike : (k : Kind) (p : ℕ) (a : Forest) (c : Context) → rule_5 (below_it c) k p a ≡ rule_5 c k p a
rule_5_alike k p a c = refl

rule_6_alike : (k : Kind) (p : ℕ) (a : Forest) (c : Context) → rule_6 (below_it c) k p a ≡ rule_6 c k p a
rule_6_alike k p a c = refl

rule_7_alike : (k : Kind) (p : ℕ) (a : Forest) (c : Context) → rule_7 (below_it c) k p a ≡ rule_7 c k p a
rule_7_alike k p a c = refl

rule_8_alike : (k : Kind) (p : ℕ) (a : Forest) (c : Context) → rule_8 (below_it c) k p a ≡ rule_8 c k p a
rule_8_alike k p a c = refl

rule_10_alike : (k : Kind) (p : ℕ) (a : Forest) (c : Context) → rule_10 (below_it c) k p a ≡ rule_10 c k p a
rule_10_alike (unary_expression unary.Delete) p a c = refl
rule_10_alike (unary_expression operator) p a c = refl
rule_10_alike k p a c = refl

parts_alike : (k : Kind) (p : ℕ) (a : Forest) (c : Context) → is_asked_for k ≡ false → parts_of (below_it c) k p a ≡ parts_of c k p a
parts_alike (variable_declaration how) p a c h = absurd cc
parts_alike k p a c h = refl

rule_11_alike : (k : Kind) (p : ℕ) (a : Forest) (c : Context) → is_asked_for k ≡ false → rule_11 (below_it c) k p a ≡ rule_11 c k p a
rule_11_alike k p a c h = rw (no_declaration k h, never_both c.is_alone) (ap (λ xs. unless true p 11 ++ xs) (parts_alike k p a c h))

rule_12_alike : (k : Kind) (p : ℕ) (a : Forest) (c : Context) → rule_12 (below_it c) k p a ≡ rule_12 c k p a
rule_12_alike (literal (value.Number (pos n))) p a c = refl
rule_12_alike (literal (value.Number (negsuc n))) p a c = refl
rule_12_alike (literal v) p a c = refl
rule_12_alike k p a c = refl

module _ (k : Kind) (p : ℕ) (a : Forest) (h : is_asked_for k ≡ false) where
  rule_1_alike : (c : Context) → rule_1 (below_it c) k p a ≡ rule_1 c k p a
  rule_1_alike c = ap (λ ds. each_breaks 1 (declared_places (later clash ds))) (declared_alike c k p a)

  rule_2_alike : (c : Context) → rule_2 (below_it c) k p a ≡ rule_2 c k p a
  rule_2_alike c =
      ap (λ x. if x then [] else each_breaks 2 (declared_places (later both_parameters (declared_by (below_it c) k p a)))) (repeat_alike c k a h)
      ∙ ap (λ ds. if may_repeat_parameters c k a then [] else each_breaks 2 (declared_places (later both_parameters ds))) (declared_alike c k p a)

  rule_9_alike : (c : Context) → rule_9 (below_it c) k p a ≡ rule_9 c k p a
  rule_9_alike c = ap (λ ds. each_breaks 9 (declared_places (later variable_of_catch ds))) (declared_alike c k p a)

  -- in contexts that differ in nothing else it breaks the same rules
  pub rules_alike : (c d : Context) → below_it c ≡ below_it d → broken_at c k p a ≡ [] → broken_at d k p a ≡ []
  rules_alike c d e =
      each_kept _ _ _ _ (each_kept _ _ _ _ (each_kept _ _ _ _ (each_kept _ _ _ _ (each_kept _ _ _ _ (each_kept _ _ _ _ (each_kept _ _ _ _ (each_kept _ _ _ _ (each_kept _ _ _ _ (each_kept _ _ _ _ (each_kept _ _ _ _
      (same (λ x. rule_1 x k p a) rule_1_alike) (same (λ x. rule_2 x k p a) rule_2_alike))
      (same (λ x. rule_3 x k p a) (rule_3_alike k p a))) (same (λ x. rule_4 x k p a) (rule_4_alike k p a))) (same (λ x. rule_5 x k p a) (rule_5_alike k p a)))
      (same (λ x. rule_6 x k p a) (rule_6_alike k p a))) (same (λ x. rule_7 x k p a) (rule_7_alike k p a))) (same (λ x. rule_8 x k p a) (rule_8_alike k p a))) (same (λ x. rule_9 x k p a) rule_9_alike))
      (same (λ x. rule_10 x k p a) (rule_10_alike k p a))) (same (λ x. rule_11 x k p a) (λ x. rule_11_alike k p a x h))) (same (λ x. rule_12 x k p a) (rule_12_alike k p a))
    where
      same : (f : Context → List Break) → ((x : Context) → f (below_it x) ≡ f x) → f c ≡ [] → f d ≡ []
      same f alike g = sym (alike d) ∙ ap f (sym e) ∙ alike c ∙ g
