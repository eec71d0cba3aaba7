-- What doesn't see the notes of a tree.
use Rattle.std.proofs.Common.{◌≡◌, ◌+◌, ◌∙◌, ℕ, Bool, true, false, ◌&&◌, ◌||◌, ◌==◌, Some, None, is_some, if◌then◌else◌, refl, sym, ap, ap₂}
use Rattle.std.specs.Str.{bytes_eq}
use Rattle.std.specs.Prelude.{codes}
use Rattle.js_syntax.specs.declared.node_kind.NodeKind.{NodeKind as Kind}
use Rattle.js_syntax.specs.declared.node_kind.NodeKind.TheVariants.{Program as program, Function as function, PropertyDefinition as property_definition, WithStatement as with_statement, SwitchStatement as switch_statement, CallExpression as call_expression, ParenthesizedExpression as parenthesized_expression, ReferenceName as reference_name, Directive as directive, Statements as statements, FunctionBody as function_body}
use Rattle.js_syntax.specs.Node.{Forest, nothing, node, absent, Tree, bare, total}
use Rattle.form_rules.specs.Context.{is_module, has_use_strict, is_strict_list, is_strict_function, behind_first}
use Rattle.js_tree.specs.Names.{eval_name, eval_of_call}
use Rattle.scope_rules.specs.ScopeFlags as scope_flag
use Rattle.scope_rules.specs.Context.{Context, is_there, has_second, opens, strict_in, in_body, in_block, below_it, of_function, inside}
use Rattle.scope_rules.specs.Site.{has_eval, scope_row, scope_bits, scope_count, bit, form_bits}

-- what is the same of a tree without its notes is the same of two trees that differ in notes alone
pub unseen : {A : Type 0} (f : Forest → A) → ((t : Forest) → f (bare t) ≡ f t) → (t u : Forest) → bare t ≡ bare u → f t ≡ f u
unseen f same t u e = sym (same t) ∙ ap f e ∙ same u

behind_first_bare : (t : Forest) → behind_first (bare t) ≡ bare (behind_first t)
behind_first_bare nothing = refl
behind_first_bare (absent rest) = refl
behind_first_bare (node k n below rest) = refl

is_there_bare : (t : Forest) → is_there (bare t) ≡ is_there t
is_there_bare nothing = refl
is_there_bare (absent rest) = refl
is_there_bare (node k n below rest) = refl

has_second_bare : (t : Forest) → has_second (bare t) ≡ has_second t
has_second_bare t = ap is_there (behind_first_bare t) ∙ is_there_bare (behind_first t)

has_use_strict_bare : (t : Forest) → has_use_strict (bare t) ≡ has_use_strict t
has_use_strict_bare nothing = refl
has_use_strict_bare (absent rest) = refl
has_use_strict_bare (node (directive written) n below rest) = ap (λ b. bytes_eq written (codes "use strict") || b) (has_use_strict_bare rest)
has_use_strict_bare (node k n below rest) = refl

is_strict_list_bare : (t : Forest) → is_strict_list (bare t) ≡ is_strict_list t
is_strict_list_bare nothing = refl
is_strict_list_bare (absent rest) = refl
is_strict_list_bare (node statements n below rest) = has_use_strict_bare below
is_strict_list_bare (node k n below rest) = refl

is_strict_function_bare : (t : Forest) → is_strict_function (bare t) ≡ is_strict_function t
is_strict_function_bare nothing = refl
is_strict_function_bare (absent rest) = is_strict_function_bare rest
is_strict_function_bare (node function_body n below rest) = is_strict_list_bare below
is_strict_function_bare (node k n below rest) = is_strict_function_bare rest

-- ---- scopes

pub opens_bare : (k : Kind) (t : Forest) → opens k (bare t) ≡ opens k t
opens_bare (property_definition is_static key) t = has_second_bare t
opens_bare k t = refl

pub scope_count_bare : (t : Forest) → scope_count (bare t) ≡ scope_count t
scope_count_bare nothing = refl
scope_count_bare (absent rest) = scope_count_bare rest
scope_count_bare (node k n below rest) = ap₂ (λ (a b : ℕ). a + b) (ap₂ (λ (a b : ℕ). a + b) (ap (λ b. if b then 1 else 0) (opens_bare k below)) (scope_count_bare below)) (scope_count_bare rest)

strict_bare : (c : Context) (k : Kind) (t : Forest) → strict_in c k (bare t) ≡ strict_in c k t
strict_bare c (program source) t = ap (λ b. is_module source || b) (is_strict_list_bare t)
strict_bare c (function how pure) t = ap (λ b. c.strict || b) (is_strict_function_bare t)
strict_bare c k t = refl

found_or_none : {A : Type 0} (b : Bool) (x y : A) → is_some (if b then Some x else None) ≡ is_some (if b then Some y else None)
found_or_none true x y = refl
found_or_none false x y = refl

eval_name_bare : (t : Forest) → is_some (eval_name (bare t)) ≡ is_some (eval_name t)
eval_name_bare nothing = refl
eval_name_bare (absent rest) = refl
eval_name_bare (node parenthesized_expression n below rest) = eval_name_bare below
eval_name_bare (node (reference_name s) n below rest) = found_or_none {A = Tree} (bytes_eq s (codes "eval")) _ _
eval_name_bare (node k n below rest) = refl

eval_of_call_bare : (k : Kind) (t : Forest) → is_some (eval_of_call k (bare t)) ≡ is_some (eval_of_call k t)
eval_of_call_bare (call_expression false pure) t = eval_name_bare t
eval_of_call_bare k t = refl

has_eval_bare : (t : Forest) → has_eval (bare t) ≡ has_eval t
has_eval_bare nothing = refl
has_eval_bare (absent rest) = has_eval_bare rest
has_eval_bare (node k n below rest) = ap₂ (λ a b. a || b) (ap₂ (λ a b. a || b) (eval_of_call_bare k below) (has_eval_bare below)) (has_eval_bare rest)

scope_row_bare : (k : Kind) (t : Forest) → scope_row k (bare t) ≡ bare (scope_row k t)
scope_row_bare switch_statement t = behind_first_bare t
scope_row_bare with_statement t = behind_first_bare t
scope_row_bare (property_definition is_static key) t = behind_first_bare t
scope_row_bare k t = refl

pub scope_bits_bare : (c : Context) (k : Kind) (t : Forest) → scope_bits c k (bare t) ≡ scope_bits c k t
scope_bits_bare c k t = ap₂ (λ a b. bit a scope_flag.strict_mode + form_bits k c.constructs + bit b scope_flag.direct_eval) (strict_bare c k t) (ap has_eval (scope_row_bare k t) ∙ has_eval_bare (scope_row k t))

-- ---- what stands around

pub inside_bare : (c : Context) (scope : ℕ) (k : Kind) (t : Forest) (at : ℕ) → inside c scope k (bare t) at ≡ inside c scope k t at
inside_bare c scope (program source) t at = ap (λ b. in_body c scope (is_module source || b)) (is_strict_list_bare t)
inside_bare c scope (function how pure) t at = ap (λ b. of_function c scope how pure (c.strict || b) at) (is_strict_function_bare t)
inside_bare c scope (property_definition is_static key) t at = ap (λ b. if b && at == 1 then in_block c scope c.strict else below_it c) (has_second_bare t)
inside_bare c scope k t at = refl

-- ---- counts

pub total_bare : (counts : Kind → ℕ) (t : Forest) → total counts (bare t) ≡ total counts t
total_bare counts nothing = refl
total_bare counts (absent rest) = total_bare counts rest
total_bare counts (node k n below rest) = ap₂ (λ (a b : ℕ). counts k + a + b) (total_bare counts below) (total_bare counts rest)
