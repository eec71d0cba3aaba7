-- What is exposed where a child stands, by whether that is in the scope that its parent makes.
use Rattle.std.proofs.Common.{◌≡◌, ◌==◌, ℕ, Bool, true, false, not, ◌&&◌, ◌||◌, if◌then◌else◌, refl}
use Rattle.std.proofs.lemmas.Bool.{and_parts}
use Rattle.js_syntax.specs.declared.node_kind.NodeKind.{NodeKind as Kind}
use Rattle.js_syntax.specs.declared.node_kind.NodeKind.TheVariants as kind
use Rattle.js_syntax.specs.declared.kind.FunctionKind.{FunctionKind}
use Rattle.js_syntax.specs.declared.kind.FunctionKind.TheVariants as function_kind
use Rattle.js_syntax.specs.declared.kind.ClassKind.{ClassKind}
use Rattle.js_syntax.specs.declared.kind.ClassKind.TheVariants as class_kind
use Rattle.js_syntax.specs.Node.{Forest}
use Rattle.js_rebuilt.specs.Rebuilt.{is_operation}
use Rattle.form_rules.specs.Context.{is_module, is_strict_list, is_strict_function}
use Rattle.scope_rules.specs.Context.{has_second, opens}
use Rattle.scope_rules.specs.Site.{scope_row, has_eval}
use Rattle.scope_laws.specs.Lists.{is_list}
use Rattle.steps.specs.KeepForm.Part.{gives_way}
use Rattle.steps.specs.Allowed.Exposure.{Exposure, in_code, in_block, declaring, is_script_source, at_function_name, at_class_name, exposed_inside}
use Rattle.steps.specs.Marked.Flags.{is_within, holds_variables}
use Rattle.steps.proofs.Marked.Exposing.{never}

-- ---- the scope that a node makes

-- whether the code in it is strict, where the code around is or not
abbrev pub strict_code : Bool → Kind → Forest → Bool
strict_code strict (kind.Program source) below = is_module source || is_strict_list below
strict_code strict (kind.Function how pure) below = strict || is_strict_function below
strict_code strict (kind.Class how) below = true
strict_code strict k below = strict

-- whether `var` passes through it
abbrev pub is_block : Kind → Bool
is_block (kind.Program source) = false
is_block (kind.Function how pure) = false
is_block kind.StaticBlock = false
is_block k = true

-- whether a script's own names stand in it
abbrev pub shares_code : Exposure → Kind → Bool
shares_code e (kind.Program source) = e.outside && is_script_source source
shares_code e k = false

abbrev pub in_scope : (block shared strict : Bool) → Exposure → (row : Forest) → Exposure
in_scope true shared strict e row = in_block e strict row
in_scope false shared strict e row = in_code e shared strict row

abbrev pub exposed_in_scope : Exposure → Kind → (below : Forest) → Exposure
exposed_in_scope e k below = in_scope (is_block k) (shares_code e k) (strict_code e.strict k below) e (scope_row k below)

-- ---- what is read of an exposure, but of the declaration around

module _ (read : Exposure → Bool) (undeclared : (e : Exposure) (shared : Bool) → read (declaring e shared) ≡ read e) where
  function_name_reads : (e : Exposure) (how : FunctionKind) → read (at_function_name e how) ≡ read e
  function_name_reads e function_kind.Declaration = undeclared e e.names_shared
  function_name_reads e function_kind.Expression = undeclared e false
  function_name_reads e function_kind.Arrow = undeclared e false

  class_name_reads : (e : Exposure) (how : ClassKind) → read (at_class_name e how) ≡ read e
  class_name_reads e class_kind.Declaration = undeclared e e.names_shared
  class_name_reads e class_kind.Expression = undeclared e false

  function_reads : (first second : Bool) (x y z e : Exposure) → read x ≡ read e → read y ≡ read z → read (if first then x else if second then y else z) ≡ (if not first then read z else read e)
  function_reads true second x y z e f g = f
  function_reads false true x y z e f g = g
  function_reads false false x y z e f g = refl

  class_reads : (first : Bool) (x z e : Exposure) → read x ≡ read e → read (if first then x else z) ≡ (if not first then read z else read e)
  class_reads true x z e f = f
  class_reads false x z e f = refl

  part_reads : (within : Bool) (z e : Exposure) → read (if within then z else e) ≡ (if within then read z else read e)
  part_reads true z e = refl
  part_reads false z e = refl

  catch_reads : (first : Bool) (z : Exposure) → read (if first then declaring z false else z) ≡ read z
  catch_reads true z = undeclared z false
  catch_reads false z = refl

  pub inside_reads : (e : Exposure) (k : Kind) (below : Forest) (at : ℕ) → read (exposed_inside e k below at) ≡ (if is_within k below at then read (exposed_in_scope e k below) else read e)
  inside_reads e (kind.Program source) below at = refl
  inside_reads e (kind.Function how pure) below at =
      let z = in_code e false (e.strict || is_strict_function below) below in function_reads (at == 0) (at == 1) (at_function_name e how) (declaring z false) z e (function_name_reads e how) (undeclared z false)
  inside_reads e (kind.Class how) below at = class_reads (at == 0) (at_class_name e how) (in_block e true below) e (class_name_reads e how)
  inside_reads e kind.StaticBlock below at = refl
  inside_reads e (kind.PropertyDefinition is_static key) below at = part_reads (has_second below && at == 1) (in_block e e.strict (scope_row (kind.PropertyDefinition is_static key) below)) e
  inside_reads e kind.BlockStatement below at = refl
  inside_reads e kind.SwitchStatement below at = part_reads (at == 1) (in_block e e.strict (scope_row kind.SwitchStatement below)) e
  inside_reads e kind.WithStatement below at = part_reads (at == 1) (in_block e e.strict (scope_row kind.WithStatement below)) e
  inside_reads e kind.CatchClause below at = catch_reads (at == 0) (in_block e e.strict below)
  inside_reads e kind.ForStatement below at = refl
  inside_reads e kind.ForInStatement below at = refl
  inside_reads e kind.ForOfStatement below at = refl
  inside_reads e (kind.VariableDeclaration how) below at = undeclared e _
  inside_reads e (kind.ImportDeclaration source) below at = undeclared e e.names_shared
  inside_reads e k below at = refl

-- ---- in the scope that a node makes

pub scope_evaluates : (e : Exposure) (k : Kind) (below : Forest) → (exposed_in_scope e k below).evaluates ≡ has_eval (scope_row k below)
scope_evaluates e k below = elim (is_block k) as (λ b. (in_scope b (shares_code e k) (strict_code e.strict k below) e (scope_row k below)).evaluates ≡ has_eval (scope_row k below)) [ true ↦ refl | false ↦ refl ]

pub scope_strict : (e : Exposure) (k : Kind) (below : Forest) → (exposed_in_scope e k below).strict ≡ strict_code e.strict k below
scope_strict e k below = elim (is_block k) as (λ b. (in_scope b (shares_code e k) (strict_code e.strict k below) e (scope_row k below)).strict ≡ strict_code e.strict k below) [ true ↦ refl | false ↦ refl ]

pub scope_sloppy : (e : Exposure) (k : Kind) (below : Forest) → (exposed_in_scope e k below).in_sloppy_block ≡ is_block k && not (strict_code e.strict k below)
scope_sloppy e k below =
    elim (is_block k) as (λ b. (in_scope b (shares_code e k) (strict_code e.strict k below) e (scope_row k below)).in_sloppy_block ≡ b && not (strict_code e.strict k below)) [ true ↦ refl | false ↦ refl ]

pub scope_names : (e : Exposure) (k : Kind) (below : Forest) → (exposed_in_scope e k below).names_shared ≡ not (is_block k) && shares_code e k
scope_names e k below = elim (is_block k) as (λ b. (in_scope b (shares_code e k) (strict_code e.strict k below) e (scope_row k below)).names_shared ≡ not b && shares_code e k) [ true ↦ refl | false ↦ refl ]

pub scope_variables : (e : Exposure) (k : Kind) (below : Forest) → (exposed_in_scope e k below).variables_shared ≡ (if is_block k then e.variables_shared else shares_code e k)
scope_variables e k below =
    elim (is_block k) as (λ b. (in_scope b (shares_code e k) (strict_code e.strict k below) e (scope_row k below)).variables_shared ≡ (if b then e.variables_shared else shares_code e k)) [ true ↦ refl | false ↦ refl ]

pub scope_outside : (e : Exposure) (k : Kind) (below : Forest) → (exposed_in_scope e k below).outside ≡ is_block k && e.outside
scope_outside e k below = elim (is_block k) as (λ b. (in_scope b (shares_code e k) (strict_code e.strict k below) e (scope_row k below)).outside ≡ b && e.outside) [ true ↦ refl | false ↦ refl ]

-- ---- where a child stands

pub within_opens : (k : Kind) (below : Forest) (at : ℕ) → is_within k below at ≡ true → opens k below ≡ true
within_opens (kind.Program source) below at w = refl
within_opens (kind.Function how pure) below at w = refl
within_opens (kind.Class how) below at w = refl
within_opens kind.StaticBlock below at w = refl
within_opens (kind.PropertyDefinition is_static key) below at w = (and_parts (has_second below) (at == 1) w).0
within_opens kind.BlockStatement below at w = refl
within_opens kind.SwitchStatement below at w = refl
within_opens kind.WithStatement below at w = refl
within_opens kind.CatchClause below at w = refl
within_opens kind.ForStatement below at w = refl
within_opens kind.ForInStatement below at w = refl
within_opens kind.ForOfStatement below at w = refl
within_opens k below at w = never w

and_true : (b : Bool) → b ≡ b && true
and_true true = refl
and_true false = refl

and_false : (b : Bool) → false ≡ b && false
and_false true = refl
and_false false = refl

-- `var` declares in the scope that a node makes unless it passes through it
pub variables_within : (k : Kind) (below : Forest) (at : ℕ) → holds_variables k at ≡ is_within k below at && not (is_block k)
variables_within (kind.Program source) below at = refl
variables_within (kind.Function how pure) below at = and_true (not (at == 0))
variables_within kind.StaticBlock below at = refl
variables_within k below at = and_false (is_within k below at)

pub list_outside : (k : Kind) → is_list k ≡ true → (below : Forest) (at : ℕ) → is_within k below at ≡ false
list_outside kind.Statements l below at = refl
list_outside kind.Cases l below at = refl
list_outside kind.Declarators l below at = refl
list_outside kind.Parameters l below at = refl
list_outside kind.Members l below at = refl
list_outside kind.Elements l below at = refl
list_outside kind.Properties l below at = refl
list_outside kind.Expressions l below at = refl
list_outside kind.Arguments l below at = refl
list_outside kind.Quasis l below at = refl
list_outside kind.Specifiers l below at = refl
list_outside k l below at = never l

-- what a part of a node may stand for
pub plain_outside : (k : Kind) → gives_way k ≡ true → (below : Forest) (at : ℕ) → is_within k below at ≡ false
plain_outside kind.IfStatement g below at = refl
plain_outside kind.TryStatement g below at = refl
plain_outside kind.ConditionalExpression g below at = refl
plain_outside (kind.LogicalExpression operator) g below at = refl
plain_outside (kind.UnaryExpression operator) g below at = refl
plain_outside (kind.BinaryExpression operator) g below at = refl
plain_outside k g below at = never g

-- and operations
pub operation_outside : (k : Kind) → is_operation k ≡ true → (below : Forest) (at : ℕ) → is_within k below at ≡ false
operation_outside (kind.Program source) g below at = absurd cc
operation_outside (kind.Function how pure) g below at = absurd cc
operation_outside (kind.Class how) g below at = absurd cc
operation_outside kind.StaticBlock g below at = absurd cc
operation_outside (kind.PropertyDefinition is_static key) g below at = absurd cc
operation_outside kind.BlockStatement g below at = absurd cc
operation_outside kind.SwitchStatement g below at = absurd cc
operation_outside kind.WithStatement g below at = absurd cc
operation_outside kind.CatchClause g below at = absurd cc
operation_outside kind.ForStatement g below at = absurd cc
operation_outside kind.ForInStatement g below at = absurd cc
operation_outside kind.ForOfStatement g below at = absurd cc
operation_outside k g below at = refl
