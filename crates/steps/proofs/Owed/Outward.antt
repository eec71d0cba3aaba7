-- What declares no name outside of functions and classes declares none around it, in trees where functions and classes shut their
-- names off.
use Rattle.std.proofs.Common.{◌≡◌, ◌∙◌, ◌≤◌, ℕ, suc, Bool, true, false, not, ◌&&◌, ◌==◌, List, [], ◌∷◌, ◌++◌, if◌then◌else◌, nat_eq, refl, sym, ap, ap₂, subst, arith, true≢false, eqb-true}
use Rattle.std.proofs.lemmas.Bool.{false_from_ne_true}
use Rattle.js_syntax.specs.declared.node_kind.NodeKind.{NodeKind as Kind}
use Rattle.js_syntax.specs.declared.node_kind.NodeKind.TheVariants.{Program as program, Function as function, Class as class, PropertyDefinition as property_definition, StaticBlock as static_block, BlockStatement as block_statement, WithStatement as with_statement, SwitchStatement as switch_statement, CatchClause as catch_clause, ForStatement as for_statement, ForInStatement as for_in_statement, ForOfStatement as for_of_statement, VariableDeclaration as variable_declaration, ImportDeclaration as import_declaration, BindingName as binding_name}
use Rattle.js_syntax.specs.declared.kind.FunctionKind.{FunctionKind}
use Rattle.js_syntax.specs.declared.kind.FunctionKind.TheVariants as function_kind
use Rattle.js_syntax.specs.declared.kind.ClassKind.{ClassKind}
use Rattle.js_syntax.specs.declared.kind.ClassKind.TheVariants as class_kind
use Rattle.js_syntax.specs.declared.kind.VariableKind.{VariableKind}
use Rattle.js_syntax.specs.declared.kind.VariableKind.TheVariants as variable
use Rattle.js_syntax.specs.Node.{Forest, Note, nothing, node, absent}
use Rattle.js_syntax.proofs.Truth.{first_of_both, second_of_both}
use Rattle.scope_rules.specs.Context.{has_second}
use Rattle.steps.specs.Allowed.Branches.{is_handler, lets_only_at, lets_only, stays_inside_at, inside_or_parameter, inside_from, stays_inside, declares_none_at, none_or_parameter, none_from, declares_none}
use Rattle.steps.specs.Fit.Enclosed.{is_binding, is_var, inherits, passes, closed, begins_with_name, none, is_enclosed_at, is_enclosed}
use Rattle.scope_counts.specs.Counts.{Aims, no_part, aims_of_body, aims_of_block, aims_of_parameters, aims_of_variables, aims_of_function_name, aims_of_class_name, naming_in, aims_inside, named, hoisted}
use Rattle.steps.specs.Owed.Part.{DeclaresNothing}

-- ---- what is closed

-- nothing but a `var` or a name at a place that is shut may declare in the layer
record Shuts (v m : Bool) (a : Aims) : Type 0 where
  block : a.block ≡ false
  variables : a.variables ≡ true → v ≡ true
  naming : a.naming ≡ true → m ≡ true

never : {P : Type 0} → false ≡ true → P
never e = absurd (true≢false (sym e))

and_true : (b : Bool) → b ≡ true → (b && true) ≡ true
and_true b e = ap (λ c. c && true) e

module _ (v m : Bool) (a : Aims) (h : Shuts v m a) where
  in_body : Shuts (v && false) (m && true) (aims_of_body no_part a)
  in_body = record { block = refl; variables = never; naming = λ e. and_true m (h.naming e) }

  in_block : Shuts (v && true) (m && true) (aims_of_block no_part a)
  in_block = record { block = refl; variables = λ e. and_true v (h.variables e); naming = λ e. and_true m (h.naming e) }

  in_it : Shuts (v && true) (m && true) a
  in_it = record { block = h.block; variables = λ e. and_true v (h.variables e); naming = λ e. and_true m (h.naming e) }

  -- a name that declares where `let` does
  at_name : Shuts (v && true) (m && false) (naming_in a.block a)
  at_name = record { block = h.block; variables = λ e. and_true v (h.variables e); naming = λ e. never (sym h.block ∙ e) }

  at_no_name : Shuts (v && true) (m && false) (naming_in false a)
  at_no_name = record { block = h.block; variables = λ e. and_true v (h.variables e); naming = never }

  in_parameters : (b c : Bool) → Shuts b c (aims_of_parameters no_part)
  in_parameters b c = record { block = refl; variables = never; naming = never }

  function_shuts : (z o : Bool) (how : FunctionKind)
      → Shuts (v && (if z then true else false)) (m && (if z then false else if o then false else true))
      (if z then aims_of_function_name no_part a how else if o then aims_of_parameters no_part else aims_of_body no_part a)
  function_shuts true o function_kind.Declaration = at_name
  function_shuts true o how = at_no_name
  function_shuts false true how = in_parameters (v && false) (m && false)
  function_shuts false false how = in_body

  class_shuts : (z : Bool) (how : ClassKind) → Shuts (v && true) (m && (if z then false else true)) (if z then aims_of_class_name no_part a how else aims_of_block no_part a)
  class_shuts true class_kind.Declaration = at_name
  class_shuts true class_kind.Expression = at_no_name
  class_shuts false how = in_block

  catch_shuts : (z : Bool) → Shuts (v && true) (m && (if z then false else true)) (if z then naming_in false (aims_of_block no_part a) else aims_of_block no_part a)
  catch_shuts true = record { block = refl; variables = λ e. and_true v (h.variables e); naming = never }
  catch_shuts false = in_block

  block_shuts : (z : Bool) → Shuts (v && true) (m && true) (if z then aims_of_block no_part a else a)
  block_shuts true = in_block
  block_shuts false = in_it

  variable_shuts : (how : VariableKind) → not (v && is_var (variable_declaration how)) ≡ true → Shuts (v && true) (m && false) (aims_of_variables a how)
  variable_shuts variable.Var e = record { block = h.block; variables = λ f. and_true v (h.variables f); naming = λ f. never (sym (ap (λ b. not (b && true)) (h.variables f)) ∙ e) }
  variable_shuts variable.Let e = at_name
  variable_shuts variable.Const e = at_name

  inside_shuts : (k : Kind) (below : Forest) → not (v && is_var k) ≡ true → (i : ℕ) → Shuts (v && passes k i) (m && inherits k i) (aims_inside no_part a k below i)
  inside_shuts (program source) below e i = in_body
  inside_shuts (function how pure) below e i = function_shuts (i == 0) (i == 1) how
  inside_shuts (class how) below e i = class_shuts (i == 0) how
  inside_shuts static_block below e i = in_body
  inside_shuts (property_definition is_static key) below e i = block_shuts (has_second below && i == 1)
  inside_shuts block_statement below e i = in_block
  inside_shuts switch_statement below e i = block_shuts (i == 1)
  inside_shuts with_statement below e i = block_shuts (i == 1)
  inside_shuts catch_clause below e i = catch_shuts (i == 0)
  inside_shuts for_statement below e i = in_block
  inside_shuts for_in_statement below e i = in_block
  inside_shuts for_of_statement below e i = in_block
  inside_shuts (variable_declaration how) below e i = variable_shuts how e
  inside_shuts (import_declaration source) below e i = at_name
  inside_shuts k below e i = in_it

  no_name : (n : Note) (k : Kind) → not (m && is_binding k) ≡ true → named a n k ≡ []
  no_name n (binding_name x) e = go a.naming refl
    where
      go : (b : Bool) → a.naming ≡ b → named a n (binding_name x) ≡ []
      go true f = never (sym (ap (λ b. not (b && true)) (h.naming f)) ∙ e)
      go false f = ap (λ b. if b then record { name = x; symbol = n.id } ∷ [] else []) f
  no_name n k e = refl

three_empty : {X : Type 0} (xs ys zs : List X) → xs ≡ [] → ys ≡ [] → zs ≡ [] → xs ++ ys ++ zs ≡ []
three_empty xs ys zs e f g = ap₂ (λ ds es. ds ++ es) (ap₂ (λ ds es. ds ++ es) e f) g

closed_declares : (vars names : ℕ → Bool) (aims : ℕ → Aims) (at : ℕ) (t : Forest) → ((i : ℕ) → at ≤ i → Shuts (vars i) (names i) (aims i)) → closed vars names at t ≡ true → hoisted aims at t ≡ []
closed_declares vars names aims at nothing h e = refl
closed_declares vars names aims at (absent rest) h e = closed_declares vars names aims (suc at) rest (λ i l. h i (Prim.omega (arith, l))) e
closed_declares vars names aims at (node k n below rest) h e =
    let inner = closed (λ i. vars at && passes k i) (λ i. names at && inherits k i) 0 below in
    let later = closed vars names (suc at) rest in
    let here = h at (Prim.omega arith) in
    let e_var = second_of_both (not (names at && is_binding k)) (not (vars at && is_var k) && (inner && later)) e in
    let e_below = second_of_both (not (vars at && is_var k)) (inner && later) e_var in
    three_empty (named (aims at) n k) (hoisted (aims_inside no_part (aims at) k below) 0 below) (hoisted aims (suc at) rest)
    (no_name (vars at) (names at) (aims at) here n k (first_of_both (not (names at && is_binding k)) (not (vars at && is_var k) && (inner && later)) e))
    (closed_declares (λ i. vars at && passes k i) (λ i. names at && inherits k i) (aims_inside no_part (aims at) k below) 0 below
    (λ i l. inside_shuts (vars at) (names at) (aims at) here k below (first_of_both (not (vars at && is_var k)) (inner && later) e_var) i) (first_of_both inner later e_below))
    (closed_declares vars names aims (suc at) rest (λ i l. h i (Prim.omega (arith, l))) (second_of_both inner later e_below))

-- ---- functions and classes

behind_is : (vars names : ℕ → Bool) (k : Kind) (n : Note) (below rest : Forest) → closed vars names 0 (node k n below rest) ≡ true → closed vars names 1 rest ≡ true
behind_is vars names k n below rest e =
    let inner = closed (λ i. vars 0 && passes k i) (λ i. names 0 && inherits k i) 0 below in
    let later = closed vars names 1 rest in
    second_of_both inner later (second_of_both (not (vars 0 && is_var k)) (inner && later) (second_of_both (not (names 0 && is_binding k)) (not (vars 0 && is_var k) && (inner && later)) e))

-- a row that begins with a name, or with none, which declares elsewhere
named_first : (vars names : ℕ → Bool) (aims : ℕ → Aims) (t : Forest) → (aims 0).naming ≡ false → ((i : ℕ) → 1 ≤ i → Shuts (vars i) (names i) (aims i)) → begins_with_name t ≡ true
    → closed vars names 0 t ≡ true → hoisted aims 0 t ≡ []
named_first vars names aims nothing unnamed h b e = refl
named_first vars names aims (absent rest) unnamed h b e = closed_declares vars names aims 1 rest h e
named_first vars names aims (node (binding_name x) n nothing rest) unnamed h b e =
    three_empty (named (aims 0) n (binding_name x)) [] (hoisted aims 1 rest) (ap (λ c. if c then record { name = x; symbol = n.id } ∷ [] else []) unnamed) refl
    (closed_declares vars names aims 1 rest h (behind_is vars names (binding_name x) n nothing rest e))
named_first vars names aims (node (binding_name x) n (node l m d c) rest) unnamed h b e = absurd (true≢false (sym b))
named_first vars names aims (node (binding_name x) n (absent c) rest) unnamed h b e = absurd (true≢false (sym b))
named_first vars names aims (node k n below rest) unnamed h b e = absurd cc

pub not_first : (i : ℕ) → 1 ≤ i → (i == 0) ≡ false
not_first i h = false_from_ne_true (nat_eq i 0) (λ e. Prim.omega (arith, h, eqb-true i 0 e))

function_inside : (a : Aims) (how : FunctionKind) (z o : Bool) → z ≡ false
    → Shuts false (if z then false else if o then false else true) (if z then aims_of_function_name no_part a how else if o then aims_of_parameters no_part else aims_of_body no_part a)
function_inside a how true o e = absurd (true≢false e)
function_inside a how false true e = record { block = refl; variables = never; naming = never }
function_inside a how false false e = record { block = refl; variables = never; naming = λ f. refl }

class_inside : (a : Aims) (how : ClassKind) (z : Bool) → z ≡ false
    → Shuts (if z then false else true) (if z then false else true) (if z then aims_of_class_name no_part a how else aims_of_block no_part a)
class_inside a how true e = absurd (true≢false e)
class_inside a how false e = record { block = refl; variables = λ f. refl; naming = λ f. refl }

function_declares : (a : Aims) (how : FunctionKind) (pure : Bool) (below : Forest) → (aims_of_function_name no_part a how).naming ≡ false
    → is_enclosed_at (function how pure) below ≡ true → hoisted (aims_inside no_part a (function how pure) below) 0 below ≡ []
function_declares a how pure below unnamed e =
    named_first none (inherits (function how pure)) (aims_inside no_part a (function how pure) below) below unnamed (λ i h. function_inside a how (i == 0) (i == 1) (not_first i h))
    (first_of_both (begins_with_name below) (closed none (inherits (function how pure)) 0 below) e) (second_of_both (begins_with_name below) (closed none (inherits (function how pure)) 0 below) e)

class_declares : (a : Aims) (how : ClassKind) (below : Forest) → (aims_of_class_name no_part a how).naming ≡ false → is_enclosed_at (class how) below ≡ true
    → hoisted (aims_inside no_part a (class how) below) 0 below ≡ []
class_declares a how below unnamed e =
    let shut = inherits (class how) in
    named_first shut shut (aims_inside no_part a (class how) below) below unnamed (λ i h. class_inside a how (i == 0) (not_first i h))
    (first_of_both (begins_with_name below) (closed shut shut 0 below) e) (second_of_both (begins_with_name below) (closed shut shut 0 below) e)

-- ---- where a name declares what `let` does

-- neither a name nor what declares as `let` does declares in the layer
pub record Unaimed (a : Aims) : Type 0 where
  pub block : a.block ≡ false
  pub naming : a.naming ≡ false

module _ (a : Aims) (h : Unaimed a) where
  unaimed_part : (z : Bool) → Unaimed (if z then aims_of_block no_part a else a)
  unaimed_part true = record { block = refl; naming = h.naming }
  unaimed_part false = h

  unaimed_parameter : (z : Bool) → Unaimed (if z then naming_in false (aims_of_block no_part a) else aims_of_block no_part a)
  unaimed_parameter true = record { block = refl; naming = refl }
  unaimed_parameter false = record { block = refl; naming = h.naming }

  unaimed_function : (how : FunctionKind) (z o : Bool) → Unaimed (if z then aims_of_function_name no_part a how else if o then aims_of_parameters no_part else aims_of_body no_part a)
  unaimed_function function_kind.Declaration true o = record { block = h.block; naming = h.block }
  unaimed_function how true o = record { block = h.block; naming = refl }
  unaimed_function how false true = record { block = refl; naming = refl }
  unaimed_function how false false = record { block = refl; naming = h.naming }

  unaimed_class : (how : ClassKind) (z : Bool) → Unaimed (if z then aims_of_class_name no_part a how else aims_of_block no_part a)
  unaimed_class class_kind.Declaration true = record { block = h.block; naming = h.block }
  unaimed_class class_kind.Expression true = record { block = h.block; naming = refl }
  unaimed_class how false = record { block = refl; naming = h.naming }

  unaimed_inside : (k : Kind) (below : Forest) → lets_only_at k (lets_only below) ≡ true → (i : ℕ) → Unaimed (aims_inside no_part a k below i)
  unaimed_inside (program source) below l i = record { block = refl; naming = h.naming }
  unaimed_inside (function how pure) below l i = unaimed_function how (i == 0) (i == 1)
  unaimed_inside (class how) below l i = unaimed_class how (i == 0)
  unaimed_inside static_block below l i = record { block = refl; naming = h.naming }
  unaimed_inside (property_definition is_static key) below l i = unaimed_part (has_second below && i == 1)
  unaimed_inside block_statement below l i = record { block = refl; naming = h.naming }
  unaimed_inside switch_statement below l i = unaimed_part (i == 1)
  unaimed_inside with_statement below l i = unaimed_part (i == 1)
  unaimed_inside catch_clause below l i = unaimed_parameter (i == 0)
  unaimed_inside for_statement below l i = record { block = refl; naming = h.naming }
  unaimed_inside for_in_statement below l i = record { block = refl; naming = h.naming }
  unaimed_inside for_of_statement below l i = record { block = refl; naming = h.naming }
  unaimed_inside (variable_declaration how) below l i = absurd (true≢false (sym l))
  unaimed_inside (import_declaration source) below l i = record { block = h.block; naming = h.block }
  unaimed_inside k below l i = h

  let_declares : (k : Kind) (n : Note) (below : Forest) → lets_only_at k (lets_only below) ≡ true → is_enclosed_at k below ≡ true
      → (lets_only below ≡ true → (aims : ℕ → Aims) → ((i : ℕ) → Unaimed (aims i)) → hoisted aims 0 below ≡ [])
      → named a n k ++ hoisted (aims_inside no_part a k below) 0 below ≡ []
  let_declares (binding_name x) n below l e inner = ap₂ (λ ds es. ds ++ es) (ap (λ c. if c then record { name = x; symbol = n.id } ∷ [] else []) h.naming) (inner l (aims_inside no_part a (binding_name x) below) (λ i. h))
  let_declares (variable_declaration how) n below l e inner = absurd (true≢false (sym l))
  let_declares (function function_kind.Declaration pure) n below l e inner = absurd (true≢false (sym l))
  let_declares (function function_kind.Expression pure) n below l e inner = function_declares a function_kind.Expression pure below refl e
  let_declares (function function_kind.Arrow pure) n below l e inner = function_declares a function_kind.Arrow pure below refl e
  let_declares (class class_kind.Declaration) n below l e inner = absurd (true≢false (sym l))
  let_declares (class class_kind.Expression) n below l e inner = class_declares a class_kind.Expression below refl e
  let_declares k n below l e inner = inner l (aims_inside no_part a k below) (unaimed_inside k below l)

pub lets_declare : (t : Forest) → lets_only t ≡ true → is_enclosed t ≡ true → (aims : ℕ → Aims) → ((i : ℕ) → Unaimed (aims i)) → (at : ℕ) → hoisted aims at t ≡ []
lets_declare nothing l e aims h at = refl
lets_declare (absent rest) l e aims h at = lets_declare rest l e aims h (suc at)
lets_declare (node k n below rest) l e aims h at =
    let e_below = second_of_both (is_enclosed_at k below) (is_enclosed below && is_enclosed rest) e in
    ap₂ (λ ds es. ds ++ es)
    (let_declares (aims at) (h at) k n below (first_of_both (lets_only_at k (lets_only below)) (lets_only rest) l)
    (first_of_both (is_enclosed_at k below) (is_enclosed below && is_enclosed rest) e)
    (λ g f u. lets_declare below g (first_of_both (is_enclosed below) (is_enclosed rest) e_below) f u 0))
    (lets_declare rest (second_of_both (lets_only_at k (lets_only below)) (lets_only rest) l) (second_of_both (is_enclosed below) (is_enclosed rest) e_below) aims h (suc at))

-- a handler's parameter declares in the handler's own layer
parameter_unaimed : (a : Aims) (k : Kind) (below : Forest) → is_handler k ≡ true → Unaimed (aims_inside no_part a k below 0)
parameter_unaimed a catch_clause below h = record { block = refl; naming = refl }
parameter_unaimed a k below h = never h

-- ---- in a block, which has a layer of its own

abbrev pub Apart : Aims → Type 0
Apart a = a.block ≡ false

module _ (a : Aims) (h : Apart a) where
  apart_part : (z : Bool) → Apart (if z then aims_of_block no_part a else a)
  apart_part true = refl
  apart_part false = h

  apart_parameter : (z : Bool) → Apart (if z then naming_in false (aims_of_block no_part a) else aims_of_block no_part a)
  apart_parameter true = refl
  apart_parameter false = refl

  apart_function : (how : FunctionKind) (z o : Bool) → Apart (if z then aims_of_function_name no_part a how else if o then aims_of_parameters no_part else aims_of_body no_part a)
  apart_function function_kind.Declaration true o = h
  apart_function how true o = h
  apart_function how false true = refl
  apart_function how false false = refl

  apart_class : (how : ClassKind) (z : Bool) → Apart (if z then aims_of_class_name no_part a how else aims_of_block no_part a)
  apart_class class_kind.Declaration true = h
  apart_class class_kind.Expression true = h
  apart_class how false = refl

  apart_variables : (how : VariableKind) → Apart (aims_of_variables a how)
  apart_variables variable.Var = h
  apart_variables variable.Let = h
  apart_variables variable.Const = h

  pub apart_inside : (k : Kind) (below : Forest) (i : ℕ) → Apart (aims_inside no_part a k below i)
  apart_inside (program source) below i = refl
  apart_inside (function how pure) below i = apart_function how (i == 0) (i == 1)
  apart_inside (class how) below i = apart_class how (i == 0)
  apart_inside static_block below i = refl
  apart_inside (property_definition is_static key) below i = apart_part (has_second below && i == 1)
  apart_inside block_statement below i = refl
  apart_inside switch_statement below i = apart_part (i == 1)
  apart_inside with_statement below i = apart_part (i == 1)
  apart_inside catch_clause below i = apart_parameter (i == 0)
  apart_inside for_statement below i = refl
  apart_inside for_in_statement below i = refl
  apart_inside for_of_statement below i = refl
  apart_inside (variable_declaration how) below i = apart_variables how
  apart_inside (import_declaration source) below i = h
  apart_inside k below i = h

  inside_declares : (k : Kind) (n : Note) (below : Forest) → stays_inside_at k (lets_only below) (inside_from (is_handler k) below) ≡ true → is_enclosed_at k below ≡ true
      → (lets_only below ≡ true → (aims : ℕ → Aims) → ((i : ℕ) → Unaimed (aims i)) → hoisted aims 0 below ≡ [])
      → (inside_from (is_handler k) below ≡ true → (aims : ℕ → Aims) → ((i : ℕ) → Apart (aims i)) → (is_handler k ≡ true → Unaimed (aims 0)) → hoisted aims 0 below ≡ [])
      → named a n k ++ hoisted (aims_inside no_part a k below) 0 below ≡ []
  inside_declares (binding_name x) n below l e lets inner = absurd (true≢false (sym l))
  inside_declares (variable_declaration variable.Var) n below l e lets inner = absurd (true≢false (sym l))
  inside_declares (variable_declaration variable.Let) n below l e lets inner = lets l (aims_inside no_part a (variable_declaration variable.Let) below) (λ i. record { block = h; naming = h })
  inside_declares (variable_declaration variable.Const) n below l e lets inner = lets l (aims_inside no_part a (variable_declaration variable.Const) below) (λ i. record { block = h; naming = h })
  inside_declares (function function_kind.Declaration pure) n below l e lets inner = absurd (true≢false (sym l))
  inside_declares (function function_kind.Expression pure) n below l e lets inner = function_declares a function_kind.Expression pure below refl e
  inside_declares (function function_kind.Arrow pure) n below l e lets inner = function_declares a function_kind.Arrow pure below refl e
  inside_declares (class class_kind.Declaration) n below l e lets inner = class_declares a class_kind.Declaration below h e
  inside_declares (class class_kind.Expression) n below l e lets inner = class_declares a class_kind.Expression below refl e
  inside_declares k n below l e lets inner = inner l (aims_inside no_part a k below) (apart_inside k below) (parameter_unaimed a k below)

  -- a node, or a handler's parameter
  first_declares : (p : Bool) (k : Kind) (n : Note) (below : Forest) → (p ≡ true → Unaimed a) → inside_or_parameter p k (lets_only below) (inside_from (is_handler k) below) ≡ true → is_enclosed_at k below ≡ true
      → (lets_only below ≡ true → (aims : ℕ → Aims) → ((i : ℕ) → Unaimed (aims i)) → hoisted aims 0 below ≡ [])
      → (inside_from (is_handler k) below ≡ true → (aims : ℕ → Aims) → ((i : ℕ) → Apart (aims i)) → (is_handler k ≡ true → Unaimed (aims 0)) → hoisted aims 0 below ≡ [])
      → named a n k ++ hoisted (aims_inside no_part a k below) 0 below ≡ []
  first_declares true k n below u l e lets inner = let_declares a (u refl) k n below l e lets
  first_declares false k n below u l e lets inner = inside_declares k n below l e lets inner

pub insides_declare : (p : Bool) (t : Forest) → inside_from p t ≡ true → is_enclosed t ≡ true → (aims : ℕ → Aims) → ((i : ℕ) → Apart (aims i)) → (at : ℕ) → (p ≡ true → Unaimed (aims at)) → hoisted aims at t ≡ []
insides_declare p nothing l e aims h at u = refl
insides_declare p (absent rest) l e aims h at u = insides_declare false rest l e aims h (suc at) never
insides_declare p (node k n below rest) l e aims h at u =
    let here = inside_or_parameter p k (lets_only below) (inside_from (is_handler k) below) in
    let e_below = second_of_both (is_enclosed_at k below) (is_enclosed below && is_enclosed rest) e in
    let enclosed_inside = first_of_both (is_enclosed below) (is_enclosed rest) e_below in
    ap₂ (λ ds es. ds ++ es)
    (first_declares (aims at) (h at) p k n below u (first_of_both here (stays_inside rest) l) (first_of_both (is_enclosed_at k below) (is_enclosed below && is_enclosed rest) e)
    (λ g f v. lets_declare below g enclosed_inside f v 0)
    (λ g f v w. insides_declare (is_handler k) below g enclosed_inside f v 0 w))
    (insides_declare false rest (second_of_both here (stays_inside rest) l) (second_of_both (is_enclosed below) (is_enclosed rest) e_below) aims h (suc at) never)

-- ---- trees

node_declares : (a : Aims) (k : Kind) (n : Note) (below : Forest) → declares_none_at k (stays_inside below) (none_from (is_handler k) below) ≡ true → is_enclosed_at k below ≡ true
    → (stays_inside below ≡ true → (aims : ℕ → Aims) → ((i : ℕ) → Apart (aims i)) → hoisted aims 0 below ≡ [])
    → (none_from (is_handler k) below ≡ true → (aims : ℕ → Aims) → (is_handler k ≡ true → Unaimed (aims 0)) → hoisted aims 0 below ≡ [])
    → named a n k ++ hoisted (aims_inside no_part a k below) 0 below ≡ []
node_declares a (binding_name x) n below h e inside inner = absurd (true≢false (sym h))
node_declares a (variable_declaration variable.Var) n below h e inside inner = absurd (true≢false (sym h))
node_declares a (function function_kind.Declaration pure) n below h e inside inner = absurd (true≢false (sym h))
node_declares a (function function_kind.Expression pure) n below h e inside inner = function_declares a function_kind.Expression pure below refl e
node_declares a (function function_kind.Arrow pure) n below h e inside inner = function_declares a function_kind.Arrow pure below refl e
node_declares a (class class_kind.Declaration) n below h e inside inner = absurd (true≢false (sym h))
node_declares a (class class_kind.Expression) n below h e inside inner = class_declares a class_kind.Expression below refl e
node_declares a block_statement n below h e inside inner = inside h (aims_inside no_part a block_statement below) (λ i. refl)
node_declares a for_statement n below h e inside inner = inside h (aims_inside no_part a for_statement below) (λ i. refl)
node_declares a for_in_statement n below h e inside inner = inside h (aims_inside no_part a for_in_statement below) (λ i. refl)
node_declares a for_of_statement n below h e inside inner = inside h (aims_inside no_part a for_of_statement below) (λ i. refl)
node_declares a k n below h e inside inner = inner h (aims_inside no_part a k below) (parameter_unaimed a k below)

-- a node, or a handler's parameter
one_declares : (a : Aims) (p : Bool) (k : Kind) (n : Note) (below : Forest) → (p ≡ true → Unaimed a) → none_or_parameter p k (lets_only below) (stays_inside below) (none_from (is_handler k) below) ≡ true → is_enclosed_at k below ≡ true
    → (lets_only below ≡ true → (aims : ℕ → Aims) → ((i : ℕ) → Unaimed (aims i)) → hoisted aims 0 below ≡ [])
    → (stays_inside below ≡ true → (aims : ℕ → Aims) → ((i : ℕ) → Apart (aims i)) → hoisted aims 0 below ≡ [])
    → (none_from (is_handler k) below ≡ true → (aims : ℕ → Aims) → (is_handler k ≡ true → Unaimed (aims 0)) → hoisted aims 0 below ≡ [])
    → named a n k ++ hoisted (aims_inside no_part a k below) 0 below ≡ []
one_declares a true k n below u h e lets inside inner = let_declares a (u refl) k n below h e lets
one_declares a false k n below u h e lets inside inner = node_declares a k n below h e inside inner

pub row_declares : (p : Bool) (t : Forest) → none_from p t ≡ true → is_enclosed t ≡ true → (aims : ℕ → Aims) (at : ℕ) → (p ≡ true → Unaimed (aims at)) → hoisted aims at t ≡ []
row_declares p nothing h e aims at u = refl
row_declares p (absent rest) h e aims at u = row_declares false rest h e aims (suc at) never
row_declares p (node k n below rest) h e aims at u =
    let here = none_or_parameter p k (lets_only below) (stays_inside below) (none_from (is_handler k) below) in
    let e_below = second_of_both (is_enclosed_at k below) (is_enclosed below && is_enclosed rest) e in
    let enclosed_inside = first_of_both (is_enclosed below) (is_enclosed rest) e_below in
    ap₂ (λ ds es. ds ++ es)
    (one_declares (aims at) p k n below u (first_of_both here (declares_none rest) h) (first_of_both (is_enclosed_at k below) (is_enclosed below && is_enclosed rest) e)
    (λ g f v. lets_declare below g enclosed_inside f v 0)
    (λ g f v. insides_declare false below g enclosed_inside f v 0 never)
    (λ g f w. row_declares (is_handler k) below g enclosed_inside f 0 w))
    (row_declares false rest (second_of_both here (declares_none rest) h) (second_of_both (is_enclosed below) (is_enclosed rest) e_below) aims (suc at) never)

pub declares_nothing : (t : Forest) → declares_none t ≡ true → is_enclosed t ≡ true → DeclaresNothing t
declares_nothing t h e aims at = row_declares false t h e aims at never

-- of a node that declares nothing in front of what declares nothing
pub declares_row : (k : Kind) (n : Note) (a t : Forest) → DeclaresNothing (node k n a nothing) → DeclaresNothing t → DeclaresNothing (node k n a t)
declares_row k n a t h g = λ aims at. subst (λ ds. named (aims at) n k ++ hoisted (aims_inside no_part (aims at) k a) 0 a ++ ds ≡ []) (sym (g aims (suc at))) (h aims at)
