-- What a context says of one layer.
use Rattle.std.proofs.Common.{◌≡◌, ◌∙◌, ℕ, suc, List, [], ◌∷◌, ◌++◌, map, Bool, true, false, ◌&&◌, ◌||◌, ◌==◌, nat_eq, true≢false, if◌then◌else◌, refl, sym, ap, ap₂, arith, eq-eqb, eqb-true}
use Rattle.std.proofs.lemmas.Bool.{false_from_ne_true}
use Rattle.js_syntax.specs.declared.node_kind.NodeKind.{NodeKind as Kind}
use Rattle.js_syntax.specs.declared.node_kind.NodeKind.TheVariants.{Program as program, Function as function, Class as class, MethodDefinition as method_definition, PropertyDefinition as property_definition, StaticBlock as static_block, BlockStatement as block_statement, WithStatement as with_statement, SwitchStatement as switch_statement, CatchClause as catch_clause, ForStatement as for_statement, ForInStatement as for_in_statement, ForOfStatement as for_of_statement, VariableDeclaration as variable_declaration, AssignmentExpression as assignment_expression, MemberExpression as member_expression, TargetProperty as target_property, TargetDefault as target_default}
use Rattle.js_syntax.specs.Node.{Forest}
use Rattle.js_syntax.specs.declared.kind.FunctionKind.{FunctionKind}
use Rattle.js_syntax.specs.declared.kind.FunctionKind.TheVariants as function_kind
use Rattle.js_syntax.specs.declared.kind.ClassKind.{ClassKind}
use Rattle.js_syntax.specs.declared.kind.ClassKind.TheVariants as class_kind
use Rattle.js_syntax.specs.declared.kind.MethodKind.{MethodKind}
use Rattle.js_syntax.specs.declared.kind.MethodKind.TheVariants as method_kind
use Rattle.js_syntax.specs.declared.kind.VariableKind.{VariableKind}
use Rattle.js_syntax.specs.declared.kind.VariableKind.TheVariants as variable_kind
use Rattle.form_rules.specs.Context.{is_strict_function}
use Rattle.scope_rules.specs.declared.layer.Layer.{Layer}
use Rattle.scope_rules.specs.declared.layer.Part.{Part}
use Rattle.scope_rules.specs.declared.layer.Part.TheVariants.{Body as body}
use Rattle.scope_rules.specs.declared.layer.Role.TheVariants.{Write as write}
use Rattle.scope_rules.specs.Context.{Context, has_second, opens, in_block, below_it, used, role_of, role_of_object, of_method, declares, body_of, in_variables, at_function_name, at_class_name, at_parameters, in_function, layers_of_parameters, inside}
use Rattle.scope_rules.specs.Binding.{same_part, same_layer}
use Rattle.scope_counts.specs.Counts.{Aims, nowhere_near, Own, no_part, this_part, naming_in, aims_of_body, aims_of_block, aims_of_parameters, aims_of_variables, aims_of_function_name, aims_of_class_name, aims_inside, parts_of_parameters, parts_in}

abbrev pub aims_at : Layer → Context → Aims
aims_at l c = record { variables = same_layer c.variables l; block = same_layer c.block l; naming = same_layer c.declaring.layer l }

abbrev pub part_of : ℕ → Part → Layer
part_of scope p = record { scope = scope; part = p }

-- which part of the scope with this number the layer is
abbrev pub own_part : ℕ → Layer → Own
own_part scope l = λ q. same_layer (part_of scope q) l

both : {X : Type 0} (f : Context → X) (b : Bool) (c d : Context) (x y : X) → f c ≡ x → f d ≡ y → f (if b then c else d) ≡ (if b then x else y)
both f true c d x y e h = e
both f false c d x y e h = h

either : {X : Type 0} (f : Context → X) (b : Bool) (c d : Context) (x : X) → f c ≡ x → f d ≡ x → f (if b then c else d) ≡ x
either f true c d x e h = e
either f false c d x e h = h

variables_aim : (l : Layer) (c : Context) (how : VariableKind) → aims_at l (in_variables c how) ≡ aims_of_variables (aims_at l c) how
variables_aim l c variable_kind.Var = refl
variables_aim l c variable_kind.Let = refl
variables_aim l c variable_kind.Const = refl

function_name_aims : (l : Layer) (c : Context) (n : ℕ) (how : FunctionKind) (pure : Bool) → aims_at l (at_function_name c n how pure) ≡ aims_of_function_name (own_part n l) (aims_at l c) how
function_name_aims l c n function_kind.Declaration pure = refl
function_name_aims l c n how pure = refl

class_name_aims : (l : Layer) (c : Context) (n : ℕ) (how : ClassKind) → aims_at l (at_class_name c n how) ≡ aims_of_class_name (own_part n l) (aims_at l c) how
class_name_aims l c n class_kind.Declaration = refl
class_name_aims l c n class_kind.Expression = refl

method_aims : (l : Layer) (c : Context) (how : MethodKind) → aims_at l (of_method c how) ≡ aims_at l c
method_aims l c method_kind.Constructor = refl
method_aims l c how = refl

pub aims_in : (l : Layer) (c : Context) (n : ℕ) (k : Kind) (t : Forest) (at : ℕ) → aims_at l (inside c n k t at) ≡ aims_inside (own_part n l) (aims_at l c) k t at
aims_in l c n (function how pure) t at =
    let s = c.strict || is_strict_function t in
    both (aims_at l) (at == 0) (at_function_name c n how pure) (if at == 1 then at_parameters c n how s else in_function c n how s) (aims_of_function_name (own_part n l) (aims_at l c) how)
    (if at == 1 then aims_of_parameters (own_part n l) else aims_of_body (own_part n l) (aims_at l c)) (function_name_aims l c n how pure)
    (both (aims_at l) (at == 1) (at_parameters c n how s) (in_function c n how s) (aims_of_parameters (own_part n l)) (aims_of_body (own_part n l) (aims_at l c)) refl refl)
aims_in l c n (class how) t at =
    both (aims_at l) (at == 0) (at_class_name c n how) (in_block c n true) (aims_of_class_name (own_part n l) (aims_at l c) how) (aims_of_block (own_part n l) (aims_at l c)) (class_name_aims l c n how) refl
aims_in l c n (property_definition is_static key) t at = both (aims_at l) (has_second t && at == 1) (in_block c n c.strict) (below_it c) (aims_of_block (own_part n l) (aims_at l c)) (aims_at l c) refl refl
aims_in l c n switch_statement t at = both (aims_at l) (at == 1) (in_block c n c.strict) (below_it c) (aims_of_block (own_part n l) (aims_at l c)) (aims_at l c) refl refl
aims_in l c n with_statement t at = both (aims_at l) (at == 1) (in_block c n c.strict) (below_it c) (aims_of_block (own_part n l) (aims_at l c)) (aims_at l c) refl refl
aims_in l c n catch_clause t at =
    both (aims_at l) (at == 0) (declares (in_block c n c.strict) (body_of n) 16 false) (in_block c n c.strict) (naming_in (same_layer (body_of n) l) (aims_of_block (own_part n l) (aims_at l c))) (aims_of_block (own_part n l) (aims_at l c)) refl refl
aims_in l c n for_in_statement t at = either (aims_at l) (at == 0) (used write (in_block c n c.strict)) (in_block c n c.strict) (aims_of_block (own_part n l) (aims_at l c)) refl refl
aims_in l c n for_of_statement t at = either (aims_at l) (at == 0) (used write (in_block c n c.strict)) (in_block c n c.strict) (aims_of_block (own_part n l) (aims_at l c)) refl refl
aims_in l c n (method_definition how is_static key) t at = either (aims_at l) (at == 1) (of_method c how) (below_it c) (aims_at l c) (method_aims l c how) refl
aims_in l c n (variable_declaration how) t at = variables_aim l c how
aims_in l c n (assignment_expression operator) t at = either (aims_at l) (at == 0) (used (role_of operator) c) (below_it c) (aims_at l c) refl refl
aims_in l c n (member_expression key optional) t at = either (aims_at l) (at == 0) (used (role_of_object c.role) c) (below_it c) (aims_at l c) refl refl
aims_in l c n (target_property key) t at = either (aims_at l) (at == 1) (used write c) (below_it c) (aims_at l c) refl refl
aims_in l c n target_default t at = either (aims_at l) (at == 0) (used write c) (below_it c) (aims_at l c) refl refl
aims_in l c n k t at = refl

-- ---- layers around

abbrev pub around_it : ℕ → List Part → Context → List Layer
around_it n ps c = map (part_of n) ps ++ c.layers

of_parameters : (n : ℕ) (how : FunctionKind) (c : Context) → layers_of_parameters how n c.layers ≡ around_it n (parts_of_parameters how) c
of_parameters n function_kind.Expression c = refl
of_parameters n how c = refl

function_name_layers : (c : Context) (n : ℕ) (how : FunctionKind) (pure : Bool) → (at_function_name c n how pure).layers ≡ c.layers
function_name_layers c n function_kind.Declaration pure = refl
function_name_layers c n how pure = refl

class_name_layers : (c : Context) (n : ℕ) (how : ClassKind) → (at_class_name c n how).layers ≡ c.layers
class_name_layers c n class_kind.Declaration = refl
class_name_layers c n class_kind.Expression = refl

variables_layers : (c : Context) (how : VariableKind) → (in_variables c how).layers ≡ c.layers
variables_layers c variable_kind.Var = refl
variables_layers c variable_kind.Let = refl
variables_layers c variable_kind.Const = refl

method_layers : (c : Context) (how : MethodKind) → (of_method c how).layers ≡ c.layers
method_layers c method_kind.Constructor = refl
method_layers c how = refl

abbrev layers_at : Context → List Layer
layers_at c = c.layers

if_parts : (n : ℕ) (b : Bool) (c d e : Context) (ps qs : List Part) → d.layers ≡ around_it n ps c → e.layers ≡ around_it n qs c → (if b then d else e).layers ≡ around_it n (if b then ps else qs) c
if_parts n true c d e ps qs h j = h
if_parts n false c d e ps qs h j = j

pub layers_in_it : (c : Context) (n : ℕ) (k : Kind) (t : Forest) (at : ℕ) → (inside c n k t at).layers ≡ around_it n (parts_in k t at) c
layers_in_it c n (function how pure) t at =
    let s = c.strict || is_strict_function t in
    if_parts n (at == 0) c (at_function_name c n how pure) (if at == 1 then at_parameters c n how s else in_function c n how s) [] (if at == 1 then parts_of_parameters how else body ∷ parts_of_parameters how) (function_name_layers c n how pure)
    (if_parts n (at == 1) c (at_parameters c n how s) (in_function c n how s) (parts_of_parameters how) (body ∷ parts_of_parameters how) (of_parameters n how c) (ap (λ ls. body_of n ∷ ls) (of_parameters n how c)))
layers_in_it c n (class how) t at = if_parts n (at == 0) c (at_class_name c n how) (in_block c n true) [] (body ∷ []) (class_name_layers c n how) refl
layers_in_it c n (property_definition is_static key) t at = if_parts n (has_second t && at == 1) c (in_block c n c.strict) (below_it c) (body ∷ []) [] refl refl
layers_in_it c n switch_statement t at = if_parts n (at == 1) c (in_block c n c.strict) (below_it c) (body ∷ []) [] refl refl
layers_in_it c n with_statement t at = if_parts n (at == 1) c (in_block c n c.strict) (below_it c) (body ∷ []) [] refl refl
layers_in_it c n catch_clause t at = either layers_at (at == 0) (declares (in_block c n c.strict) (body_of n) 16 false) (in_block c n c.strict) (body_of n ∷ c.layers) refl refl
layers_in_it c n for_in_statement t at = either layers_at (at == 0) (used write (in_block c n c.strict)) (in_block c n c.strict) (body_of n ∷ c.layers) refl refl
layers_in_it c n for_of_statement t at = either layers_at (at == 0) (used write (in_block c n c.strict)) (in_block c n c.strict) (body_of n ∷ c.layers) refl refl
layers_in_it c n (method_definition how is_static key) t at = either layers_at (at == 1) (of_method c how) (below_it c) c.layers (method_layers c how) refl
layers_in_it c n (variable_declaration how) t at = variables_layers c how
layers_in_it c n (assignment_expression operator) t at = either layers_at (at == 0) (used (role_of operator) c) (below_it c) c.layers refl refl
layers_in_it c n (member_expression key optional) t at = either layers_at (at == 0) (used (role_of_object c.role) c) (below_it c) c.layers refl refl
layers_in_it c n (target_property key) t at = either layers_at (at == 1) (used write c) (below_it c) c.layers refl refl
layers_in_it c n target_default t at = either layers_at (at == 0) (used write c) (below_it c) c.layers refl refl
layers_in_it c n k t at = refl

-- a node that makes no scope puts no layer around what lies below it
pub no_parts : (k : Kind) (t : Forest) → opens k t ≡ false → (at : ℕ) → parts_in k t at ≡ []
no_parts (program source) t e at = absurd (true≢false e)
no_parts (function how pure) t e at = absurd (true≢false e)
no_parts (class how) t e at = absurd (true≢false e)
no_parts static_block t e at = absurd (true≢false e)
no_parts block_statement t e at = absurd (true≢false e)
no_parts for_statement t e at = absurd (true≢false e)
no_parts for_in_statement t e at = absurd (true≢false e)
no_parts for_of_statement t e at = absurd (true≢false e)
no_parts switch_statement t e at = absurd (true≢false e)
no_parts catch_clause t e at = absurd (true≢false e)
no_parts with_statement t e at = absurd (true≢false e)
no_parts (property_definition is_static key) t e at = ap (λ b. if b && at == 1 then body ∷ [] else []) e
no_parts k t e at = refl

-- ---- layers that nothing here declares in

if_same : (b : Bool) (a : Aims) (x y : Aims) → x ≡ a → y ≡ a → (if b then x else y) ≡ a
if_same true a x y e h = e
if_same false a x y e h = h

quiet : (k : Kind) (t : Forest) (at : ℕ) → aims_inside no_part nowhere_near k t at ≡ nowhere_near
quiet (function function_kind.Declaration pure) t at = if_same (at == 0) nowhere_near nowhere_near (if at == 1 then nowhere_near else nowhere_near) refl (if_same (at == 1) nowhere_near nowhere_near nowhere_near refl refl)
quiet (function how pure) t at = if_same (at == 0) nowhere_near nowhere_near (if at == 1 then nowhere_near else nowhere_near) refl (if_same (at == 1) nowhere_near nowhere_near nowhere_near refl refl)
quiet (class class_kind.Declaration) t at = if_same (at == 0) nowhere_near nowhere_near nowhere_near refl refl
quiet (class class_kind.Expression) t at = if_same (at == 0) nowhere_near nowhere_near nowhere_near refl refl
quiet (property_definition is_static key) t at = if_same (has_second t && at == 1) nowhere_near nowhere_near nowhere_near refl refl
quiet switch_statement t at = if_same (at == 1) nowhere_near nowhere_near nowhere_near refl refl
quiet with_statement t at = if_same (at == 1) nowhere_near nowhere_near nowhere_near refl refl
quiet catch_clause t at = if_same (at == 0) nowhere_near nowhere_near nowhere_near refl refl
quiet (variable_declaration variable_kind.Var) t at = refl
quiet (variable_declaration variable_kind.Let) t at = refl
quiet (variable_declaration variable_kind.Const) t at = refl
quiet k t at = refl

-- a layer of another scope
other : (n : ℕ) (l : Layer) → nat_eq n l.scope ≡ false → own_part n l ≡ no_part
other n l e = λ i. λ q. e i && same_part q l.part

pub not_equal : (m n : ℕ) → (m ≡ n → ⊥) → nat_eq m n ≡ false
not_equal m n h = false_from_ne_true (nat_eq m n) (λ e. h (eqb-true m n e))

pub aims_in_other : (l : Layer) (c : Context) (a : Aims) (n : ℕ) (k : Kind) (t : Forest) → aims_at l c ≡ a → nat_eq n l.scope ≡ false → (at : ℕ) → aims_at l (inside c n k t at) ≡ aims_inside no_part a k t at
aims_in_other l c a n k t h e at = aims_in l c n k t at ∙ ap₂ (λ o b. aims_inside o b k t at) (other n l e) h

pub aims_in_this : (c : Context) (n : ℕ) (p : Part) (k : Kind) (t : Forest) → aims_at (part_of n p) c ≡ nowhere_near → (at : ℕ) → aims_at (part_of n p) (inside c n k t at) ≡ aims_inside (this_part p) nowhere_near k t at
aims_in_this c n p k t h at =
    let e = eq-eqb n n refl in
    let own : own_part n (part_of n p) ≡ this_part p = λ i. λ q. e i && same_part q p in
    aims_in (part_of n p) c n k t at ∙ ap₂ (λ o b. aims_inside o b k t at) own h

-- a node that makes no scope needs no number for one
no_number : (c : Context) (m n : ℕ) (k : Kind) (t : Forest) → opens k t ≡ false → (at : ℕ) → inside c m k t at ≡ inside c n k t at
no_number c m n (program source) t e at = absurd (true≢false e)
no_number c m n (function how pure) t e at = absurd (true≢false e)
no_number c m n (class how) t e at = absurd (true≢false e)
no_number c m n static_block t e at = absurd (true≢false e)
no_number c m n block_statement t e at = absurd (true≢false e)
no_number c m n for_statement t e at = absurd (true≢false e)
no_number c m n for_in_statement t e at = absurd (true≢false e)
no_number c m n for_of_statement t e at = absurd (true≢false e)
no_number c m n switch_statement t e at = absurd (true≢false e)
no_number c m n catch_clause t e at = absurd (true≢false e)
no_number c m n with_statement t e at = absurd (true≢false e)
no_number c m n (property_definition is_static key) t e at =
    ap (λ b. if b && at == 1 then in_block c m c.strict else below_it c) e ∙ sym (ap (λ b. if b && at == 1 then in_block c n c.strict else below_it c) e)
no_number c m n k t e at = refl

pub still : (l : Layer) (c : Context) (n : ℕ) (k : Kind) (t : Forest) → aims_at l c ≡ nowhere_near → (opens k t ≡ true → nat_eq n l.scope ≡ false) → (at : ℕ) → aims_at l (inside c n k t at) ≡ nowhere_near
still l c n k t h differs at = go (opens k t) refl
  where
    go : (b : Bool) → opens k t ≡ b → aims_at l (inside c n k t at) ≡ nowhere_near
    go true e = aims_in_other l c nowhere_near n k t h (differs e) at ∙ quiet k t at
    go false e = ap (aims_at l) (no_number c n (suc l.scope) k t e at) ∙ aims_in_other l c nowhere_near (suc l.scope) k t h (not_equal (suc l.scope) l.scope (λ s. Prim.omega (arith, s))) at ∙ quiet k t at
