-- Which expressions are silent: to run one has no effect that anybody could see, but that a name may be touched before it
-- is initialised. The others act.
use Rattle.std.specs.Prelude.{ℕ, List, Bool, true, false, not, ◌&&◌, ◌||◌, Option, Some, None, codes, get_or, is_some, ◌==◌, if◌then◌else◌}
use Rattle.std.specs.List.{list_any}
use Rattle.std.specs.Str.{bytes_eq}
use Rattle.js_syntax.specs.declared.node_kind.NodeKind.{NodeKind as Kind}
use Rattle.js_syntax.specs.declared.node_kind.NodeKind.TheVariants as kind
use Rattle.js_syntax.specs.declared.value.LiteralValue.TheVariants as literal
use Rattle.js_syntax.specs.declared.value.Key.{Key}
use Rattle.js_syntax.specs.declared.value.Key.TheVariants as key
use Rattle.js_syntax.specs.declared.kind.FunctionKind.{FunctionKind}
use Rattle.js_syntax.specs.declared.kind.FunctionKind.TheVariants as function_kind
use Rattle.js_syntax.specs.declared.operator.UnaryOperator.{UnaryOperator}
use Rattle.js_syntax.specs.declared.operator.UnaryOperator.TheVariants as unary
use Rattle.js_syntax.specs.declared.operator.BinaryOperator.{BinaryOperator}
use Rattle.js_syntax.specs.declared.operator.AssignmentOperator.{AssignmentOperator}
use Rattle.js_syntax.specs.declared.operator.AssignmentOperator.TheVariants as assignment
use Rattle.js_syntax.specs.Node.{Forest, nothing, node, absent, Note, Tree}
use Rattle.js_effects.specs.declared.parts.Parts.{Parts}
use Rattle.js_effects.specs.declared.parts.Parts.TheVariants as parts
use Rattle.js_effects.specs.Answers.{Answers}
use Rattle.js_effects.specs.Each.{of_each, of_first, last, width, child_of, inner_at}
use Rattle.js_effects.specs.Kinds.{is_primitive, all_primitive, compares, asks_an_object, is_named_undefined, types, type_at}
use Rattle.js_effects.specs.Still.{is_value, converts_nothing}

-- ---- names

abbrev pub is_reference : Kind → Bool
is_reference (kind.ReferenceName x) = true
is_reference k = false

abbrev pub is_name : Option Tree → Bool
is_name (Some t) = is_reference t.kind
is_name None = false

-- the global `undefined` (ECMA-262 19.1.4), and any other global name where these are taken for silent
abbrev pub is_silent_global : Answers → Kind → Bool
is_silent_global A k = is_named_undefined k || not A.effects.unknown_globals_act

-- a name that has a binding, or is such a global one
abbrev pub is_silent_name : Answers → Kind → Note → Bool
is_silent_name A k n = is_reference k && (not A.effects.inside_with && (not (A.names.is_global k n) || is_silent_global A k))

-- a name that the program declares
abbrev pub is_own_name : Answers → Option Tree → Bool
is_own_name A (Some t) = is_reference t.kind && (not A.effects.inside_with && not (A.names.is_global t.kind t.note))
is_own_name A None = false

-- ---- what does nothing, whatever lies below it

abbrev pub is_typeof : Kind → Bool
is_typeof (kind.UnaryExpression unary.Typeof) = true
is_typeof k = false

-- `typeof` of a name without binding doesn't throw (13.5.3)
abbrev pub is_typeof_name : Answers → Kind → (below : Forest) → Bool
is_typeof_name A k a = is_typeof k && (not A.effects.inside_with && is_name (inner_at 0 a))

-- a node with nothing below it, as a list of no statements is
abbrev pub is_bare : Option Tree → Bool
is_bare (Some t) = width t.below == 0
is_bare None = true

-- `this` (13.2.1), a static block without statements (15.7.11), and what is no expression: a class's name, a private name as
-- a key
abbrev pub is_still : Answers → Kind → (below : Forest) → Bool
is_still A kind.ThisExpression a = A.effects.this_is_initialised
is_still A kind.StaticBlock a = is_bare (child_of a 0)
is_still A (kind.BindingName x) a = true
is_still A (kind.PrivateName x) a = true
is_still A k a = false

abbrev pub does_nothing : Answers → Kind → Note → (below : Forest) → Bool
does_nothing A k n a = is_value k || (is_silent_name A k n || (is_typeof_name A k a || is_still A k a))

-- ---- what runs its parts, or some of them, and does nothing else

abbrev pub only_runs_parts : Kind → Bool
only_runs_parts (kind.LogicalExpression o) = true
only_runs_parts kind.ConditionalExpression = true
only_runs_parts kind.SequenceExpression = true
only_runs_parts kind.Expressions = true
only_runs_parts kind.ParenthesizedExpression = true
only_runs_parts kind.ArrayExpression = true
only_runs_parts kind.Elements = true
only_runs_parts kind.ObjectExpression = true
only_runs_parts kind.Quasis = true
only_runs_parts kind.ClassBody = true
only_runs_parts kind.Members = true
only_runs_parts k = false

-- operators convert primitive values alone, or compare (13.5.4, 13.5.5, 13.7, 13.8)
abbrev pub is_silent_unary : UnaryOperator → (primitive : Bool) → Bool
is_silent_unary unary.Delete primitive = false
is_silent_unary o primitive = converts_nothing o || primitive

abbrev pub is_silent_binary : BinaryOperator → (primitive : Bool) → Bool
is_silent_binary o primitive = compares o || (not (asks_an_object o) && primitive)

abbrev pub below_child : Option Tree → Forest
below_child (Some t) = t.below
below_child None = nothing

-- the substitutions of a template, which stand in the list behind its texts (13.2.8)
abbrev pub substitutions : Forest → Forest
substitutions a = below_child (child_of a 1)

abbrev pub converts_primitives : Answers → Kind → (below : Forest) → Bool
converts_primitives A (kind.UnaryExpression o) a = is_silent_unary o (all_primitive (types A a))
converts_primitives A (kind.BinaryExpression o) a = is_silent_binary o (all_primitive (types A a))
converts_primitives A kind.TemplateLiteral a = all_primitive (types A (substitutions a))
converts_primitives A k a = false

abbrev pub is_private_kind : Kind → Bool
is_private_kind (kind.PrivateName x) = true
is_private_kind k = false

abbrev pub is_private : Option Tree → Bool
is_private (Some t) = is_private_kind t.kind
is_private None = false

abbrev pub is_static : Key → Bool
is_static key.Below = false
is_static how = true

-- a key that is computed is converted (13.2.5.5), but for a private name
abbrev pub is_silent_key : Answers → Key → (below : Forest) → Bool
is_silent_key A how a = is_static how || (is_private (child_of a 0) || is_primitive (type_at 0 (types A a)))

-- a static field's value is run with the class (15.7.14)
abbrev pub is_silent_field : Answers → (of_class : Bool) → Key → (below : Forest) → Bool
is_silent_field A of_class how a = not (of_class && is_some (child_of a 1)) && is_silent_key A how a

abbrev pub has_silent_key : Answers → Kind → (below : Forest) → Bool
has_silent_key A (kind.Property how is_method k) a = is_silent_key A k a
has_silent_key A (kind.MethodDefinition how of_class k) a = is_silent_key A k a
has_silent_key A (kind.PropertyDefinition of_class k) a = is_silent_field A of_class k a
has_silent_key A k a = false

abbrev pub is_spread : Kind → Bool
is_spread kind.SpreadElement = true
is_spread k = false

abbrev pub has_spread : Forest → Bool
has_spread nothing = false
has_spread (absent r) = has_spread r
has_spread (node k n a r) = is_spread k || has_spread r

abbrev pub is_array_literal : Kind → Bool
is_array_literal kind.ArrayExpression = true
is_array_literal k = false

abbrev pub is_array : Option Tree → Bool
is_array (Some t) = is_array_literal t.kind
is_array None = false

-- a key that isn't `__proto__`, whose write would change what an object inherits from
abbrev pub is_safe_text : List ℕ → Bool
is_safe_text s = not (bytes_eq s (codes "__proto__"))

abbrev pub is_safe_kind : Kind → Bool
is_safe_kind (kind.Literal (literal.Text s)) = is_safe_text s
is_safe_kind (kind.Literal (literal.Number z)) = true
is_safe_kind k = false

abbrev pub is_safe_literal : Option Tree → Bool
is_safe_literal (Some t) = is_safe_kind t.kind
is_safe_literal None = false

-- of a member, given what lies below it
abbrev pub is_safe_key : Key → Forest → Bool
is_safe_key (key.Name x) a = is_safe_text x
is_safe_key (key.Text s) a = is_safe_text s
is_safe_key (key.Number m) a = true
is_safe_key key.Below a = is_safe_literal (inner_at 1 a)

-- a member, by a safe key, of what a name that the program declares holds
abbrev pub is_own_member : Answers → Kind → (below : Forest) → Bool
is_own_member A (kind.MemberExpression how optional) a = is_own_name A (inner_at 0 a) && is_safe_key how a
is_own_member A k a = false

abbrev pub is_own_target : Answers → Option Tree → Bool
is_own_target A (Some t) = is_own_member A t.kind t.below
is_own_target A None = false

abbrev pub is_assign : AssignmentOperator → Bool
is_assign assignment.Assign = true
is_assign o = false

abbrev pub is_arrow : FunctionKind → Bool
is_arrow function_kind.Arrow = true
is_arrow f = false

-- An arrow has no prototype, and no class can extend one; a sequence has its last part's value.
abbrev pub arrow_from : Kind → Note → (below : Forest) → List Bool → Bool
arrow_from (kind.Function f pure) n a bs = is_arrow f
arrow_from kind.ParenthesizedExpression n a bs = get_or bs 0 false
arrow_from kind.SequenceExpression n a bs = get_or bs 0 false
arrow_from kind.Expressions n a bs = last false bs
arrow_from k n a bs = false

-- which nodes of a row end in an arrow, and whether the one at a place does
abbrev pub arrows : Forest → List Bool
arrows t = of_each arrow_from false t

abbrev pub arrow_at : ℕ → Forest → Bool
arrow_at i t = get_or (arrows t) i false

-- Spreads of array literals alone run nothing but these; what a property's read or write does is an option.
abbrev pub runs_as_allowed : Answers → Kind → (below : Forest) → Bool
runs_as_allowed A kind.SpreadElement a = is_array (inner_at 0 a)
runs_as_allowed A kind.Properties a = not (has_spread a)
runs_as_allowed A (kind.MemberExpression k optional) a = not A.effects.reads_act
runs_as_allowed A (kind.AssignmentExpression o) a = is_assign o && (not A.effects.writes_act && is_own_target A (inner_at 0 a))
runs_as_allowed A (kind.Class how) a = not (arrow_at 1 a)
runs_as_allowed A k a = false

abbrev pub runs_parts : Answers → Kind → (below : Forest) → Bool
runs_parts A k a = only_runs_parts k || (converts_primitives A k a || (has_silent_key A k a || runs_as_allowed A k a))

-- Which parts these are: of a field its key, since its value is run where an object is made; of an assignment its right
-- side; else all.
abbrev pub parts_run : Kind → Parts
parts_run (kind.PropertyDefinition of_class k) = parts.First
parts_run (kind.AssignmentExpression o) = parts.Second
parts_run k = parts.All

-- whether one of them acts
abbrev pub part_acts : Parts → List Bool → Bool
part_acts parts.First bs = get_or bs 0 false
part_acts parts.Second bs = get_or bs 1 false
part_acts parts.All bs = list_any (λ b. b) bs

-- ---- all of it

-- of a node, given which nodes below it act
abbrev pub acts_from : Answers → Kind → Note → (below : Forest) → List Bool → Bool
acts_from A k n a bs = if does_nothing A k n a then false else not (runs_parts A k a) || part_acts (parts_run k) bs

-- which nodes of a row act
abbrev pub each_acts : Answers → Forest → List Bool
each_acts A t = of_each (acts_from A) false t

-- whether one of a row does
abbrev pub any_acts : Answers → Forest → Bool
any_acts A t = list_any (λ b. b) (each_acts A t)

-- whether what lies at a place of a row does
abbrev pub part_acts_at : Answers → ℕ → Forest → Bool
part_acts_at A i t = get_or (each_acts A t) i false

-- whether the first node of a row does
abbrev pub acts : Answers → Forest → Bool
acts A t = of_first (acts_from A) false t
