-- What expressions do (ECMA-262 13).
use Rattle.std.specs.Prelude.{Bool, true, false, ◌||◌, List, [], ◌∷◌, Option, Some, None, decimal, if◌then◌else◌}
use Rattle.std.specs.Str.{bytes_eq}
use Rattle.js_syntax.specs.declared.node_kind.NodeKind.{NodeKind as Kind}
use Rattle.js_syntax.specs.Node.{Forest, nothing, node, absent}
use Rattle.js_syntax.specs.declared.value.Key.{Key}
use Rattle.js_syntax.specs.declared.value.Key.TheVariants.{Name as key_name, Text as key_text, Number as key_number, Below as key_below}
use Rattle.js_syntax.specs.declared.kind.FunctionKind.{FunctionKind}
use Rattle.js_syntax.specs.declared.operator.UnaryOperator.{UnaryOperator}
use Rattle.js_syntax.specs.declared.operator.UnaryOperator.TheVariants as unary
use Rattle.js_syntax.specs.declared.operator.UpdateOperator.{UpdateOperator}
use Rattle.js_syntax.specs.declared.operator.BinaryOperator.{BinaryOperator}
use Rattle.js_syntax.specs.declared.operator.BinaryOperator.TheVariants as binary
use Rattle.js_syntax.specs.declared.operator.LogicalOperator.{LogicalOperator}
use Rattle.js_syntax.specs.declared.operator.LogicalOperator.TheVariants as logical
use Rattle.js_syntax.specs.declared.operator.AssignmentOperator.{AssignmentOperator}
use Rattle.js_syntax.specs.declared.operator.AssignmentOperator.TheVariants as assignment
use Rattle.js_meaning.specs.Value.{Text, Env, Value, plain, closure, text, host, undef, type_error, Shown, Content, no_content, element, property}
use Rattle.js_meaning.specs.Trace.{Act}
use Rattle.js_meaning.specs.State.{M, Place, unknown, choose, give, with_value, identity, raise}
use Rattle.js_meaning.specs.Show.{show, show_all}
use Rattle.js_meaning.specs.Operator.{is_object, is_boolean, is_other, on_number, updated, binary_of, goes_right}
use Rattle.js_meaning.specs.Scope.{waiting, named_so, own_name, declare, fill, look}
use Rattle.js_meaning.specs.Host.{Enter, body, consult, only}
use Rattle.js_meaning.specs.Reference.{get_place, put_place}
use Rattle.js_meaning.specs.Node.{Wanted, itself, to_call, for_typeof, now, Parts, need}

-- Calls (13.3.6.2): an own function is entered; a host's is the host's; nothing else can be called.
abbrev pub call_value : Enter → Value → Value → List Value → M
call_value E (closure i f a env) this vs = E (body f a env this vs)
call_value E (plain (host h true)) this vs =
    show (plain (host h true)) (λ x. show this (λ y. show_all vs (λ ys. consult E (Act.call x y ys))))
call_value E _ this vs = raise type_error

-- `new` (13.3.5) is the host's, which answers with an object
abbrev pub construct_shown : Enter → Value → List Value → M
construct_shown E v vs = show v (λ x. show_all vs (λ xs. only is_object (consult E (Act.construct x xs))))

abbrev pub construct_value : Enter → Value → List Value → M
construct_value E v vs = choose (is_other v) unknown (construct_shown E v vs)

-- `in` and `instanceof` are the host's too, which answers with a truth value
abbrev pub ask_host : Enter → (Shown → Shown → Act) → Value → Value → M
ask_host E act v u = show v (λ x. show u (λ y. only is_boolean (consult E (act x y))))

abbrev pub binary_value : Enter → BinaryOperator → Value → Value → M
binary_value E binary.In v u = choose (is_other v || is_other u) unknown (ask_host E Act.asks_in v u)
binary_value E binary.Instanceof v u = choose (is_other v || is_other u) unknown (ask_host E Act.asks_instanceof v u)
binary_value E o v u = binary_of o v u

-- `typeof` wants its operand even where that is a name without binding
abbrev pub wanted_by : UnaryOperator → Wanted
wanted_by unary.Typeof = for_typeof
wanted_by _ = itself

-- 13.13: the right side only where the left doesn't decide
abbrev pub logical_value : LogicalOperator → Value → M → M
logical_value o v right = choose (goes_right o v) right (give v)

-- Properties

abbrev pub static_key : Key → Text
static_key (key_name s) = s
static_key (key_text s) = s
static_key (key_number n) = decimal n
static_key key_below = []

-- a computed key is evaluated, and is shown to the host as it is (13.3.3)
abbrev pub known_key : (Value → M) → Value → M
known_key k v = choose (is_other v) unknown (k v)

abbrev pub member_key : Key → Parts → Env → (Value → M) → M
member_key key_below r env k = need r (λ m r. with_value (m now env) (known_key k))
member_key key r env k = k (plain (text (static_key key)))

abbrev pub receiver_of : Wanted → Value → Value
receiver_of to_call v = v
receiver_of _ v = undef

abbrev pub member_place : Key → Parts → Env → (Value → Value → M) → M
member_place key ms env k = need ms (λ o r. with_value (o now env) (λ v. member_key key r env (k v)))

-- Assignments (13.15.2): what is assigned to is found first, then the value; a compound one reads in between, and a
-- logical one writes only where it evaluates its right side.

abbrev pub then_put : Enter → Place → M → M
then_put E p m = with_value m (put_place E p)

abbrev pub compound : Enter → BinaryOperator → Place → M → M
compound E o p right = with_value (get_place E p) (λ old. with_value right (λ v. then_put E p (binary_of o old v)))

abbrev pub short : Enter → LogicalOperator → Place → M → M
short E o p right = with_value (get_place E p) (λ old. logical_value o old (then_put E p right))

abbrev pub assign : Enter → AssignmentOperator → Place → M → M
assign E assignment.Assign p right = then_put E p right
assign E assignment.Addition p right = compound E binary.Addition p right
assign E assignment.Subtraction p right = compound E binary.Subtraction p right
assign E assignment.Multiplication p right = compound E binary.Multiplication p right
assign E assignment.Division p right = compound E binary.Division p right
assign E assignment.Remainder p right = compound E binary.Remainder p right
assign E assignment.LogicalAnd p right = short E logical.And p right
assign E assignment.LogicalOr p right = short E logical.Or p right
assign E assignment.LogicalNullish p right = short E logical.Coalesce p right
assign E _ p right = unknown

-- 13.4: the old value after, the new one before
abbrev pub update_gives : Bool → Value → Value → M
update_gives true old new = give new
update_gives false old new = give old

abbrev pub update_place : Enter → UpdateOperator → Bool → Place → M
update_place E o prefix p =
    with_value (get_place E p) (λ old. with_value (on_number (updated o) old) (λ new. with_value (put_place E p new) (λ v. update_gives prefix old new)))

-- Functions (15.2.5, 15.3.4): each evaluation makes one of its own

abbrev pub fill_own : Option Text → Env → Value → M → M
fill_own None env v m = m
fill_own (Some x) env v m = fill (look env x) v m

abbrev pub function_value : FunctionKind → Forest → Env → M
function_value f a env =
    declare (named_so (waiting true) (own_name f a)) env (λ env. identity (λ i. fill_own (own_name f a) env (closure i f a env) (give (closure i f a env))))

-- Literals: a key that comes again keeps its place and takes the new value (10.1.6)

abbrev pub with_property : Text → Value → Content → Content
with_property key v no_content = property key v no_content
with_property key v (element u c) = element u (with_property key v c)
with_property key v (property k u c) = if bytes_eq k key then property k v c else property k u (with_property key v c)

abbrev pub add_property : Kind → Value → Content → Content
add_property (Kind.Property how method key) v c = with_property (static_key key) v c
add_property _ v c = c

abbrev pub object_content : Forest → List Value → Content → Content
object_content (node k n a r) (v ∷ vs) c = object_content r vs (add_property k v c)
object_content (node k n a r) [] c = c
object_content (absent r) vs c = c
object_content nothing vs c = c

abbrev pub array_content : List Value → Content
array_content [] = no_content
array_content (v ∷ vs) = element v (array_content vs)

-- 13.16: the last one's value
unfoldable pub in_turn : Parts → Env → M
in_turn [] env = unknown
in_turn (None ∷ ms) env = unknown
in_turn (Some m ∷ []) env = m now env
in_turn (Some m ∷ o ∷ ms) env = with_value (m now env) (λ v. in_turn (o ∷ ms) env)
