-- Which expressions are silent as far as their form tells, whether names have bindings, and what stands around: to run one has no
-- effect that anybody could see, but that a name may be touched before it is initialised. These are the silent forms of `Effects`
-- where no name has a known type or value, `this` may be read outside of classes alone, and classes act.
use Rattle.std.specs.Prelude.{ℕ, List, Bool, true, false, not, ◌&&◌, ◌||◌, Option, Some, None, codes, slice_index_or, if◌then◌else◌}
use Rattle.std.specs.Str.{bytes_eq}
use Rattle.js_syntax.specs.declared.node_kind.NodeKind.{NodeKind as Kind}
use Rattle.js_syntax.specs.declared.node_kind.NodeKind.TheVariants as kind
use Rattle.js_syntax.specs.declared.operator.UnaryOperator.TheVariants as unary
use Rattle.js_syntax.specs.Node.{Forest, nothing, node, absent, Note}
use Rattle.js_effects.specs.declared.surroundings.Surroundings.{Surroundings}
use Rattle.js_effects.specs.Answers.{bare_answers}
use Rattle.js_effects.specs.Each.{inner_at, is_parenthesized}
use Rattle.js_effects.specs.Effects.{is_reference, only_runs_parts, converts_primitives, is_silent_key, is_array, has_spread}
use Rattle.js_effects.specs.Still.{is_value}

-- A property whose key is static, or is converted without an effect; in an array the elements of an array literal; the
-- properties of an object where none is spread (ECMA-262 13.2.4, 13.2.5).
abbrev pub runs_entries : Kind → (below : Forest) → Bool
runs_entries (kind.Property how is_method key) a = is_silent_key bare_answers key a
runs_entries kind.SpreadElement a = is_array (inner_at 0 a)
runs_entries kind.Properties a = not (has_spread a)
runs_entries k a = false

-- What runs its parts, or some of them, and does nothing else (13.2.4, 13.2.5, 13.2.8, 13.2.9, 13.4 to 13.14, 13.16).
abbrev pub runs_its_parts : Kind → (below : Forest) → Bool
runs_its_parts k a = only_runs_parts k || (converts_primitives bare_answers k a || runs_entries k a)

-- What gives a value of its parts and does nothing else, as far as their form tells: an operation that converts nothing, or primitive
-- values alone, or compares, and a template of such values (ECMA-262 13.2.8, 13.5 to 13.12).
abbrev pub only_combines : Kind → (below : Forest) → Bool
only_combines k a = converts_primitives bare_answers k a

-- A number's entry in a table of truth values; past its end, false.
abbrev pub is_marked : List Bool → Option ℕ → Bool
is_marked marks None = false
is_marked marks (Some n) = slice_index_or marks n false

-- a name alone, parentheses aside
abbrev pub is_nothing : Forest → Bool
is_nothing nothing = true
is_nothing t = false

abbrev pub is_one_name : Forest → Bool
is_one_name nothing = false
is_one_name (absent r) = false
is_one_name (node k n a r) = is_nothing r && (is_reference k || (is_parenthesized k && is_one_name a))

-- given its kind and what lies below it
abbrev pub names_one : Kind → (below : Forest) → Bool
names_one k a = is_reference k || (is_parenthesized k && is_one_name a)

-- where nothing is known, whatever stands around, and around a program
abbrev pub anywhere : Surroundings
anywhere = record { in_with = true; in_class = true }

abbrev pub outside : Surroundings
outside = record { in_with = false; in_class = false }

-- A name that has a binding, as `bound` says of each reference by its number, and the global `undefined`; `typeof` of any
-- name, as one without a binding doesn't throw there (13.5.3).
abbrev pub is_known_name : (bound : List Bool) → Kind → Note → (below : Forest) → Bool
is_known_name bound (kind.ReferenceName x) n a = is_marked bound n.id || bytes_eq x (codes "undefined")
is_known_name bound (kind.UnaryExpression unary.Typeof) n a = is_one_name a
is_known_name bound k n a = false

abbrev pub is_this : Kind → Bool
is_this kind.ThisExpression = true
is_this k = false

-- A name inside of a `with` statement may be a property of its object, so nothing is known of it there (9.1.1.2), and `this` may have no
-- value yet in the constructor of a class (9.1.1.3.4).
abbrev pub is_known : (bound : List Bool) → Surroundings → Kind → Note → (below : Forest) → Bool
is_known bound s k n a = (not s.in_with && is_known_name bound k n a) || (not s.in_class && is_this k)

abbrev pub has_effect : (bound : List Bool) → Surroundings → Kind → Note → (below : Forest) → (parts : Bool) → Bool
has_effect bound s k n a parts = if is_value k || is_known bound s k n a then false else not (runs_its_parts k a) || parts

-- Whether one of a row's nodes may have an effect.
abbrev pub may_have_effects : (bound : List Bool) → Surroundings → Forest → Bool
may_have_effects bound s nothing = false
may_have_effects bound s (absent rest) = may_have_effects bound s rest
may_have_effects bound s (node k n below rest) = has_effect bound s k n below (may_have_effects bound s below) || may_have_effects bound s rest
