-- Of an object literal of which nobody takes the value the parts of its properties stay that act, one alone or several in a sequence: of
-- each its key, if that is an expression, and then its value (ECMA-262 13.2.5.5). A class would take its name from the key (8.4). Nothing
-- comes out of a method, which says of its function that it is one (13.2.5): it leaves whole where its key doesn't act, and where that
-- does the object stays.
use Rattle.std.specs.Prelude.{◌≡◌, Bool, true, false, not, ◌&&◌, ◌||◌, Option, Some, None, if◌then◌else◌}
use Rattle.js_syntax.specs.declared.node_kind.NodeKind.{NodeKind as Kind}
use Rattle.js_syntax.specs.declared.node_kind.NodeKind.TheVariants.{ObjectExpression as object_expression, Properties as properties, Property as property}
use Rattle.js_syntax.specs.declared.kind.PropertyKind.{PropertyKind}
use Rattle.js_syntax.specs.declared.kind.PropertyKind.TheVariants as property_kind
use Rattle.js_syntax.specs.declared.value.Key.{Key}
use Rattle.js_syntax.specs.declared.value.Key.TheVariants as key_form
use Rattle.js_syntax.specs.Core.{is_plain_property}
use Rattle.js_syntax.specs.Node.{Forest, Tree, Note, nothing, node, absent, alone, joined}
use Rattle.js_effects.specs.Answers.{bare_answers}
use Rattle.js_effects.specs.Kinds.{is_primitive, types, type_at}
use Rattle.scope_laws.specs.Place.{Around}
use Rattle.steps.specs.Allowed.Unused.{is_unused_at}
use Rattle.steps.specs.Allowed.UnusedOperation.{acts}
use Rattle.steps.specs.Allowed.UnusedList.{acting, as_one}
use Rattle.steps.specs.Allowed.Uses.{as_value, stands_bare}

-- whether a key or a value may come out of its property
abbrev pub comes_out : (is_method : Bool) → Kind → Note → (below : Forest) → Bool
comes_out is_method k n below = not (acts k n below) || (not is_method && stands_bare as_value false k below)

-- A key that is an expression, of which the value is converted without an effect: its type is known, and primitive (7.1.19). It may be
-- `__proto__`, which a static key alone may not (B.3.1).
abbrev pub is_computed : PropertyKind → Key → (below : Forest) → Bool
is_computed property_kind.Init key_form.Below below = is_primitive (type_at 0 (types bare_answers below))
is_computed how key below = false

-- whether a property does nothing beside its parts, and these may come out of it where they act
abbrev pub comes_apart : Kind → (below : Forest) → Bool
comes_apart (property how is_method key) (absent (node k m a nothing)) = is_plain_property how key && comes_out is_method k m a
comes_apart (property how is_method key) (node j i b (node k m a nothing)) = is_computed how key (alone j i b) && (comes_out is_method j i b && comes_out is_method k m a)
comes_apart k below = false

abbrev pub all_come_apart : (es : Forest) → Bool
all_come_apart nothing = true
all_come_apart (absent rest) = false
all_come_apart (node k n below rest) = comes_apart k below && all_come_apart rest

-- the keys that are expressions, and the values
abbrev pub keys_and_values : (es : Forest) → Forest
keys_and_values nothing = nothing
keys_and_values (absent rest) = keys_and_values rest
keys_and_values (node k n below rest) = joined below (keys_and_values rest)

abbrev pub object_becomes : (n m : Note) → Kind → (below : Forest) → Option Tree
object_becomes n m object_expression (node properties i es nothing) = if all_come_apart es then as_one n m (acting (keys_and_values es)) else None
object_becomes n m k below = None

pub data UnusedObject (a : Around) : (x y : Tree) → Type 0 where
  acting_values_stay : (n m : Note) (x y : Tree) → is_unused_at a ≡ true → object_becomes n m x.kind x.below ≡ Some y → UnusedObject a x y
