-- Values in memory as runs have them.
use Rattle.std.specs.Prelude.{ℕ, List, [], ◌∷◌, String, string_bytes}
use Rattle.std.specs.Global.{Global}
use Rattle.std.specs.declared.rc.Rc.{Rc}
use Rattle.js_syntax.specs.Node.{row}
use Rattle.js_meaning.specs.Value as meant
use Rattle.js_meaning.specs.Value.{plain, closure, object, array, error, no_content, element, property, type_error, reference_error}
use Rattle.run_value.specs.declared.value.Value.{Value}
use Rattle.run_value.specs.declared.value.Value.TheVariants.{Plain as plain_value, Closure as closure_value, Object as object_value, Array as array_value, Error as error_value}
use Rattle.run_value.specs.declared.value.ErrorKind.{ErrorKind}
use Rattle.run_value.specs.declared.value.ErrorKind.TheVariants.{TypeError, ReferenceError}
use Rattle.run_value.specs.Plain.{plain_of}

abbrev pub error_of : ErrorKind → meant.ErrorKind
error_of TypeError = type_error
error_of ReferenceError = reference_error

abbrev pub value_of : Value → meant.Value
value_of (plain_value p) = plain (plain_of p)
value_of (closure_value i f below env) = closure i f (row below.now) env
value_of (object_value i c) = object i c.value
value_of (array_value i c) = array i c.value
value_of (error_value i e) = error i (error_of e)

-- the first values have keys
abbrev pub content_of : List (Rc (String Global) Global) → List Value → meant.Content
content_of keys [] = no_content
content_of [] (v ∷ vs) = element (value_of v) (content_of [] vs)
content_of (k ∷ keys) (v ∷ vs) = property (string_bytes k.value) (value_of v) (content_of keys vs)
