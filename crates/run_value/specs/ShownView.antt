-- What is shown, in memory, as runs have it.
use Rattle.std.specs.Prelude.{ℕ, List, [], ◌∷◌, String, string_bytes}
use Rattle.std.specs.Global.{Global}
use Rattle.std.specs.declared.rc.Rc.{Rc}
use Rattle.js_meaning.specs.Value as meant
use Rattle.js_meaning.specs.Value.{plainly, again, first, a_function, an_object, an_array, a_type_error, a_reference_error, no_parts, shows, shows_at, given, given_own}
use Rattle.run_value.specs.Plain.{plain_of}
use Rattle.run_value.specs.declared.shown.Sort.{Sort}
use Rattle.run_value.specs.declared.shown.Sort.TheVariants.{AFunction, AnObject, AnArray, ATypeError, AReferenceError}
use Rattle.run_value.specs.declared.shown.Shown.{Shown}
use Rattle.run_value.specs.declared.shown.Shown.TheVariants.{Plainly, Again, First}
use Rattle.run_value.specs.declared.shown.Given.{Given}
use Rattle.run_value.specs.declared.shown.Given.TheVariants.{Plain as plain_given, Own as own_given}

abbrev pub sort_of : Sort → meant.Sort
sort_of AFunction = a_function
sort_of AnObject = an_object
sort_of AnArray = an_array
sort_of ATypeError = a_type_error
sort_of AReferenceError = a_reference_error

abbrev pub shown_of : Shown → meant.Shown
shown_of (Plainly p) = plainly (plain_of p)
shown_of (Again n) = again n
shown_of (First n sort parts) = first n (sort_of sort) parts

-- the first values have keys
abbrev pub parts_of : List (Rc (String Global) Global) → List Shown → meant.Parts
parts_of keys [] = no_parts
parts_of [] (v ∷ vs) = shows (shown_of v) (parts_of [] vs)
parts_of (k ∷ keys) (v ∷ vs) = shows_at (string_bytes k.value) (shown_of v) (parts_of keys vs)

abbrev pub given_of : Given → meant.Given
given_of (plain_given p) = given (plain_of p)
given_of (own_given n) = given_own n
