-- Which script a JSON value is, and how many entries it lets a run have.
use Rattle.std.specs.Prelude.{ℕ, suc, ◌^◌, ◌&&◌, ◌||◌, ◌==◌, ℤ, pos, negsuc, List, [], ◌∷◌, Bool, true, false, not, Option, Some, None, option_map, option_and_then, Result, Ok, codes, nat_lt, nat_le, if◌then◌else◌}
use Rattle.std.specs.Str.{bytes_eq}
use Rattle.serde_json.specs.Data.{Num, unsigned, negative, float, Data, null, boolean, number, string, array, object, Items, no_items, item, Members, no_members, member}
use Rattle.serde_json.specs.Find.{get}
use Rattle.js_meaning.specs.Value.{Text, Plain, undefined, text, host, Given, given, given_own}
use Rattle.js_meaning.specs.Value as meant
use Rattle.js_meaning.specs.Trace.{Move, call_own, set_global_to, remove_global, set_import_to, answer, refuse, Script}
use Rattle.run_script.specs.Field.{◌>>=◌, or_fault}
use Rattle.run_script.specs.declared.fault.Field.{Field}
use Rattle.run_script.specs.declared.fault.Field.TheVariants as field

-- ---- numbers and texts

-- a whole number from 0 to 2^53 - 1
abbrev pub natural_in : Data → Option ℕ
natural_in (number (unsigned n)) = if nat_lt n (2 ^ 53) then Some n else None
natural_in _ = None

-- a whole number within 2^53 - 1 in magnitude; JSON's reading of one with a fraction or an exponent is a float
abbrev pub integer_of : Num → Option ℤ
integer_of (unsigned n) = if nat_lt n (2 ^ 53) then Some (pos n) else None
integer_of (negative (pos n)) = if nat_lt n (2 ^ 53) then Some (pos n) else None
integer_of (negative (negsuc n)) = if nat_lt (suc n) (2 ^ 53) then Some (negsuc n) else None
integer_of (float x) = None

abbrev pub text_in : Data → Option Text
text_in (string s) = Some s
text_in _ = None

abbrev pub boolean_in : Data → Option Bool
boolean_in (boolean b) = Some b
boolean_in _ = None

-- ---- objects

abbrev pub count : Members → ℕ
count no_members = 0
count (member k d ms) = suc (count ms)

-- an object of so many members
abbrev pub has_members : ℕ → Data → Bool
has_members n (object ms) = count ms == n
has_members n _ = false

-- what a member is
abbrev pub member_in : {A : Type 0} → List ℕ → (Data → Option A) → Data → Option A
member_in k f d = option_and_then f (get k d)

abbrev pub both_in : {A B C : Type 0} → (A → B → C) → Option A → Option B → Option C
both_in f (Some x) (Some y) = Some (f x y)
both_in f _ _ = None

abbrev pub either_in : {A : Type 0} → Option A → Option A → Option A
either_in None y = y
either_in (Some x) y = Some x

abbrev pub only : {A : Type 0} → Bool → Option A → Option A
only b x = if b then x else None

-- ---- values

abbrev pub true_in : Data → Option Plain
true_in (boolean true) = Some undefined
true_in _ = None

-- `{"undefined":true}`
abbrev pub undefined_in : Data → Option Plain
undefined_in d = only (has_members 1 d) (member_in (codes "undefined") true_in d)

-- `{"callable":B,"host":K}`
abbrev pub host_in : Data → Option Plain
host_in d = only (has_members 2 d) (both_in host (member_in (codes "host") natural_in d) (member_in (codes "callable") boolean_in d))

-- `{"own":K}`
abbrev pub own_in : Data → Option Given
own_in d = only (has_members 1 d) (option_map given_own (member_in (codes "own") natural_in d))

-- a primitive value, or an object of the host
abbrev pub plain_in : Data → Option Plain
plain_in null = Some meant.null
plain_in (boolean b) = Some (meant.boolean b)
plain_in (number n) = option_map meant.number (integer_of n)
plain_in (string s) = Some (text s)
plain_in (array ds) = None
plain_in (object ms) = either_in (undefined_in (object ms)) (host_in (object ms))

-- and in moves an own object
abbrev pub given_in : Data → Option Given
given_in d = either_in (own_in d) (option_map given (plain_in d))

-- ---- lists

abbrev pub put_before : {A : Type 0} → A → List A → List A
put_before x xs = x ∷ xs

abbrev pub all_in : {A : Type 0} → (Data → Option A) → Items → Option (List A)
all_in f no_items = Some []
all_in f (item d ds) = both_in put_before (f d) (all_in f ds)

abbrev pub list_in : {A : Type 0} → (Data → Option A) → Data → Option (List A)
list_in f (array ds) = all_in f ds
list_in f _ = None

-- a list of two
abbrev pub two_in : {A B C : Type 0} → (A → B → C) → (Data → Option A) → (Data → Option B) → Data → Option C
two_in f g h (array (item d (item e no_items))) = both_in f (g d) (h e)
two_in f g h _ = None

-- ---- globals

-- no script has a global of the name `undefined`
abbrev pub global_name_in : Data → Option Text
global_name_in (string s) = only (not (bytes_eq s (codes "undefined"))) (Some s)
global_name_in _ = None

abbrev pub Global : Type 0
Global = Text × Plain

abbrev pub a_global : Text → Plain → Global
a_global x p = (x, p)

-- `[NAME,V]`
abbrev pub global_in : Data → Option Global
global_in d = two_in a_global global_name_in plain_in d

abbrev pub is_named : Text → List Global → Bool
is_named x [] = false
is_named x (g ∷ gs) = bytes_eq x g.0 || is_named x gs

-- no name comes twice
abbrev pub are_distinct : List Global → Bool
are_distinct [] = true
are_distinct (g ∷ gs) = not (is_named g.0 gs) && are_distinct gs

abbrev pub if_distinct : List Global → Option (List Global)
if_distinct gs = only (are_distinct gs) (Some gs)

abbrev pub globals_in : Data → Option (List Global)
globals_in d = option_and_then if_distinct (list_in global_in d)

-- ---- moves

abbrev pub calling : ℕ → Given → List Given → Move
calling k this args = call_own k this args

-- `{"args":[V,..],"call":K,"this":V}`
abbrev pub call_in : Data → Option Move
call_in d = only (has_members 3 d) (both_in (λ m args. m args) (both_in calling (member_in (codes "call") natural_in d) (member_in (codes "this") given_in d)) (member_in (codes "args") (list_in given_in) d))

-- `{"setGlobal":NAME,"value":V}`
abbrev pub set_global_in : Data → Option Move
set_global_in d = only (has_members 2 d) (both_in set_global_to (member_in (codes "setGlobal") global_name_in d) (member_in (codes "value") given_in d))

-- `{"removeGlobal":NAME}`
abbrev pub remove_global_in : Data → Option Move
remove_global_in d = only (has_members 1 d) (option_map remove_global (member_in (codes "removeGlobal") text_in d))

abbrev pub importing : (source name : Text) → Option Given → Move
importing source name v = set_import_to source name v

abbrev pub initialised : (Option Given → Move) → Given → Move
initialised m v = m (Some v)

-- `{"setImport":[SOURCE,NAME],"value":V}`
abbrev pub set_import_in : Data → Option Move
set_import_in d = only (has_members 2 d) (both_in initialised (member_in (codes "setImport") (two_in importing text_in text_in) d) (member_in (codes "value") given_in d))

-- `{"setImport":[SOURCE,NAME]}`: it becomes uninitialised
abbrev pub unset_import_in : Data → Option Move
unset_import_in d = only (has_members 1 d) (option_map (λ m. m None) (member_in (codes "setImport") (two_in importing text_in text_in) d))

-- `{"answer":V}`
abbrev pub answer_in : Data → Option Move
answer_in d = only (has_members 1 d) (option_map answer (member_in (codes "answer") given_in d))

-- `{"throw":V}`
abbrev pub throw_in : Data → Option Move
throw_in d = only (has_members 1 d) (option_map refuse (member_in (codes "throw") given_in d))

abbrev pub move_in : Data → Option Move
move_in d = either_in (call_in d) (either_in (set_global_in d) (either_in (remove_global_in d) (either_in (set_import_in d) (either_in (unset_import_in d) (either_in (answer_in d) (throw_in d))))))

abbrev pub moves_in : Data → Option (List Move)
moves_in d = list_in move_in d

-- ---- the whole

-- from 0 to 2^20
abbrev pub max_bound : ℕ
max_bound = 2 ^ 20

abbrev pub bound_in : Data → Option ℕ
bound_in (number (unsigned n)) = only (nat_le n max_bound) (Some n)
bound_in _ = None

abbrev pub object_in : Data → Option Data
object_in (object ms) = Some (object ms)
object_in _ = None

-- what a run is given: the globals, the host's moves, and how many entries there may be
pub record Input : Type 0 where
  pub globals : List Global
  pub moves : List Move
  pub bound : ℕ

abbrev pub an_input : List Global → List Move → ℕ → Input
an_input gs ms n = record { globals = gs; moves = ms; bound = n }

-- the value of the first that has the name
abbrev pub value_named : List Global → Text → Option Plain
value_named [] x = None
value_named (g ∷ gs) x = if bytes_eq x g.0 then Some g.1 else value_named gs x

abbrev pub script_of : Input → Script
script_of i = record { globals = value_named i.globals; moves = i.moves }

-- `{"globals":[[NAME,V],..],"moves":[..]}`, beside the bound: the first that isn't so is the fault
unfoldable pub read_script : Data → Result Input Field
read_script d =
    or_fault field.Script (member_in (codes "script") object_in d) >>= λ s.
    or_fault field.Globals (member_in (codes "globals") globals_in s) >>= λ gs.
    or_fault field.Moves (member_in (codes "moves") moves_in s) >>= λ ms.
    or_fault field.Bound (member_in (codes "n") bound_in d) >>= λ n.
    Ok (an_input gs ms n)
