-- The text of a run: a line of JSON for each event, in the order in which they happened, and one for the ending. Each
-- object has its keys in byte order.
use Rattle.std.specs.Prelude.{ℕ, List, ◌++◌, map, flat_map, true, codes}
use Rattle.serde_json.specs.Data.{Data, null, boolean, number, string, array, object, Items, no_items, item, Members, no_members, put, unsigned}
use Rattle.serde_json.specs.Find.{of_integer}
use Rattle.serde_json.specs.Written.{compact_text}
use Rattle.json_text.specs.Text.{items_of}
use Rattle.js_meaning.specs.Value.{Text, PrimitiveKind, a_number, a_bigint, a_symbol, a_string, Plain, undefined, text, host, other, Sort, a_function, an_object, an_array, a_type_error, a_reference_error, Shown, plainly, again, first, Parts, no_parts, shows, shows_at}
use Rattle.js_meaning.specs.Value as meant
use Rattle.js_meaning.specs.Trace.{Act, load, get, set, asks_in, asks_instanceof, construct, call, write, returned, threw, finished, failed, ShownExport, exports_value, exports_uninitialised, exports_import, ShownExports, Event, Ending, ended, host_stopped, out, uncovered, Run}

-- ---- values

-- what `typeof` says of a primitive value that has no content here
abbrev pub kind_word : PrimitiveKind → List ℕ
kind_word a_number = codes "number"
kind_word a_bigint = codes "bigint"
kind_word a_symbol = codes "symbol"
kind_word a_string = codes "string"

abbrev pub sort_word : Sort → List ℕ
sort_word a_function = codes "function"
sort_word an_object = codes "object"
sort_word an_array = codes "array"
sort_word a_type_error = codes "TypeError"
sort_word a_reference_error = codes "ReferenceError"

abbrev pub number_data : ℕ → Data
number_data n = number (unsigned n)

abbrev pub plain_data : Plain → Data
plain_data undefined = object (put (codes "undefined") (boolean true) no_members)
plain_data meant.null = null
plain_data (meant.boolean b) = boolean b
plain_data (meant.number z) = number (of_integer z)
plain_data (text s) = string s
plain_data (host k callable) = object (put (codes "host") (number_data k) (put (codes "callable") (boolean callable) no_members))
plain_data (other k kind truth) = object (put (codes "other") (number_data k) (put (codes "kind") (string (kind_word kind)) (put (codes "true") (boolean truth) no_members)))

-- a key with its value
abbrev pub pair_data : Text → Data → Data
pair_data key value = array (item (string key) (item value no_items))

-- An own object has the number under which it is shown; where it is shown first, what it is and what it holds stand beside.
abbrev mutual
  pub shown_data : Shown → Data
  shown_data (plainly p) = plain_data p
  shown_data (again n) = object (put (codes "own") (number_data n) no_members)
  shown_data (first n sort parts) = object (put (codes "own") (number_data n) (put (codes "kind") (string (sort_word sort)) (put (codes "content") (array (parts_items parts)) no_members)))

  pub parts_items : Parts → Items
  parts_items no_parts = no_items
  parts_items (shows v c) = item (shown_data v) (parts_items c)
  parts_items (shows_at k v c) = item (pair_data k (shown_data v)) (parts_items c)

abbrev pub all_data : List Shown → Data
all_data xs = array (items_of (map shown_data xs))

-- ---- exports

abbrev pub export_data : ShownExport → Data
export_data (exports_value name x) = object (put (codes "name") (string name) (put (codes "value") (shown_data x) no_members))
export_data (exports_uninitialised name) = object (put (codes "name") (string name) no_members)
export_data (exports_import name source imported) = object (put (codes "name") (string name) (put (codes "source") (string source) (put (codes "imported") (string imported) no_members)))

abbrev pub exports_data : ShownExports → Data
exports_data e = object (put (codes "names") (array (items_of (map export_data e.names))) (put (codes "stars") (array (items_of (map string e.stars))) no_members))

-- ---- events

-- what every event has: its word, and the exports of that moment
abbrev pub event_members : List ℕ → ShownExports → Members
event_members word e = put (codes "event") (string word) (put (codes "exports") (exports_data e) no_members)

abbrev pub act_members : Act → ShownExports → Members
act_members (load source) e = put (codes "source") (string source) (event_members (codes "load") e)
act_members (get o k) e = put (codes "object") (shown_data o) (put (codes "key") (shown_data k) (event_members (codes "get") e))
act_members (set o k v) e = put (codes "object") (shown_data o) (put (codes "key") (shown_data k) (put (codes "value") (shown_data v) (event_members (codes "set") e)))
act_members (asks_in l r) e = put (codes "left") (shown_data l) (put (codes "right") (shown_data r) (event_members (codes "in") e))
act_members (asks_instanceof l r) e = put (codes "left") (shown_data l) (put (codes "right") (shown_data r) (event_members (codes "instanceof") e))
act_members (construct callee xs) e = put (codes "callee") (shown_data callee) (put (codes "args") (all_data xs) (event_members (codes "new") e))
act_members (call callee this xs) e = put (codes "callee") (shown_data callee) (put (codes "this") (shown_data this) (put (codes "args") (all_data xs) (event_members (codes "call") e)))
act_members (write name v) e = put (codes "name") (string name) (put (codes "value") (shown_data v) (event_members (codes "write") e))
act_members (returned v) e = put (codes "value") (shown_data v) (event_members (codes "return") e)
act_members (threw v) e = put (codes "value") (shown_data v) (event_members (codes "throw") e)
act_members finished e = event_members (codes "done") e
act_members (failed v) e = put (codes "thrown") (shown_data v) (event_members (codes "done") e)

abbrev pub event_data : Event → Data
event_data e = object (act_members e.act e.exports)

-- ---- the ending

abbrev pub ending_members : List ℕ → Members
ending_members word = put (codes "ending") (string word) no_members

abbrev pub ending_data : Ending → Data
ending_data (ended e) = object (put (codes "exports") (exports_data e) (ending_members (codes "ended")))
ending_data host_stopped = object (ending_members (codes "host stopped"))
ending_data out = object (ending_members (codes "out"))
ending_data uncovered = object (ending_members (codes "uncovered"))

-- ---- the whole text

unfoldable pub line_of : Data → List ℕ
line_of d = compact_text d ++ codes "\n"

abbrev pub text_of : Run → List ℕ
text_of r = flat_map (λ e. line_of (event_data e)) r.trace ++ line_of (ending_data r.ending)
