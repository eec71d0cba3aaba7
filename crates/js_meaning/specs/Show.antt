-- How values, exports and events are shown to the host, and how the host names values.
use Rattle.std.specs.Prelude.{ℕ, zero, suc, Bool, false, List, [], ◌∷◌, ◌++◌, Option, Some, None, length, nat_eq, if◌then◌else◌}
use Rattle.js_meaning.specs.Value.{Text, Slot, local, imported, arguments_object, Value, plain, closure, object, array, error, Content, no_content, element, property, ErrorKind, type_error, reference_error, Given, given, given_own, Sort, a_function, an_object, an_array, a_type_error, a_reference_error, Shown, plainly, again, first, Parts, no_parts, shows, shows_at}
use Rattle.js_meaning.specs.Trace.{Act, ShownExport, exports_value, exports_uninitialised, exports_import, ShownExports, Ending}
use Rattle.js_meaning.specs.State.{M, Out, Cell, cell, Export, export, read, with_exports, put_event, stop, unknown}

abbrev pub has_identity : Value → ℕ → Bool
has_identity (plain p) i = false
has_identity (closure j f a env) i = nat_eq j i
has_identity (object j c) i = nat_eq j i
has_identity (array j c) i = nat_eq j i
has_identity (error j e) i = nat_eq j i

-- an own object's number among those shown, counted from n
abbrev pub number_of : ℕ → List Value → ℕ → Option ℕ
number_of i [] n = None
number_of i (v ∷ vs) n = if has_identity v i then Some n else number_of i vs (suc n)

-- what goes on with what was shown, and with the list of those shown
abbrev pub After : Type 0 → Type 0
After A = A → List Value → Out

-- an own object by its number; at first by what it is and what it holds
abbrev pub show_own : Option ℕ → Value → Sort → List Value → (List Value → After Parts → Out) → After Shown → Out
show_own (Some n) v sort vs content k = k (again n) vs
show_own None v sort vs content k = content (vs ++ v ∷ []) (λ parts. k (first (length vs) sort parts))

abbrev pub error_sort : ErrorKind → Sort
error_sort type_error = a_type_error
error_sort reference_error = a_reference_error

abbrev pub holds_nothing : List Value → After Parts → Out
holds_nothing vs k = k no_parts vs

abbrev mutual
  pub show_in : Value → List Value → After Shown → Out
  show_in (plain p) vs k = k (plainly p) vs
  show_in (closure i f a env) vs k = show_own (number_of i vs 0) (closure i f a env) a_function vs holds_nothing k
  show_in (object i c) vs k = show_own (number_of i vs 0) (object i c) an_object vs (show_content c) k
  show_in (array i c) vs k = show_own (number_of i vs 0) (array i c) an_array vs (show_content c) k
  show_in (error i e) vs k = show_own (number_of i vs 0) (error i e) (error_sort e) vs holds_nothing k

  pub show_content : Content → List Value → After Parts → Out
  show_content no_content vs k = k no_parts vs
  show_content (element v c) vs k = show_in v vs (λ x vs. show_content c vs (λ parts. k (shows x parts)))
  show_content (property key v c) vs k = show_in v vs (λ x vs. show_content c vs (λ parts. k (shows_at key x parts)))

unfoldable pub show : Value → (Shown → M) → M
show v k s = show_in v s.shown (λ x vs. k x (record s { shown = vs }))

unfoldable pub show_all : List Value → (List Shown → M) → M
show_all [] k = k []
show_all (v ∷ vs) k = show v (λ x. show_all vs (λ xs. k (x ∷ xs)))

-- an export shows its value as it is now; an import that it passes on is only named
abbrev pub show_cell : Text → Cell → (ShownExport → M) → M
show_cell x (cell constant None) k = k (exports_uninitialised x)
show_cell x (cell constant (Some v)) k = show v (λ y. k (exports_value x y))

abbrev pub show_export : Text → Slot → (ShownExport → M) → M
show_export x (local c) k = read c (λ held. show_cell x held k)
show_export x (imported source name) k = k (exports_import x source name)
show_export x arguments_object k = unknown

unfoldable pub show_exports : List Export → (List ShownExport → M) → M
show_exports [] k = k []
show_exports (export x slot ∷ es) k = show_export x slot (λ e. show_exports es (λ shown. k (e ∷ shown)))

abbrev pub with_shown_exports : (ShownExports → M) → M
with_shown_exports k = with_exports (λ es stars. show_exports es (λ names. k (record { names = names; stars = stars })))

-- an event, with the exports as they are then
unfoldable pub emit : Act → M → M
emit act m = with_shown_exports (λ exports. put_event (record { act = act; exports = exports }) m)

-- the value that the host names: an own object that was shown, or the run stops

abbrev pub nth : List Value → ℕ → Option Value
nth [] n = None
nth (v ∷ vs) zero = Some v
nth (v ∷ vs) (suc n) = nth vs n

abbrev pub named : Given → List Value → Option Value
named (given p) vs = Some (plain p)
named (given_own n) vs = nth vs n

abbrev pub if_some : Option Value → (Value → M) → M
if_some None k = stop Ending.host_stopped
if_some (Some v) k = k v

unfoldable pub resolve : Given → (Value → M) → M
resolve x k s = if_some (named x s.shown) k s

unfoldable pub resolve_all : List Given → (List Value → M) → M
resolve_all [] k = k []
resolve_all (x ∷ xs) k = resolve x (λ v. resolve_all xs (λ vs. k (v ∷ vs)))

abbrev pub resolve_maybe : Option Given → (Option Value → M) → M
resolve_maybe None k = k None
resolve_maybe (Some x) k = resolve x (λ v. k (Some v))
