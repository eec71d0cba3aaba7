-- What shows values to the host, or asks it, gives what comes after it.
use Rattle.std.proofs.Common.{◌≡◌, ℕ, List, [], ◌∷◌, ◌++◌, Bool, true, false, Option, Some, None, length, refl}
use Rattle.js_meaning.specs.Value.{Text, Slot, local, imported, arguments_object, Value, plain, closure, object, array, error, ErrorKind, type_error, reference_error, Content, no_content, element, property, Shown, again, first, Parts, no_parts, shows, shows_at, Sort, a_function, an_object, an_array}
use Rattle.js_meaning.specs.Trace.{Act, ShownExport, exports_value, exports_uninitialised, exports_import, Ending}
use Rattle.js_meaning.specs.State.{Cell, cell, Export, export, Completion, throws, Out, M, Place, at_slot, at_global, at_member, raise}
use Rattle.js_meaning.specs.Show.{After, number_of, show_own, error_sort, holds_nothing, show_in, show_content, show, show_all, show_cell, show_export, show_exports, emit}
use Rattle.js_meaning.specs.Host.{Enter, consult, only}
use Rattle.js_meaning.specs.Reference.{assign_cell, assign_import, assign_slot, assign_present, assign_global, Global, the_undefined, no_whole_number, usual, global_named, put_place}
use Rattle.js_values.specs.Gives.{IsSo, Ends, Gives}
use Rattle.js_values.proofs.Gives.{ends_stop, ends_unknown, ends_done, gives_give, ends_choose, gives_with, gives_some, ends_identity, ends_read, ends_store, ends_global, ends_set_global, ends_import, ends_exports, ends_event}

module _ (W : Completion → Type 0) where
  so_own : (o : Option ℕ) (v : Value) (sort : Sort) (vs : List Value) (content : List Value → After Parts → Out) (k : After Shown) → ((x : Shown) (vs : List Value) → IsSo W (k x vs))
      → ((us : List Value) (j : After Parts) → ((parts : Parts) (vs : List Value) → IsSo W (j parts vs)) → IsSo W (content us j)) → IsSo W (show_own o v sort vs content k)
  so_own (Some n) v sort vs content k h g = h (again n) vs
  so_own None v sort vs content k h g = g (vs ++ v ∷ []) (λ parts. k (first (length vs) sort parts)) (λ parts vs. h (first _ sort parts) vs)

  mutual
    so_shown : (v : Value) (vs : List Value) (k : After Shown) → ((x : Shown) (vs : List Value) → IsSo W (k x vs)) → IsSo W (show_in v vs k)
    so_shown (plain p) vs k h = h _ vs
    so_shown (closure i f a env) vs k h = so_own (number_of i vs 0) (closure i f a env) a_function vs holds_nothing k h (λ us j g. g no_parts us)
    so_shown (object i c) vs k h = so_own (number_of i vs 0) (object i c) an_object vs (show_content c) k h (λ us j g. so_content c us j g)
    so_shown (array i c) vs k h = so_own (number_of i vs 0) (array i c) an_array vs (show_content c) k h (λ us j g. so_content c us j g)
    so_shown (error i e) vs k h = so_own (number_of i vs 0) (error i e) (error_sort e) vs holds_nothing k h (λ us j g. g no_parts us)

    so_content : (c : Content) (vs : List Value) (k : After Parts) → ((parts : Parts) (vs : List Value) → IsSo W (k parts vs)) → IsSo W (show_content c vs k)
    so_content no_content vs k h = h no_parts vs
    so_content (element v c) vs k h = so_shown v vs _ (λ x vs. so_content c vs _ (λ parts vs. h (shows x parts) vs))
    so_content (property key v c) vs k h = so_shown v vs _ (λ x vs. so_content c vs _ (λ parts vs. h (shows_at key x parts) vs))

module _ {W : Completion → Type 0} where
  pub ends_show : {k : Shown → M} (v : Value) → ((x : Shown) → Ends W (k x)) → Ends W (show v k)
  unfolding show
  ends_show v h = record { at = λ s. so_shown W v s.shown _ (λ x vs. (h x).at _) }

  pub ends_show_all : {k : List Shown → M} (vs : List Value) → ((xs : List Shown) → Ends W (k xs)) → Ends W (show_all vs k)
  unfolding show_all
  ends_show_all [] h = h []
  ends_show_all (v ∷ vs) h = ends_show v (λ x. ends_show_all vs (λ xs. h (x ∷ xs)))

  ends_cell : {k : ShownExport → M} (x : Text) (c : Cell) → ((e : ShownExport) → Ends W (k e)) → Ends W (show_cell x c k)
  ends_cell x (cell constant None) h = h (exports_uninitialised x)
  ends_cell x (cell constant (Some v)) h = ends_show v (λ y. h (exports_value x y))

  ends_export : {k : ShownExport → M} (x : Text) (slot : Slot) → ((e : ShownExport) → Ends W (k e)) → Ends W (show_export x slot k)
  ends_export x (local c) h = ends_read c (λ held. ends_cell x held h)
  ends_export x (imported source name) h = h (exports_import x source name)
  ends_export x arguments_object h = ends_unknown

  ends_show_exports : {k : List ShownExport → M} (es : List Export) → ((shown : List ShownExport) → Ends W (k shown)) → Ends W (show_exports es k)
  unfolding show_exports
  ends_show_exports [] h = h []
  ends_show_exports (export x slot ∷ es) h = ends_export x slot (λ e. ends_show_exports es (λ shown. h (e ∷ shown)))

  pub ends_emit : {m : M} (act : Act) → Ends W m → Ends W (emit act m)
  unfolding emit
  ends_emit act h = ends_exports (λ es stars. ends_show_exports es (λ names. ends_event _ h))

-- an outcome of a sort
pub gives_only : (test : Value → Bool) (m : M) → Gives (λ v. test v ≡ true) (only test m)
gives_only test m = gives_with (gives_some m) (λ v w. ends_choose (test v) (λ e. gives_give v e) (λ e. ends_stop Ending.host_stopped))

-- ---- what is written is given

raised : {P : Value → Type 0} (k : ErrorKind) → Gives P (raise k)
raised k = ends_identity (λ i. ends_done (throws (error i k)) tt)

module _ (v : Value) where
  abbrev Same : Value → Type 0
  Same u = u ≡ v

  written_cell : (i : ℕ) (c : Cell) → Gives Same (assign_cell i v c)
  written_cell i (cell constant None) = ends_unknown
  written_cell i (cell true (Some old)) = raised type_error
  written_cell i (cell false (Some old)) = ends_store i _ (gives_give v refl)

  written_import : (o : Option Value) → Gives Same (assign_import o)
  written_import None = ends_unknown
  written_import (Some u) = raised type_error

  written_slot : (slot : Slot) → Gives Same (assign_slot slot v)
  written_slot (local c) = ends_read c (λ held. written_cell c held)
  written_slot (imported source x) = ends_import source x written_import
  written_slot arguments_object = ends_unknown

  written_present : (x : Text) (o : Option Value) → Gives Same (assign_present x v o)
  written_present x None = raised reference_error
  written_present x (Some old) = ends_show v (λ shown. ends_emit (Act.write x shown) (ends_set_global x (Some v) (gives_give v refl)))

  written_global : (g : Global) (x : Text) (there : Bool) → Gives Same (assign_global g x there v)
  written_global usual x there = ends_choose there (λ e. ends_global x (written_present x)) (λ e. raised reference_error)
  written_global the_undefined x there = raised type_error
  written_global no_whole_number x there = raised type_error

  pub written : (E : Enter) (p : Place) → Gives Same (put_place E p v)
  written E (at_slot slot) = written_slot slot
  written E (at_global x there) = written_global (global_named x) x there
  written E (at_member o key) = ends_show o (λ x. ends_show key (λ y. ends_show v (λ z. gives_with (gives_some (consult E (Act.set x y z))) (λ u w. gives_give v refl))))
