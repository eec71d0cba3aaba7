-- Reading and writing names and properties (ECMA-262 6.2.5, 9.1, 13.1, 13.3).
use Rattle.std.specs.Prelude.{ℕ, Bool, true, false, Option, Some, None, is_some, ◌||◌, codes, if◌then◌else◌}
use Rattle.std.specs.Str.{bytes_eq}
use Rattle.js_meaning.specs.Value.{Text, Slot, local, imported, arguments_object, Value, undef, type_error, reference_error}
use Rattle.js_meaning.specs.Trace.{Act}
use Rattle.js_meaning.specs.State.{M, Cell, cell, Place, at_slot, at_global, at_member, refers, done, unknown, choose, give, with_value, read, store, get_global, set_global, get_import, raise}
use Rattle.js_meaning.specs.Show.{show, emit}
use Rattle.js_meaning.specs.Host.{Enter, consult}

-- the global names that no script sets (19.1)
pub data Global : Type 0 where
  the_undefined no_whole_number usual : Global

abbrev pub global_named : Text → Global
global_named x =
    if bytes_eq x (codes "undefined") then the_undefined else (if bytes_eq x (codes "NaN") || bytes_eq x (codes "Infinity") then no_whole_number else usual)

-- reading a name

-- before it is initialised a name can't be touched; what then is thrown is left open
abbrev pub if_set : Option Value → M
if_set None = unknown
if_set (Some v) = give v

abbrev pub cell_value : Cell → M
cell_value (cell constant o) = if_set o

abbrev pub slot_value : Slot → M
slot_value (local c) = read c cell_value
slot_value (imported source x) = get_import source x if_set
slot_value arguments_object = unknown

-- an unbound name that isn't there throws (6.2.5.5)
abbrev pub if_there : Option Value → M
if_there None = raise reference_error
if_there (Some v) = give v

abbrev pub global_value : Global → Text → (Option Value → M) → M
global_value the_undefined x k = give undef
global_value no_whole_number x k = unknown
global_value usual x k = get_global x k

abbrev pub name_value : Option Slot → Text → M
name_value (Some slot) x = slot_value slot
name_value None x = global_value (global_named x) x if_there

-- but `typeof` of it is the type of undefined (13.5.3)
abbrev pub or_undefined : Option Value → M
or_undefined None = give undef
or_undefined (Some v) = give v

abbrev pub typeof_name : Option Slot → Text → M
typeof_name (Some slot) x = slot_value slot
typeof_name None x = global_value (global_named x) x or_undefined

-- writing a name

-- SetMutableBinding (9.1.1.1.5) in strict code
abbrev pub assign_cell : ℕ → Value → Cell → M
assign_cell c v (cell constant None) = unknown
assign_cell c v (cell true (Some old)) = raise type_error
assign_cell c v (cell false (Some old)) = store c (cell false (Some v)) (give v)

abbrev pub assign_import : Option Value → M
assign_import None = unknown
assign_import (Some v) = raise type_error

abbrev pub assign_slot : Slot → Value → M
assign_slot (local c) v = read c (assign_cell c v)
assign_slot (imported source x) v = get_import source x assign_import
assign_slot arguments_object v = unknown

-- it was there when the assignment began, and has to be there still (9.1.1.2.5)
abbrev pub assign_present : Text → Value → Option Value → M
assign_present x v None = raise reference_error
assign_present x v (Some old) = show v (λ shown. emit (Act.write x shown) (set_global x (Some v) (give v)))

-- `undefined`, `NaN` and `Infinity` can't be written (19.1)
abbrev pub assign_global : Global → Text → Bool → Value → M
assign_global usual x there v = choose there (get_global x (assign_present x v)) (raise reference_error)
assign_global _ x there v = raise type_error

-- ResolveBinding (9.4.2)
abbrev pub name_place : Option Slot → Text → M
name_place (Some slot) x = done (refers (at_slot slot))
name_place None x = get_global x (λ o. done (refers (at_global x (is_some o))))

-- GetValue and PutValue (6.2.5.5, 6.2.5.6): the host answers for every property

abbrev pub get_member : Enter → Value → Value → M
get_member E o key = show o (λ x. show key (λ y. consult E (Act.get x y)))

abbrev pub set_member : Enter → Value → Value → Value → M
set_member E o key v = show o (λ x. show key (λ y. show v (λ z. with_value (consult E (Act.set x y z)) (λ u. give v))))

abbrev pub get_place : Enter → Place → M
get_place E (at_slot slot) = slot_value slot
get_place E (at_global x there) = global_value (global_named x) x if_there
get_place E (at_member o key) = get_member E o key

abbrev pub put_place : Enter → Place → Value → M
put_place E (at_slot slot) v = assign_slot slot v
put_place E (at_global x there) v = assign_global (global_named x) x there v
put_place E (at_member o key) v = set_member E o key v
