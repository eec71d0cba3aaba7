-- As what a private name was declared so far, and whether one more repeats it.
use Rattle.std.specs.Prelude.{Bool, true, false, not, ◌&&◌}
use Rattle.form_rules.specs.declared.role.Half.{Half}
use Rattle.form_rules.specs.declared.role.Half.TheVariants.{Getter as getter, Setter as setter, Whole as whole}
use Rattle.form_rules.specs.Rules.{other_half, same_flag}
use Rattle.form_names.specs.declared.halves.Halves.{Halves}
use Rattle.form_names.specs.Sorts.{or_if}

abbrev pub no_halves : Halves
no_halves = record { whole = false; getter = false; setter = false; static_getter = false; static_setter = false }

abbrev pub with_half : Half → (is_static : Bool) → Halves → Halves
with_half whole is_static h = record { whole = true; getter = h.getter; setter = h.setter; static_getter = h.static_getter; static_setter = h.static_setter }
with_half getter false h = record { whole = h.whole; getter = true; setter = h.setter; static_getter = h.static_getter; static_setter = h.static_setter }
with_half setter false h = record { whole = h.whole; getter = h.getter; setter = true; static_getter = h.static_getter; static_setter = h.static_setter }
with_half getter true h = record { whole = h.whole; getter = h.getter; setter = h.setter; static_getter = true; static_setter = h.static_setter }
with_half setter true h = record { whole = h.whole; getter = h.getter; setter = h.setter; static_getter = h.static_getter; static_setter = true }

-- whether the second repeats the first, where their names are the same
abbrev pub repeats : Half → (is_static : Bool) → Half → (also_static : Bool) → Bool
repeats one is_static other also_static = not (other_half one other && same_flag is_static also_static)

abbrev pub any_repeated : Half → (is_static : Bool) → Halves → Bool
any_repeated half is_static h =
    or_if h.whole (repeats whole false half is_static) (or_if h.getter (repeats getter false half is_static) (or_if h.setter (repeats setter false half is_static)
    (or_if h.static_getter (repeats getter true half is_static) (or_if h.static_setter (repeats setter true half is_static) false))))
