-- Which fields say more of a node than the table has, and that a value has none of them.
use Rattle.std.specs.Prelude.{◌≡◌, ℕ, List, [], ◌∷◌, Bool, true, false, ◌||◌, None, codes}
use Rattle.std.specs.Borrow.{Bor}
use Rattle.std.specs.Str.{bytes_eq}
use Rattle.serde_json.specs.Data.{Data}
use Rattle.serde_json.specs.Find.{get}
use Rattle.json_value.specs.declared.value.Value.{Value}

abbrev pub is_extra : List ℕ → Bool
is_extra key =
    bytes_eq key (codes "async") || (bytes_eq key (codes "generator") || (bytes_eq key (codes "await") || (bytes_eq key (codes "decorators")
    || (bytes_eq key (codes "attributes") || (bytes_eq key (codes "assertions") || (bytes_eq key (codes "options") || bytes_eq key (codes "phase")))))))

abbrev pub has_extra : List (Bor (List ℕ) × Value) → Bool
has_extra [] = false
has_extra (m ∷ ms) = is_extra m.0.now || has_extra ms

abbrev pub HasNoExtra : Data → Type 0
HasNoExtra d = (key : List ℕ) → is_extra key ≡ true → get key d ≡ None
