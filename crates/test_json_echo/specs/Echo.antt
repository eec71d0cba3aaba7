-- What is printed for a text.
use Rattle.std.specs.Prelude.{◌≡◌, ℕ, List, false, Some}
use Rattle.serde_json.specs.Data.{Data}
use Rattle.serde_json.specs.Read.{read}
use Rattle.serde_json.specs.Written.{compact_text, has_float}

-- the compact text of what the bytes are read as, unless that has a float
abbrev pub IsEcho : List ℕ → List ℕ → Type 0
IsEcho bytes text = (d : Data) × (read bytes ≡ Some d) × (has_float d ≡ false → text ≡ compact_text d)
