-- Where a key stands among others.
use Rattle.std.specs.Prelude.{ℕ, suc, List, [], ◌∷◌, Option, Some, None, String, string_bytes, if◌then◌else◌}
use Rattle.std.specs.Str.{bytes_eq}
use Rattle.std.specs.Global.{Global}
use Rattle.std.specs.declared.rc.Rc.{Rc}
use Rattle.js_meaning.specs.Value.{Text}

-- the first place of a key, counted from n
abbrev pub place_from : ℕ → List (Rc (String Global) Global) → Text → Option ℕ
place_from n [] key = None
place_from n (k ∷ ks) key = if bytes_eq (string_bytes k.value) key then Some n else place_from (suc n) ks key
