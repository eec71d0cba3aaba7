-- What a literal is shown to hold, as a list.
use Rattle.std.specs.Prelude.{List, [], ◌∷◌, Option, Some, None, String, string_bytes}
use Rattle.std.specs.Global.{Global}
use Rattle.std.specs.declared.rc.Rc.{Rc}
use Rattle.serde_json.specs.Data.{Data}
use Rattle.js_meaning.specs.Value.{Shown, Parts, no_parts, shows, shows_at}
use Rattle.run_text.specs.Text.{pair_data, shown_data}

abbrev pub parts_datas : Parts → List Data
parts_datas no_parts = []
parts_datas (shows v c) = shown_data v ∷ parts_datas c
parts_datas (shows_at k v c) = pair_data k (shown_data v) ∷ parts_datas c

-- a value with the key in memory that it has, if any
abbrev pub part_data : Option (Rc (String Global) Global) → Shown → Data
part_data None v = shown_data v
part_data (Some k) v = pair_data (string_bytes k.value) (shown_data v)
