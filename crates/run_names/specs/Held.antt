-- Names in memory as definitions have them.
use Rattle.std.specs.Prelude.{ℕ, List, Option, Some, None, map}
use denote.Ref.{Bor}
use Rattle.js_meaning.specs.Value.{Text}

abbrev pub held : List (Bor (List ℕ)) → List Text
held xs = map (λ s. s.now) xs

abbrev pub maybe_held : Option (Bor (List ℕ)) → Option Text
maybe_held None = None
maybe_held (Some s) = Some s.now
