-- The first of some texts, and the others.
use Rattle.std.specs.Prelude.{ℕ, List, [], ◌∷◌, Option, Some, None, Vec}
use Rattle.std.specs.Global.{Global}
use denote.Ref.{Bor}
use Rattle.js_meaning.specs.Value.{Text}
use Rattle.run_plan.specs.Held.{texts_of}

abbrev pub texts_split : Option (Bor (List ℕ) × Vec (Bor (List ℕ)) Global) → List Text
texts_split None = []
texts_split (Some (first, others)) = first.now ∷ texts_of others.items
