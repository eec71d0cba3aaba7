-- Pieces of a program that a run holds on to, and what nodes are asked, as the definitions have them.
use Rattle.std.specs.Prelude.{ℕ, List, [], Option, Some, None, Vec, map}
use Rattle.std.specs.Global.{Global}
use Rattle.std.specs.declared.rc.Rc.{Rc}
use denote.Ref.{Bor}
use Rattle.js_meaning.specs.Value.{Text}

abbrev pub texts_of : List (Bor (List ℕ)) → List Text
texts_of names = map (λ s. s.now) names

abbrev pub names_in : Option (Rc (Vec (Bor (List ℕ)) Global) Global) → List Text
names_in None = []
names_in (Some names) = texts_of names.value.items
