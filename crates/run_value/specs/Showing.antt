-- How much there is to show, and what showing one value after another gives.
use Rattle.std.specs.Prelude.{◌≡◌, ℕ, ◌+◌, List, [], ◌∷◌, map, String}
use Rattle.std.specs.Global.{Global}
use Rattle.std.specs.declared.rc.Rc.{Rc}
use Rattle.js_meaning.specs.Value as meant
use Rattle.js_meaning.specs.State.{Out}
use Rattle.js_meaning.specs.Show.{After, number_of, show_own, show_in, show_content}
use Rattle.run_value.specs.declared.value.Value.{Value}
use Rattle.run_value.specs.View.{value_of, content_of}
use Rattle.run_value.specs.Weight.{value_size}
use Rattle.run_value.specs.declared.shown.Shown.{Shown}
use Rattle.run_value.specs.ShownView.{parts_of}

abbrev pub values_of : List Value → List meant.Value
values_of vs = map value_of vs

abbrev pub sizes : List Value → ℕ
sizes [] = 0
sizes (v ∷ vs) = 1 + value_size (value_of v) + sizes vs

-- under whatever keys these values stand, they are shown so
abbrev pub ShowsEach : List Value → List meant.Value → List Shown → List meant.Value → Type 0
ShowsEach vs before xs after = (keys : List (Rc (String Global) Global)) (k : After meant.Parts) → show_content (content_of keys vs) before k ≡ k (parts_of keys xs) after

abbrev pub ShowsOne : meant.Value → List meant.Value → meant.Shown → List meant.Value → Type 0
ShowsOne v before x after = (k : After meant.Shown) → show_in v before k ≡ k x after

abbrev pub ShowsParts : meant.Content → List meant.Value → meant.Parts → List meant.Value → Type 0
ShowsParts c before x after = (k : After meant.Parts) → show_content c before k ≡ k x after

-- an own object of this number, of which such content is shown
abbrev pub ShowsOwn : ℕ → meant.Value → meant.Sort → (List meant.Value → After meant.Parts → Out) → List meant.Value → meant.Shown → List meant.Value → Type 0
ShowsOwn number v sort content before x after = (k : After meant.Shown) → show_own (number_of number before 0) v sort before content k ≡ k x after
