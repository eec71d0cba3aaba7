-- Names among others.
use Rattle.std.proofs.Common.{◌≡◌, ◌∙◌, List, [], ◌∷◌, ◌++◌, Bool, ◌||◌, bytes_eq, refl, ap}
use Rattle.js_meaning.specs.Value.{Text}
use Rattle.steps.specs.Names.{is_among}
use Rattle.js_syntax.proofs.Truth.{or_associates}

pub among_joined : (xs ys : List Text) (x : Text) → is_among (xs ++ ys) x ≡ is_among xs x || is_among ys x
among_joined [] ys x = refl
among_joined (z ∷ xs) ys x = ap (λ (b : Bool). bytes_eq z x || b) (among_joined xs ys x) ∙ or_associates (bytes_eq z x) (is_among xs x) (is_among ys x)
