-- Values behind others.
use Rattle.std.proofs.Common.{◌≡◌, List, [], ◌∷◌, ◌++◌, refl, ap}
use Rattle.js_meaning.specs.Value as meant
use Rattle.run_value.specs.declared.value.Value.{Value}
use Rattle.run_value.specs.View.{value_of}
use Rattle.run_world.specs.World.{values_of}

pub push_more : (us : List Value) (u : Value) (vs : List meant.Value) → values_of (us ++ u ∷ []) ++ vs ≡ values_of us ++ (value_of u ∷ vs)
push_more [] u vs = refl
push_more (w ∷ us) u vs = ap (λ xs. value_of w ∷ xs) (push_more us u vs)
