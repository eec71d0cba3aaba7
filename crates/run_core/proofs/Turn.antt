-- A turn of a `for` copies its cells before its update, which is what comes before its next turn.
use Rattle.std.proofs.Common.{◌≡◌, List, [], ◌∷◌, refl}
use Rattle.js_syntax.specs.Node.{Forest}
use Rattle.js_meaning.specs.Value.{Text, Env}
use Rattle.js_meaning.specs.State.{bind}
use Rattle.js_meaning.specs.Node.{Parts, run, need, may}
use Rattle.js_meaning.specs.Host.{Enter, for_loop}
use Rattle.js_meaning.specs.Statement.{after_turn, turn_does}
use Rattle.run_plan.specs.Frame.{again}

pub turn_again : (E : Enter) (a : Forest) (ms : Parts) (ls : List Text) (env : Env)
    → may ms (λ i r. may r (λ t r. may r (λ u r. need r (λ b r. bind (b (run []) env) (after_turn ls (again E for_loop a ms ls env)))))) ≡ turn_does E for_loop a ms ls env
unfolding may
turn_again E a [] ls env = refl
turn_again E a (i ∷ []) ls env = refl
turn_again E a (i ∷ t ∷ []) ls env = refl
turn_again E a (i ∷ t ∷ u ∷ r) ls env = refl
