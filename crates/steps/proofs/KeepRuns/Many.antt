-- Steps of a core module, one after the other.
use Rattle.std.proofs.Common.{◌≡◌, true}
use Rattle.js_syntax.specs.Node.{Forest, Note}
use Rattle.js_meaning.specs.Kept.{Refined}
use Rattle.js_meaning.proofs.Kept.{refined_same, refined_joined}
use Rattle.js_meaning_near.specs.Near.{fields, module_of}
use Rattle.js_meaning_near.specs.Fit.{whole}
use Rattle.js_meaning_near.specs.Avoid.{InPlace}
use Rattle.steps.specs.Steps.{outermost, Step, all_core}
use Rattle.steps.proofs.Steps.{step_core}
use Rattle.steps.specs.KeepRuns.Formed.{is_formed}
use Rattle.steps.specs.KeepRuns.Once.{Once}
use Rattle.steps.specs.KeepRuns.Many.{CoreSteps, no_step, one_step}
use Rattle.steps.proofs.KeepRuns.Formed.{formed_step}
use Rattle.steps.proofs.KeepRuns.Modules.{place_step, InItems, in_items, in_its_items}
use Rattle.steps.proofs.KeepRuns.Whole.{module_once}

-- a core module that is formed
data IsModule (n m : Note) : Forest → Type 0 where
  is_module : {a : Forest} → is_formed (module_of n m a) ≡ true → all_core a ≡ true → InPlace whole fields (module_of n m a) → IsModule n m (module_of n m a)

module_after : (n m : Note) (a u : Forest) (s : Step outermost (module_of n m a) u) → InItems n m a u s
    → is_formed (module_of n m a) ≡ true → all_core a ≡ true → InPlace whole fields (module_of n m a) → IsModule n m u
module_after n m a _ z (in_items s) f c i = is_module (formed_step z f) (step_core s c) (place_step whole fields z i)

after : (n m : Note) (t u : Forest) → IsModule n m t → Step outermost t u → IsModule n m u
after n m _ u (is_module {a = a} f c i) s = module_after n m a u s (in_its_items n m a u s) f c i

one : (n m : Note) (t u : Forest) → IsModule n m t → (s : Step outermost t u) → Once s → Refined t u
one n m _ u (is_module {a = a} f c i) s o = module_once n m a u s f c i o

many : (n m : Note) (t v : Forest) → CoreSteps t v → IsModule n m t → Refined t v
many n m t _ no_step z = refined_same t
many n m t v (one_step {u = u} s o rest) z = refined_joined t u v (one n m t u z s o) (many n m u v rest (after n m t u z s))

pub module_many : (n m : Note) (a u : Forest) → CoreSteps (module_of n m a) u → is_formed (module_of n m a) ≡ true → all_core a ≡ true → InPlace whole fields (module_of n m a) → Refined (module_of n m a) u
module_many n m a u s f c i = many n m (module_of n m a) u s (is_module f c i)
