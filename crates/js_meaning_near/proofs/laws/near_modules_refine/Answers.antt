use Rattle.js_meaning_near.proofs.Contexts.{near_refines}
use Rattle.js_meaning_near.proofs.laws.near_modules_refine.Goals as goal

pub returns : goal.returns
returns c = λ n m i j a b h. near_refines n m i j h
