use Rattle.js_meaning_near.proofs.Reexported.{reexported_refines}
use Rattle.js_meaning_near.proofs.laws.reexported_modules_refine.Goals as goal

pub returns : goal.returns
returns c = λ n m i j a b h. reexported_refines n m i j h
