use Rattle.js_meaning_near.proofs.Reordered.{reordered_refines}
use Rattle.js_meaning_near.proofs.laws.reordered_modules_refine.Goals as goal

pub returns : goal.returns
returns c = λ n m i j a b h. reordered_refines n m i j h
