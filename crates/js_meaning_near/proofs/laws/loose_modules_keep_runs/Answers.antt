use Rattle.js_meaning_near.proofs.Contexts.{loose_keeps}
use Rattle.js_meaning_near.proofs.laws.loose_modules_keep_runs.Goals as goal

pub returns : goal.returns
returns c = λ n m i j a b h. loose_keeps n m i j h
