use Rattle.min_driver.proofs.minify.Minifier.dce.Goals as goal

pub returns-clause-formed : goal.returns-clause-formed
returns-clause-formed c = c.in_ok-left.ensures.left.formed
