use Rattle.std.proofs.Common.{IfOk, sym, subst}
use Rattle.js_syntax.specs.Node.{forest_of}
use Rattle.min_driver.specs.Left.{IsLeft}
use Rattle.min_driver.proofs.Leaves.{all_marked}
use Rattle.min_driver.proofs.minify.minify.Goals as goal

pub returns-in-None : goal.returns-in-None
returns-in-None c = record {
  left = subst (λ o. IfOk c.mark.result (λ r. IsLeft o (forest_of c.args.program) (forest_of r.0) r.1.scoping r.1.iterations)) (sym c.in-None.is)
      (all_marked (λ r. forest_of r.0) (λ r. r.1.scoping) (λ r. r.1.iterations) (forest_of c.args.program) c.requires.within c.requires.well_formed c.mark.result c.mark.ensures.numbered c.mark.ensures.marked c.mark.ensures.iterations);
}

pub returns-in-Some : goal.returns-in-Some
returns-in-Some c = record {
  left = subst (λ o. IfOk c.compress_any.result (λ r. IsLeft o (forest_of c.args.program) (forest_of r.0) r.1.scoping r.1.iterations)) (sym c.in-Some.is) c.compress_any.ensures.left;
}
