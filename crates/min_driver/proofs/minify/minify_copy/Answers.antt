use Rattle.std.proofs.Common.{IfOk, sym, subst, ap}
use Rattle.js_syntax.specs.Node.{Forest, forest_of}
use Rattle.form_rules.specs.Form.{IsWellFormed}
use Rattle.min_driver.specs.Left.{IsLeft}
use Rattle.min_driver.specs.Limit.{IsWithinLimits}
use Rattle.min_driver.proofs.minify.minify_copy.Goals as goal

pub minify-requires : goal.minify-requires
minify-requires c = record {
  within = subst IsWithinLimits (sym (ap forest_of c.in_ok-copy.ensures.equal)) c.requires.within;
  well_formed = subst IsWellFormed (sym (ap forest_of c.in_ok-copy.ensures.equal)) c.requires.well_formed;
}

pub returns : goal.returns
returns c = record {
  left = subst (λ (t : Forest). IfOk c.minify.result (λ r. IsLeft c.args.options t (forest_of r.0) r.1.scoping r.1.iterations)) (ap forest_of c.in_ok-copy.ensures.equal) c.minify.ensures.left;
}
