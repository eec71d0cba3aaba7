use Rattle.std.proofs.Common.{true≢false, sym, ◌∙◌}
use Rattle.js_syntax.specs.Node.{forest_of}
use Rattle.min_driver.proofs.Leaves.{all_cleared}
use Rattle.min_driver.proofs.minify.compress_any.Goals as goal

pub returns : goal.returns
returns c = record {
  left = all_cleared (λ r. forest_of r.0) (λ r. r.1.scoping) (λ r. r.1.iterations) (forest_of c.args.program) c.requires.within c.requires.well_formed c.args.options (λ fit. absurd (true≢false (sym (c.fits.ensures.fits.1 fit) ∙ c.if-fits.false))) c.clear.result c.clear.ensures.numbered c.clear.ensures.marked c.clear.ensures.iterations;
}
