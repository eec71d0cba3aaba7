use Rattle.js_syntax.specs.Node.{forest_of}
use Rattle.min_driver.proofs.Leaves.{compressed}
use Rattle.min_driver.proofs.minify.compress.Goals as goal

pub returns : goal.returns
returns c =
    let left = c.in_ok-left.field-0 in
    record {
      left = compressed c.args.options (forest_of c.args.program) (forest_of left.program) left.scoping left.iterations c.requires.within c.requires.well_formed c.requires.fits c.in_ok-left.ensures.shaken;
    }
