use Rattle.js_syntax.specs.Node.{forest_of}
use Rattle.min_driver.proofs.Leaves.{marked_now}
use Rattle.min_driver.proofs.minify.mark.Goals as goal

pub returns-clause-marked : goal.returns-clause-marked
returns-clause-marked c =
    let b = c.in_ok-scoping.ensures in
    marked_now (forest_of c.args.program) (forest_of c.build.new.program) c.in_ok-scoping.scoping b.marked b.scoping b.exact b.matches b.resolved
