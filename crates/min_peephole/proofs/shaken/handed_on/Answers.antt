use Rattle.js_syntax.specs.Node.{forest_of}
use Rattle.min_peephole.proofs.Shaking.{built_marked}
use Rattle.min_peephole.proofs.shaken.handed_on.Goals as goal

pub returns-clause-marked : goal.returns-clause-marked
returns-clause-marked c =
    let e = c.in_ok-scoping.ensures in
    built_marked (forest_of c.args.program) (forest_of c.build.new.program) c.in_ok-scoping.scoping e.marked e.scoping e.exact e.matches e.resolved
