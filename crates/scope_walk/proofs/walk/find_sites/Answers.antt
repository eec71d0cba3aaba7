use Rattle.std.proofs.Common.{arith, ap}
use Rattle.js_syntax.specs.Node.{forest_of}
use Rattle.scope_rules.specs.Site.{scope_count}
use Rattle.scope_rules.proofs.Counts.{no_more_scopes}
use Rattle.scope_walk.proofs.walk.find_sites.Goals as goal

pub add_sites-requires : goal.add_sites-requires
add_sites-requires c = omega (arith, no_more_scopes (forest_of c.args.program.now), ap (λ t. scope_count (forest_of t)) c.root.ensures, c.requires.small)
