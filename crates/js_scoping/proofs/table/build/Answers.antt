use Rattle.std.proofs.Common.{◌∙◌, ap}
use Rattle.js_syntax.specs.Node.{forest_of}
use Rattle.js_scoping.proofs.Marked.{exact_now, matches_now}
use Rattle.js_scoping.proofs.table.build.Goals as goal

pub returns-clause-exact : goal.returns-clause-exact
returns-clause-exact c =
    exact_now c.in_ok-scoping.field-0.scoping (forest_of c.args.program.now) (forest_of c.mark_nodes.new.program) c.as_slice.result.now c.in_ok-scoping.ensures.scoping
    (c.as_slice.ensures.value ∙ c.in_ok-scoping.ensures.symbols)
    c.mark_nodes.ensures.tree

pub returns-clause-matches : goal.returns-clause-matches
returns-clause-matches c =
    matches_now c.in_ok-scoping.field-0.scoping (forest_of c.args.program.now) (forest_of c.mark_nodes.new.program) c.as_slice.result.now c.in_ok-scoping.ensures.scoping
    (c.as_slice.ensures.value ∙ c.in_ok-scoping.ensures.symbols)
    c.mark_nodes.ensures.tree
