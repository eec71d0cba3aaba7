use Rattle.std.proofs.Common.{rules, ◌≡◌, subst}
use Rattle.js_syntax.specs.Node.{Tree, forest_of}
use Rattle.min_context.specs.Place.{top}
use Rattle.min_context.specs.Seen.{Seen}
use Rattle.min_traverse.specs.Visits.{Visits}
use Rattle.min_traverse.proofs.program.traverse_mut_with_ctx.Goals as goal

pub returns-clause-visited : goal.returns-clause-visited
returns-clause-visited g c q =
    let same : c.into_root-root.result ≡ c.args.program.now = search rules in
    let context : c.get_mut.result.now ≡ c.args.ctx.now = c.get_mut.ensures.context in
    subst (λ (k : Seen). Visits g.T.Traverse.visits g.T.Traverse.written top (forest_of c.args.program.now) c.args.traverse.now k c.traverse_root.new.traverse c.traverse_root.new.ctx) context
    (subst (λ (x : Tree). Visits g.T.Traverse.visits g.T.Traverse.written top (forest_of x) c.args.traverse.now c.get_mut.result.now c.traverse_root.new.traverse c.traverse_root.new.ctx) same
    (c.in_ok-traverse_root.ensures.visited q))
