use Rattle.std.proofs.Common.{◌≡◌, ◌∙◌, sym, ap, subst, arith}
use Rattle.js_syntax.specs.Node.{Forest, Tree, forest_of}
use Rattle.scope_rules.specs.Table.{Scoping}
use Rattle.min_context.specs.Seen.{Seen}
use Rattle.min_peephole.specs.CleanBy.{CleanBy}
use Rattle.min_peephole.specs.Shaken.{IsMarked}
use Rattle.min_peephole.proofs.Shaking.{light, no_more_nodes, all_run}
use Rattle.min_peephole.proofs.shaken.settle.Goals as goal

pub run_passes-requires-clause-small : goal.run_passes-requires-clause-small
run_passes-requires-clause-small c = light (forest_of c.args.program) c.requires.small

pub handed_on-requires : goal.handed_on-requires
handed_on-requires c =
    let e = c.in_ok-iterations.ensures in
    record {
      small = omega (arith, no_more_nodes (forest_of c.args.program) (forest_of c.run_passes.new.program) e.edits c.requires.fits, c.requires.small);
      marked = λ n.
          let table : c.into_scoping.result ≡ c.args.scoping = c.into_scoping.ensures.scoping ∙ ap {A = Seen} (λ k. k.scoping) (e.same n) ∙ c.in_ok-ctx.ensures.table in
          subst (λ (s : Scoping). IsMarked (forest_of c.run_passes.new.program) s) (sym table) (subst (λ (x : Tree). IsMarked (forest_of x) c.args.scoping) (sym (e.none n)) c.requires.marked);
    }

pub returns : goal.returns
returns c =
    let e = c.in_ok-iterations.ensures in
    record {
      runs = all_run c.args.options (λ s. forest_of s.program) (λ s. s.scoping) (λ s. s.iterations) (forest_of c.args.program) (forest_of c.run_passes.new.program) c.in_ok-iterations.iterations e.edits (subst (λ o. CleanBy o (forest_of c.run_passes.new.program)) c.in_ok-ctx.ensures.options e.clean) e.few (λ n. ap {A = Tree} {B = Forest} forest_of (e.none n))
          c.handed_on.result c.handed_on.ensures.marked c.handed_on.ensures.numbered c.handed_on.ensures.iterations;
    }
