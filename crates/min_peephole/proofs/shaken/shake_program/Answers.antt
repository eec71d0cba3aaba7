use Rattle.std.proofs.Common.{◌∙◌, ap, arith}
use Rattle.js_syntax.specs.Node.{forest_of}
use Rattle.js_tree.specs.Count.{one_each, node_count}
use Rattle.js_scoping.specs.Build.{numbered}
use Rattle.js_scoping.proofs.Again.{numbered_total}
use Rattle.min_pass.specs.Pass.{cleared}
use Rattle.min_peephole.proofs.Shaking.{all_shaken, begins_fitting, built_marked, cleared_comes, no_more_nodes}
use Rattle.min_peephole.proofs.shaken.shake_program.Goals as goal

pub build-requires : goal.build-requires
build-requires c =
    let t = forest_of c.args.program in
    record { small = omega (arith, ap node_count c.in_ok-cleared.ensures.left, no_more_nodes t (cleared t) (cleared_comes t c.requires.fits c.requires.well_formed) c.requires.fits, c.requires.small) }

pub settle-requires : goal.settle-requires
settle-requires c =
    let t = forest_of c.args.program in
    let e = c.in_ok-scoping.ensures in
    let without = forest_of c.in_ok-cleared.cleared in
    let u = forest_of c.build.new.program in
    record {
      small = omega (arith, ap node_count e.marked, numbered_total one_each without, ap node_count c.in_ok-cleared.ensures.left, no_more_nodes t (cleared t) (cleared_comes t c.requires.fits c.requires.well_formed) c.requires.fits, c.requires.small);
      fits = begins_fitting t u c.requires.fits c.requires.well_formed (e.marked ∙ ap numbered c.in_ok-cleared.ensures.left);
      marked = built_marked without u c.in_ok-scoping.scoping e.marked e.scoping e.exact e.matches e.resolved;
    }

pub returns : goal.returns
returns c =
    let t = forest_of c.args.program in
    record {
      shaken = all_shaken c.args.options (λ s. forest_of s.program) (λ s. s.scoping) (λ s. s.iterations) t (forest_of c.build.new.program) c.requires.fits c.requires.well_formed (c.in_ok-scoping.ensures.marked ∙ ap numbered c.in_ok-cleared.ensures.left) c.settle.result c.settle.ensures.runs;
    }
