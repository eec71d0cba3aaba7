use Rattle.std.proofs.Common.{◌≡◌, ◌∙◌, ap, subst, arith}
use Rattle.js_syntax.specs.Facts.{weight}
use Rattle.js_syntax.specs.Node.{Tree, forest_of, total}
use Rattle.steps.proofs.Allowed.Composing.{tree_edits_compose}
use Rattle.min_peephole.specs.CleanBy.{CleanBy}
use Rattle.min_peephole.proofs.Passed.{none_passed, one_more}
use Rattle.min_peephole.proofs.passes.run_passes.Goals as goal

pub loop-iterations-init : goal.loop-iterations-init
loop-iterations-init c = none_passed c.args.statements.now c.args.ctx.now c.args.program.now c.requires.between

pub run_peephole_pass-requires : goal.run_peephole_pass-requires
run_peephole_pass-requires c = record { between = c.loop-iterations.invariant.between }

pub overflow_add-iterations : goal.overflow_add-iterations
overflow_add-iterations c = omega (arith, c.requires.small, c.loop-iterations.invariant.few, c.in_ok-run_peephole_pass.ensures.lighter c.if-branch.true)

pub loop-iterations-smaller : goal.loop-iterations-smaller
loop-iterations-smaller c = c.in_ok-run_peephole_pass.ensures.lighter c.if-branch.true

pub loop-iterations-preserved : goal.loop-iterations-preserved
loop-iterations-preserved c =
    let e = c.in_ok-run_peephole_pass.ensures in
    one_more c.args.ctx.now c.args.program.now c.loop-iterations.statements c.run_peephole_pass.new.statements c.loop-iterations.ctx c.run_peephole_pass.new.ctx c.loop-iterations.program c.run_peephole_pass.new.program c.loop-iterations.iterations
    c.loop-iterations.invariant e.edits e.between (e.lighter c.if-branch.true) e.options

pub returns : goal.returns
returns c =
    let p = c.loop-iterations.invariant in
    let e = c.in_ok-run_peephole_pass.ensures in
    let same : c.run_peephole_pass.new.program ≡ c.loop-iterations.program = e.quiet c.if-branch.false in
    record {
      edits = tree_edits_compose p.edits e.edits;
      between = e.between;
      few = omega (arith, p.few, ap (λ (x : Tree). total weight (forest_of x)) same);
      none = λ n. same ∙ p.none n;
      same = λ n. e.same c.if-branch.false ∙ p.same n;
      options = e.options ∙ p.options;
      clean = subst (λ o. CleanBy o (forest_of c.run_peephole_pass.new.program)) p.options (e.clean c.if-branch.false);
    }
