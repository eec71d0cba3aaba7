use Rattle.std.proofs.Common.{◌≡◌, ◌∙◌, ℕ, true, false, true≢false, cond, sym, ap, subst, arith}
use Rattle.js_syntax.specs.Node.{forest_of}
use Rattle.min_context.specs.Completing.{completed}
use Rattle.min_context.specs.Seen.{Seen}
use Rattle.min_statements.specs.Walker.{Names}
use Rattle.min_peephole.specs.Between.{BetweenPasses}
use Rattle.min_peephole.specs.CleanBy.{CleanBy}
use Rattle.min_peephole.proofs.Passing.{exact, no_dead_code, between_same, completed_between}
use Rattle.min_peephole.proofs.passes.run_peephole_pass.Goals as goal

pub returns-then-needs_another_pass : goal.returns-then-needs_another_pass
returns-then-needs_another_pass c =
    let w = c.in_ok-walk.ensures.walked in
    let u = forest_of c.walk.new.program in
    let done : c.complete_pass.new.self ≡ completed u c.walk.new.ctx = c.complete_pass.ensures.completed ∙ ap {A = Seen} {B = Seen} (completed u) c.get_mut.ensures.context in
    let asked : c.walk.new.ctx.requested ≡ true = ap {A = Seen} (λ k. k.requested) (sym c.get.ensures.context) ∙ sym c.revisit_requested-needs_another_pass.ensures.requested ∙ c.if-needs_another_pass.true in
    let b : BetweenPasses c.walk.new.statements c.complete_pass.new.self u =
    subst (λ (k : Seen). BetweenPasses c.walk.new.statements k u) (sym done) (completed_between c.walk.new.statements c.walk.new.ctx u w.holds w.known w.only w.exported_only w.place) in
    record {
      edits = w.edits;
      between = b;
      exact = exact c.walk.new.statements c.complete_pass.new.self u b;
      lighter = λ _. omega (arith, w.lighter, ap {B = ℕ} (λ q. cond q 1 0) asked);
      quiet = λ e. absurd (true≢false (sym c.if-needs_another_pass.true ∙ e));
      same = λ e. absurd (true≢false (sym c.if-needs_another_pass.true ∙ e));
      options = ap {A = Seen} (λ k. k.options) done ∙ c.in_ok-walk.ensures.options;
      clean = λ e. absurd (true≢false (sym c.if-needs_another_pass.true ∙ e));
    }

pub returns-else-needs_another_pass : goal.returns-else-needs_another_pass
returns-else-needs_another_pass c =
    let w = c.in_ok-walk.ensures.walked in
    let u = forest_of c.walk.new.program in
    let none : c.walk.new.ctx.requested ≡ false = ap {A = Seen} (λ k. k.requested) (sym c.get.ensures.context) ∙ sym c.revisit_requested-needs_another_pass.ensures.requested ∙ c.if-needs_another_pass.false in
    let b : BetweenPasses c.walk.new.statements c.walk.new.ctx u =
    subst (λ (n : Names). BetweenPasses n c.walk.new.ctx u) (sym (w.names_same none))
    (between_same c.args.statements.now c.args.ctx.now c.walk.new.ctx c.args.program.now c.walk.new.program (w.context_same none) (c.in_ok-walk.ensures.quiet none) c.requires.between) in
    record {
      edits = w.edits;
      between = b;
      exact = exact c.walk.new.statements c.walk.new.ctx u b;
      lighter = λ e. absurd (true≢false (sym e ∙ c.if-needs_another_pass.false));
      quiet = λ _. c.in_ok-walk.ensures.quiet none;
      same = λ _. w.context_same none;
      options = c.in_ok-walk.ensures.options;
      clean = λ _. subst (λ o. CleanBy o u) c.in_ok-walk.ensures.options (no_dead_code c.walk.new.statements c.walk.new.ctx u b (w.quiet none) (w.uses_imports none) (w.settled none));
    }
