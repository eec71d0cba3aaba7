use Rattle.std.proofs.Common.{◌∙◌, ◌++◌, sym, ap}
use Rattle.run_plan.specs.Frame.{controls, onto}
use Rattle.run_plan.proofs.Law.{pushes}
use Rattle.run_plan.proofs.stack.push_plan.Goals as goal

pub returns : goal.returns
returns c = record {
  onto = λ E.
      sym (pushes E c.args.frames.now.items c.args.plan.then.items (controls E c.args.plan.control.value))
      ∙ ap (λ fs. onto E (c.args.frames.now.items ++ fs.items) (controls E c.args.plan.control.value)) (sym c.into_parts-control.ensures.then)
      ∙ ap (λ r. onto E (c.args.frames.now.items ++ c.into_parts-control.result.1.items) (controls E r.value)) (sym c.into_parts-control.ensures.control)
      ∙ ap (λ fs. onto E fs (controls E c.into_parts-control.result.0.value)) (sym c.in_ok-push_all.ensures.put);
}
