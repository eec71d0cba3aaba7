use Rattle.std.proofs.Common.{◌∙◌, sym, ap, subst, arith}
use Rattle.js_syntax.specs.Node.{row}
use Rattle.steps.specs.Allowed.UnrunValue.{passes}
use Rattle.min_statements.proofs.Shed.{asked_still}
use Rattle.min_statements.proofs.Thinning.{rest_sized}
use Rattle.min_statements.proofs.Valuing.{LeavesValues, until_next, until_none, told_inside}
use Rattle.min_statements.proofs.values.+tell.Goals as goal

pub tell_each-loop-rest-preserved-in-Some : goal.tell_each-loop-rest-preserved-in-Some
tell_each-loop-rest-preserved-in-Some t c = record {
  asked = asked_still c.tell_values.ensures.left c.loop-rest.invariant.asked;
  left = until_next (row c.args.children.now) c.loop-rest.rest.now c.first-item.result c.in-Some.node c.in-len1-up.len_at_least c.first-item.is c.in-Some.is c.tell_values.ensures.left c.loop-rest.invariant.left;
  small = omega (arith, rest_sized c.loop-rest.rest.now c.in-len1-up.len_at_least, c.loop-rest.invariant.small);
}

pub tell_each-returns : goal.tell_each-returns
tell_each-returns t c = record { left = until_none (row c.args.children.now) c.loop-rest.rest.now c.in_default.len_below c.loop-rest.invariant.left }

pub tell_values-returns-then-passes : goal.tell_values-returns-then-passes
tell_values-returns-then-passes t c = record {
  left = told_inside c.args.node.now (sym (ap passes (sym c.kind.ensures) ∙ sym c.passes.ensures ∙ c.if-passes.true)) (subst (λ r. LeavesValues c.args.ctx.now r c.tell_each.new.ctx) c.children.ensures c.tell_each.ensures.left) c.tell_declarator.ensures.left;
}
