use Rattle.std.proofs.Common.{◌∙◌, false, sym, subst}
use Rattle.js_syntax.specs.Node.{row}
use Rattle.scope_counts.specs.Counts.{ids}
use Rattle.min_context.specs.Edited.{evals, Leaves}
use Rattle.min_statements.specs.Shed.{inert_shed}
use Rattle.min_statements.proofs.Spared.{none_inert, none_emptied}
use Rattle.min_statements.proofs.inert.clear_inert.Goals as goal

pub returns-then-has_inert : goal.returns-then-has_inert
returns-then-has_inert c = record {
  left = subst (λ t. Leaves c.args.ctx.now (λ r. inert_shed (ids r) false t) (inert_shed evals false t) c.drop_inert.new.ctx) c.children-then-has_inert.ensures c.drop_inert.ensures.left;
  emptied = c.empty_inert.ensures;
}

pub returns-else-has_inert : goal.returns-else-has_inert
returns-else-has_inert c = record {
  left = none_inert c.args.ctx.now c.args.node.now.below (row c.children.result.now) c.children.ensures (sym c.has_inert.ensures ∙ c.if-has_inert.false);
  emptied = none_emptied c.args.node.now (row c.children.result.now) c.children.ensures (sym c.has_inert.ensures ∙ c.if-has_inert.false);
}
