use Rattle.std.proofs.Common.{◌∙◌, Option, sym, ap, subst}
use Rattle.js_syntax.specs.Node.{row}
use Rattle.min_context.specs.Seen.{Seen}
use Rattle.min_imports.specs.declared.passing.Passing.{Passing}
use Rattle.min_statements.specs.Passed.{PlannedBelow}
use Rattle.min_statements.proofs.Passing.{passes_none, passes_not, passes_so, fits, inside}
use Rattle.min_statements.proofs.passed.merge_import_export.Goals as goal

pub returns-then-not-may_come_together-clause-does : goal.returns-then-not-may_come_together-clause-does
returns-then-not-may_come_together-clause-does c = passes_none c.args.names.now c.args.ctx.now c.args.node.now (sym c.if-not-may_come_together.true ∙ c.may_come_together.ensures)

pub returns-in_default-clause-does : goal.returns-in_default-clause-does
returns-in_default-clause-does c =
    passes_not c.args.names.now c.args.ctx.now c.args.node.now (sym c.if-not-may_come_together.false ∙ c.may_come_together.ensures) c.facts.result (row c.children.result.now) c.facts.ensures c.children.ensures
    (subst (λ (o : Option Passing). PlannedBelow c.facts.result (row c.children.result.now) o) c.in_default.is c.in_ok-planned.ensures)

pub drop_exports-requires : goal.drop_exports-requires
drop_exports-requires c = record {
  within = inside c.args.names.now c.args.ctx.now c.args.node.now (sym c.if-not-may_come_together.false ∙ c.may_come_together.ensures) c.facts.result (row c.children.result.now) c.in-Some.passing c.facts.ensures c.children.ensures (subst (λ (o : Option Passing). PlannedBelow c.facts.result (row c.children.result.now) o) c.in-Some.is c.in_ok-planned.ensures) (row c.children-2.result.now) c.as_slice.result.now c.children-2.ensures c.as_slice.ensures.value;
  asked = ap {A = Seen} (λ z. z.requested) c.notice_change.ensures.requested;
}

pub pass_below-requires : goal.pass_below-requires
pass_below-requires c = fits c.args.names.now c.args.ctx.now c.args.node.now (sym c.if-not-may_come_together.false ∙ c.may_come_together.ensures) c.facts.result (row c.children.result.now) c.in-Some.passing c.facts.ensures c.children.ensures (subst (λ (o : Option Passing). PlannedBelow c.facts.result (row c.children.result.now) o) c.in-Some.is c.in_ok-planned.ensures)

pub returns-clause-does : goal.returns-clause-does
returns-clause-does c =
    passes_so c.args.names.now c.args.ctx.now c.args.node.now (sym c.if-not-may_come_together.false ∙ c.may_come_together.ensures) c.facts.result (row c.children.result.now) c.in-Some.passing c.facts.ensures c.children.ensures (subst (λ (o : Option Passing). PlannedBelow c.facts.result (row c.children.result.now) o) c.in-Some.is c.in_ok-planned.ensures)
    c.notice_change.new.self c.drop_exports.new.ctx c.pass_below.new.node (row c.children-2.result.now) c.as_slice.result.now c.notice_change.ensures.requested c.children-2.ensures c.as_slice.ensures.value c.drop_exports.ensures c.pass_below.ensures.kind c.pass_below.ensures.note c.pass_below.ensures.below
