-- stated/put_value
use Rattle.std.proofs.Common.{◌∙◌, ap}
use Rattle.js_syntax.specs.Node.{row}
use Rattle.rules.specs.DeadCode.Rules.{value_below}
use Rattle.min_statements.specs.Walker.{facts_of}
use Rattle.min_statements.proofs.Stating.{statement_is, state_edited}
use Rattle.min_statements.proofs.stated.put_value.Goals as goal

pub returns-clause-edited : goal.returns-clause-edited
returns-clause-edited c =
    state_edited (facts_of c.args.names.now c.args.ctx.now) c.args.ctx.now.place c.args.node.now c.replace_statement.new.slot c.requires.stays
    (c.replace_statement.ensures.put
    ∙ statement_is c.new-statement.result c.args.node.now.note c.span-span.result (row c.value_below-value.result.items) (value_below c.args.node.now.below) c.new-statement.ensures c.span-span.ensures
    (c.value_below-value.ensures ∙ ap value_below c.replace_children-children.ensures.taken))
    c.replace_children-children.ensures.kind c.replace_children-children.ensures.note (c.replace_children-children.ensures.below ∙ ap row c.new.ensures.items) c.replace_statement.ensures.dropped
