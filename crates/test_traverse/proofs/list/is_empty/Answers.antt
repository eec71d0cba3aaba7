use Rattle.std.proofs.Common.{◌∙◌, sym, ap}
use Rattle.js_syntax.specs.Node.{Forest}
use Rattle.test_traverse.specs.Bodies.{is_empty}
use Rattle.test_traverse.proofs.Lists.{empty_row}
use Rattle.test_traverse.proofs.list.is_empty.Goals as goal

pub returns-in-EmptyStatement : goal.returns-in-EmptyStatement
returns-in-EmptyStatement c =
    c.is_empty.ensures ∙ sym (empty_row c.args.node.now.kind c.children.result.now (sym c.kind.ensures ∙ c.in-EmptyStatement.is)) ∙ ap (λ (t : Forest). is_empty c.args.node.now.kind t) c.children.ensures
