use Rattle.std.proofs.Common.{◌∙◌, ap}
use Rattle.std.proofs.lemmas.Result.{IfOk-weaker}
use Rattle.js_syntax.specs.Node.{nothing}
use Rattle.run_plan.specs.Frame.{meaning}
use Rattle.run_statement.specs.Default.{default_by}
use Rattle.run_statement.proofs.Default.{default_is}
use Rattle.run_statement.proofs.simple.default_plan.Goals as goal

pub returns : goal.returns
returns c =
    IfOk-weaker c.default_by.result _ _ (λ p made E.
    made E ∙ ap (λ b. default_by b (meaning E c.args.node.now) c.args.env) c.is_function-function.ensures
    ∙ default_is c.args.node.now.kind c.args.node.now.note c.args.node.now.below nothing (meaning E c.args.node.now) c.args.env) c.default_by.ensures
