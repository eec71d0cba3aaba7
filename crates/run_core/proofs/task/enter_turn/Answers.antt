use Rattle.std.proofs.Common.{◌∙◌, ap, sym}
use Rattle.std.proofs.lemmas.Result.{IfOk-weaker}
use Rattle.js_syntax.specs.Node.{row}
use Rattle.js_meaning.specs.Statement.{turn_does}
use Rattle.js_meaning.specs.Meaning.{eval}
use Rattle.run_plan.specs.Ask.{loop_of}
use Rattle.run_core.proofs.Turn.{turn_again}
use Rattle.run_core.proofs.task.enter_turn.Goals as goal

pub returns-in-For : goal.returns-in-For
returns-in-For c =
    IfOk-weaker c.turn_for.result _ _ (λ p made E. made E
    ∙ turn_again E (row c.args.nodes.now) (eval E (row c.args.nodes.now)) c.args.labels c.args.env
    ∙ ap (λ k. turn_does E (loop_of k) (row c.args.nodes.now) (eval E (row c.args.nodes.now)) c.args.labels c.args.env) (sym c.in-For.is)) c.turn_for.ensures
