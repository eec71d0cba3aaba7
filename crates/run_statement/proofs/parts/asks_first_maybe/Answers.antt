use Rattle.std.proofs.Common.{◌∙◌, ap, sym}
use Rattle.std.proofs.lemmas.Result.{IfOk-weaker}
use Rattle.js_meaning.specs.Node.{may, ask_maybe}
use Rattle.js_meaning.specs.Meaning.{eval}
use Rattle.run_plan.specs.Ask.{ask_of}
use Rattle.run_plan.specs.Front.{front_of}
use Rattle.run_statement.proofs.parts.asks_first_maybe.Goals as goal

pub returns-in-Node : goal.returns-in-Node
unfolding may eval
returns-in-Node c =
    IfOk-weaker c.asks.result _ _ (λ p made E. made E ∙ ap (λ t. may (eval E t) (λ m r. ask_maybe m (ask_of c.args.ask) c.args.env)) (sym (sym c.first_field.ensures ∙ ap front_of c.in-Node.is))) c.asks.ensures

pub returns-in-Absent : goal.returns-in-Absent
unfolding may eval
returns-in-Absent c =
    IfOk-weaker c.completes.result _ _ (λ p made E. made E ∙ ap (λ t. may (eval E t) (λ m r. ask_maybe m (ask_of c.args.ask) c.args.env)) (sym (sym c.first_field.ensures ∙ ap front_of c.in-Absent.is))) c.completes.ensures
