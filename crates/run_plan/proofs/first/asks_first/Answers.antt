use Rattle.std.proofs.Common.{◌∙◌, ap, sym}
use Rattle.std.proofs.lemmas.Result.{IfOk-weaker}
use Rattle.js_meaning.specs.Node.{need}
use Rattle.js_meaning.specs.Meaning.{eval}
use Rattle.run_plan.specs.Ask.{ask_of}
use Rattle.run_plan.specs.Front.{front_of}
use Rattle.run_plan.proofs.first.asks_first.Goals as goal

pub returns-in-Node : goal.returns-in-Node
unfolding need eval
returns-in-Node c =
    IfOk-weaker c.asks.result _ _ (λ p h E. h E ∙ ap (λ t. need (eval E t) (λ m r. m (ask_of c.args.ask) c.args.env)) (sym (sym c.first_field.ensures ∙ ap front_of c.in-Node.is))) c.asks.ensures
