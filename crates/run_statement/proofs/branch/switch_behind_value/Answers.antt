use Rattle.std.proofs.Common.{◌∙◌, ap, sym}
use Rattle.std.proofs.lemmas.Result.{IfOk-weaker}
use Rattle.js_meaning.specs.State.{bind, with_value}
use Rattle.js_meaning.specs.Node.{matches, now, need}
use Rattle.js_meaning.specs.Statement.{after_switch}
use Rattle.js_meaning.specs.Meaning.{eval}
use Rattle.run_plan.specs.Frame.{meaning}
use Rattle.run_plan.specs.Front.{front_of}
use Rattle.run_statement.proofs.branch.switch_behind_value.Goals as goal

pub returns-in-Node : goal.returns-in-Node
unfolding need eval
returns-in-Node c =
    IfOk-weaker c.switch_plan.result _ _ (λ p made E. made E ∙ ap (λ t. need (eval E t) (λ cs r. with_value (meaning E c.args.value.now now c.args.env) (λ v. bind (cs (matches v) c.args.env) after_switch))) (sym (sym c.first_field.ensures ∙ ap front_of c.in-Node.is))) c.switch_plan.ensures
