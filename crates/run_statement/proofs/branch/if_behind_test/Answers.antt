use Rattle.std.proofs.Common.{◌∙◌, ap, sym}
use Rattle.std.proofs.lemmas.Result.{IfOk-weaker}
use Rattle.js_meaning.specs.State.{choose, with_value}
use Rattle.js_meaning.specs.Operator.{truthy}
use Rattle.js_meaning.specs.Node.{run, now, need, may, ask_maybe}
use Rattle.js_meaning.specs.Meaning.{eval}
use Rattle.run_plan.specs.Frame.{meaning}
use Rattle.run_plan.specs.Front.{front_of}
use Rattle.run_statement.proofs.branch.if_behind_test.Goals as goal

pub returns-in-Node : goal.returns-in-Node
unfolding need eval
returns-in-Node c =
    IfOk-weaker c.if_behind_taken.result _ _ (λ p made E. made E ∙ ap (λ t. need (eval E t) (λ x r. may r (λ d r. with_value (meaning E c.args.test.now now c.args.env) (λ v. choose (truthy v) (x (run c.args.labels) c.args.env) (ask_maybe d (run c.args.labels) c.args.env))))) (sym (sym c.first_field.ensures ∙ ap front_of c.in-Node.is))) c.if_behind_taken.ensures
