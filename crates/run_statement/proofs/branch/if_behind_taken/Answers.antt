use Rattle.std.proofs.Common.{◌∙◌, ap, sym}
use Rattle.std.proofs.lemmas.Result.{IfOk-weaker}
use Rattle.std.specs.Prelude.{Some}
use Rattle.js_meaning.specs.State.{choose, with_value}
use Rattle.js_meaning.specs.Operator.{truthy}
use Rattle.js_meaning.specs.Node.{run, now, may, ask_maybe}
use Rattle.js_meaning.specs.Meaning.{eval}
use Rattle.run_plan.specs.Frame.{meaning}
use Rattle.run_plan.specs.Front.{front_of}
use Rattle.run_statement.proofs.branch.if_behind_taken.Goals as goal

pub returns-in-Node : goal.returns-in-Node
unfolding may eval
returns-in-Node c =
    IfOk-weaker c.if_plan.result _ _ (λ p made E. made E ∙ ap (λ t. with_value (meaning E c.args.test.now now c.args.env) (λ v. choose (truthy v) (meaning E c.args.taken.now (run c.args.labels) c.args.env) (ask_maybe (Some (meaning E t)) (run c.args.labels) c.args.env))) c.new.ensures ∙ ap (λ t. may (eval E t) (λ m r. with_value (meaning E c.args.test.now now c.args.env) (λ v. choose (truthy v) (meaning E c.args.taken.now (run c.args.labels) c.args.env) (ask_maybe m (run c.args.labels) c.args.env)))) (sym (sym c.first_field.ensures ∙ ap front_of c.in-Node.is))) c.if_plan.ensures

pub returns-in-Absent : goal.returns-in-Absent
unfolding may eval
returns-in-Absent c =
    IfOk-weaker c.if_plan-in-Absent.result _ _ (λ p made E. made E ∙ ap (λ t. may (eval E t) (λ m r. with_value (meaning E c.args.test.now now c.args.env) (λ v. choose (truthy v) (meaning E c.args.taken.now (run c.args.labels) c.args.env) (ask_maybe m (run c.args.labels) c.args.env)))) (sym (sym c.first_field.ensures ∙ ap front_of c.in-Absent.is))) c.if_plan-in-Absent.ensures
