use Rattle.std.proofs.Common.{◌∙◌, ap, sym}
use Rattle.std.proofs.lemmas.Result.{IfOk-weaker}
use Rattle.std.specs.Prelude.{Some}
use Rattle.js_meaning.specs.Node.{may}
use Rattle.js_meaning.specs.Statement.{try_does}
use Rattle.js_meaning.specs.Meaning.{eval}
use Rattle.run_plan.specs.Frame.{meaning, maybe_meaning}
use Rattle.run_plan.specs.Front.{front_of}
use Rattle.run_statement.proofs.branch.try_finalizer.Goals as goal

pub returns-in-Node : goal.returns-in-Node
unfolding may eval
returns-in-Node c =
    IfOk-weaker c.try_plan.result _ _ (λ p made E. made E ∙ ap (λ t. try_does (meaning E c.args.block.now) (maybe_meaning E c.args.handler) (Some (meaning E t)) c.args.env) c.new.ensures ∙ ap (λ t. may (eval E t) (λ m r. try_does (meaning E c.args.block.now) (maybe_meaning E c.args.handler) m c.args.env)) (sym (sym c.first_field.ensures ∙ ap front_of c.in-Node.is))) c.try_plan.ensures

pub returns-in-Absent : goal.returns-in-Absent
unfolding may eval
returns-in-Absent c =
    IfOk-weaker c.try_plan-in-Absent.result _ _ (λ p made E. made E ∙ ap (λ t. may (eval E t) (λ m r. try_does (meaning E c.args.block.now) (maybe_meaning E c.args.handler) m c.args.env)) (sym (sym c.first_field.ensures ∙ ap front_of c.in-Absent.is))) c.try_plan-in-Absent.ensures
