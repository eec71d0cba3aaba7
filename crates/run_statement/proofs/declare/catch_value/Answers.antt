use Rattle.std.proofs.Common.{◌∙◌, ap, sym}
use Rattle.std.proofs.lemmas.Result.{IfOk-weaker}
use Rattle.std.specs.Prelude.{[], Some}
use Rattle.js_meaning.specs.State.{seq}
use Rattle.js_meaning.specs.Node.{run, need, may}
use Rattle.js_meaning.specs.Statement.{take_maybe}
use Rattle.js_meaning.specs.Meaning.{eval}
use Rattle.run_value.specs.View.{value_of}
use Rattle.js_syntax.specs.Node.{row}
use Rattle.run_plan.specs.Frame.{meaning}
use Rattle.run_plan.specs.Front.{front_of}
use Rattle.run_statement.proofs.declare.catch_value.Goals as goal

pub returns-in-Node : goal.returns-in-Node
unfolding may eval
returns-in-Node c =
    IfOk-weaker c.catch_block.result _ _ (λ p made E. made E ∙ ap (λ t. need (eval E (row c.in-Node.others.now)) (λ b r. seq (take_maybe (Some (meaning E t)) (value_of c.args.value) c.args.env) (b (run []) c.args.env))) c.new.ensures ∙ ap (λ t. may (eval E t) (λ m r. need r (λ b r. seq (take_maybe m (value_of c.args.value) c.args.env) (b (run []) c.args.env)))) (sym (sym c.first_field.ensures ∙ ap front_of c.in-Node.is))) c.catch_block.ensures

pub returns-in-Absent : goal.returns-in-Absent
unfolding may eval
returns-in-Absent c =
    IfOk-weaker c.catch_block-in-Absent.result _ _ (λ p made E. made E ∙ ap (λ t. may (eval E t) (λ m r. need r (λ b r. seq (take_maybe m (value_of c.args.value) c.args.env) (b (run []) c.args.env)))) (sym (sym c.first_field.ensures ∙ ap front_of c.in-Absent.is))) c.catch_block-in-Absent.ensures
