use Rattle.std.proofs.Common.{◌∙◌, ap, sym}
use Rattle.std.proofs.lemmas.Result.{IfOk-weaker}
use Rattle.std.specs.Prelude.{[]}
use Rattle.js_meaning.specs.State.{seq}
use Rattle.js_meaning.specs.Node.{run, need}
use Rattle.js_meaning.specs.Statement.{take_maybe}
use Rattle.js_meaning.specs.Meaning.{eval}
use Rattle.run_value.specs.View.{value_of}
use Rattle.run_plan.specs.Frame.{maybe_meaning}
use Rattle.run_plan.specs.Front.{front_of}
use Rattle.run_statement.proofs.declare.catch_block.Goals as goal

pub returns-in-Node : goal.returns-in-Node
unfolding need eval
returns-in-Node c =
    IfOk-weaker c.caught_plan.result _ _ (λ p made E. made E ∙ ap (λ t. need (eval E t) (λ b r. seq (take_maybe (maybe_meaning E c.args.parameter) (value_of c.args.value) c.args.env) (b (run []) c.args.env))) (sym (sym c.first_field.ensures ∙ ap front_of c.in-Node.is))) c.caught_plan.ensures
