use Rattle.std.proofs.Common.{◌∙◌, ap, sym}
use Rattle.std.proofs.lemmas.Result.{IfOk-weaker}
use Rattle.js_syntax.specs.Node.{row}
use Rattle.js_meaning.specs.State.{with_value}
use Rattle.js_meaning.specs.Node.{now, need}
use Rattle.js_meaning.specs.Statement.{enter_if}
use Rattle.js_meaning.specs.Host.{do_loop}
use Rattle.js_meaning.specs.Meaning.{eval}
use Rattle.run_plan.specs.Front.{front_of}
use Rattle.run_plan.proofs.loops.test_do.Goals as goal

pub returns-in-Node : goal.returns-in-Node
unfolding need eval
returns-in-Node c =
    IfOk-weaker c.test_first.result _ _ (λ p h E. h E ∙ ap (λ t. need (eval E t) (λ b r. need r (λ t r. with_value (t now c.args.env) (enter_if E do_loop (row c.args.nodes.now) c.args.labels c.args.env)))) (sym (sym c.first_field.ensures ∙ ap front_of c.in-Node.is))) c.test_first.ensures
