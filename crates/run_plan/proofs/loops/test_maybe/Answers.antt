use Rattle.std.proofs.Common.{◌∙◌, ap, sym}
use Rattle.std.proofs.lemmas.Result.{IfOk-weaker}
use Rattle.js_syntax.specs.Node.{row}
use Rattle.js_meaning.specs.Node.{may}
use Rattle.js_meaning.specs.Statement.{enter_if, test_for}
use Rattle.js_meaning.specs.Host.{for_loop}
use Rattle.js_meaning.specs.Meaning.{eval}
use Rattle.run_plan.specs.Front.{front_of}
use Rattle.run_plan.proofs.loops.test_maybe.Goals as goal

pub returns-in-Node : goal.returns-in-Node
unfolding may eval
returns-in-Node c =
    IfOk-weaker c.test.result _ _ (λ p h E. h E ∙ ap (λ t. may (eval E t) (λ t r. test_for t c.args.env (enter_if E for_loop (row c.args.nodes.now) c.args.labels c.args.env))) (sym (sym c.first_field.ensures ∙ ap front_of c.in-Node.is))) c.test.ensures
