use Rattle.std.proofs.Common.{◌∙◌, ap, sym}
use Rattle.std.proofs.lemmas.Result.{IfOk-weaker}
use Rattle.std.specs.Prelude.{Some}
use Rattle.js_syntax.specs.Node.{row}
use Rattle.js_meaning.specs.State.{bind}
use Rattle.js_meaning.specs.Scope.{copy, lexical, first_of}
use Rattle.js_meaning.specs.Node.{may, ask_maybe, first_ask}
use Rattle.js_meaning.specs.Statement.{test_then, after_init}
use Rattle.js_meaning.specs.Host.{for_loop}
use Rattle.js_meaning.specs.Meaning.{eval}
use Rattle.run_plan.specs.Frame.{meaning}
use Rattle.run_plan.specs.Front.{front_of}
use Rattle.run_statement.proofs.loops.init_for.Goals as goal

pub returns-in-Node : goal.returns-in-Node
unfolding may eval
returns-in-Node c =
    IfOk-weaker c.init_plan.result _ _ (λ p made E. made E ∙ ap (λ t. bind (ask_maybe (Some (meaning E t)) (first_ask (row c.args.nodes.now)) c.args.env) (after_init (copy (lexical (first_of (row c.args.nodes.now))) c.args.env (test_then E for_loop (row c.args.nodes.now) (eval E (row c.args.nodes.now)) c.args.labels)))) c.new.ensures ∙ ap (λ t. may (eval E t) (λ m r. bind (ask_maybe m (first_ask (row c.args.nodes.now)) c.args.env) (after_init (copy (lexical (first_of (row c.args.nodes.now))) c.args.env (test_then E for_loop (row c.args.nodes.now) (eval E (row c.args.nodes.now)) c.args.labels))))) (sym (sym c.first_field.ensures ∙ ap front_of c.in-Node.is))) c.init_plan.ensures

pub returns-in-Absent : goal.returns-in-Absent
unfolding may eval
returns-in-Absent c =
    IfOk-weaker c.init_plan-in-Absent.result _ _ (λ p made E. made E ∙ ap (λ t. may (eval E t) (λ m r. bind (ask_maybe m (first_ask (row c.args.nodes.now)) c.args.env) (after_init (copy (lexical (first_of (row c.args.nodes.now))) c.args.env (test_then E for_loop (row c.args.nodes.now) (eval E (row c.args.nodes.now)) c.args.labels))))) (sym (sym c.first_field.ensures ∙ ap front_of c.in-Absent.is))) c.init_plan-in-Absent.ensures
