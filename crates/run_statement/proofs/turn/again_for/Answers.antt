use Rattle.std.proofs.Common.{◌∙◌, ap, sym}
use Rattle.std.proofs.lemmas.Result.{IfOk-weaker}
use Rattle.js_syntax.specs.Node.{row}
use Rattle.js_meaning.specs.Scope.{copy, lexical, first_of}
use Rattle.js_meaning.specs.Host.{for_loop}
use Rattle.js_meaning.specs.Node.{may, value_or_undefined}
use Rattle.js_meaning.specs.Statement.{test_then}
use Rattle.js_meaning.specs.Meaning.{eval}
use Rattle.run_world.specs.World.{at}
use Rattle.run_plan.specs.Front.{front_of}
use Rattle.run_statement.proofs.turn.again_for.Goals as goal

pub returns-in-Node : goal.returns-in-Node
unfolding may eval
returns-in-Node c = record {
  does = IfOk-weaker c.update_behind.result _ _ (λ p h E. ap (λ t. at c.args.world.now (may (eval E t) (λ i r. may r (λ t r. may r (λ u r. copy (lexical (first_of (row c.args.nodes.now))) c.args.env (λ env. value_or_undefined u env (λ v. test_then E for_loop (row c.args.nodes.now) (eval E (row c.args.nodes.now)) c.args.labels env))))))) (sym c.first_field.ensures ∙ ap front_of c.in-Node.is) ∙ h E) c.update_behind.ensures.does;
}

pub returns-in-Absent : goal.returns-in-Absent
unfolding may eval
returns-in-Absent c = record {
  does = IfOk-weaker c.update_behind-in-Absent.result _ _ (λ p h E. ap (λ t. at c.args.world.now (may (eval E t) (λ i r. may r (λ t r. may r (λ u r. copy (lexical (first_of (row c.args.nodes.now))) c.args.env (λ env. value_or_undefined u env (λ v. test_then E for_loop (row c.args.nodes.now) (eval E (row c.args.nodes.now)) c.args.labels env))))))) (sym c.first_field.ensures ∙ ap front_of c.in-Absent.is) ∙ h E) c.update_behind-in-Absent.ensures.does;
}
