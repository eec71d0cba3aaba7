use Rattle.std.proofs.Common.{◌∙◌, ap, sym}
use Rattle.std.proofs.lemmas.Result.{IfOk-weaker}
use Rattle.js_syntax.specs.Node.{row}
use Rattle.js_meaning.specs.Host.{for_loop}
use Rattle.js_meaning.specs.Statement.{test_then}
use Rattle.js_meaning.specs.Meaning.{eval}
use Rattle.run_world.specs.World.{at}
use Rattle.run_statement.proofs.turn.first_turn.Goals as goal

pub returns : goal.returns
returns c = record {
  does = IfOk-weaker c.test_loop.result _ _ (λ p h E.
      c.in_ok-env.ensures.does (test_then E for_loop (row c.args.nodes.now) (eval E (row c.args.nodes.now)) c.args.labels)
      ∙ ap (at c.copy_loop_names.new.world) (sym (h E))) c.test_loop.ensures;
}
