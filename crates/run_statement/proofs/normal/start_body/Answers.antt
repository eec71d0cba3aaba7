use Rattle.std.proofs.Common.{◌∙◌, ap, sym, if◌then◌else◌}
use Rattle.std.proofs.lemmas.Result.{IfOk-weaker}
use Rattle.js_syntax.specs.Node.{row}
use Rattle.js_meaning.specs.State.{unknown}
use Rattle.js_meaning.specs.Node.{need, first_ask}
use Rattle.js_meaning.specs.Meaning.{eval}
use Rattle.run_world.specs.World.{at}
use Rattle.run_statement.proofs.normal.start_body.Goals as goal

pub returns-then-branch : goal.returns-then-branch
returns-then-branch c = record {
  does = IfOk-weaker c.asks_first.result _ _ (λ p h E.
      c.in_ok-start.ensures.does (need (eval E (row c.args.nodes.now)) (λ b r. b (first_ask (row c.args.nodes.now)) c.args.env))
      ∙ ap (λ b. at c.start.new.self (if b then need (eval E (row c.args.nodes.now)) (λ b r. b (first_ask (row c.args.nodes.now)) c.args.env) else unknown)) c.if-branch.true
      ∙ ap (at c.start.new.self) (sym (h E ∙ ap (λ q. need (eval E (row c.args.nodes.now)) (λ m r. m q c.args.env)) c.first_ask-ask.ensures))) c.asks_first.ensures;
}
