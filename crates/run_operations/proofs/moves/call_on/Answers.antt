use Rattle.std.proofs.Common.{◌∙◌, ap}
use Rattle.std.proofs.lemmas.Result.{IfOk-weaker}
use Rattle.js_meaning.specs.Show.{if_some, resolve_all}
use Rattle.js_meaning.specs.Host.{call_back}
use Rattle.run_value.specs.View.{value_of}
use Rattle.run_world.specs.World.{at, maybe_value, givens_of}
use Rattle.run_operations.proofs.moves.call_on.Goals as goal

pub returns-in-Some : goal.returns-in-Some
returns-in-Some c =
    IfOk-weaker c.call_with.result _ _ (λ n told E.
    c.in_ok-this.ensures (λ this. resolve_all (givens_of c.args.arguments.now) (λ vs. call_back E c.args.awaited this vs (value_of c.args.callee.now)))
    ∙ ap (λ o. at c.args.world.now (if_some (maybe_value o) (λ this. resolve_all (givens_of c.args.arguments.now) (λ vs. call_back E c.args.awaited this vs (value_of c.args.callee.now))))) c.in-Some.is
    ∙ told E) c.call_with.ensures
