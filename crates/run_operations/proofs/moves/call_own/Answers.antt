use Rattle.std.proofs.Common.{◌∙◌, ap}
use Rattle.std.proofs.lemmas.Result.{IfOk-weaker}
use Rattle.js_meaning.specs.Show.{if_some, resolve, resolve_all}
use Rattle.js_meaning.specs.Host.{call_back}
use Rattle.run_value.specs.ShownView.{given_of}
use Rattle.run_world.specs.World.{at, maybe_value, givens_of}
use Rattle.run_operations.proofs.moves.call_own.Goals as goal

pub returns-in-Some : goal.returns-in-Some
returns-in-Some c =
    IfOk-weaker c.call_on.result _ _ (λ n told E.
    c.in_ok-callee.ensures (λ f. resolve (given_of c.args.this.now) (λ this. resolve_all (givens_of c.args.arguments.now) (λ vs. call_back E c.args.awaited this vs f)))
    ∙ ap (λ o. at c.args.world.now (if_some (maybe_value o) (λ f. resolve (given_of c.args.this.now) (λ this. resolve_all (givens_of c.args.arguments.now) (λ vs. call_back E c.args.awaited this vs f))))) c.in-Some.is
    ∙ told E) c.call_on.ensures
