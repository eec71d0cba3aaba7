use Rattle.std.proofs.Common.{◌∙◌, ap, sym}
use Rattle.std.proofs.lemmas.Result.{IfOk-weaker}
use Rattle.js_meaning.specs.Trace.{Act}
use Rattle.js_meaning.specs.State.{if_gives, with_value}
use Rattle.js_meaning.specs.Host.{consult}
use Rattle.js_meaning.specs.Module.{load_all}
use Rattle.run_world.specs.World.{at}
use Rattle.run_plan.specs.Held.{texts_of}
use Rattle.run_statement.proofs.run.load_first.Goals as goal

pub returns : goal.returns
returns c = record {
  does = IfOk-weaker c.then_statement.result _ _ (λ p h E.
      ap (λ s. at c.args.world.now (with_value (consult E (Act.load s)) (λ v. load_all E (texts_of c.args.others.items)))) (sym c.in_ok-text.ensures.ok)
      ∙ c.in_ok-plan.ensures.follows E (if_gives (λ v r. load_all E (texts_of c.args.others.items)))
      ∙ ap (at c.consults.new.world) (sym (h E))) c.then_statement.ensures;
}
