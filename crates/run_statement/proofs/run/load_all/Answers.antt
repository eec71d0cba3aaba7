use Rattle.std.proofs.Common.{◌∙◌, ap, sym}
use Rattle.std.proofs.lemmas.Result.{IfOk-weaker}
use Rattle.js_meaning.specs.Module.{load_all}
use Rattle.run_world.specs.World.{at}
use Rattle.run_statement.specs.Sources.{texts_split}
use Rattle.run_statement.proofs.run.load_all.Goals as goal

pub returns-in-Some : goal.returns-in-Some
unfolding load_all
returns-in-Some c = record {
  does = IfOk-weaker c.load_first.result _ _ (λ p h E.
      ap (λ t. at c.args.world.now (load_all E t)) (sym c.split_first.ensures ∙ ap texts_split c.in-Some.is) ∙ h E) c.load_first.ensures.does;
}
