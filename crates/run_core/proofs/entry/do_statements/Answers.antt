use Rattle.std.proofs.Common.{◌∙◌, ap, sym}
use Rattle.std.proofs.lemmas.Result.{IfOk-weaker}
use Rattle.js_syntax.specs.Node.{row, nowhere}
use Rattle.run_world.specs.World.{at}
use Rattle.run_plan.specs.Front.{front_of}
use Rattle.run_core.specs.Body.{module_body}
use Rattle.run_core.proofs.Below.{note_is_not_seen}
use Rattle.run_core.proofs.entry.do_statements.Goals as goal

pub returns-in-Node : goal.returns-in-Node
returns-in-Node c = record {
  does = IfOk-weaker c.do_list.result _ _ (λ p made E.
      ap (λ t. at c.args.world.now (module_body E t)) (sym c.first_field.ensures ∙ ap front_of c.in-Node.is)
      ∙ ap (λ m. at c.args.world.now m) (note_is_not_seen E c.in-Node.list.now.kind c.in-Node.list.now.note nowhere c.in-Node.list.now.below (row c.in-Node.others.now))
      ∙ made E) c.do_list.ensures.does;
}
