use Rattle.std.proofs.Common.{◌∙◌, ap, sym}
use Rattle.std.proofs.lemmas.Result.{IfOk-weaker}
use Rattle.js_syntax.specs.Node.{row, node, nowhere}
use Rattle.js_syntax.specs.declared.node_kind.NodeKind.{NodeKind as Kind}
use Rattle.run_world.specs.World.{at}
use Rattle.run_plan.specs.Front.{front_of}
use Rattle.run_core.specs.Body.{module_body}
use Rattle.run_core.proofs.entry.do_alone.Goals as goal

pub returns-in-End : goal.returns-in-End
returns-in-End c = record {
  does = IfOk-weaker c.do_module.result _ _ (λ p made E.
      ap (λ t. at c.args.world.now (module_body E (node Kind.Statements nowhere (row c.args.nodes.now) t))) (sym c.first_field.ensures ∙ ap front_of c.in-End.is)
      ∙ made E) c.do_module.ensures.does;
}
