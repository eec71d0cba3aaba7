use Rattle.std.proofs.Common.{◌∙◌, ap, sym}
use Rattle.std.proofs.lemmas.Result.{IfOk-weaker}
use Rattle.js_syntax.specs.Node.{row}
use Rattle.run_world.proofs.Several.{first_item}
use Rattle.run_plan.specs.Front.{front_of}
use Rattle.run_expression.proofs.Objects.{adds_more}
use Rattle.run_expression.proofs.values.+object_content.Goals as goal

pub returns-in_ok-properties-in-len1-up : goal.returns-in_ok-properties-in-len1-up
returns-in_ok-properties-in-len1-up t c =
    IfOk-weaker c.object_content.result _ _ (λ p h. h ∙ adds_more c.in-Node.node.now c.kind.result.now (row c.in-Node.others.now) (row c.args.nodes.now) c.value-item.result c.in_ok-value-in-len1-up.value _ c.args.values.now c.args.properties c.in_ok-properties-in-len1-up.properties (sym (sym c.first_field.ensures ∙ ap front_of c.in-Node.is)) (first_item _ _ c.in-len1-up.len_at_least c.value-item.is) c.in_ok-value-in-len1-up.ensures c.kind.ensures c.in_ok-properties-in-len1-up.ensures) c.object_content.ensures
