use Rattle.std.proofs.Common.{◌∙◌, ap, sym}
use Rattle.std.proofs.lemmas.Result.{IfOk-weaker}
use Rattle.js_syntax.specs.declared.node_kind.NodeKind.{NodeKind as Kind}
use Rattle.js_syntax.specs.Node.{nothing, row}
use Rattle.js_meaning.specs.Node.{run, need}
use Rattle.js_meaning.specs.Meaning.{does, eval}
use Rattle.run_plan.specs.Frame.{meaning}
use Rattle.run_plan.specs.Front.{front_of}
use Rattle.run_statement.proofs.Default.{default_is}
use Rattle.run_statement.proofs.simple.enter_default.Goals as goal

pub returns-in-Node : goal.returns-in-Node
unfolding need eval
returns-in-Node c =
    IfOk-weaker c.default_plan.result _ _ (λ p made E. made E
    ∙ sym (default_is c.in-Node.node.now.kind c.in-Node.node.now.note c.in-Node.node.now.below nothing (meaning E c.in-Node.node.now) c.args.env)
    ∙ default_is c.in-Node.node.now.kind c.in-Node.node.now.note c.in-Node.node.now.below (row c.in-Node.field-1.now) (meaning E c.in-Node.node.now) c.args.env
    ∙ ap (λ t. does E Kind.ExportDefaultDeclaration t (eval E t) (run c.args.labels) c.args.env) (sym (sym c.first_field.ensures ∙ ap front_of c.in-Node.is))) c.default_plan.ensures
