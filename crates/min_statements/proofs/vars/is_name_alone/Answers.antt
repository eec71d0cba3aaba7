use Rattle.std.proofs.Common.{◌∙◌, sym, ap}
use Rattle.js_syntax.specs.Node.{Forest}
use Rattle.min_statements.specs.Vars.{is_name_alone}
use Rattle.min_statements.proofs.Declaring.{name_alone}
use Rattle.min_statements.proofs.vars.is_name_alone.Goals as goal

pub returns-in-BindingName : goal.returns-in-BindingName
returns-in-BindingName c =
    c.is_empty.ensures ∙ name_alone c.args.node.now.kind c.children.result.now (sym c.kind.ensures ∙ c.in-BindingName.is) ∙ ap (λ (t : Forest). is_name_alone c.args.node.now.kind t) c.children.ensures
