use Rattle.std.proofs.Common.{◌∙◌, sym, ap}
use Rattle.steps.specs.Allowed.Arranged.{is_nothing}
use Rattle.min_imports.proofs.Lists.{name_alone}
use Rattle.min_imports.proofs.names.is_name_alone.Goals as goal

pub returns-in-BindingName : goal.returns-in-BindingName
returns-in-BindingName c =
    let name = c.args.name.now in
    c.is_nothing.ensures ∙ ap is_nothing c.children.ensures ∙ name_alone name.kind name.note name.below _ (sym c.kind.ensures ∙ c.in-BindingName.is)
