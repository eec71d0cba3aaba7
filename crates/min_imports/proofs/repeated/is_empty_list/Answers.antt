use Rattle.std.proofs.Common.{◌∙◌, sym, ap}
use Rattle.steps.specs.Allowed.Arranged.{is_nothing}
use Rattle.min_imports.proofs.Asking.{names_listed}
use Rattle.min_imports.proofs.repeated.is_empty_list.Goals as goal

pub returns-in-Specifiers : goal.returns-in-Specifiers
returns-in-Specifiers c =
    let list = c.args.list.now in
    c.is_nothing.ensures ∙ ap is_nothing c.children.ensures ∙ names_listed list.kind list.note list.below (sym c.kind.ensures ∙ c.in-Specifiers.is)
