use Rattle.std.proofs.Common.{◌∙◌, Some, sym, ap}
use Rattle.min_imports.proofs.Binding.{specifiers_here}
use Rattle.min_imports.proofs.passing.specifiers_in.Goals as goal

pub returns-in-Specifiers : goal.returns-in-Specifiers
returns-in-Specifiers c =
    let list = c.args.list.now in
    ap Some c.children.ensures ∙ specifiers_here list.kind list.note list.below (sym c.kind.ensures ∙ c.in-Specifiers.is)
