use Rattle.std.proofs.Common.{◌∙◌, sym, ap}
use Rattle.std.specs.Option.{option_map}
use Rattle.js_effects.specs.Each.{width}
use Rattle.js_effects.proofs.Children.{row_width}
use Rattle.min_expressions.specs.Objects.{count_of}
use Rattle.min_expressions.proofs.object.count_in.Goals as goal

pub returns-in-Some : goal.returns-in-Some
returns-in-Some c =
    sym (row_width c.children.result.now) ∙ ap width c.children.ensures ∙ ap (λ o. count_of (option_map (λ v. v.now) o)) (sym c.in-Some.is) ∙ ap count_of c.only.ensures
