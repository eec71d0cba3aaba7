use Rattle.std.proofs.Common.{◌∙◌, Some, None, sym, ap, refl}
use Rattle.std.specs.Option.{option_map}
use Rattle.std.specs.Str.{bytes_eq}
use Rattle.min_imports.specs.Passing.{bound_below, found_in, or_found}
use Rattle.min_imports.proofs.Naming.{text_found}
use Rattle.min_imports.proofs.passed.bind_node.Goals as goal

pub returns-in_ok-bind-in-Some : goal.returns-in_ok-bind-in-Some
returns-in_ok-bind-in-Some c = λ x.
    text_found (Some c.in-Some.text.now) (bound_below c.args.node.now.below) c.args.node.now.kind x (found_in c.bind.new.names x) (found_in c.args.names.now x) (ap (option_map (λ s. s.now)) (sym c.in-Some.is) ∙ c.bound_below.ensures ∙ ap bound_below c.children.ensures)
    (c.in_ok-bind-in-Some.ensures x ∙ ap (λ k. or_found (bytes_eq c.in-Some.text.now x) k (found_in c.args.names.now x)) c.kind.ensures)

pub returns-in-None : goal.returns-in-None
returns-in-None c = λ x.
    text_found None (bound_below c.args.node.now.below) c.args.node.now.kind x (found_in c.args.names.now x) (found_in c.args.names.now x) (ap (option_map (λ s. s.now)) (sym c.in-None.is) ∙ c.bound_below.ensures ∙ ap bound_below c.children.ensures) refl
