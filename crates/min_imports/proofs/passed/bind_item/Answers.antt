use Rattle.std.proofs.Common.{◌∙◌, sym, ap}
use Rattle.min_imports.specs.Passing.{found_in, item_found}
use Rattle.min_imports.proofs.passed.bind_item.Goals as goal

pub returns-in_ok-bind_node-in-Some : goal.returns-in_ok-bind_node-in-Some
returns-in_ok-bind_node-in-Some c = λ x. c.in_ok-bind_node-in-Some.ensures x ∙ ap (λ t. item_found t x (found_in c.args.names.now x)) (sym c.in-Some.is)

pub returns-in-None : goal.returns-in-None
returns-in-None c = λ x. ap (λ t. item_found t x (found_in c.args.names.now x)) (sym c.in-None.is)
