use Rattle.std.proofs.Common.{◌≡◌, map}
use Rattle.std.specs.Option.{option_map}
use Rattle.min_expressions.specs.Textless.{textless}
use Rattle.min_expressions.proofs.Textless.{changing}
use Rattle.min_expressions.proofs.texts.empty_each.Given as goal

abbrev pub invariant-loop-element : goal.invariant-loop-element
invariant-loop-element l = changing (option_map textless) l.elements l.element-index ≡ map (option_map textless) l.fn.elements
