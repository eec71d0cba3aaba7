use Rattle.std.proofs.Common.{◌≡◌, drop}
use Rattle.js_syntax.specs.Node.{row}
use Rattle.steps.specs.Allowed.TwoSides.{has_texts}
use Rattle.min_expressions.proofs.texts.have_texts.Given as goal

abbrev pub invariant-loop-element : goal.invariant-loop-element
invariant-loop-element l = has_texts (row l.elements) ≡ has_texts (row (drop l.element-index l.elements))
