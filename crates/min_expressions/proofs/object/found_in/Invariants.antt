use Rattle.std.proofs.Common.{◌≡◌, drop}
use Rattle.min_expressions.specs.Lists.{told_found, none}
use Rattle.min_expressions.specs.Objects.{all_found}
use Rattle.min_expressions.proofs.object.found_in.Given as goal

abbrev pub invariant-loop-property : goal.invariant-loop-property
invariant-loop-property l = all_found (told_found l.found) (drop l.property-index l.properties) ≡ all_found none l.properties
