use Rattle.std.proofs.Common.{◌≡◌, drop}
use Rattle.min_expressions.specs.Lists.{told_found, none, found_from}
use Rattle.min_expressions.proofs.list.found_in.Given as goal

abbrev pub invariant-loop-part : goal.invariant-loop-part
invariant-loop-part l = found_from (told_found l.found) (drop l.part-index l.parts) ≡ found_from none l.parts
