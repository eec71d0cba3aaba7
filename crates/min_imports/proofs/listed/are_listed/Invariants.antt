use Rattle.std.proofs.Common.{◌≡◌, ◌-◌, drop, length}
use Rattle.js_syntax.specs.Node.{row}
use Rattle.rules.specs.Imports.Passed.{has_reference}
use Rattle.min_imports.proofs.Listing.{each}
use Rattle.min_imports.proofs.listed.are_listed.Given as goal

abbrev pub invariant-loop-at : goal.invariant-loop-at
invariant-loop-at l = each (has_reference (row l.listed.specifiers.now)) (λ r. r.0) l.references ≡ each (has_reference (row l.listed.specifiers.now)) (λ r. r.0) (drop l.at l.references)

abbrev pub decreases-loop-at : goal.decreases-loop-at
decreases-loop-at l = length l.references - l.at
