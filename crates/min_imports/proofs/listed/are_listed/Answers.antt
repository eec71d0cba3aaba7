use Rattle.std.proofs.Common.{◌∙◌, arith, sym}
use Rattle.js_syntax.specs.Node.{row}
use Rattle.rules.specs.Imports.Passed.{has_reference}
use Rattle.min_imports.proofs.Listing.{one_fails, one_more, all_so}
use Rattle.min_imports.proofs.listed.are_listed.Goals as goal

pub returns-then-not-is_listed : goal.returns-then-not-is_listed
returns-then-not-is_listed c = one_fails (has_reference (row c.args.listed.now.specifiers.now)) (λ r. r.0) c.args.references.now c.loop-at.at _ c.loop-at-test.true (sym c.is_listed.ensures ∙ c.if-not-is_listed.true) c.loop-at.invariant

pub loop-at-preserved : goal.loop-at-preserved
loop-at-preserved c = one_more (has_reference (row c.args.listed.now.specifiers.now)) (λ r. r.0) c.args.references.now c.loop-at.at _ c.loop-at-test.true (sym c.is_listed.ensures ∙ c.if-not-is_listed.false) c.loop-at.invariant

pub returns : goal.returns
returns c = all_so (has_reference (row c.args.listed.now.specifiers.now)) (λ r. r.0) c.args.references.now c.loop-at.at (omega (arith, c.loop-at-test.false)) c.loop-at.invariant
