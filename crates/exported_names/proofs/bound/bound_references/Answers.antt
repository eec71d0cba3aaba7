use Rattle.std.proofs.Common.{rules, ◌≡◌, ◌∙◌, length, ap, arith}
use Rattle.exported_names.specs.Answers.{answers, is_bound}
use Rattle.exported_names.proofs.Listing.{bound_told}
use Rattle.exported_names.proofs.bound.bound_references.Goals as goal

pub loop-number-preserved : goal.loop-number-preserved
loop-number-preserved c = search rules

pub returns-clause-bound : goal.returns-clause-bound
returns-clause-bound c =
    let scoping = c.args.scoping.now in
    let all : c.loop-number.number ≡ length scoping.references = omega (arith, c.loop-number.auto.number-end, c.loop-number-test.false, c.references_len-number-end.ensures.len) in
    bound_told scoping c.loop-number.bound.items (c.loop-number.invariant ∙ ap (answers (is_bound scoping)) all)
