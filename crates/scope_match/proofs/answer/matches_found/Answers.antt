use Rattle.std.proofs.Common.{arith}
use Rattle.scope_match.proofs.Whole.{not_found, is_found, as_many_scopes}
use Rattle.scope_match.proofs.answer.matches_found.Goals as goal

pub returns-then-not-branch : goal.returns-then-not-branch
returns-then-not-branch c = not_found c.args.scoping.now c.args.found.now _ c.in_ok-are_marked.field-0 c.in_ok-marks.ensures c.in_ok-are_marked.ensures c.if-not-branch.true

pub same_table-requires : goal.same_table-requires
same_table-requires c = omega (arith, as_many_scopes c.args.found.now _ c.in_ok-made.ensures.scoping, c.requires.few_scopes)

pub returns : goal.returns
returns c =
    is_found c.args.scoping.now c.args.found.now _ _ c.in_ok-same.same c.in_ok-marks.ensures c.in_ok-made.ensures.scoping (c.in_ok-are_marked.ensures.0 c.if-not-branch.false) c.in_ok-same.ensures
