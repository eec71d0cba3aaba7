use Rattle.std.proofs.Common.{◌≡◌, ◌==◌, ◌+◌, ◌≤◌, false, length, arith, rules}
use Rattle.std.proofs.lemmas.Grind.{common_steps}
use Rattle.shake_streams.proofs.Histories.{gave_unkept, gave_fault}
use Rattle.shake_streams.proofs.Taking.{rest_after}
use Rattle.shake_streams.proofs.read.read_all.Goals as goal

pub returns-in_err-extend_from_slice-clause-rest : goal.returns-in_err-extend_from_slice-clause-rest
returns-in_err-extend_from_slice-clause-rest g c =
    let within = c.in-Ok.ensures.within in
    let fits : length c.pieces.bytes.items + c.in-Ok.n ≤ c.args.limit + 1 = grind (arith, common_steps) in
    rest_after c.in-Ok.n _ c.pieces.bytes.items _ _ _ _ _ c.pieces.invariant.taken c.in-Ok.ensures.came c.in-Ok.ensures.left fits

pub returns-in_err-extend_from_slice-clause-gave_not : goal.returns-in_err-extend_from_slice-clause-gave_not
returns-in_err-extend_from_slice-clause-gave_not g c =
    let within = c.in-Ok.ensures.within in
    let fits : length c.pieces.bytes.items + c.in-Ok.n ≤ c.args.limit + 1 = grind (arith, common_steps) in
    let some : c.in-Ok.n == 0 ≡ false = grind arith in
    let given = gave_unkept _ _ _ c.pieces.bytes.items _ c.in-Ok.n _ c.args.limit c.pieces.invariant.gave c.in-Ok.ensures.given some fits in
    search (rules, given)

pub returns-in_default-clause-gave_not : goal.returns-in_default-clause-gave_not
returns-in_default-clause-gave_not g c =
    let fits : length c.pieces.bytes.items ≤ c.args.limit = grind (arith, common_steps) in
    gave_fault _ _ _ c.pieces.bytes.items c.args.limit c.pieces.invariant.gave c.in_default.ensures.given fits
