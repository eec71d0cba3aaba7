use Rattle.std.proofs.Common.{arith}
use Rattle.std.proofs.lemmas.Result.{err_from_is_err_and}
use Rattle.json_text.specs.Plain.{check_extras}
use Rattle.json_value.specs.View.{view}
use Rattle.json_scan.proofs.Extras.{nothing_said}
use Rattle.json_scan.proofs.Steps.{fails_bind}
use Rattle.json_scan.proofs.extra.check_extras.Goals as goal

pub returns-in_err-check_extra-4 : goal.returns-in_err-check_extra-4
unfolding check_extras
returns-in_err-check_extra-4 c =
    let p = err_from_is_err_and c.from_residual-in_err-check_extra-4.result c.from_residual-in_err-check_extra-4.ensures.1 in
    rw (p.1, p.2, c.in_ok-check_extra.ensures, c.in_ok-check_extra-2.ensures, c.in_ok-check_extra-3.ensures) (fails_bind _ _ _ c.in_err-check_extra-4.ensures)

pub returns-in_err-check_extra-5 : goal.returns-in_err-check_extra-5
unfolding check_extras
returns-in_err-check_extra-5 c =
    let p = err_from_is_err_and c.from_residual-in_err-check_extra-5.result c.from_residual-in_err-check_extra-5.ensures.1 in
    rw (p.1, p.2, c.in_ok-check_extra.ensures, c.in_ok-check_extra-2.ensures, c.in_ok-check_extra-3.ensures, c.in_ok-check_extra-4.ensures) (fails_bind _ _ _ c.in_err-check_extra-5.ensures)

pub returns-in_err-check_extra-6 : goal.returns-in_err-check_extra-6
unfolding check_extras
returns-in_err-check_extra-6 c =
    let p = err_from_is_err_and c.from_residual-in_err-check_extra-6.result c.from_residual-in_err-check_extra-6.ensures.1 in
    rw (p.1, p.2, c.in_ok-check_extra.ensures, c.in_ok-check_extra-2.ensures, c.in_ok-check_extra-3.ensures, c.in_ok-check_extra-4.ensures, c.in_ok-check_extra-5.ensures) (fails_bind _ _ _ c.in_err-check_extra-6.ensures)

pub returns-in_err-check_extra-7 : goal.returns-in_err-check_extra-7
unfolding check_extras
returns-in_err-check_extra-7 c =
    let p = err_from_is_err_and c.from_residual-in_err-check_extra-7.result c.from_residual-in_err-check_extra-7.ensures.1 in
    rw (p.1, p.2, c.in_ok-check_extra.ensures, c.in_ok-check_extra-2.ensures, c.in_ok-check_extra-3.ensures, c.in_ok-check_extra-4.ensures, c.in_ok-check_extra-5.ensures, c.in_ok-check_extra-6.ensures) (fails_bind _ _ _ c.in_err-check_extra-7.ensures)

pub returns-then-not-may_have_extra : goal.returns-then-not-may_have_extra
returns-then-not-may_have_extra c = nothing_said c.args.kind (view c.args.node.now) (c.may_have_extra.ensures (Prim.grind arith))
