use Rattle.std.proofs.Common.{◌-◌, length, take, get_or, None, refl, arith}
use Rattle.min_expressions.proofs.Sequences.{end_is, parts_leave}
use Rattle.min_expressions.proofs.sequence.mark_before_last.Goals as goal

pub returns-in-len1-up : goal.returns-in-len1-up
returns-in-len1-up c =
    let ts = c.args.parts.now in
    let i = length ts - 1 in
    record { left = parts_leave (take i ts) ts (get_or ts i None) (end_is ts i (get_or ts i None) None (omega (arith, c.in-len1-up.len_at_least)) refl) c.mark_leaving.ensures.left }
