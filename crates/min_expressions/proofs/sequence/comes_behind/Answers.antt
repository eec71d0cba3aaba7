use Rattle.std.proofs.Common.{◌∙◌, ◌-◌, ◌||◌, not, length, take, sym, ap, arith}
use Rattle.rules.specs.Expressions.Uses.{spot_of}
use Rattle.min_expressions.specs.Sequences.{last_stands}
use Rattle.min_expressions.proofs.Sequences.{end_is, comes_by_last}
use Rattle.min_expressions.proofs.sequence.comes_behind.Goals as goal

pub returns-then-some_stay : goal.returns-then-some_stay
returns-then-some_stay c =
    let ts = c.args.parts.now in
    let s = spot_of c.args.ctx.now.place in
    sym (ap (λ p. not (p || last_stands s c.last-item.result)) (sym c.some_stay.ensures ∙ c.if-some_stay.true))
    ∙ comes_by_last s (take (length ts - 1) ts) ts c.last-item.result (end_is ts (length ts - 1) c.last-item.result c.last-item.result (omega (arith, c.in-len1-up.len_at_least)) c.last-item.is)

pub returns-else-some_stay : goal.returns-else-some_stay
returns-else-some_stay c =
    let ts = c.args.parts.now in
    let s = spot_of c.args.ctx.now.place in
    ap not c.last_stands.ensures ∙ sym (ap (λ p. not (p || last_stands s c.last-item.result)) (sym c.some_stay.ensures ∙ c.if-some_stay.false))
    ∙ comes_by_last s (take (length ts - 1) ts) ts c.last-item.result (end_is ts (length ts - 1) c.last-item.result c.last-item.result (omega (arith, c.in-len1-up.len_at_least)) c.last-item.is)
