use Rattle.std.proofs.Common.{◌∙◌, ◌-◌, ◌&&◌, ◌||◌, None, not, length, take, get_or, refl, sym, ap, ap₂, arith}
use Rattle.js_syntax.specs.Node.{row}
use Rattle.rules.specs.Expressions.Uses.{spot_of}
use Rattle.min_expressions.specs.Sequences.{more_alone, comes_behind}
use Rattle.min_expressions.proofs.Sequences.{end_is, goes_by_last}
use Rattle.min_expressions.proofs.sequence.parts_go.Goals as goal

pub returns-then-not-comes_behind : goal.returns-then-not-comes_behind
returns-then-not-comes_behind c =
    let ts = c.args.parts.now in
    let i = length ts - 1 in
    let s = spot_of c.args.ctx.now.place in
    ap not c.if-not-comes_behind.true
    ∙ sym (ap₂ (λ p q. p && (q || more_alone (row (take i ts)))) (sym c.has_idle.ensures ∙ c.if-has_idle.true) (ap not (sym c.comes_behind.ensures ∙ c.if-not-comes_behind.true)))
    ∙ goes_by_last s (take i ts) ts (get_or ts i None) (end_is ts i (get_or ts i None) None (omega (arith, c.in-len1-up.len_at_least)) refl)

pub returns-else-not-comes_behind : goal.returns-else-not-comes_behind
returns-else-not-comes_behind c =
    let ts = c.args.parts.now in
    let i = length ts - 1 in
    let s = spot_of c.args.ctx.now.place in
    c.more_alone.ensures
    ∙ sym (ap₂ (λ p q. p && (q || more_alone (row (take i ts)))) (sym c.has_idle.ensures ∙ c.if-has_idle.true) (ap not (sym c.comes_behind.ensures ∙ c.if-not-comes_behind.false)))
    ∙ goes_by_last s (take i ts) ts (get_or ts i None) (end_is ts i (get_or ts i None) None (omega (arith, c.in-len1-up.len_at_least)) refl)

pub returns-else-has_idle : goal.returns-else-has_idle
returns-else-has_idle c =
    let ts = c.args.parts.now in
    let i = length ts - 1 in
    let s = spot_of c.args.ctx.now.place in
    c.if-has_idle.false ∙ sym (ap (λ p. p && (not (comes_behind s (row ts)) || more_alone (row (take i ts)))) (sym c.has_idle.ensures ∙ c.if-has_idle.false))
    ∙ goes_by_last s (take i ts) ts (get_or ts i None) (end_is ts i (get_or ts i None) None (omega (arith, c.in-len1-up.len_at_least)) refl)
