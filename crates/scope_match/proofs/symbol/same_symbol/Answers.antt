use Rattle.std.proofs.Common.{refl, arith}
use Rattle.scope_match.proofs.Whole.{symbol_at_mark}
use Rattle.scope_match.proofs.symbol.same_symbol.Goals as goal

pub returns : goal.returns
returns c =
    symbol_at_mark c.args.marks.now c.args.scoping.now c.args.table.now c.args.number c.mark_at.result c.in_ok-same.same _ _ _ _ _ c.symbols.ensures c.scopes.ensures c.references.ensures c.mark_at.ensures
    (omega (arith, c.if-given-symbols_len.false, c.symbols_len.ensures.len)) (c.if-not-same_head.ensures.0 refl)
    c.get_resolved_reference_ids-references.ensures.references c.get_resolved_reference_ids-wanted.ensures.references c.in_ok-same.ensures
