use Rattle.std.proofs.Common.{refl, arith}
use Rattle.scope_match.proofs.Whole.{scope_at_mark}
use Rattle.scope_match.proofs.scope.same_scope.Goals as goal

pub returns : goal.returns
returns c =
    scope_at_mark c.args.marks.now c.args.scoping.now c.args.table.now c.args.number c.mark_at.result c.in_ok-same.same _ _ _ _ _ c.symbols.ensures c.scopes.ensures c.scopes-2.ensures c.mark_at.ensures
    (omega (arith, c.if-given-scopes_len.false, c.scopes_len.ensures.len)) (c.if-not-same_parent.ensures.0 refl) (c.if-not-same_flags.ensures.0 refl)
    c.get_bindings-names.ensures.bindings c.get_bindings.ensures.bindings c.in_ok-same.ensures
