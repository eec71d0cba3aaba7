use Rattle.std.proofs.Common.{refl}
use Rattle.scope_match.proofs.Whole.{table_is}
use Rattle.scope_match.proofs.answer.same_table.Goals as goal

pub returns : goal.returns
returns c =
    table_is c.args.marks.now c.args.scoping.now c.args.table.now c.in_ok-same.same _ _ _ (c.in_ok-same_scopes.ensures.0 c.if-not-branch.false)
    (c.in_ok-same_symbols.ensures.0 c.if-not-branch-2.false) (c.if-not-same_references.ensures.0 refl)
    c.root_unresolved_references-given.ensures.unresolved c.root_unresolved_references-wanted.ensures.unresolved c.references.ensures c.in_ok-same.ensures
