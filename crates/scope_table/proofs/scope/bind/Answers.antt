use Rattle.std.proofs.Common.{Some, string_bytes, arith, refl}
use Rattle.scope_table.specs.Named.{with_name}
use Rattle.scope_table.proofs.Grouped.{changed, beyond}
use Rattle.scope_table.proofs.scope.bind.Goals as goal

pub returns-in_ok-bind : goal.returns-in_ok-bind
returns-in_ok-bind c =
    changed (with_name (string_bytes c.args.name) c.args.symbol) (Some c.args.scope) c.args.scope c.args.scopes.now.items c.index_mut-scope.result.now c.bind.new.self refl
    (omega (arith, c.if-at-len.true, c.len.ensures)) c.index_mut-scope.ensures.value c.in_ok-bind.ensures.bound

pub returns-else-at-len : goal.returns-else-at-len
returns-else-at-len c = beyond (with_name (string_bytes c.args.name) c.args.symbol) (Some c.args.scope) c.args.scope c.args.scopes.now.items refl (omega (arith, c.if-at-len.false, c.len.ensures))
