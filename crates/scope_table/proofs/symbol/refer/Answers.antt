use Rattle.std.proofs.Common.{arith}
use Rattle.scope_table.specs.Kept.{with_reference}
use Rattle.scope_table.proofs.Grouped.{changed, beyond, nowhere}
use Rattle.scope_table.proofs.symbol.refer.Goals as goal

pub returns-in_ok-refer : goal.returns-in_ok-refer
returns-in_ok-refer c =
    changed (with_reference c.args.reference) c.args.number c.in-Some.number c.args.symbols.now.items c.index_mut-symbol.result.now c.refer.new.self c.in-Some.is
    (omega (arith, c.if-at-len.true, c.len.ensures)) c.index_mut-symbol.ensures.value c.in_ok-refer.ensures.listed

pub returns-else-at-len : goal.returns-else-at-len
returns-else-at-len c = beyond (with_reference c.args.reference) c.args.number c.in-Some.number c.args.symbols.now.items c.in-Some.is (omega (arith, c.if-at-len.false, c.len.ensures))

pub returns-in_default : goal.returns-in_default
returns-in_default c = nowhere (with_reference c.args.reference) c.args.number c.args.symbols.now.items c.in_default.is
