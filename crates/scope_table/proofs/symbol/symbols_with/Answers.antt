use Rattle.scope_table.proofs.Growing.{referred_more}
use Rattle.scope_table.proofs.symbol.symbols_with.Goals as goal

pub loop-i-preserved : goal.loop-i-preserved
loop-i-preserved c =
    referred_more c.args.names.now c.args.references.now c.loop-i.i c.index-references-i.result c.symbol.result c.loop-i.symbols.items c.refer.new.symbols.items c.loop-i-test.true c.index-references-i.is c.symbol.ensures
    c.in_ok-refer.ensures c.loop-i.invariant
