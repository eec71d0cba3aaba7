use Rattle.std.proofs.Common.{◌∙◌, map, ap}
use Rattle.scope_rules.specs.Table.{symbols_of}
use Rattle.scope_table.specs.Kept.{blank}
use Rattle.scope_table.proofs.Growing.{kept_none, declared_more}
use Rattle.scope_table.proofs.symbol.declared_symbols.Goals as goal

pub loop-site-init : goal.loop-site-init
loop-site-init c = c.in_ok-symbols.ensures ∙ ap (map blank) c.symbols.ensures.symbols ∙ kept_none c.args.names.now 0 (symbols_of c.args.names.now)

pub loop-site-preserved : goal.loop-site-preserved
loop-site-preserved c =
    declared_more c.args.names.now c.sites-sites.result.now c.loop-site.site-index c.site-item.result c.symbol_declared.result c.loop-site.symbols.items c.declare.new.symbols.items c.loop-site-test.true c.site-item.is
    c.symbol_declared.ensures.symbol c.in_ok-declare.ensures c.loop-site.invariant
