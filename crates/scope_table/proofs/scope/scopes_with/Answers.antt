use Rattle.std.proofs.Common.{◌∙◌}
use Rattle.scope_rules.specs.Table.{symbols_of}
use Rattle.scope_table.proofs.Showing.{none_named, listed_more, listed_all}
use Rattle.scope_table.proofs.scope.scopes_with.Goals as goal

pub loop-i-init : goal.loop-i-init
loop-i-init c = c.in_ok-scopes.ensures ∙ none_named (symbols_of c.args.names.now) 0 c.args.sites.now

pub loop-i-preserved : goal.loop-i-preserved
loop-i-preserved c =
    listed_more c.args.names.now c.args.sites.now c.symbols-symbols.result.now c.loop-i.i c.index-symbols-i.result c.loop-i.scopes.items c.bind_symbol.new.scopes.items c.symbols-symbols.ensures.symbols c.loop-i-test.true
    c.index-symbols-i.is c.in_ok-bind_symbol.ensures c.loop-i.invariant

pub returns : goal.returns
returns c = listed_all c.args.names.now c.args.sites.now c.symbols-symbols.result.now c.loop-i.i c.loop-i.scopes.items c.symbols-symbols.ensures.symbols c.loop-i-test.false c.loop-i.invariant
