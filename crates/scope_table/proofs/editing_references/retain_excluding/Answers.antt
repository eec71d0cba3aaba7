use Rattle.std.proofs.Common.{◌∙◌, sym, ap}
use Rattle.std.proofs.Math.ListN.{set}
use Rattle.std.proofs.lemmas.List.Edits.{map_over_more}
use Rattle.symbol_sets.specs.Numbers.{has}
use Rattle.scope_table.specs.Kept.{kept_without}
use Rattle.scope_table.proofs.editing_references.retain_excluding.Goals as goal

pub loop-symbol-preserved : goal.loop-symbol-preserved
loop-symbol-preserved g c =
    ap (set c.loop-symbol.symbols c.loop-symbol.symbol-index) (c.retain_excluding.ensures ∙ ap (kept_without (has (g.S.SymbolSet.held c.args.excluded.now))) (sym c.symbol-item.is))
    ∙ map_over_more (kept_without (has (g.S.SymbolSet.held c.args.excluded.now))) c.args.symbols.now c.loop-symbol.symbols c.loop-symbol.symbol-index c.symbol-item.result c.loop-symbol-test.true c.loop-symbol.invariant c.symbol-item.is
