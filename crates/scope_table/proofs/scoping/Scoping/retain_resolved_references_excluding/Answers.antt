use Rattle.std.proofs.Common.{◌∙◌, map, length, arith, ap}
use Rattle.std.proofs.lemmas.List.{with_items_is, length-map}
use Rattle.symbol_sets.specs.Numbers.{has}
use Rattle.scope_table.specs.Kept.{kept_without, told}
use Rattle.scope_table.specs.Editing.{pruned}
use Rattle.scope_table.proofs.Edited.{told_without}
use Rattle.scope_table.proofs.scoping.Scoping.retain_resolved_references_excluding.Goals as goal

pub returns : goal.returns
returns g c = record {
  pruned = ap (λ ss. record { scopes = c.self.inside.scopes.items; symbols = ss; references = c.self.inside.references.items; unresolved = c.self.inside.unresolved.items })
      (ap (map told) (with_items_is c.self.inside.symbols c.retain_excluding.new.symbols (omega (arith, ap length c.retain_excluding.ensures, length-map c.deref_mut.result.now (kept_without (has (g.S.SymbolSet.held c.args.excluded.now))), c.deref_mut.ensures.len))
      ∙ c.retain_excluding.ensures ∙ ap (map (kept_without (has (g.S.SymbolSet.held c.args.excluded.now)))) c.deref_mut.ensures.value)
      ∙ told_without (has (g.S.SymbolSet.held c.args.excluded.now)) c.self.inside.symbols.items)
      ∙ ap (pruned (has (g.S.SymbolSet.held c.args.excluded.now))) c.self.view_is;
}
