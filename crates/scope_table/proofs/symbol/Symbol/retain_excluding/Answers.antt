use Rattle.std.proofs.Common.{rules, ◌∙◌, map, not, ap}
use Rattle.std.proofs.lemmas.Fn.{filter_same}
use Rattle.symbol_sets.specs.Numbers.{has}
use Rattle.scope_table.specs.Kept.{kept_without}
use Rattle.scope_table.proofs.Edited.{filtered}
use Rattle.scope_table.proofs.symbol.Symbol.retain_excluding.Goals as goal

pub returns : goal.returns
returns g c =
    ap (λ rs. record { name = c.self.inside.name; scope = c.self.inside.scope; flags = c.self.inside.flags; declarations = c.self.inside.declarations.items; references = rs })
    (ap (map (λ r. r.0)) (filter_same _ (λ r. not (has (g.S.SymbolSet.held c.args.excluded.now) r.0)) _ (λ x b f' k. search rules) _ _ c.retain.ensures.filtered)
    ∙ filtered (has (g.S.SymbolSet.held c.args.excluded.now)) c.self.inside.references.items)
    ∙ ap (kept_without (has (g.S.SymbolSet.held c.args.excluded.now))) c.self.view_is
