use Rattle.std.proofs.Common.{◌∙◌, length, nat_eq, arith, refl, ap}
use Rattle.std.proofs.lemmas.List.{length-map}
use Rattle.scope_table.specs.Kept.{kept_without, told}
use Rattle.scope_table.specs.Editing.{symbol_without, unlisted}
use Rattle.scope_table.proofs.Edited.{changed_told}
use Rattle.scope_table.proofs.scoping.Scoping.delete_resolved_reference.Goals as goal

pub returns : goal.returns
returns c = record {
  unlisted = ap (λ ss. record { scopes = c.self.inside.scopes.items; symbols = ss; references = c.self.inside.references.items; unresolved = c.self.inside.unresolved.items })
      (changed_told (kept_without (nat_eq c.args.reference.0)) (symbol_without (nat_eq c.args.reference.0)) (λ k. refl) c.self.inside.symbols.items c.args.symbol.0 c.index_mut-symbol.result.now c.unlist.new.self
      (omega (arith, c.requires, ap (λ s. length s.symbols) c.self.view_is, length-map c.self.inside.symbols.items told)) c.index_mut-symbol.ensures.value c.unlist.ensures)
      ∙ ap (unlisted c.args.symbol.0 c.args.reference.0) c.self.view_is;
}
