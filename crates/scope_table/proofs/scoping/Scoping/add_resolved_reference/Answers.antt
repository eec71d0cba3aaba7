use Rattle.std.proofs.Common.{◌∙◌, ◌++◌, ◌∷◌, [], length, arith, refl, ap}
use Rattle.std.proofs.lemmas.List.{length-map}
use Rattle.scope_table.specs.Kept.{with_reference, told}
use Rattle.scope_table.specs.Editing.{listed}
use Rattle.scope_table.proofs.Edited.{changed_told}
use Rattle.scope_table.proofs.scoping.Scoping.add_resolved_reference.Goals as goal

pub returns-clause-listed : goal.returns-clause-listed
returns-clause-listed c =
    ap (λ ss. record { scopes = c.self.inside.scopes.items; symbols = ss; references = c.self.inside.references.items; unresolved = c.self.inside.unresolved.items })
    (changed_told (with_reference c.args.reference.0) (λ x. record x { references = x.references ++ c.args.reference.0 ∷ [] }) (λ k. refl) c.self.inside.symbols.items c.args.symbol.0 c.index_mut-symbol.result.now c.refer.new.self
    (omega (arith, c.requires, ap (λ s. length s.symbols) c.self.view_is, length-map c.self.inside.symbols.items told)) c.index_mut-symbol.ensures.value c.in_ok-refer.ensures.listed)
    ∙ ap (listed c.args.symbol.0 c.args.reference.0) c.self.view_is
