use Rattle.std.proofs.Common.{◌∙◌, map, length, arith, ap}
use Rattle.std.proofs.lemmas.List.{with_items_is, length-map}
use Rattle.scope_table.specs.Kept.{told}
use Rattle.scope_table.specs.Refreshing.{without_eval, cleared}
use Rattle.scope_table.proofs.scoping.Scoping.clear_eval.Goals as goal

pub returns : goal.returns
returns c =
    ap (λ ss. record { scopes = ss; symbols = map told c.self.inside.symbols.items; references = c.self.inside.references.items; unresolved = c.self.inside.unresolved.items })
    (with_items_is c.self.inside.scopes c.clear_all.new.scopes (omega (arith, ap length c.clear_all.ensures, length-map c.deref_mut.result.now without_eval, c.deref_mut.ensures.len))
    ∙ c.clear_all.ensures ∙ ap (map without_eval) c.deref_mut.ensures.value)
    ∙ ap cleared c.self.view_is
