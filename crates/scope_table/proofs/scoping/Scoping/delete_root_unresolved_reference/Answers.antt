use Rattle.std.proofs.Common.{◌∙◌, map, arith, sym, ap}
use Rattle.scope_table.specs.Kept.{told}
use Rattle.scope_table.specs.Unbound.{place_of}
use Rattle.scope_table.specs.Editing.{unlisted_unresolved}
use Rattle.scope_table.proofs.Edited.{place_within, take_at, take_none}
use Rattle.scope_table.proofs.scoping.Scoping.delete_root_unresolved_reference.Goals as goal

pub index_mut-item-requires : goal.index_mut-item-requires
index_mut-item-requires c =
    let within = place_within c.args.name.now 0 c.in-Some.at c.deref.result.now (sym c.place_of.ensures ∙ c.in-Some.is) in
    omega (arith, within.1, c.deref.ensures.len)

pub returns-in-Some : goal.returns-in-Some
returns-in-Some c = record {
  unlisted = ap (λ us. record { scopes = c.self.inside.scopes.items; symbols = map told c.self.inside.symbols.items; references = c.self.inside.references.items; unresolved = us })
      (take_at c.args.name.now c.args.reference.0 c.in-Some.at c.self.inside.unresolved.items c.index_mut-item.result.now c.unlist.new.self
      (sym (ap (place_of c.args.name.now 0) c.deref.ensures.value) ∙ sym c.place_of.ensures ∙ c.in-Some.is) c.index_mut-item.ensures.value c.unlist.ensures)
      ∙ ap (unlisted_unresolved c.args.name.now c.args.reference.0) c.self.view_is;
}

pub returns-in_default : goal.returns-in_default
returns-in_default c = record {
  unlisted = sym c.self.view_is
      ∙ ap (λ us. record { scopes = c.self.inside.scopes.items; symbols = map told c.self.inside.symbols.items; references = c.self.inside.references.items; unresolved = us })
      (take_none c.args.name.now c.args.reference.0 0 c.self.inside.unresolved.items (sym (ap (place_of c.args.name.now 0) c.deref.ensures.value) ∙ sym c.place_of.ensures ∙ c.in_default.is))
      ∙ ap (unlisted_unresolved c.args.name.now c.args.reference.0) c.self.view_is;
}
