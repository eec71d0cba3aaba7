use Rattle.std.proofs.Common.{rules, ◌∙◌, map, nat_eq, not, ap}
use Rattle.std.proofs.lemmas.Fn.{filter_same}
use Rattle.scope_table.specs.Kept.{kept_without}
use Rattle.scope_table.proofs.Edited.{filtered}
use Rattle.scope_table.proofs.symbol.Symbol.unlist.Goals as goal

pub returns : goal.returns
returns c =
    ap (λ rs. record { name = c.self.inside.name; scope = c.self.inside.scope; flags = c.self.inside.flags; declarations = c.self.inside.declarations.items; references = rs })
    (ap (map (λ r. r.0)) (filter_same _ (λ r. not (nat_eq c.args.reference.0 r.0)) _ (λ x b f' k. search rules) _ _ c.retain.ensures.filtered) ∙ filtered (nat_eq c.args.reference.0) c.self.inside.references.items)
    ∙ ap (kept_without (nat_eq c.args.reference.0)) c.self.view_is
