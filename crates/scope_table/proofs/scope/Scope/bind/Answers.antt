use Rattle.std.proofs.Common.{◌∙◌, map, string_bytes, ap}
use Rattle.scope_table.specs.Named.{named, with_name}
use Rattle.scope_table.proofs.Showing.{put_entry}
use Rattle.scope_table.proofs.scope.Scope.bind.Goals as goal

pub returns-clause-bound : goal.returns-clause-bound
returns-clause-bound c =
    ap (λ ns. record { parent = c.self.inside.parent; flags = c.self.inside.flags.0; bindings = ns })
    (ap (map named) c.in_ok-insert.ensures.entries ∙ put_entry c.self.inside.bindings.entries c.args.name (record { 0 = c.args.symbol }))
    ∙ ap (with_name (string_bytes c.args.name) c.args.symbol) c.self.view_is
