use Rattle.std.proofs.Common.{◌∙◌, option_map, ap}
use Rattle.scope_table.specs.Reading.{symbol_named}
use Rattle.scope_table.proofs.Read.{named_lookup}
use Rattle.scope_table.proofs.scope.Scope.symbol_named.Goals as goal

pub returns : goal.returns
returns c =
    ap (option_map (λ s. s.0)) (c.copied.ensures ∙ c.get.ensures.value) ∙ named_lookup c.args.name.now c.self.inside.bindings.entries
    ∙ ap (λ s. symbol_named c.args.name.now s.bindings) c.self.view_is
