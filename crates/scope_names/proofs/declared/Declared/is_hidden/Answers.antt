use Rattle.std.proofs.Common.{◌∙◌, ◌&&◌, false, is_some, sym, ap}
use Rattle.scope_rules.specs.Binding.{Binding}
use Rattle.scope_rules.specs.Table.{is_among, symbols_of}
use Rattle.scope_names.specs.Numbers.{number_at}
use Rattle.scope_names.proofs.Firsts.{number_among}
use Rattle.scope_names.proofs.declared.Declared.is_hidden.Goals as goal

pub returns-then-is_own : goal.returns-then-is_own
returns-then-is_own c =
    let in_body : Binding = record { scope = c.args.symbol.now.scope; is_own = false; name = c.args.symbol.now.name } in
    record {
      hidden = c.is_some.ensures ∙ ap is_some (c.get.ensures ∙ ap (number_at c.self.inside.numbers) c.in_body.ensures ∙ c.self.invariant.numbered in_body)
          ∙ number_among 0 (symbols_of c.self.inside.sites.now) in_body ∙ ap (λ s. is_among in_body (symbols_of s)) c.self.view_is
          ∙ ap (λ own. own && is_among in_body (symbols_of c.args.self.now)) (sym c.if-is_own.true ∙ c.is_own.ensures.is_own);
    }
