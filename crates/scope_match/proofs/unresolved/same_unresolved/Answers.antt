use Rattle.scope_match.proofs.unresolved.same_unresolved.Goals as goal

pub returns-then-names : goal.returns-then-names
returns-then-names c = (λ t. record { names = c.in_ok-names.ensures.0 c.if-names.true; uses = c.in_ok-uses.ensures.0 t }, λ h. c.in_ok-uses.ensures.1 h.uses)
