use Rattle.std.proofs.Common.{◌∙◌, sym}
use Rattle.js_effects.proofs.Unary.{of_primitive}
use Rattle.js_effects.proofs.effects.is_silent_unary.Goals as goal

pub returns-else-converts_nothing : goal.returns-else-converts_nothing
returns-else-converts_nothing c = sym (of_primitive c.args.operator c.args.primitive c.in_default.not-Delete (sym c.converts_nothing.ensures ∙ c.if-converts_nothing.false))
