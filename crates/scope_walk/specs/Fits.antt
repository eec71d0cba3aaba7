-- When the numbers of a row suffice.
use Rattle.std.specs.Prelude.{◌+◌, ◌^◌, ◌<◌}
use Rattle.js_syntax.specs.Node.{Forest, total}
use Rattle.scope_rules.specs.Site.{scope_count}
use Rattle.scope_rules.specs.Mark.{Marks, own_reference}

pub record Fits (m : Marks) (t : Forest) : Type 0 where
  pub scopes : m.scope + scope_count t < 2 ^ 32
  pub references : m.reference + total own_reference t < 2 ^ 32
