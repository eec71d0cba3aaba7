use Rattle.std.proofs.Common.{◌∙◌, ◌&&◌, not, false, sym, ap}
use Rattle.steps.specs.Allowed.Uses.{as_value, stands_bare}
use Rattle.min_expressions.proofs.unused.right_alone.Goals as goal

pub returns-then-acts : goal.returns-then-acts
returns-then-acts c = sym (ap (λ b. not b && stands_bare as_value false c.args.right.now.kind c.args.right.now.below) (sym c.acts.ensures ∙ c.if-acts.true))
