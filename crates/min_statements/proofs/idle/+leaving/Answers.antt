use Rattle.std.proofs.Common.{◌∙◌, sym, ap}
use Rattle.steps.specs.Allowed.IdleStatement.{leaves_at_once}
use Rattle.min_statements.proofs.idle.+leaving.Goals as goal

pub leaves_at_once-returns-in-BreakStatement : goal.leaves_at_once-returns-in-BreakStatement
leaves_at_once-returns-in-BreakStatement t c = c.breaks_to.ensures c.args.node.now.below ∙ ap (λ k. leaves_at_once c.args.label.now k c.args.node.now.below) (sym (sym c.kind.ensures ∙ c.in-BreakStatement.is))
