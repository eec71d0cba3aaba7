use Rattle.std.proofs.Common.{subst}
use Rattle.js_syntax.specs.Node.{row}
use Rattle.scope_counts.specs.Counts.{ids}
use Rattle.min_context.specs.Edited.{evals, Leaves}
use Rattle.min_expressions.proofs.kept.take_out.Goals as goal

pub returns-clause-left : goal.returns-clause-left
returns-clause-left c = subst (λ us. Leaves c.args.ctx.now (λ r. ids r (row us)) (evals (row us)) c.mark_row.new.self) c.take_at-kept.ensures.left c.mark_row.ensures.left
