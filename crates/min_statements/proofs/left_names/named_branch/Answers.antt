use Rattle.std.proofs.Common.{◌∙◌, arith}
use Rattle.std.proofs.lemmas.Result.{IfOk-weaker}
use Rattle.min_statements.proofs.Naming.{child_of, no_child_of}
use Rattle.min_statements.proofs.left_names.named_branch.Goals as goal

pub returns-then-at-parts : goal.returns-then-at-parts
returns-then-at-parts c = IfOk-weaker c.named_if_any.result _ _ (λ y is. is ∙ child_of c.args.parts.now c.args.at c.index-parts-at.result (omega (arith, c.if-at-parts.true)) c.index-parts-at.is) c.named_if_any.ensures

pub returns-else-at-parts : goal.returns-else-at-parts
returns-else-at-parts c = no_child_of c.args.parts.now c.args.at (omega (arith, c.if-at-parts.false))
