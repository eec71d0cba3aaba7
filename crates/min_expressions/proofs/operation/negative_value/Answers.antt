use Rattle.std.proofs.Common.{◌∙◌, ap, sym}
use Rattle.steps.specs.Allowed.KnownOperation.{as_negative}
use Rattle.min_expressions.proofs.Negative.{covered}
use Rattle.min_expressions.proofs.operation.negative_value.Goals as goal

pub magnitude_of-requires : goal.magnitude_of-requires
magnitude_of-requires c = λ n is. covered c.args.node.now.kind c.args.node.now.note c.args.node.now.below c.requires n (ap as_negative (sym c.in_ok-value.ensures ∙ c.in-Some.is) ∙ is)
