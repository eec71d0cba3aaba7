use Rattle.std.proofs.Common.{◌∙◌, sym}
use Rattle.scope_match.proofs.Typed.{distinct_numbers}
use Rattle.scope_match.proofs.marks.none_twice.Goals as goal

pub returns : goal.returns
returns c = (λ t. (distinct_numbers c.args.marks.now).0 (sym c.in_ok-distinct.ensures ∙ t), λ h. c.in_ok-distinct.ensures ∙ (distinct_numbers c.args.marks.now).1 h)
