use Rattle.std.proofs.Common.{refl}
use Rattle.scope_match.proofs.Whole.{marked_if, if_marked, if_apart, never}
use Rattle.scope_match.proofs.marks.are_marked.Goals as goal

pub returns-then-not-have_marks : goal.returns-then-not-have_marks
returns-then-not-have_marks c = (never, λ h. c.if-not-have_marks.ensures.1 (if_marked c.args.found.now c.args.marks.now c.args.count c.requires.marks c.requires.count h))

pub returns : goal.returns
returns c = (
  λ t. marked_if c.args.found.now c.args.marks.now c.args.count c.requires.marks c.requires.count (c.if-not-have_marks.ensures.0 refl) (c.in_ok-apart.ensures.0 t),
  λ h. c.in_ok-apart.ensures.1 (if_apart c.args.found.now c.args.marks.now h),
)
