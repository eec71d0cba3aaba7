use Rattle.scope_match.proofs.Whole.{never, declared_have}
use Rattle.scope_match.proofs.marks.have_marks.Goals as goal

pub returns-then-not-declarations_have_marks : goal.returns-then-not-declarations_have_marks
returns-then-not-declarations_have_marks c = (
  never,
  λ h. c.if-not-declarations_have_marks.ensures.1 (declared_have c.args.found.now c.args.marks.now c.args.count c.bindings.result.now c.symbols.result.now c.bindings.ensures.bindings c.symbols.ensures h),
)
