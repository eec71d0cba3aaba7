use Rattle.min_imports.proofs.Closing.{closes_over, closes_behind}
use Rattle.min_imports.proofs.repeated.keep_staying.Goals as goal

pub loop-at-preserved : goal.loop-at-preserved
loop-at-preserved c = elim c.if-staying-at.branch [
  | goal.then-staying-at w ↦ rw (w.items-is, w.kept-is) (closes_behind _ c.loop-at.invariant c.loop-at-test.true w.if-staying-at.true w.swap.ensures.by_index)
  | goal.else-staying-at w ↦ rw (w.items-is, w.kept-is) (closes_over c.loop-at.invariant c.loop-at-test.true w.if-staying-at.false)
]
