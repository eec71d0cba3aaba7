-- What is lent of a context: what is written to it is in the context once the loan is over.
use Rattle.std.specs.Borrow.{Lends, MutBor, Fml}
use Rattle.min_context.specs.Asked.{with_state}
use Rattle.min_context.specs.declared.context.MinifierTraverseCtx.{MinifierTraverseCtx}
use Rattle.min_context.specs.declared.reusable.ReusableMinifierTraverseCtx.{ReusableMinifierTraverseCtx}
use Rattle.min_context.specs.declared.state.MinifierState.{MinifierState}
use Rattle.min_context.specs.contracts.context.MinifierTraverseCtx.{the_row as context_row}
use Rattle.min_context.specs.contracts.reusable.ReusableMinifierTraverseCtx.{the_row as reusable_row}
use Rattle.min_context.specs.contracts.state.MinifierState.{the_row as state_row}

abbrev pub LendsContext : MutBor ReusableMinifierTraverseCtx → MutBor MinifierTraverseCtx → Fml
LendsContext s r = Lends reusable_row context_row s r (λ w. w)

abbrev pub LendsState : MutBor MinifierTraverseCtx → MutBor MinifierState → Fml
LendsState s r = Lends context_row state_row s r (λ w. with_state w s.now)

abbrev pub LendsStateBetween : MutBor ReusableMinifierTraverseCtx → MutBor MinifierState → Fml
LendsStateBetween s r = Lends reusable_row state_row s r (λ w. with_state w s.now)
