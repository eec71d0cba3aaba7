use Rattle.steps.proofs.Allowed.TriedCalls.{behind_leaves, in_front_leaves, in_loop_leaves, empty_leaves, held_leaves}
use Rattle.steps.proofs.allowed_laws.silent_calls.silent_calls_leave.Goals as goal

pub returns : goal.returns
returns c = record { behind = behind_leaves; in_front = in_front_leaves; in_loop = in_loop_leaves; empty = empty_leaves; held = held_leaves }
