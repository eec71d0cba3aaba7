use Rattle.steps.proofs.Allowed.TriedExpressions.{block_leaves, nested_block_leaves, labeled_block_leaves, labeled_empty_leaves, block_of_call_stays, block_of_let_stays, branch_stays}
use Rattle.steps.proofs.allowed_laws.rows.blocks_of_nothing_leave.Goals as goal

pub returns : goal.returns
returns c = record { block = block_leaves; nested = nested_block_leaves; labeled = labeled_block_leaves; empty = labeled_empty_leaves; call = block_of_call_stays; let_ = block_of_let_stays; branch = branch_stays }
