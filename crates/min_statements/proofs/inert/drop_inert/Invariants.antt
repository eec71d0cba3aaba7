use Rattle.std.proofs.Common.{◌≡◌, true, length}
use Rattle.js_syntax.specs.Node.{row}
use Rattle.min_statements.proofs.Emptying.{Until}
use Rattle.min_statements.proofs.inert.drop_inert.Given as goal

abbrev pub invariant-loop-rest : goal.invariant-loop-rest
invariant-loop-rest l =
    record {
      asked : l.ctx.requested ≡ true;
      left : Until l.fn.ctx (row l.items) l.ctx l.jumped (row l.rest);
    }

abbrev pub decreases-loop-rest : goal.decreases-loop-rest
decreases-loop-rest l = length l.rest
