use Rattle.std.proofs.Common.{◌≡◌, ◌++◌, drop}
use Rattle.run_scope.proofs.exports.copy_all.Given as goal

abbrev pub invariant-loop-export : goal.invariant-loop-export
invariant-loop-export l = l.copies.items ++ drop l.export-index l.exports ≡ l.exports
