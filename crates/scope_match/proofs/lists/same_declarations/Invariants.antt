use Rattle.std.proofs.Common.{◌≡◌, take}
use Rattle.scope_match.proofs.lists.same_declarations.Given as goal

abbrev pub invariant-loop-i : goal.invariant-loop-i
invariant-loop-i l = take l.i l.given ≡ take l.i l.wanted
