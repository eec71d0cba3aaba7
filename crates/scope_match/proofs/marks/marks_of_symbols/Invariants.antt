use Rattle.std.proofs.Common.{◌≡◌, ◌++◌, length, drop}
use Rattle.scope_match.specs.Candidates.{first_marks_from}
use Rattle.scope_match.proofs.marks.marks_of_symbols.Given as goal

abbrev pub invariant-loop-i : goal.invariant-loop-i
invariant-loop-i l = l.marks.items ++ first_marks_from (length l.marks.items) (drop l.i l.symbols) (drop l.i l.sites) ≡ first_marks_from 0 l.symbols l.sites
