use Rattle.std.proofs.Common.{◌≡◌, ◌++◌, drop}
use Rattle.run_names.specs.Way.{decls_of}
use Rattle.run_names.proofs.declared.behind_others.Given as goal

abbrev pub invariant-loop-other : goal.invariant-loop-other
invariant-loop-other l = decls_of l.found.items ++ decls_of (drop l.other-index l.others) ≡ decls_of l.fn.found.items ++ decls_of l.others
