use Rattle.std.proofs.Common.{◌≡◌, ◌++◌, drop}
use Rattle.js_meaning.specs.Scope.{all_so}
use Rattle.run_names.specs.Held.{held}
use Rattle.run_names.specs.Way.{way_of, decls_of}
use Rattle.run_names.proofs.declared.with_all.Given as goal

abbrev pub invariant-loop-name : goal.invariant-loop-name
invariant-loop-name l = decls_of l.found.items ++ all_so (way_of l.way) (held (drop l.name-index l.names)) ≡ decls_of l.fn.found.items ++ all_so (way_of l.way) (held l.names)
