use Rattle.std.proofs.Common.{◌≡◌, ◌++◌, drop}
use Rattle.js_meaning.specs.Module.{same_names}
use Rattle.run_names.specs.Held.{held}
use Rattle.run_names.specs.Export.{entries_held}
use Rattle.run_names.proofs.module.same_names.Given as goal

abbrev pub invariant-loop-name : goal.invariant-loop-name
invariant-loop-name l = entries_held l.found.items ++ same_names (held (drop l.name-index l.names)) ≡ entries_held l.fn.found.items ++ same_names (held l.names)
