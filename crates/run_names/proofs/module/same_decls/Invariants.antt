use Rattle.std.proofs.Common.{◌≡◌, ◌++◌, drop}
use Rattle.js_meaning.specs.Module.{same_names, names_in}
use Rattle.run_names.specs.Way.{decls_of}
use Rattle.run_names.specs.Export.{entries_held}
use Rattle.run_names.proofs.module.same_decls.Given as goal

abbrev pub invariant-loop-decl : goal.invariant-loop-decl
invariant-loop-decl l = entries_held l.found.items ++ same_names (names_in (decls_of (drop l.decl-index l.decls))) ≡ entries_held l.fn.found.items ++ same_names (names_in (decls_of l.decls))
