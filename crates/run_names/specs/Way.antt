-- Declarations in memory as definitions have them.
use Rattle.std.specs.Prelude.{List, map}
use Rattle.js_meaning.specs.Scope as meant
use Rattle.js_meaning.specs.Scope.{waiting, ready, linked, left_out, decl}
use Rattle.run_names.specs.declared.declared.Way.{Way}
use Rattle.run_names.specs.declared.declared.Way.TheVariants.{Waiting, Ready, Linked, LeftOut}
use Rattle.run_names.specs.declared.declared.Decl.{Decl}

abbrev pub way_of : Way → meant.Way
way_of (Waiting constant) = waiting constant
way_of Ready = ready
way_of (Linked source name) = linked source.now name.now
way_of LeftOut = left_out

abbrev pub decl_of : Decl → meant.Decl
decl_of d = decl d.name.now (way_of d.way)

abbrev pub decls_of : List Decl → List meant.Decl
decls_of ds = map decl_of ds
