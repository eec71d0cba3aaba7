-- Export entries in memory as definitions have them.
use Rattle.std.specs.Prelude.{List, map}
use Rattle.js_meaning.specs.Module as meant
use Rattle.js_meaning.specs.Module.{entry_local, entry_import}
use Rattle.run_names.specs.declared.module.Entry.{Entry}
use Rattle.run_names.specs.declared.module.Entry.TheVariants.{Local, Import}

abbrev pub entry_of : Entry → meant.Entry
entry_of (Local exported local) = entry_local exported.now local.now
entry_of (Import exported source imported) = entry_import exported.now source.now imported.now

abbrev pub entries_held : List Entry → List meant.Entry
entries_held es = map entry_of es
