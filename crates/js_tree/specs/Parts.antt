-- What the code calls a part, and a list of names.
use Rattle.js_tree.specs.Names.{Part, all_of, first_of, behind_first}
use Rattle.js_tree.specs.declared.bound.Look.{Look}
use Rattle.js_tree.specs.declared.bound.Look.TheVariants as look

abbrev pub part_view : Look → Part
part_view look.All = all_of
part_view look.First = first_of
part_view look.BehindFirst = behind_first
