-- What is read on the way: the items of a list of two, and globals in memory as scripts have them.
use Rattle.std.specs.Prelude.{List, Option, Some, None, String, string_bytes, map}
use Rattle.std.specs.Global.{Global as Allocator}
use Rattle.std.specs.declared.rc.Rc.{Rc}
use Rattle.serde_json.specs.Data.{Data, array, no_items, item}
use Rattle.run_value.specs.declared.plain.Plain.{Plain}
use Rattle.run_value.specs.Plain.{plain_of}
use Rattle.run_script.specs.Script.{Global}

abbrev pub pair_in : Data → Option (Data × Data)
pair_in (array (item d (item e no_items))) = Some (d, e)
pair_in _ = None

abbrev pub global_of : (Rc (String Allocator) Allocator × Plain) → Global
global_of g = (string_bytes g.0.value, plain_of g.1)

abbrev pub globals_of : List (Rc (String Allocator) Allocator × Plain) → List Global
globals_of gs = map global_of gs
