-- Names as they are kept in memory.
use Rattle.std.specs.Prelude.{ℕ, List, String}
use Rattle.std.specs.String.{string_bytes}
use Rattle.std.specs.Global.{Global}
use Rattle.fresh_names.specs.declared.uid.Around.{Around}
use Rattle.fresh_names.specs.Uid.{Uid}

abbrev pub uid_with : (base : List ℕ) → Around → Uid
uid_with base a = record { base = base; count = a.count; postfix = a.postfix }

abbrev pub uid_told : String Global × Around → Uid
uid_told e = uid_with (string_bytes e.0) e.1
