-- A list that sites share, as definitions have it.
use Rattle.std.specs.Prelude.{List, [], Option, Some, None, Vec}
use Rattle.std.specs.Global.{Global}
use Rattle.std.specs.declared.rc.Rc.{Rc}

-- without one it is empty
abbrev pub listed : {X : Type 0} → Option (Rc (Vec X Global) Global) → List X
listed None = []
listed (Some l) = l.value.items
