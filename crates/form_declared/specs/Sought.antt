-- What is declared by a name that stands in a row.
use Rattle.std.specs.Prelude.{Option, Some, None}
use Rattle.form_rules.specs.declared.sought.Sort.{Sort}
use Rattle.form_rules.specs.declared.sought.Sort.TheVariants.{CatchParameter as catch_parameter}
use Rattle.form_rules.specs.declared.sought.Sought.{Sought}
use Rattle.form_rules.specs.declared.sought.Sought.TheVariants.{Names as names, Bound as bound, CatchScope as catch_scope}

abbrev pub sort_of : Sought → Option Sort
sort_of (names s) = Some s
sort_of (bound s) = Some s
sort_of (catch_scope fs) = Some catch_parameter
sort_of sought = None
