-- Names with numbers, as they are put into sets.
use Rattle.std.specs.Prelude.{ℕ, List}
use Rattle.scope_rules.specs.Table.{Named}
use Rattle.scope_match.specs.Matches.{Use}
use denote.Ref.{Bor}

abbrev pub named_key : ℕ × Bor (List ℕ) → Named
named_key k = record { name = k.1.now; symbol = k.0 }

abbrev pub use_key : ℕ × Bor (List ℕ) → Use
use_key k = record { name = k.1.now; reference = k.0 }
