-- How many references a table lists.
use Rattle.std.specs.Prelude.{ℕ, ◌+◌, List, [], ◌∷◌, length}
use Rattle.scope_rules.specs.Table.{Symbol}

abbrev pub listed_references : List Symbol → ℕ
listed_references [] = 0
listed_references (s ∷ ss) = length s.references + listed_references ss
