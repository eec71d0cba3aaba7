-- The numbers of symbols.
use Rattle.std.specs.Prelude.{ℕ, List, Bool, true, false, Option}
use Rattle.std.specs.BTreeMap.{BTreeMap}
use Rattle.scope_rules.specs.Binding.{Binding}
use Rattle.scope_names.specs.declared.numbers.Numbers.{Numbers}
use Rattle.scope_names.specs.Keys.{at}
use denote.Ref.{Bor}

abbrev pub numbers_in : Numbers → (is_own : Bool) → BTreeMap (ℕ × ℕ × Bor (List ℕ)) ℕ
numbers_in n true = n.own_names
numbers_in n false = n.names

abbrev pub number_at : Numbers → Binding → Option ℕ
number_at n b = at (numbers_in n b.is_own) b.scope b.name
