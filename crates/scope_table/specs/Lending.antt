-- Flags that are lent: what is written to them is in the scope, and in the table, once the loan is over.
use Rattle.std.specs.Prelude.{ℕ}
use Rattle.std.specs.Borrow.{Lends, MutBor, Fml}
use Rattle.scope_rules.specs.Table.{Scope, Scoping}
use Rattle.scope_table.specs.declared.flags.ScopeFlags.{ScopeFlags}
use Rattle.scope_table.specs.contracts.flags.ScopeFlags.{the_row as flags_row}
use Rattle.scope_table.specs.contracts.scope.Scope.{the_row as scope_row}
use Rattle.scope_table.specs.contracts.scoping.Scoping.{the_row as table_row}
use Rattle.scope_table.specs.Editing.{with_flags}

abbrev pub LendsBits : MutBor Scope → MutBor ScopeFlags → Fml
LendsBits s r = Lends scope_row flags_row s r (λ w. record s.now { flags = w.0 })

abbrev pub LendsFlags : MutBor Scoping → (scope : ℕ) → MutBor ScopeFlags → Fml
LendsFlags s scope r = Lends table_row flags_row s r (λ w. with_flags scope w.0 s.now)
