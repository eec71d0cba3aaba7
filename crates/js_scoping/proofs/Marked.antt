-- The table of a tree is exact for the marked tree, and matches it.
use Rattle.std.proofs.Common.{◌≡◌, ℕ, List}
use Rattle.js_syntax.specs.Node.{Forest}
use Rattle.scope_rules.specs.Table.{Scoping, symbols_declared}
use Rattle.scope_rules.specs.Mark.{marked, first_marks}
use Rattle.scope_laws.specs.Exact.{Exact}
use Rattle.scope_laws.proofs.Exact.{exact}
use Rattle.scope_match.specs.Matches.{Matches}
use Rattle.scope_match.proofs.Fresh.{fresh_matches}
use Rattle.js_scoping.specs.Build.{found_of, table_of}

pub exact_now : (s : Scoping) (t u : Forest) (symbols : List ℕ) → s ≡ table_of t → symbols ≡ symbols_declared (found_of t).bindings → u ≡ marked (first_marks symbols) t → Exact s u
exact_now s t u symbols table declared marks = rw (table, marks, declared) (exact t)

pub matches_now : (s : Scoping) (t u : Forest) (symbols : List ℕ) → s ≡ table_of t → symbols ≡ symbols_declared (found_of t).bindings → u ≡ marked (first_marks symbols) t → Matches s u
matches_now s t u symbols table declared marks = rw (table, marks, declared) (fresh_matches t)
