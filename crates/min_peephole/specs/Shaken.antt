-- What a run leaves of a program.
use Rattle.std.specs.Prelude.{◌≡◌, ◌≤◌, ◌+◌, ℕ, is_some}
use Rattle.std.specs.List.{count_by}
use Rattle.js_syntax.specs.Facts.{weight}
use Rattle.js_syntax.specs.Node.{Forest, bare, total}
use Rattle.js_scoping.specs.Build.{table_of, numbered}
use Rattle.min_options.specs.declared.options.CompressOptions.{CompressOptions}
use Rattle.min_peephole.specs.CleanBy.{CleanBy}
use Rattle.min_pass.specs.Pass.{cleared}
use Rattle.scope_laws.specs.Exact.{Exact}
use Rattle.scope_match.specs.Matches.{Matches}
use Rattle.scope_rules.specs.Binding.{resolved_references}
use Rattle.scope_rules.specs.Table.{Scoping}
use Rattle.steps.specs.Allowed.Edits.{Edits}

-- the nodes are marked with the numbers of the table that is made of the tree
pub record IsMarked (t : Forest) (s : Scoping) : Type 0 where
  pub marked : t ≡ numbered t
  pub table : s ≡ table_of t
  pub exact : Exact s t
  pub matches : Matches s t
  pub resolved : count_by (λ r. is_some r.symbol) s.references ≡ resolved_references t

-- of a program that is marked as its table says, passes by these options leave u, and so many of them were followed by another
pub record Runs (o : CompressOptions) (t u : Forest) (s : Scoping) (iterations : ℕ) : Type 0 where
  pub edits : Edits t u
  pub clean : CleanBy o u
  pub marked : IsMarked u s
  -- each pass that another followed made it lighter
  pub few : iterations + total weight u ≤ total weight t
  pub none : iterations ≡ 0 → bare u ≡ bare t

-- of any program, whose lists lose their empty statements first
pub record IsShaken (o : CompressOptions) (t u : Forest) (s : Scoping) (iterations : ℕ) : Type 0 where
  pub edits : Edits t u
  pub clean : CleanBy o u
  pub marked : IsMarked u s
  pub few : iterations + total weight u ≤ total weight t
  pub none : iterations ≡ 0 → bare u ≡ bare (cleared t)
