-- When what the library call leaves has no dead code, and why it refuses a program.
use Rattle.std.specs.Prelude.{◌≡◌, ◌+◌, ℕ, Option, Some, None, false, min}
use Rattle.js_syntax.specs.Node.{Forest}
use Rattle.js_tree.specs.Count.{node_count, levels}
use Rattle.form_rules.specs.Break.{at_place}
use Rattle.form_rules.specs.Form.{first_broken}
use Rattle.min_driver.specs.Limit.{IsWithinLimits, IsTooLarge, max_nodes, max_levels}
use Rattle.min_options.specs.declared.options.CompressOptions.{CompressOptions}
use Rattle.min_peephole.specs.CleanBy.{CleanBy, keeps_unused, keeps_imports}
use Rattle.min_driver.specs.declared.error.MinifyError.{MinifyError}
use Rattle.min_driver.specs.declared.error.MinifyError.TheVariants.{TooLarge, IllFormed, OutOfMemory}

-- with options for compression no part of what is left is dead code, but what they keep; without them no pass runs
abbrev pub IsCleanBy : Option CompressOptions → Forest → Type 0
IsCleanBy None t = Unit {0}
IsCleanBy (Some options) t = CleanBy options t

-- the options compress, and keep nothing that nobody uses
abbrev pub KeepsNothing : Option CompressOptions → Type 0
KeepsNothing None = ⊥
KeepsNothing (Some options) = (keeps_unused options ≡ false) × (keeps_imports options ≡ false)

-- both counts, each capped one past its limit
abbrev pub IsCounted : (nodes levels : ℕ) → Forest → Type 0
IsCounted nodes deep t = (nodes ≡ min (node_count t) (max_nodes + 1)) × (deep ≡ min (levels t) (max_levels + 1))

abbrev pub IsCause : MinifyError → Forest → Type 0
IsCause (TooLarge nodes deep) t = IsTooLarge t × IsCounted nodes deep t
IsCause (IllFormed rule place) t = IsWithinLimits t × (first_broken t ≡ Some (at_place place rule))
IsCause OutOfMemory t = Unit {0}
