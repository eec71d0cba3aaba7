-- What is to be true of a program before the pass takes anything out.
use Rattle.std.specs.Prelude.{◌≡◌, ℕ, List, Bool, true, is_some, Some}
use Rattle.js_syntax.specs.Class.{root}
use Rattle.js_syntax.specs.Node.{Forest}
use Rattle.js_effects.specs.Silence.{is_marked}
use Rattle.json_shape.specs.Shape.{Fits}
use Rattle.scope_rules.specs.Site.{BindingSite}
use Rattle.scope_rules.specs.Table.{Scoping}
use Rattle.scope_table.specs.Reading.{reference_at}
use Rattle.scope_laws.specs.Exact.{Among}
use Rattle.scope_counts.specs.Scopes.{ExactButMarks}
use Rattle.steps.specs.Allowed.Exposure.{is_script}
use Rattle.steps.specs.Naming.Standing.{exported_declarations}
use Rattle.steps.specs.Marked.Flags.{first_mark, FlagsTell}
use Rattle.rules.specs.DeadCode.Rules.{Facts}

-- the entries of the table say whether a reference has a symbol
abbrev pub TellsBound : Scoping → List Bool → Type 0
TellsBound s bound = (id : ℕ) → is_marked bound (Some id) ≡ is_some (reference_at s id).symbol

-- each declaration of the program's own scope that is exported has its symbol among the exported
abbrev pub TellsExported : List Bool → Forest → Type 0
TellsExported exported t = (e : BindingSite) → Among e (exported_declarations t) → e.layer.scope ≡ 0 → is_marked exported e.id ≡ true

-- The facts are true of the program, but that the table's lists hold the marked ids still: so nothing refers to a symbol whose
-- list is empty, and more may be unused than the lists say.
pub record Knows (f : Facts) (marked : ℕ → Bool) (t : Forest) : Type 0 where
  pub fits : Fits root t
  pub exact : ExactButMarks f.scoping marked t
  pub flags : FlagsTell f.scoping t
  -- the program's own scope is the first
  pub outermost : first_mark t ≡ Some 0
  pub bound : TellsBound f.scoping f.bound
  pub exported : TellsExported f.exported t
  pub script : f.is_script ≡ is_script t
