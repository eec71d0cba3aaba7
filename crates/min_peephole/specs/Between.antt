-- What is true between two passes, of the walker, the context and the program.
use Rattle.std.specs.Prelude.{◌≡◌, ℕ, length, true, false, Some}
use Rattle.js_syntax.specs.Node.{Forest}
use Rattle.js_effects.specs.Silence.{is_marked}
use Rattle.symbol_sets.specs.Numbers.{none_below}
use Rattle.steps.specs.Allowed.Exposure.{is_script, is_script_source}
use Rattle.steps.specs.Marked.Flags.{first_mark, FlagsTell}
use Rattle.rules.specs.Told.Nesting.{ScopesNest}
use Rattle.rules.specs.Told.Parts.{FlagsTellOnly}
use Rattle.rules.specs.DeadCode.Knows.{TellsBound, TellsExported}
use Rattle.rules.specs.DeadCode.Quiet.{IsExported}
use Rattle.min_context.specs.IsTrue.{IsTrue}
use Rattle.min_context.specs.Place.{outside}
use Rattle.min_context.specs.Seen.{Seen}
use Rattle.min_statements.specs.Walker.{Names}

pub record BetweenPasses (names : Names) (c : Seen) (t : Forest) : Type 0 where
  -- no walk is on, and nothing is noted of the next pass
  pub place : c.place ≡ outside
  pub marks : c.marked ≡ none_below (length c.marked)
  pub calls_stay : c.eval_dropped ≡ false
  pub nothing_asked : c.requested ≡ false
  -- what the context tells is true: the table is exact
  pub holds : IsTrue c t
  -- its scopes stand in one another as the nodes do that make them; their flags tell what is exposed at each place, and only that
  pub nested : ScopesNest c.scoping t
  pub flags : FlagsTell c.scoping t
  pub flags_only : FlagsTellOnly c.scoping t
  -- the program's own scope is the first
  pub outermost : first_mark t ≡ Some 0
  pub source : is_script_source c.source_type ≡ is_script t
  -- the walker knows which references are bound, and exactly which symbols are exported
  pub bound : TellsBound c.scoping names.bound
  pub exported : TellsExported names.exported t
  pub exported_only : (symbol : ℕ) → is_marked names.exported (Some symbol) ≡ true → IsExported t symbol
