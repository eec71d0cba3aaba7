-- What shaking promises, whatever makes the edits: the definitions that the contracts of `shake` and `Minifier::dce` speak of.
--
-- A program is its tree (`Forest`, js_syntax/specs/Node). A host runs it by a script, with a bound on entries of functions and
-- loops; a run is what the host sees, event by event, and how it ends (js_meaning/specs/Run, Trace, docs/MEANING.md).
use Rattle.std.specs.Prelude.{◌≡◌, true, false}
use Rattle.js_syntax.specs.Node.{Forest}
-- each run of the first is one of the second: the same where it ends or the host stops it, else a front of it; and the way back
pub use Rattle.js_meaning.specs.Kept.{Kept, KeptBack}
-- edits one after the other, each at one place and allowed on the tree as it is then
pub use Rattle.steps.specs.Allowed.Edits.{Edits}
-- whether a part of the tree is dead code
pub use Rattle.headline.specs.Clean.{Clean}
-- what is asked to be loaded, and which names stay that other code may use
use Rattle.steps.specs.Allowed.Exposure.{is_script, evaluates_somewhere}
pub use Rattle.headline.specs.Lasting.{loaded, root_names, HasSharedNames, ImportsAreUsed}
-- a module whose nodes are all of the core of the language, for which runs are defined
pub use Rattle.steps.specs.Fit.Sensible.{is_core_module}

-- Of two programs the second is the first without its dead code.
pub record Headline (t u : Forest) : Type 0 where
  -- edits lead from the one to the other: nothing else is done to the tree, whatever its nodes and its source type
  pub edits : Edits t u
  -- of a core module every run is kept: for every script and bound
  pub kept : is_core_module t ≡ true → Kept t u
  -- where a run of what is left ends or is stopped by the host, the old one was the same within the same bound, unless it was
  -- uncovered
  pub back : is_core_module t ≡ true → KeptBack t u
  -- no part of it is dead code
  pub clean : Clean u
  -- the same modules are loaded, in the same order, of whatever source type the program is
  pub loads : loaded u ≡ loaded t
  -- a script declares the same names in its own scope, and so does any program in which a direct call of `eval` is left
  pub shared : HasSharedNames t u → root_names u ≡ root_names t
  -- no name of an import is left to which nothing refers, but in a script or beside such a call
  pub imports : is_script u ≡ false → evaluates_somewhere u ≡ false → ImportsAreUsed u
