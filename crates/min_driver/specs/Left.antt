-- What holds of what the library call leaves of a program that is within the limits and breaks no rule of form, whatever made it.
use Rattle.std.specs.Prelude.{◌≡◌, ◌+◌, ◌≤◌, ℕ, Option, None, true, false, is_some}
use Rattle.std.specs.List.{count_by}
use Rattle.js_syntax.specs.Class.{root}
use Rattle.js_syntax.specs.Facts.{weight}
use Rattle.js_syntax.specs.Node.{Forest, bare, total}
use Rattle.js_tree.specs.Count.{node_count, levels}
use Rattle.form_rules.specs.Form.{IsWellFormed}
use Rattle.js_scoping.specs.Build.{table_of, numbered}
use Rattle.json_shape.specs.Shape.{Fits}
use Rattle.min_pass.specs.Pass.{cleared}
use Rattle.scope_laws.specs.Exact.{Exact}
use Rattle.scope_match.specs.Matches.{Matches}
use Rattle.scope_rules.specs.Binding.{resolved_references}
use Rattle.scope_rules.specs.Table.{Scoping}
use Rattle.headline.specs.Headline.{Edits, Kept, KeptBack, is_core_module, loaded, root_names, HasSharedNames, ImportsAreUsed}
use Rattle.steps.specs.Allowed.Exposure.{is_script, evaluates_somewhere}
use Rattle.min_driver.specs.Limit.{IsWithinLimits}
use Rattle.min_driver.specs.Minify.{IsCleanBy, KeepsNothing}
use Rattle.min_options.specs.declared.options.CompressOptions.{CompressOptions}

-- of the tree `t`, by these options, the tree `new` is left, with its table, behind the last of so many passes that changed
-- something
pub record IsLeft (o : Option CompressOptions) (t new : Forest) (s : Scoping) (iterations : ℕ) : Type 0 where
  -- of a program that fits the table of node types: it came by edits that are allowed, keeps the runs of a core module, both
  -- ways, fits the table, breaks no rule of form, and no part of it is dead code, by these options
  pub edits : Fits root t → Edits t new
  pub kept : Fits root t → is_core_module t ≡ true → Kept t new
  pub back : Fits root t → is_core_module t ≡ true → KeptBack t new
  pub fits : Fits root t → Fits root new
  pub formed : Fits root t → IsWellFormed new
  pub clean : Fits root t → IsCleanBy o new
  -- it asks for the modules that the program asked for, in the same order; a script declares the same names in its own scope, and so does
  -- any program in which a direct call of `eval` is left; and no name of an import is left to which nothing refers, but in a script,
  -- beside such a call, or where the options keep it
  pub loads : Fits root t → loaded new ≡ loaded t
  pub shared : Fits root t → HasSharedNames t new → root_names new ≡ root_names t
  pub imports : Fits root t → KeepsNothing o → is_script new ≡ false → evaluates_somewhere new ≡ false → ImportsAreUsed new
  -- it is no larger, and no deeper
  pub nodes : node_count new ≤ node_count t
  pub levels : levels new ≤ levels t
  pub small : IsWithinLimits new
  -- its nodes are marked with the numbers of its scopes, symbols and references, and the table is the one that is made of it
  pub marked : new ≡ numbered new
  pub scoping : s ≡ table_of new
  pub exact : Exact s new
  pub matches : Matches s new
  pub resolved : count_by (λ r. is_some r.symbol) s.references ≡ resolved_references new
  -- without options it is the program, and no pass ran
  pub untouched : o ≡ None → (new ≡ numbered t) × (iterations ≡ 0)
  -- it is lighter by one at least for each pass that changed something; where there was none, it is the program without the empty
  -- statements of its lists
  pub few : iterations + total weight new ≤ total weight t
  pub none : is_some o ≡ true → iterations ≡ 0 → bare new ≡ bare (cleared t)

-- the same of a program that fits the table of node types
pub record IsShaken (o : Option CompressOptions) (t new : Forest) (s : Scoping) (iterations : ℕ) : Type 0 where
  pub edits : Edits t new
  pub kept : is_core_module t ≡ true → Kept t new
  pub back : is_core_module t ≡ true → KeptBack t new
  pub fits : Fits root new
  pub formed : IsWellFormed new
  pub clean : IsCleanBy o new
  pub loads : loaded new ≡ loaded t
  pub shared : HasSharedNames t new → root_names new ≡ root_names t
  pub imports : KeepsNothing o → is_script new ≡ false → evaluates_somewhere new ≡ false → ImportsAreUsed new
  pub nodes : node_count new ≤ node_count t
  pub levels : levels new ≤ levels t
  pub small : IsWithinLimits new
  pub marked : new ≡ numbered new
  pub scoping : s ≡ table_of new
  pub exact : Exact s new
  pub matches : Matches s new
  pub resolved : count_by (λ r. is_some r.symbol) s.references ≡ resolved_references new
  pub untouched : o ≡ None → (new ≡ numbered t) × (iterations ≡ 0)
  pub few : iterations + total weight new ≤ total weight t
  pub none : is_some o ≡ true → iterations ≡ 0 → bare new ≡ bare (cleared t)
