-- What the walker knows, and what is known at a place of a program.
use Rattle.std.specs.Prelude.{List, Bool, true, false}
use Rattle.min_options.specs.declared.options.CompressOptions.{CompressOptions}
use Rattle.min_options.specs.declared.options.CompressOptionsUnused.{CompressOptionsUnused}
use Rattle.min_options.specs.declared.options.CompressOptionsUnused.TheVariants.{Keep}
use Rattle.min_context.specs.Seen.{Seen}
use Rattle.rules.specs.DeadCode.Rules.{Facts}
use Rattle.js_syntax.specs.Node.{Forest}
use Rattle.scope_rules.specs.Table.{Scoping}
use Rattle.steps.specs.Allowed.Exposure.{is_script_source}
use Rattle.exported_names.specs.Answers.{bound_of}
use Rattle.exported_names.specs.Exported.{exported_of}

-- Of each reference by its id, whether it has a symbol; of each symbol by its number, whether an exported declaration declares it.
pub record Names : Type 0 where
  pub bound : List Bool
  pub exported : List Bool

-- what the options keep: what nobody uses, and names of imports, as the import of a name that its module doesn't export may be taken for
-- a side effect
abbrev pub is_keep : CompressOptionsUnused → Bool
is_keep Keep = true
is_keep how = false

abbrev pub keeps_unused : CompressOptions → Bool
keeps_unused o = is_keep o.unused

abbrev pub keeps_imports : CompressOptions → Bool
keeps_imports o = o.treeshake.invalid_import_side_effects

abbrev pub facts_of : Names → Seen → Facts
facts_of names c = record { scoping = c.scoping; bound = names.bound; exported = names.exported; is_script = is_script_source c.source_type; keeps_unused = keeps_unused c.options; keeps_imports = keeps_imports c.options }

-- of a program that is marked as its table says
abbrev pub names_of : Scoping → Forest → Names
names_of s t = record { bound = bound_of s; exported = exported_of s t }
