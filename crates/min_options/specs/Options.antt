-- The options that are set unless they are asked for.
use Rattle.std.specs.Prelude.{◌≡◌, Bool, [], None, true, false}
use Rattle.min_options.specs.declared.options.CompressOptions.{CompressOptions}
use Rattle.min_options.specs.declared.options.CompressOptionsKeepNames.{CompressOptionsKeepNames}
use Rattle.min_options.specs.declared.options.CompressOptionsUnused.{CompressOptionsUnused}
use Rattle.min_options.specs.declared.options.CompressOptionsUnused.TheVariants.{Remove, Keep}
use Rattle.min_options.specs.declared.options.PropertyReadSideEffects.TheVariants.{All}
use Rattle.min_options.specs.declared.options.TreeShakeOptions.{TreeShakeOptions}

abbrev pub all_kept : CompressOptionsKeepNames
all_kept = record { function = true; class = true }

abbrev pub none_kept : CompressOptionsKeepNames
none_kept = record { function = false; class = false }

pub record IsDefault (o : TreeShakeOptions) : Type 0 where
  pub annotations : o.annotations ≡ true
  pub manual_pure_functions : o.manual_pure_functions.items ≡ []
  pub property_read_side_effects : o.property_read_side_effects ≡ All
  pub property_write_side_effects : o.property_write_side_effects ≡ true
  pub unknown_global_side_effects : o.unknown_global_side_effects ≡ true
  pub invalid_import_side_effects : o.invalid_import_side_effects ≡ false

-- no calls of `console`'s methods go, no labels, and as many passes follow as change something
pub record HasOptions (o : CompressOptions) (drops joins : Bool) (how : CompressOptionsUnused) (kept : CompressOptionsKeepNames) : Type 0 where
  pub drop_debugger : o.drop_debugger ≡ drops
  pub drop_console : o.drop_console ≡ false
  pub join_vars : o.join_vars ≡ joins
  pub sequences : o.sequences ≡ joins
  pub unused : o.unused ≡ how
  pub keep_names : o.keep_names ≡ kept
  pub treeshake : IsDefault o.treeshake
  pub drop_labels : o.drop_labels.items ≡ []
  pub max_iterations : o.max_iterations ≡ None

abbrev pub IsSmallest : CompressOptions → Type 0
IsSmallest o = HasOptions o true true Remove none_kept

abbrev pub IsSafest : CompressOptions → Type 0
IsSafest o = HasOptions o false true Keep all_kept

abbrev pub IsDce : CompressOptions → Type 0
IsDce o = HasOptions o false false Remove all_kept

-- ---- copies: the same options, whatever room their lists have

pub record SameTreeShake (a b : TreeShakeOptions) : Type 0 where
  pub annotations : a.annotations ≡ b.annotations
  pub manual_pure_functions : a.manual_pure_functions.items ≡ b.manual_pure_functions.items
  pub property_read_side_effects : a.property_read_side_effects ≡ b.property_read_side_effects
  pub property_write_side_effects : a.property_write_side_effects ≡ b.property_write_side_effects
  pub unknown_global_side_effects : a.unknown_global_side_effects ≡ b.unknown_global_side_effects
  pub invalid_import_side_effects : a.invalid_import_side_effects ≡ b.invalid_import_side_effects

pub record SameOptions (a b : CompressOptions) : Type 0 where
  pub drop_debugger : a.drop_debugger ≡ b.drop_debugger
  pub drop_console : a.drop_console ≡ b.drop_console
  pub join_vars : a.join_vars ≡ b.join_vars
  pub sequences : a.sequences ≡ b.sequences
  pub unused : a.unused ≡ b.unused
  pub keep_names : a.keep_names ≡ b.keep_names
  pub treeshake : SameTreeShake a.treeshake b.treeshake
  pub drop_labels : a.drop_labels.items ≡ b.drop_labels.items
  pub max_iterations : a.max_iterations ≡ b.max_iterations
