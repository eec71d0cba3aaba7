-- What the options for dead code elimination alone and the smallest ones keep: nothing.
use Rattle.std.proofs.Common.{Bool, false, ap, subst}
use Rattle.js_syntax.specs.Node.{Forest}
use Rattle.headline.specs.Clean.{CleanBut, Clean}
use Rattle.min_options.specs.Options.{HasOptions, IsDce, IsSmallest}
use Rattle.min_options.specs.declared.options.CompressOptions.{CompressOptions}
use Rattle.min_options.specs.declared.options.CompressOptionsKeepNames.{CompressOptionsKeepNames}
use Rattle.min_options.specs.declared.options.CompressOptionsUnused.TheVariants.{Remove}
use Rattle.min_statements.specs.Walker.{is_keep, keeps_unused}
use Rattle.min_peephole.specs.CleanBy.{CleanBy}

removing_clean : (o : CompressOptions) (drops joins : Bool) (kept : CompressOptionsKeepNames) (t : Forest) → HasOptions o drops joins Remove kept → CleanBy o t → Clean t
removing_clean o drops joins kept t h clean =
    subst (λ b. CleanBut b false t) (ap is_keep h.unused) (subst (λ b. CleanBut (keeps_unused o) b t) h.treeshake.invalid_import_side_effects clean)

pub dce_clean : (o : CompressOptions) (t : Forest) → IsDce o → CleanBy o t → Clean t
dce_clean o t h clean = removing_clean o _ _ _ t h clean

pub smallest_clean : (o : CompressOptions) (t : Forest) → IsSmallest o → CleanBy o t → Clean t
smallest_clean o t h clean = removing_clean o _ _ _ t h clean
