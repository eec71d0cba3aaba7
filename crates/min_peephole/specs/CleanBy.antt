-- What a program is that has no dead code but what options keep.
use Rattle.js_syntax.specs.Node.{Forest}
use Rattle.headline.specs.Clean.{CleanBut}
use Rattle.min_options.specs.declared.options.CompressOptions.{CompressOptions}
pub use Rattle.min_statements.specs.Walker.{keeps_unused, keeps_imports}

abbrev pub CleanBy : CompressOptions → Forest → Type 0
CleanBy o t = CleanBut (keeps_unused o) (keeps_imports o) t
