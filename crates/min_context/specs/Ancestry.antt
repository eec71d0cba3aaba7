-- Which node stands above at a level.
use Rattle.std.specs.Prelude.{ℕ, List, reverse, slice_index_or}
use Rattle.min_context.specs.declared.ancestor.Ancestor.{Ancestor}
use Rattle.min_context.specs.declared.ancestor.Ancestor.TheVariants as ancestor

-- of nodes above, the outermost first: 0 is the nearest
abbrev pub nearest : List Ancestor → (level : ℕ) → Ancestor
nearest above level = slice_index_or (reverse above) level ancestor.None
