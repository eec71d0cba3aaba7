-- What contracts see of the context of a walk.
use Rattle.std.specs.Prelude.{Bool, List, Option}
use Rattle.js_syntax.specs.declared.scalar.SourceType.{SourceType}
use Rattle.scope_rules.specs.Table.{Scoping}
use Rattle.js_traverse.specs.Traversed.{Traversed}
use Rattle.fresh_names.specs.Uid.{Uid}
use Rattle.min_context.specs.Place.{Place, outside}
use Rattle.min_options.specs.declared.options.CompressOptions.{CompressOptions}
use Rattle.min_context.specs.declared.state.BodyFrame.{BodyFrame}
use Rattle.min_context.specs.declared.state.CompressionMode.{CompressionMode}

pub record Seen : Type 0 where
  pub scoping : Scoping
  -- the names that are known to be taken, from the first fresh one on
  pub uids : Option (List Uid)
  -- for each reference that there was at the start of the pass, whether it left since
  pub marked : List Bool
  -- whether a direct call of `eval` left
  pub eval_dropped : Bool
  -- whether another pass is asked for
  pub requested : Bool
  pub source_type : SourceType
  pub options : CompressOptions
  pub mode : CompressionMode
  pub frames : List BodyFrame
  -- where the walk is
  pub place : Place

-- the same context at no place of the program
abbrev pub still : Seen → Seen
still c = record c { place = outside }

-- the table with where the walk is in it
abbrev pub traversed : Seen → Traversed
traversed c = record { scoping = c.scoping; uids = c.uids; current = c.place.scope; hoist = c.place.hoist_scope; block = c.place.block_scope }
