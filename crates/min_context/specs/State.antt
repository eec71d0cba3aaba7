-- What passes know before the first of them.
use Rattle.std.specs.Prelude.{◌≡◌, ℕ, [], false}
use Rattle.js_syntax.specs.declared.scalar.SourceType.{SourceType}
use Rattle.symbol_sets.specs.Numbers.{none_below}
use Rattle.min_options.specs.declared.options.CompressOptions.{CompressOptions}
use Rattle.min_context.specs.declared.state.CompressionMode.{CompressionMode}
use Rattle.min_context.specs.declared.state.MinifierState.{MinifierState}

-- nothing is marked, of so many references, and no body is entered
pub record Begins (what : SourceType) (by : CompressOptions) (how : CompressionMode) (room : ℕ) (s : MinifierState) : Type 0 where
  pub source_type : s.source_type ≡ what
  pub options : s.options ≡ by
  pub mode : s.mode ≡ how
  pub frames : s.body_frames.items ≡ []
  pub changes : s.pass_changes ≡ record { marked = none_below room; eval_dropped = false; requested = false }
