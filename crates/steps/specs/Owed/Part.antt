-- When a node stands in another one, so that it may take its place.
use Rattle.std.specs.Prelude.{◌≡◌, ℕ, []}
use Rattle.js_syntax.specs.Node.{Forest, Tree, node, joined}
use Rattle.scope_counts.specs.Counts.{Aims, hoisted}
use Rattle.scope_counts.specs.Losing.{Plain}

-- nothing of the row declares a name around it
abbrev pub DeclaresNothing : Forest → Type 0
DeclaresNothing t = (aims : ℕ → Aims) (at : ℕ) → hoisted aims at t ≡ []

-- The part stands below the whole, which makes no scope and is no name, and what is left out declares nothing around the whole.
pub record IsPart (whole part : Tree) : Type 0 where
  pub before : Forest
  pub after : Forest
  pub stands : whole.below ≡ joined before (node part.kind part.note part.below after)
  pub plain : Plain whole.kind
  pub before_declares : DeclaresNothing before
  pub after_declares : DeclaresNothing after
