-- A node that is made into another by a closure, which may edit the context.
use Rattle.std.specs.Prelude.{◌≡◌, Result, Ok, Err, true}
use Rattle.std.specs.Borrow.{MutBor}
use Rattle.std.specs.Fn.{Once}
use Rattle.std.specs.declared.alloc.AllocError.{AllocError}
use Rattle.js_syntax.specs.declared.node_kind.NodeKind.{NodeKind as Kind}
use Rattle.js_syntax.specs.declared.value.LiteralValue.TheVariants as value
use Rattle.js_syntax.specs.Node.{Tree, nowhere, nothing}
use Rattle.min_context.specs.Seen.{Seen}

-- a call of f that is shown the node and the context gives this node, and leaves this context but for the request of another pass
pub record Makes {F : Type 0} (g : Once F (Tree × (MutBor Seen × Unit {0})) (Result Tree AllocError × (MutBor Seen × Unit {0}))) (f : F) (x : Tree) (c : Seen) (y : Tree) (d : Seen) : Type 0 where
  pub shown : MutBor Seen
  pub shows : shown.now ≡ c
  pub left : MutBor Seen
  pub met : g.post f (x, (shown, tt)) (Ok y, (left, tt))
  pub leaves : d ≡ record left.now { requested = true }

-- a call of f gives this error
pub record Refuses {F : Type 0} (g : Once F (Tree × (MutBor Seen × Unit {0})) (Result Tree AllocError × (MutBor Seen × Unit {0}))) (f : F) (x : Tree) (c : Seen) (e : AllocError) (d : Seen) : Type 0 where
  pub shown : MutBor Seen
  pub shows : shown.now ≡ c
  pub left : MutBor Seen
  pub met : g.post f (x, (shown, tt)) (Err e, (left, tt))
  pub leaves : d ≡ left.now

-- what stands in the slot once it gave one
abbrev pub null_node : Tree
null_node = record { kind = Kind.Literal value.Null; note = nowhere; below = nothing }

abbrev pub empty_node : Tree
empty_node = record { kind = Kind.EmptyStatement; note = nowhere; below = nothing }
