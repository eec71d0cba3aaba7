-- The references to a name that are made, with their nodes.
use Rattle.std.specs.Prelude.{◌≡◌, ℕ, ◌<◌, ◌+◌, ◌^◌, List, Option, Some, Result, IfOk, OnOk, OnErr, length}
use Rattle.std.specs.declared.alloc.AllocError.{AllocError}
use Rattle.js_syntax.specs.declared.node_kind.NodeKind.{NodeKind as Kind}
use Rattle.js_syntax.specs.declared.scalar.Span.{Span}
use Rattle.js_syntax.specs.Node.{Tree, nothing}
use Rattle.js_traverse.specs.Traversed.{Traversed, with_reference_to, IsLive}

-- a node that nothing lies below
abbrev pub leaf : Kind → Span → (id : ℕ) → Tree
leaf kind span id = record { kind = kind; note = record { span = span; id = Some id }; below = nothing }

-- there is room for a reference, and its symbol is one of the table
pub record MayRefer (symbol : Option ℕ) (t : Traversed) : Type 0 where
  pub few : length t.scoping.references + 1 < 2 ^ 32
  pub live : IsLive t.scoping symbol

-- one more reference in the scope that the walk is in, listed under its symbol, or under its name
abbrev pub referred : (flags : ℕ) → (name : List ℕ) → (symbol : Option ℕ) → Traversed → Traversed
referred flags name symbol t = record t { scoping = with_reference_to t.current name symbol flags t.scoping }

-- a reference is made, and its node, which has this kind and span and the reference's id
pub record Makes (kind : Kind) (span : Span) (flags : ℕ) (name : List ℕ) (symbol : Option ℕ) (before after : Traversed) (result : Result Tree AllocError) : Type 0 where
  pub node : IfOk result (λ n. n ≡ leaf kind span (length before.scoping.references))
  pub added : OnOk result (after ≡ referred flags name symbol before)
  pub unchanged : OnErr result (after ≡ before)
