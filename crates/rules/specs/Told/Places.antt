-- What is to hold at each node of a row, by what is around it.
use Rattle.std.specs.Prelude.{ℕ, suc}
use Rattle.js_syntax.specs.declared.node_kind.NodeKind.{NodeKind as Kind}
use Rattle.js_syntax.specs.Node.{Forest, Note, nothing, node, absent}

-- `inside` gives what is around the child at a place below a node, and `around` what is around the row's node at a place
abbrev pub EachPlace : {S : Type 0} → (inside : S → Kind → Note → Forest → ℕ → S) → (P : S → Kind → Note → Forest → Type 0) → (around : ℕ → S) → (at : ℕ) → Forest → Type 0
EachPlace inside P around at nothing = Unit {0}
EachPlace inside P around at (absent rest) = EachPlace inside P around (suc at) rest
EachPlace inside P around at (node k n below rest) = P (around at) k n below × EachPlace inside P (inside (around at) k n below) 0 below × EachPlace inside P around (suc at) rest
