-- How something is told of each node of a row, from what is told of each node below it.
use Rattle.std.specs.Prelude.{ℕ, zero, suc, List, [], ◌∷◌, Bool, true, false, Option, Some, None, get_or, if◌then◌else◌}
use Rattle.js_syntax.specs.declared.node_kind.NodeKind.{NodeKind as Kind}
use Rattle.js_syntax.specs.declared.node_kind.NodeKind.TheVariants as kind
use Rattle.js_syntax.specs.Node.{Forest, nothing, node, absent, Note, Tree}

-- `missing` is told of a field that isn't there
abbrev pub of_each : {X : Type 0} (told : Kind → Note → (below : Forest) → List X → X) (missing : X) → Forest → List X
of_each told missing nothing = []
of_each told missing (absent r) = missing ∷ of_each told missing r
of_each told missing (node k n a r) = told k n a (of_each told missing a) ∷ of_each told missing r

-- of the first node
abbrev pub of_first : {X : Type 0} (told : Kind → Note → (below : Forest) → List X → X) (missing : X) → Forest → X
of_first told missing t = get_or (of_each told missing t) 0 missing

-- of the last
abbrev pub last : {X : Type 0} → X → List X → X
last x [] = x
last x (y ∷ ys) = last y ys

-- how many fields and nodes a row has
abbrev pub width : Forest → ℕ
width nothing = 0
width (absent r) = suc (width r)
width (node k n a r) = suc (width r)

-- the node at a place of a row
abbrev pub child_of : Forest → ℕ → Option Tree
child_of nothing i = None
child_of (absent r) zero = None
child_of (absent r) (suc i) = child_of r i
child_of (node k n a r) zero = Some (record { kind = k; note = n; below = a })
child_of (node k n a r) (suc i) = child_of r i

-- a node, parentheses aside (ECMA-262 13.2.9)
abbrev pub is_parenthesized : Kind → Bool
is_parenthesized kind.ParenthesizedExpression = true
is_parenthesized k = false

abbrev pub inner_from : Kind → Note → (below : Forest) → List (Option Tree) → Option Tree
inner_from k n a is = if is_parenthesized k then get_or is 0 None else Some (record { kind = k; note = n; below = a })

-- the node at a place of a row, parentheses aside
abbrev pub inner_at : ℕ → Forest → Option Tree
inner_at i t = get_or (of_each inner_from None t) i None
