-- What a walk over a tree does with its visitor.
use Rattle.std.specs.Prelude.{◌≡◌, Bool, true, false}
use Rattle.js_syntax.specs.declared.node_kind.NodeKind.{NodeKind as Kind}
use Rattle.js_syntax.specs.declared.node_kind.NodeKind.TheVariants.{Statements as statements, Cases as cases, Declarators as declarators, Parameters as parameters, Members as members, Elements as elements, Properties as properties, Expressions as expressions, Arguments as arguments, Quasis as quasis, Specifiers as specifiers}
use Rattle.js_syntax.specs.Node.{Forest, nothing, node, absent, Tree}

-- a list of nodes is a field, and no node of its own
abbrev pub is_list : Kind → Bool
is_list statements = true
is_list cases = true
is_list declarators = true
is_list parameters = true
is_list members = true
is_list elements = true
is_list properties = true
is_list expressions = true
is_list arguments = true
is_list quasis = true
is_list specifiers = true
is_list k = false

-- S is what the visitor is; it visits a tree, answers whether to walk on, and is another then
module _ {S : Type 0} (visits : S → Tree → Bool → S → Type 0) where
  -- what lies below is walked where the answer was to walk on
  abbrev pub Onward : Bool → (S → S → Type 0) → S → S → Type 0
  Onward true inner a b = inner a b
  Onward false inner a b = a ≡ b

  abbrev pub Visited : (of_list : Bool) → Tree → (S → S → Type 0) → S → S → Type 0
  Visited true t inner a b = inner a b
  Visited false t inner a b = (on : Bool) × (s : S) × visits a t on s × Onward on inner s b

  -- each node of a row once, in order of places, and none below one that was answered false
  abbrev pub Walks : Forest → S → S → Type 0
  Walks nothing a b = a ≡ b
  Walks (absent rest) a b = Walks rest a b
  Walks (node k n below rest) a c = (b : S) × Visited (is_list k) (record { kind = k; note = n; below = below }) (Walks below) a b × Walks rest b c
