-- What is wrong with a JSON value that is no tree.
use Rattle.std.specs.Prelude.{ℕ, List, Result, Ok, Err, codes}
use Rattle.js_syntax.specs.Name.{type_name}
use Rattle.js_syntax.specs.declared.node_type.NodeType.{NodeType}

pub data Fault : Type 0 where
  -- the counter of levels ran out, which never happens on what JSON's limit of nesting lets in
  too_deep : Fault
  unknown_node : List ℕ → Fault
  bad_field : (kind field : List ℕ) → Fault
  out_of_range : Fault

-- first one, then what it leads to; the first fault stays
infixl 10 ◌>>=◌
abbrev pub ◌>>=◌ : {A B : Type 0} → Result A Fault → (A → Result B Fault) → Result B Fault
(Ok x) >>= f = f x
(Err e) >>= f = Err e

-- the fault of a node's field
abbrev pub fault_of : NodeType → List ℕ → Fault
fault_of t field = bad_field (type_name t) field

-- the fault of a value that has no type
abbrev pub untyped : Fault
untyped = bad_field (codes "") (codes "type")
