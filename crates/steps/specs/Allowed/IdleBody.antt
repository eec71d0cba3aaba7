-- A statement that does nothing becomes empty where it is a branch of an `if`, or the body of a loop or of `with`, if it declares no name
-- around it (ECMA-262 14.6, 14.7, 14.11). One behind a label stands for no less: that statement does nothing either.
use Rattle.std.specs.Prelude.{◌≡◌, Bool, true, false, ◌||◌}
use Rattle.js_syntax.specs.declared.node_kind.NodeKind.{NodeKind as Kind}
use Rattle.js_syntax.specs.declared.node_kind.NodeKind.TheVariants.{EmptyStatement as empty_statement, IfStatement as if_statement, WithStatement as with_statement, WhileStatement as while_statement, DoWhileStatement as do_while_statement, ForStatement as for_statement, ForInStatement as for_in_statement, ForOfStatement as for_of_statement}
use Rattle.js_syntax.specs.Node.{Note, Forest, Tree, nothing, forest_of}
use Rattle.scope_laws.specs.Place.{Around, first, behind, behind_none, under}
use Rattle.steps.specs.Allowed.Branches.{declares_none}
use Rattle.steps.specs.Allowed.EmptyBlock.{holds_nothing}
use Rattle.steps.specs.Allowed.IdleStatement.{does_nothing}

-- statements right below which a statement stands, and no list of them
abbrev pub has_body : Kind → Bool
has_body if_statement = true
has_body with_statement = true
has_body while_statement = true
has_body do_while_statement = true
has_body for_statement = true
has_body for_in_statement = true
has_body for_of_statement = true
has_body k = false

-- whether a place is right below such a statement; the same of the row that is begun
abbrev pub stands_as_body : (begun : Bool) → Around → Bool
stands_as_body begun (first rest) = begun
stands_as_body begun (behind k n below a) = stands_as_body begun a
stands_as_body begun (behind_none a) = stands_as_body begun a
stands_as_body begun (under k n a rest) = stands_as_body (has_body k) a

abbrev pub IsBody : Around → Type 0
IsBody a = stands_as_body false a ≡ true

-- whether a statement does nothing: it holds none that does something, or it runs none
abbrev pub is_idle_statement : Kind → (below : Forest) → Bool
is_idle_statement k below = holds_nothing k below || does_nothing k below

pub data IdleBody (a : Around) : (x y : Tree) → Type 0 where
  idle_body_empties : (x : Tree) (m : Note) → IsBody a → is_idle_statement x.kind x.below ≡ true → declares_none (forest_of x) ≡ true
      → IdleBody a x (record { kind = empty_statement; note = m; below = nothing })
