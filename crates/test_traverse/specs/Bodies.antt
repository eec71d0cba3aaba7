-- Empty statements in the bodies of functions.
use Rattle.std.specs.Prelude.{ℕ, ◌+◌, ◌&&◌, ◌||◌, Bool, true, false, cond, Option, Some, None, if◌then◌else◌}
use Rattle.js_syntax.specs.declared.node_kind.NodeKind.{NodeKind as Kind}
use Rattle.js_syntax.specs.declared.node_kind.NodeKind.TheVariants.{EmptyStatement as empty_statement, Statements as statements, FunctionBody as function_body}
use Rattle.js_syntax.specs.Node.{Forest, Tree, nothing, node, absent}
use Rattle.scope_counts.specs.Edits.{Around, here, behind, behind_none, under}

-- ECMA-262 14.4
abbrev pub is_empty : Kind → (below : Forest) → Bool
is_empty empty_statement nothing = true
is_empty k below = false

abbrev pub is_empty_place : Option Tree → Bool
is_empty_place None = false
is_empty_place (Some t) = is_empty t.kind t.below

-- of a list
abbrev pub has_empty : Forest → Bool
has_empty nothing = false
has_empty (absent rest) = has_empty rest
has_empty (node k n below rest) = is_empty k below || has_empty rest

abbrev pub without_empty : Forest → Forest
without_empty nothing = nothing
without_empty (absent rest) = absent (without_empty rest)
without_empty (node k n below rest) = if is_empty k below then without_empty rest else node k n below (without_empty rest)

-- ---- where they stand

abbrev pub is_list : Kind → Bool
is_list statements = true
is_list k = false

abbrev pub is_body : Kind → Bool
is_body function_body = true
is_body k = false

-- Whether the row at a place is that of a function's body, and whether it is the list of statements of one, if both are told of
-- the row that the place is told from.
abbrev pub row_of_body : (body : Bool) → Around → Bool
row_of_body body here = body
row_of_body body (behind k n below a) = row_of_body body a
row_of_body body (behind_none a) = row_of_body body a
row_of_body body (under k n a rest) = row_of_body (is_body k) a

abbrev pub list_of_body : (body list : Bool) → Around → Bool
list_of_body body list here = list
list_of_body body list (behind k n below a) = list_of_body body list a
list_of_body body list (behind_none a) = list_of_body body list a
list_of_body body list (under k n a rest) = list_of_body (is_body k) (body && is_list k) a

-- how many empty statements the lists of bodies have in a row, and in a program
abbrev pub empty_in : (body list : Bool) → Forest → ℕ
empty_in body list nothing = 0
empty_in body list (absent rest) = empty_in body list rest
empty_in body list (node k n below rest) = cond (list && is_empty k below) 1 0 + empty_in (is_body k) (body && is_list k) below + empty_in body list rest

abbrev pub empty_in_bodies : Forest → ℕ
empty_in_bodies t = empty_in false false t
