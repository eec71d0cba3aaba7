-- An `if` loses an alternate that is empty (ECMA-262 14.6.2), unless the alternate of an `if` around might be taken for its own then where
-- the program is written: it does as an item of a list of statements, or as the alternate of an `if` that does.
use Rattle.std.specs.Prelude.{◌≡◌, ℕ, suc, Bool, true, false, ◌&&◌, ◌==◌}
use Rattle.js_syntax.specs.declared.node_kind.NodeKind.{NodeKind as Kind}
use Rattle.js_syntax.specs.declared.node_kind.NodeKind.TheVariants.{Statements as statements, IfStatement as if_statement, EmptyStatement as empty_statement}
use Rattle.js_syntax.specs.Node.{Forest, Tree, Note, nothing, node, absent}
use Rattle.scope_laws.specs.Place.{Around, first, behind, behind_none, under}
use Rattle.steps.specs.Allowed.KnownIf.{an_if}

-- whether no alternate may follow the child at an index, from whether one may follow its parent
abbrev pub is_last_below : Bool → Kind → (at : ℕ) → Bool
is_last_below last statements at = true
is_last_below last if_statement at = last && (at == 2)
is_last_below last k at = false

-- at a place, from the same of each node of the row that it begins in
abbrev pub is_last_at : (lasts : ℕ → Bool) → (at : ℕ) → Around → Bool
is_last_at lasts at (first rest) = lasts at
is_last_at lasts at (behind k n below a) = is_last_at lasts (suc at) a
is_last_at lasts at (behind_none a) = is_last_at lasts (suc at) a
is_last_at lasts at (under k n a rest) = is_last_at (is_last_below (lasts at) k) 0 a

abbrev pub IsLast : Around → Type 0
IsLast a = is_last_at (λ i. false) 0 a ≡ true

abbrev pub one_branch : (n : Note) (t l : Kind) (i j : Note) (d b : Forest) → Tree
one_branch n t l i j d b = an_if n t i d (node l j b (absent nothing))

pub data EmptyAlternate (a : Around) : (x y : Tree) → Type 0 where
  alternate_goes : (n i j o : Note) (t l : Kind) (d b : Forest) → IsLast a → EmptyAlternate a (an_if n t i d (node l j b (node empty_statement o nothing nothing))) (one_branch n t l i j d b)
