-- Statements `if` with an alternate that is empty.
use Rattle.std.specs.Prelude.{ℕ, List, [], ◌∷◌, Bool, true, false, ◌&&◌, ◌==◌, Option, None}
use Rattle.js_syntax.specs.declared.node_kind.NodeKind.{NodeKind as Kind}
use Rattle.js_syntax.specs.declared.node_kind.NodeKind.TheVariants.{IfStatement as if_statement, EmptyStatement as empty_statement}
use Rattle.js_syntax.specs.Node.{Forest, Tree, Note, nothing, node}
use Rattle.min_context.specs.declared.ancestor.Ancestor.{Ancestor}
use Rattle.min_context.specs.declared.ancestor.Ancestor.TheVariants as ancestor
use Rattle.min_context.specs.declared.ancestor.Parent.{Parent}
use Rattle.min_context.specs.declared.ancestor.Parent.TheVariants as parent
use Rattle.min_context.specs.Place.{Place}
use Rattle.min_traverse.specs.Lawful.{Rule}
use Rattle.steps.specs.Allowed.EmptyAlternate.{one_branch}
use Rattle.rules.specs.Expressions.Ifs.{given_if}

-- whether no alternate may follow, as the nodes above tell
abbrev pub last_under : Bool → Parent → (at : ℕ) → Bool
last_under last parent.Statements at = true
last_under last parent.IfStatement at = last && (at == 2)
last_under last p at = false

abbrev pub last_in : Bool → Ancestor → Bool
last_in last (ancestor.Field p at) = last_under last p at
last_in last ancestor.None = false

-- by the nodes above, the outermost first
abbrev pub last_from : Bool → List Ancestor → Bool
last_from last [] = last
last_from last (a ∷ above) = last_from (last_in last a) above

abbrev pub is_last : Place → Bool
is_last p = last_from false p.ancestors

-- the `if` with one branch
abbrev pub alternate_left : (last : Bool) → (note : Note) → Kind → (below : Forest) → Option Tree
alternate_left last n if_statement (node t i d (node l j b (node empty_statement o nothing nothing))) = given_if last (one_branch n t l i j d b)
alternate_left last n k below = None

-- ---- as a rule of a walk

abbrev pub fold_empty_alternate : Rule
fold_empty_alternate c x = alternate_left (is_last c.place) x.note x.kind x.below
