-- In a tree that fits the table of node types there is one list below an import, and nothing else.
use Rattle.std.proofs.Common.{◌≡◌, [], ◌∷◌, Bool, true, false, ◌&&◌, refl, ap}
use Rattle.js_syntax.specs.Class.{root, import_item}
use Rattle.js_syntax.specs.declared.node_kind.NodeKind.{NodeKind as Kind}
use Rattle.js_syntax.specs.declared.node_kind.NodeKind.TheVariants.{ImportDeclaration as import_declaration, Specifiers as specifiers}
use Rattle.js_syntax.specs.Node.{Note, Forest, nothing, node, absent}
use Rattle.js_syntax.specs.Table.{Row, an_import_declaration, fields_of}
use Rattle.js_syntax.proofs.Truth.{first_of_both, second_of_both}
use Rattle.json_shape.specs.Shape.{Values, kind_in, list, places, these, Stand, Fits}
use Rattle.json_shape.proofs.Choice.{is_list_kind}
use Rattle.steps.proofs.Fit.Everywhere.{IsShown, any_tree, fits_everywhere}
use Rattle.scope_counts.specs.Edits.{Around, here, behind, behind_none, under, plug}

abbrev pub has_names : Forest → Bool
has_names (node specifiers n names nothing) = true
has_names t = false

abbrev pub is_listed_at : Kind → (below : Forest) → Bool
is_listed_at (import_declaration source) below = has_names below
is_listed_at k below = true

abbrev pub are_listed : Forest → Bool
are_listed nothing = true
are_listed (absent rest) = are_listed rest
are_listed (node k n below rest) = is_listed_at k below && (are_listed below && are_listed rest)

list_there : (a : Forest) → Stand (these (list specifiers import_item ∷ [])) a → has_names a ≡ true
list_there nothing h = absurd h
list_there (absent r) h = absurd h.0
list_there (node k n a nothing) h = ap (λ x. has_names (node x n a nothing)) h.0.0
list_there (node k n a (absent r)) h = absurd h.1.0
list_there (node k n a (node j m b r)) h = absurd h.1.0

row_listed : (r : Row) (vs : Values (fields_of r)) (private : Bool) (a : Forest) → Stand (these (places private (fields_of r) vs)) a → is_listed_at (kind_in r vs) a ≡ true
row_listed an_import_declaration vs private a h = list_there a h
row_listed r vs private a h = refl

list_listed : (kind : Kind) (a : Forest) → is_list_kind kind ≡ true → is_listed_at kind a ≡ true
list_listed (import_declaration source) a h = absurd cc
list_listed kind a h = refl

shown : IsShown any_tree is_listed_at are_listed
shown = record {
  ends = refl;
  passes_none = λ r h. h;
  passes_node = λ k n a r h. h;
  given_behind_none = λ r h. h;
  given_below = λ k n a r h. h;
  given_behind = λ k n a r h. h;
  rows = λ r vs private n a rest g chosen st. row_listed r vs private a st;
  lists = list_listed;
  holes = λ a st. refl;
}

pub fits_listed : (t : Forest) → Fits root t → are_listed t ≡ true
fits_listed t fits = fits_everywhere any_tree is_listed_at are_listed shown t fits refl

-- of a node anywhere in it
pub listed_there : (a : Around) (k : Kind) (n : Note) (below rest : Forest) → are_listed (plug a (node k n below rest)) ≡ true → is_listed_at k below ≡ true
listed_there here k n below rest e = first_of_both (is_listed_at k below) (are_listed below && are_listed rest) e
listed_there (behind j m b a) k n below rest e =
    let row = plug a (node k n below rest) in
    listed_there a k n below rest (second_of_both (are_listed b) (are_listed row) (second_of_both (is_listed_at j b) (are_listed b && are_listed row) e))
listed_there (behind_none a) k n below rest e = listed_there a k n below rest e
listed_there (under j m a r) k n below rest e =
    let row = plug a (node k n below rest) in
    listed_there a k n below rest (first_of_both (are_listed row) (are_listed r) (second_of_both (is_listed_at j row) (are_listed row && are_listed r) e))
