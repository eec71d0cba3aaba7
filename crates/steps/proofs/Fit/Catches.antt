-- In a tree that fits the table of node types the body of each catch is a block.
use Rattle.std.proofs.Common.{◌≡◌, ◌∙◌, [], ◌∷◌, Bool, true, true≢false, Some, refl, sym, ap}
use Rattle.js_syntax.specs.Class.{root, block, binding}
use Rattle.js_syntax.specs.declared.node_kind.NodeKind.{NodeKind as Kind}
use Rattle.js_syntax.specs.Node.{Forest, nothing, node, absent}
use Rattle.js_syntax.specs.Table.{Row, a_block_statement, a_catch_clause, fields_of, type_of, stands}
use Rattle.js_meaning.specs.Scope.{behind}
use Rattle.json_shape.specs.Shape.{Values, kind_in, first_of, one, maybe_one, places, these, Stand, Fits}
use Rattle.json_shape.proofs.Choice.{is_list_kind}
use Rattle.steps.specs.Fit.Catches.{are_in_blocks, catches_in_block, has_blocks_in_catches}
use Rattle.steps.proofs.Fit.Everywhere.{IsShown, fits_everywhere, any_tree}
use Rattle.steps.proofs.Fit.Modules.{ends}

-- ---- the row below a catch

block_kind : (r : Row) (vs : Values (fields_of r)) → stands block (type_of r) ≡ Some (first_of r) → kind_in r vs ≡ Kind.BlockStatement
block_kind a_block_statement vs e = refl
block_kind r vs e = absurd (cc)

block_row : (t : Forest) → Stand (these (one block ∷ [])) t → are_in_blocks t ≡ true
block_row nothing st = absurd st
block_row (absent r) st = absurd st.0
block_row (node k n a r) st = ap (λ l. are_in_blocks (node l n a r)) (st.0.4 ∙ block_kind st.0.0 st.0.1 st.0.2) ∙ ap are_in_blocks (ends r st.1)

catch_row : (a : Forest) → Stand (these (maybe_one binding ∷ (one block ∷ []))) a → are_in_blocks (behind a) ≡ true
catch_row nothing st = absurd st
catch_row (absent r) st = block_row r st.1
catch_row (node k n a r) st = block_row r st.1

-- ---- nodes

row_catches : (r : Row) (vs : Values (fields_of r)) (private : Bool) (a : Forest) → Stand (these (places private (fields_of r) vs)) a → catches_in_block (kind_in r vs) a ≡ true
row_catches a_catch_clause vs private a st = catch_row a st
row_catches r vs private a st = refl

list_catches : (k : Kind) (a : Forest) → is_list_kind k ≡ true → catches_in_block k a ≡ true
list_catches Kind.CatchClause a e = absurd (true≢false (sym e))
list_catches k a e = refl

-- ---- trees

shown : IsShown any_tree catches_in_block has_blocks_in_catches
shown = record {
  ends = refl;
  passes_none = λ r h. h;
  passes_node = λ k n a r h. h;
  given_behind_none = λ r h. h;
  given_below = λ k n a r h. h;
  given_behind = λ k n a r h. h;
  rows = λ r vs private n a rest g chosen st. row_catches r vs private a st;
  lists = list_catches;
  holes = λ a st. refl;
}

pub fits_in_blocks : (t : Forest) → Fits root t → has_blocks_in_catches t ≡ true
fits_in_blocks t fits = fits_everywhere any_tree catches_in_block has_blocks_in_catches shown t fits refl
