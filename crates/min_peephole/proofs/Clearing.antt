-- A program without the empty statements of its lists comes by edits.
use Rattle.std.proofs.Common.{◌≡◌, Bool, true, false, true≢false, ◌&&◌, if◌then◌else◌, refl, sym}
use Rattle.std.proofs.lemmas.Bool.{and_parts}
use Rattle.js_syntax.specs.declared.node_kind.NodeKind.{NodeKind as Kind}
use Rattle.js_syntax.specs.Node.{Forest, Note, nothing, node, absent}
use Rattle.min_pass.specs.declared.around.Row.{Row}
use Rattle.min_pass.specs.declared.around.Row.TheVariants.{Items as items, OfItem as of_item, Declarators as item_declarators, Other as other}
use Rattle.min_pass.specs.Pass.{is_empty_in, swept, cleared}
use Rattle.scope_laws.specs.Place.{first}
use Rattle.steps.specs.Allowed.Arranged.{is_arranged_at, is_arranged}
use Rattle.steps.specs.Allowed.Places.{a_node}
use Rattle.steps.specs.Allowed.EmptyStatement.{empty_statement_leaves}
use Rattle.steps.specs.Allowed.Edits.{leaves, empty_statement, TreeEdits, no_tree_edit, one_tree_edit}
use Rattle.steps.proofs.Allowed.Composing.{tree_edits_compose}
use Rattle.min_peephole.proofs.Paths.{Path, top, behind, behind_none, under, fill, around, row_at, row_there, leaves_there}

wrong : {P : Type 0} → false ≡ true → P
wrong e = absurd (true≢false (sym e))

empty_leaves : (row : Row) (p : Path) (k : Kind) (n : Note) (below rest : Forest) → row_at p ≡ row → is_empty_in row k ≡ true → is_arranged_at k below ≡ true → TreeEdits (fill p (node k n below rest)) (fill p rest)
empty_leaves items p Kind.EmptyStatement n nothing rest row e a = one_tree_edit _ _ _ (leaves_there p rest (a_node Kind.EmptyStatement n nothing) (leaves (around p (first rest)) _ (empty_statement (empty_statement_leaves n (row_there p rest items row))))) (no_tree_edit _)
empty_leaves items p Kind.EmptyStatement n (node k m b r) rest row e a = wrong a
empty_leaves items p Kind.EmptyStatement n (absent r) rest row e a = wrong a
empty_leaves items p k n below rest row e a = wrong e
empty_leaves of_item p k n below rest row e a = wrong e
empty_leaves item_declarators p k n below rest row e a = wrong e
empty_leaves other p k n below rest row e a = wrong e

abbrev left : Path → Forest → Forest
left p f = swept (row_at p) f

by_node : (g : Bool) (p : Path) (k : Kind) (n : Note) (below rest : Forest) → is_empty_in (row_at p) k ≡ g → is_arranged_at k below ≡ true
    → TreeEdits (fill (under p k n rest) below) (fill (under p k n rest) (left (under p k n rest) below)) → TreeEdits (fill p rest) (fill p (left p rest))
    → TreeEdits (fill p (node k n (left (under p k n rest) below) rest)) (fill p (node k n (left (under p k n rest) below) (left p rest)))
    → TreeEdits (fill p (node k n below rest)) (fill p (if g then left p rest else node k n (left (under p k n rest) below) (left p rest)))
by_node true p k n below rest g a inner here kept = tree_edits_compose (empty_leaves (row_at p) p k n below rest refl g a) here
by_node false p k n below rest g a inner here kept = tree_edits_compose inner kept

row_clears : (f : Forest) → is_arranged f ≡ true → (p : Path) → TreeEdits (fill p f) (fill p (left p f))
row_clears nothing a p = no_tree_edit (fill p nothing)
row_clears (absent rest) a p = row_clears rest a (behind_none p)
row_clears (node k n below rest) a p =
    let b = and_parts (is_arranged_at k below) (is_arranged below && is_arranged rest) a in
    let c = and_parts (is_arranged below) (is_arranged rest) b.1 in
    by_node (is_empty_in (row_at p) k) p k n below rest refl b.0 (row_clears below c.0 (under p k n rest)) (row_clears rest c.1 p) (row_clears rest c.1 (behind p k n (left (under p k n rest) below)))

pub clearing_comes : (t : Forest) → is_arranged t ≡ true → TreeEdits t (cleared t)
clearing_comes t a = row_clears t a top
