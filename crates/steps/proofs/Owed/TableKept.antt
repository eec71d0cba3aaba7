-- An edit of a program leaves a table that is exact, with shorter lists: by shape.
use Rattle.std.proofs.Common.{◌≡◌, ◌∙◌, inl, inr, Bool, true, false, true≢false, Some, refl, sym, ap}
use Rattle.js_syntax.specs.declared.node_kind.NodeKind.{NodeKind as Kind}
use Rattle.js_syntax.specs.declared.node_kind.NodeKind.TheVariants.{Statements as statements, VariableDeclaration as variable_declaration, Declarators as declarators, EmptyStatement as empty_statement, ExpressionStatement as expression_statement, ImportDeclaration as import_declaration, Specifiers as specifiers}
use Rattle.js_syntax.specs.Node.{Forest, Tree, Note, nothing, alone}
use Rattle.min_pass.specs.declared.around.Around.{Around as Asked}
use Rattle.min_pass.specs.declared.around.Row.{Row}
use Rattle.min_pass.specs.declared.around.Row.TheVariants.{Items as items, OfItem as of_item, Declarators as item_declarators, Other as other}
use Rattle.min_pass.specs.Around.{row_below, entered as asked_below, outermost as asked_of_program}
use Rattle.scope_rules.specs.Table.{Scoping}
use Rattle.scope_laws.specs.Place.{Around, first, behind, behind_none, under, plug}
use Rattle.scope_laws.specs.Lists.{is_list, is_listed, without}
use Rattle.steps.specs.Allowed.Imports.{ImportRow, elsewhere, import_row_below, import_row}
use Rattle.steps.specs.Allowed.Places.{a_node, asked_at, in_class_at, At}
use Rattle.steps.specs.Allowed.SilentStatement.{a_statement, SilentStatement}
use Rattle.steps.specs.Fit.Enclosed.{is_enclosed}
use Rattle.steps.specs.Owed.Kept.{is_program, IsKept}
use Rattle.steps.specs.Owed.Owed.{IsListed, Leaving}
use Rattle.steps.proofs.Owed.FitsLeaving.{is_names}
use Rattle.steps.proofs.Owed.Unseen.{unseen_statement}
use Rattle.steps.proofs.Owed.Places.{inside_program}
use Rattle.steps.proofs.Owed.UnseenCounts.{unseen_leaves, idle_leaves, unseen_empties}

-- ---- items, declarators and names of imports stand in lists

-- whether a row of this sort is a list
abbrev is_row_of_list : Row → Bool
is_row_of_list items = true
is_row_of_list item_declarators = true
is_row_of_list row = false

row_is_list : (row : Row) (k : Kind) → is_row_of_list (row_below row k) ≡ true → is_list k ≡ true
row_is_list row statements e = refl
row_is_list items (variable_declaration how) e = absurd (true≢false (sym e))
row_is_list of_item declarators e = refl
row_is_list items k e = absurd (true≢false (sym e))
row_is_list of_item k e = absurd (true≢false (sym e))
row_is_list item_declarators k e = absurd (true≢false (sym e))
row_is_list other k e = absurd (true≢false (sym e))

listed_at : (w : Asked) (row : Bool) (a : Around) → (is_row_of_list w.row ≡ true → row ≡ true) → is_row_of_list (asked_at w a).row ≡ true → is_listed row a ≡ true
listed_at w row (first rest) from e = from e
listed_at w row (behind k n below a) from e = listed_at w row a from e
listed_at w row (behind_none a) from e = listed_at w row a from e
listed_at w row (under k n a rest) from e = listed_at (asked_below w k) (is_list k) a (row_is_list w.row k) e

pub stands_in_list : (a : Around) (row : Row) → (asked_at (asked_of_program true) a).row ≡ row → is_row_of_list row ≡ true → is_listed false a ≡ true
stands_in_list a row is e = listed_at (asked_of_program true) false a (λ h. h) (ap is_row_of_list is ∙ e)

-- so do an import's names
names_list : (r : ImportRow) (k : Kind) → is_names (import_row_below r k) ≡ true → is_list k ≡ true
names_list r (import_declaration source) e = absurd (true≢false (sym e))
names_list r specifiers e = refl
names_list r k e = absurd (true≢false (sym e))

names_listed : (r : ImportRow) (row : Bool) (a : Around) → (is_names r ≡ true → row ≡ true) → is_names (import_row r a) ≡ true → is_listed row a ≡ true
names_listed r row (first rest) from e = from e
names_listed r row (behind k n below a) from e = names_listed r row a from e
names_listed r row (behind_none a) from e = names_listed r row a from e
names_listed r row (under k n a rest) from e = names_listed (import_row_below r k) (is_list k) a (names_list r k) e

-- ---- each shape

pub in_list : (a : Around) → IsListed a → is_listed false a ≡ true
in_list a (inl item) = stands_in_list a items item refl
in_list a (inr (inl declarator)) = stands_in_list a item_declarators declarator.0 refl
in_list a (inr (inr imported)) = names_listed elsewhere false a (λ h. h) (ap is_names imported)

pub leaving_keeps : (a : Around) (x : Tree) → Leaving a x → is_program (plug a (Some x)) ≡ true → is_enclosed (plug a (Some x)) ≡ true → (s : Scoping) → IsKept s (plug a (Some x)) → IsKept s (without a)
leaving_keeps a x owed e w s kept =
    elim (owed.unseen w) [
      | inl unseen ↦ unseen_leaves a x unseen e (in_list a owed.listed) s kept
      | inr none ↦ idle_leaves a x none e (in_list a owed.listed) s kept
    ]

pub emptied_keeps : (a : Around) (n m l : Note) (k : Kind) (inner : Forest) → At a (a_statement n l k inner) (SilentStatement (plug a (a_statement n l k inner)) (alone k l inner) (in_class_at a)) → is_program (plug a (a_statement n l k inner)) ≡ true
    → is_enclosed (plug a (a_statement n l k inner)) ≡ true → (s : Scoping) → IsKept s (plug a (a_statement n l k inner)) → IsKept s (plug a (a_node empty_statement m nothing))
emptied_keeps a n m l k inner silent e w s kept =
    let x : Tree = record { kind = expression_statement; note = n; below = alone k l inner } in
    unseen_empties a x (unseen_statement a n l k inner w silent) e (inside_program a x e (λ rest. refl)) m s kept
