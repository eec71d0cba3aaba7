-- What leaves a list of statements, of declarators or of an import's names leaves a tree that fits the table of node types.
use Rattle.std.proofs.Common.{◌≡◌, inl, inr, [], ◌∷◌, Bool, true, false, ◌||◌, Some, refl, ap}
use Rattle.js_syntax.specs.Class.{root}
use Rattle.js_syntax.specs.declared.node_kind.NodeKind.{NodeKind as Kind}
use Rattle.js_syntax.specs.declared.node_kind.NodeKind.TheVariants.{Hole as hole, ImportDeclaration as import_declaration, Specifiers as specifiers}
use Rattle.js_syntax.specs.Hint.{has, is_private}
use Rattle.js_syntax.specs.Node.{Tree}
use Rattle.min_pass.specs.declared.around.Around.{Around as Asked}
use Rattle.min_pass.specs.Around.{row_below, entered as asked_below, outermost as asked_of_program}
use Rattle.scope_laws.specs.Place.{Around, first, behind, behind_none, under, plug}
use Rattle.scope_laws.specs.Lists.{without}
use Rattle.steps.specs.Allowed.Imports.{ImportRow, in_names, elsewhere, import_row_below, import_row}
use Rattle.steps.specs.Allowed.Places.{asked_at}
use Rattle.steps.specs.Owed.Owed.{IsListed}
use Rattle.json_shape.specs.Shape.{behind as plan_behind, one, Plan, these, first_place, Stand, Fits}
use Rattle.json_shape.proofs.Choice.{is_list_kind}
use Rattle.steps.proofs.KeepTable.Planned.{plan_ok, first_ok, behind_ok, of_list, behind_list, gone}
use Rattle.steps.proofs.KeepTable.Inside.{Moves, below_list, at_inside}
use Rattle.steps.proofs.KeepTable.Swept.{drops, below_drops_not}
use Rattle.js_syntax.proofs.Truth.{neither, first_of_either, second_of_either}

-- whether a row is one of an import's names
abbrev pub is_names : ImportRow → Bool
is_names in_names = true
is_names r = false

-- rows that nodes leave
abbrev loses : Asked → ImportRow → Bool
loses w r = drops w.row || is_names r

names_listed : (r : ImportRow) (k : Kind) → is_list_kind k ≡ false → is_names (import_row_below r k) ≡ false
names_listed r (import_declaration source) none = refl
names_listed r specifiers none = absurd cc
names_listed r k none = refl

none_loses : (w : Asked) (r : ImportRow) (k : Kind) → is_list_kind k ≡ false → loses (asked_below w k) (import_row_below r k) ≡ false
none_loses w r k none = neither (drops (row_below w.row k)) (is_names (import_row_below r k)) (below_drops_not w.row k none) (names_listed r k none)

-- where no node goes, a private name stands in the row if one stood there
private_left : (w : Asked) (r : ImportRow) (a : Around) (x : Tree) → loses (asked_at w a) (import_row r a) ≡ true → loses w r ≡ false → has is_private (plug a (Some x)) ≡ has is_private (without a)
private_left w r (first rest) x dropped none = absurd (cc (dropped, none))
private_left w r (behind k n below a) x dropped none = ap (λ (b : Bool). is_private k || b) (private_left w r a x dropped none)
private_left w r (behind_none a) x dropped none = private_left w r a x dropped none
private_left w r (under k n a rest) x dropped none = refl

-- a row that loses nodes is planned as a list
abbrev IsPlanned : Asked → ImportRow → Plan → Type 0
IsPlanned w r plan = loses w r ≡ true → of_list plan ≡ true

leaving_stands : (w : Asked) (r : ImportRow) (a : Around) (x : Tree) → loses (asked_at w a) (import_row r a) ≡ true
    → (plan : Plan) → plan_ok plan ≡ true → IsPlanned w r plan → Stand plan (plug a (Some x)) → Stand plan (without a)
leaving_stands w r (first rest) x dropped plan ok planned h = gone plan x.kind rest ok (planned dropped) h.1
leaving_stands w r (behind k n below a) x dropped plan ok planned h = (h.0, leaving_stands w r a x dropped (plan_behind plan k) (behind_ok plan k ok) (λ d. behind_list plan k (planned d)) h.1)
leaving_stands w r (behind_none a) x dropped plan ok planned h = (h.0, leaving_stands w r a x dropped (plan_behind plan hole) (behind_ok plan hole ok) (λ d. behind_list plan hole (planned d)) h.1)
leaving_stands w r (under k n a rest) x dropped plan ok planned h =
    let none = none_loses w r k in
    let in_list = below_list (is_list_kind k) (loses (asked_below w k) (import_row_below r k)) none in
    let moves : Moves k (plug a (Some x)) (without a) = λ p fine is_below. leaving_stands (asked_below w k) (import_row_below r k) a x dropped p fine (λ drop. is_below (in_list drop)) in
    (at_inside k (plug a (Some x)) (without a) (λ no_list. private_left (asked_below w k) (import_row_below r k) a x dropped (none no_list)) moves (first_place plan) (first_ok plan ok) h.0, h.1)

listed_drop : (a : Around) → IsListed a → loses (asked_at (asked_of_program true) a) (import_row elsewhere a) ≡ true
listed_drop a (inl item) = first_of_either (drops (asked_at (asked_of_program true) a).row) (is_names (import_row elsewhere a)) (ap drops item)
listed_drop a (inr (inl declarator)) = first_of_either (drops (asked_at (asked_of_program true) a).row) (is_names (import_row elsewhere a)) (ap drops declarator.0)
listed_drop a (inr (inr imported)) = second_of_either (drops (asked_at (asked_of_program true) a).row) (is_names (import_row elsewhere a)) (ap is_names imported)

-- an item leaves, a declarator leaves others, or a name an import
pub leaving_fits : (a : Around) (x : Tree) → IsListed a → Fits root (plug a (Some x)) → Fits root (without a)
leaving_fits a x listed fits = leaving_stands (asked_of_program true) elsewhere a x (listed_drop a listed) (these (one root ∷ [])) refl (λ d. absurd (cc d)) fits
