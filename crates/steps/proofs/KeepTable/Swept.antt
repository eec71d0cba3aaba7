-- What is left of a row stands where the row stood.
use Rattle.std.proofs.Common.{◌≡◌, Bool, true, false, ◌||◌, if◌then◌else◌, refl, sym, ap, ◌∙◌}
use Rattle.js_syntax.specs.declared.node_kind.NodeKind.{NodeKind as Kind}
use Rattle.js_syntax.specs.declared.node_kind.NodeKind.TheVariants.{Hole as hole, Statements as statements, Declarators as declarators, VariableDeclaration as variable_declaration}
use Rattle.js_syntax.specs.Hint.{has, is_private}
use Rattle.js_syntax.specs.Node.{Note, Forest, nothing, node, absent}
use Rattle.min_pass.specs.declared.around.Row.{Row}
use Rattle.min_pass.specs.declared.around.Row.TheVariants.{Items as items, OfItem as of_item, Declarators as item_declarators, Other as other}
use Rattle.min_pass.specs.Around.{row_below}
use Rattle.min_pass.specs.Pass.{is_empty_in, swept}
use Rattle.json_shape.specs.Shape.{Place, Plan, first_place, behind, IsAt, Stand}
use Rattle.json_shape.proofs.Choice.{is_list_kind}
use Rattle.steps.proofs.KeepTable.Inside.{below_list, at_inside}
use Rattle.steps.proofs.KeepTable.Planned.{place_ok, plan_ok, first_ok, behind_ok, of_list, behind_list, gone}

-- ---- rows that lose nodes

abbrev pub drops : Row → Bool
drops items = true
drops item_declarators = true
drops row = false

-- they are lists
pub below_drops_not : (row : Row) (k : Kind) → is_list_kind k ≡ false → drops (row_below row k) ≡ false
below_drops_not row statements h = absurd cc
below_drops_not items (variable_declaration how) h = refl
below_drops_not of_item (variable_declaration how) h = refl
below_drops_not item_declarators (variable_declaration how) h = refl
below_drops_not other (variable_declaration how) h = refl
below_drops_not row declarators h = absurd cc
below_drops_not row k h = refl

none_goes : (row : Row) (k : Kind) → drops row ≡ false → is_empty_in row k ≡ false
none_goes items k h = absurd cc
none_goes item_declarators k h = absurd cc
none_goes of_item k h = refl
none_goes other k h = refl

-- where one goes
dropping : (row : Row) (k : Kind) → is_empty_in row k ≡ true → drops row ≡ true
dropping items k h = refl
dropping item_declarators k h = refl
dropping of_item k h = absurd cc
dropping other k h = absurd cc

-- a row that loses nodes is planned as a list
abbrev pub Suits : Row → Plan → Type 0
Suits row plan = drops row ≡ true → of_list plan ≡ true

pub behind_suits : (row : Row) (plan : Plan) (k : Kind) → Suits row plan → Suits row (behind plan k)
behind_suits row plan k suits = λ d. behind_list plan k (suits d)

private_left : (r : Row) (t : Forest) → drops r ≡ false → has is_private (swept r t) ≡ has is_private t
private_left r nothing h = refl
private_left r (absent rest) h = private_left r rest h
private_left r (node k n below rest) h =
    ap (λ (b : Bool). has is_private (if b then swept r rest else node k n (swept (row_below r k) below) (swept r rest))) (none_goes r k h)
    ∙ ap (λ (b : Bool). is_private k || b) (private_left r rest h)

-- what lies below stands as it stood
abbrev Stays : Forest → Type 0
Stays t = (r : Row) (plan : Plan) → plan_ok plan ≡ true → Suits r plan → Stand plan t → Stand plan (swept r t)

-- a node below which nodes go stands where it stood
at_left : (r : Row) (k : Kind) (below : Forest) → Stays below → (p : Place) → place_ok p ≡ true → IsAt k below (λ p. Stand p below) p → IsAt k (swept (row_below r k) below) (λ p. Stand p (swept (row_below r k) below)) p
at_left r k below stays =
    at_inside k below (swept (row_below r k) below) (λ none. sym (private_left (row_below r k) below (below_drops_not r k none)))
    (λ plan ok is_below. stays (row_below r k) plan ok (λ dropped. is_below (below_list (is_list_kind k) (drops (row_below r k)) (below_drops_not r k) dropped)))

one_node : (b : Bool) (r : Row) (k : Kind) (n : Note) (below rest : Forest) (plan : Plan) → is_empty_in r k ≡ b → plan_ok plan ≡ true → Suits r plan → Stays below
    → IsAt k below (λ p. Stand p below) (first_place plan) → Stand (behind plan k) (swept r rest)
    → Stand plan (if b then swept r rest else node k n (swept (row_below r k) below) (swept r rest))
one_node true r k n below rest plan is ok suits stays at later = gone plan k (swept r rest) ok (suits (dropping r k is)) later
one_node false r k n below rest plan is ok suits stays at later = (at_left r k below stays (first_place plan) (first_ok plan ok) at, later)

pub swept_stands : (t : Forest) → Stays t
swept_stands nothing r plan ok suits h = h
swept_stands (node k n below rest) r plan ok suits h =
    one_node (is_empty_in r k) r k n below rest plan refl ok suits (swept_stands below) h.0 (swept_stands rest r (behind plan k) (behind_ok plan k ok) (behind_suits r plan k suits) h.1)
swept_stands (absent rest) r plan ok suits h = (h.0, swept_stands rest r (behind plan hole) (behind_ok plan hole ok) (behind_suits r plan hole suits) h.1)
