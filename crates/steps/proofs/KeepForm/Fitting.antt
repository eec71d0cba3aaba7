-- A tree that fits the table of node types is laid out as a program is: place by place.
use Rattle.std.proofs.Common.{◌≡◌, inl, inr, [], ◌∷◌, Bool, true, false, not, ◌&&◌, ◌||◌, refl, sym, subst, ap, ◌∙◌}
use Rattle.js_syntax.specs.Class.{Class, root, a_prologue, expression, private_key}
use Rattle.js_syntax.specs.declared.node_kind.NodeKind.{NodeKind as Kind}
use Rattle.js_syntax.specs.declared.node_kind.NodeKind.TheVariants.{Program as program, Directive as directive, Hole as hole, Statements as statements, Declarators as declarators, Specifiers as specifiers, Function as function, ExpressionStatement as expression_statement, ExportNamedDeclaration as export_named_declaration, ImportDeclaration as import_declaration}
use Rattle.js_syntax.specs.Hint.{has, is_private}
use Rattle.js_syntax.specs.Field.{Keys}
use Rattle.js_syntax.specs.Node.{Note, Forest, nothing, node, absent}
use Rattle.js_syntax.specs.Table.{fields_of, stands}
use Rattle.js_syntax.specs.declared.node_type.NodeType.TheVariants as type
use Rattle.form_rules.specs.Context.{has_use_strict}
use Rattle.json_shape.specs.Shape.{kind_in, Place, one, maybe_one, beyond, key_node, key_apart, list, list_with_holes, body, item_or_hole, item_of_body, places, Plan, these, all, all_or_holes, all_of_body, first_place, behind, after_body_item, MayLack, is_directive_kind, IsOf, IsAt, Stand, Fits}
use Rattle.json_shape.proofs.Choice.{is_list_kind}
use Rattle.json_shape.proofs.Fitting.{takes_directive, no_directive}
use Rattle.steps.specs.KeepForm.Sheds.{Row, parts, items, of_item, of_declarators, of_head, of_import, of_specifiers, other, row_below, may_empty}
use Rattle.steps.proofs.KeepForm.Rows.{is_other}
use Rattle.steps.specs.KeepForm.Layout.{is_declarators, stands_right, is_laid_out, IsLaidOut}
use Rattle.steps.proofs.KeepForm.Planned.{is_prologue, takes_statement, is_quiet, is_ordinary, suits, is_item_of_body, suits_plan, first_suits, behind_suits, is_open, made_suits, places_suit, made_right}
use Rattle.js_syntax.proofs.Truth.{not_true, first_of_both, second_of_both, both}

-- ---- places by rows

abbrev pub MayTake : Row → Class → Type 0
MayTake row c = (is_open row ≡ true) × (takes_statement c ≡ true → may_empty row ≡ true)

taken_not : (b : Bool) → not b ≡ true → b ≡ true → ⊥
taken_not true h g = absurd cc
taken_not false h g = absurd cc

one_open : (row : Row) (c : Class) → suits row (one c) ≡ true → MayTake row c
one_open parts c h = (refl, λ t. refl)
one_open items c h = (refl, λ t. refl)
one_open of_item c h = absurd cc
one_open of_head c h = absurd cc
one_open of_declarators c h = (refl, λ t. absurd (taken_not (takes_statement c) h t))
one_open of_import c h = absurd cc
one_open of_specifiers c h = (refl, λ t. absurd (taken_not (takes_statement c) h t))
one_open other c h = (refl, λ t. absurd (taken_not (takes_statement c) h t))

maybe_open : (row : Row) (c : Class) → suits row (maybe_one c) ≡ true → MayTake row c
maybe_open parts c h = (refl, λ t. refl)
maybe_open items c h = absurd cc
maybe_open of_item c h = absurd cc
maybe_open of_head c h = absurd cc
maybe_open of_declarators c h = absurd cc
maybe_open of_import c h = absurd cc
maybe_open of_specifiers c h = absurd cc
maybe_open other c h = (refl, λ t. absurd (taken_not (takes_statement c) h t))

hole_open : (row : Row) (c : Class) → suits row (item_or_hole c) ≡ true → MayTake row c
hole_open parts c h = (refl, λ t. refl)
hole_open items c h = absurd cc
hole_open of_item c h = absurd cc
hole_open of_head c h = absurd cc
hole_open of_declarators c h = absurd cc
hole_open of_import c h = absurd cc
hole_open of_specifiers c h = absurd cc
hole_open other c h = (refl, λ t. absurd (taken_not (takes_statement c) h t))

item_open : (row : Row) (c d : Class) → suits row (item_of_body c) ≡ true → MayTake row d
item_open parts c d h = absurd cc
item_open items c d h = (refl, λ t. refl)
item_open of_item c d h = absurd cc
item_open of_head c d h = absurd cc
item_open of_declarators c d h = absurd cc
item_open of_import c d h = absurd cc
item_open of_specifiers c d h = absurd cc
item_open other c d h = absurd cc

key_open : (row : Row) (keys : Keys) (private : Bool) (c : Class) → takes_statement c ≡ false → suits row (key_node keys private) ≡ true → MayTake row c
key_open parts keys private c calm h = (refl, λ t. refl)
key_open items keys private c calm h = absurd cc
key_open of_item keys private c calm h = absurd cc
key_open of_head keys private c calm h = absurd cc
key_open of_declarators keys private c calm h = absurd cc
key_open of_import keys private c calm h = absurd cc
key_open of_specifiers keys private c calm h = absurd cc
key_open other keys private c calm h = (refl, λ t. absurd (cc (t, calm)))

-- ---- a node at its place

ordinary_right : (row : Row) (kind : Kind) (a : Forest) → is_ordinary kind ≡ true → stands_right row kind a ≡ true
ordinary_right row statements a h = absurd cc
ordinary_right row expression_statement a h = absurd cc
ordinary_right row (program source) a h = absurd cc
ordinary_right row (export_named_declaration source) a h = absurd cc
ordinary_right row (function how pure) a h = absurd cc
ordinary_right row (import_declaration source) a h = absurd cc
ordinary_right row kind a h = refl

-- such a list stands in no import
quiet_other : (row : Row) (kind : Kind) → row_below row specifiers ≡ other → is_quiet kind ≡ true → row_below row kind ≡ other
quiet_other row specifiers apart h = apart
quiet_other row kind apart h = is_other row kind h

module _ (a : Forest) (below : (row : Row) (plan : Plan) → suits_plan row plan ≡ true → Stand plan a → is_laid_out row a ≡ true) where
  abbrev Good : Row → Kind → Type 0
  Good row k = (stands_right row k a ≡ true) × (is_laid_out (row_below row k) a ≡ true)

  good_of : (row : Row) (k : Kind) (c : Class) → MayTake row c → IsOf k a (λ p. Stand p a) c → Good row k
  good_of row k c may of = (
    ap (λ x. stands_right row x a) of.4 ∙ made_right row c of.0 of.1 (has is_private a) a may.0 may.1 of.2 of.5,
    ap (λ x. is_laid_out (row_below row x) a) of.4
        ∙ below (row_below row (kind_in of.0 of.1)) (these (places (has is_private a) (fields_of of.0) of.1)) (places_suit (row_below row (kind_in of.0 of.1)) (has is_private a) (fields_of of.0) of.1 (made_suits row may.0 of.0 of.1)) of.5,
  )

  ordinary_list : (row : Row) (kind : Kind) (plan : Plan) → row_below row specifiers ≡ other → is_ordinary kind ≡ true → suits_plan other plan ≡ true → Stand plan a → Good row kind
  ordinary_list row kind plan apart ordinary suit h =
      (ordinary_right row kind a ordinary, ap (λ x. is_laid_out x a) (quiet_other row kind apart (second_of_both (is_list_kind kind) (is_quiet kind) ordinary)) ∙ below other plan suit h)

  good_list : (row : Row) (kind : Kind) (c : Class) → suits row (list kind c) ≡ true → Stand (all c) a → Good row kind
  good_list parts statements c h st = (refl, below items (all c) h st)
  good_list parts kind c h st = ordinary_list parts kind (all c) refl (first_of_both (is_ordinary kind) (not (takes_statement c)) h) (second_of_both (is_ordinary kind) (not (takes_statement c)) h) st
  good_list of_item declarators c h st = (refl, below of_declarators (all c) h st)
  good_list of_item kind c h st = absurd cc
  good_list of_head declarators c h st = (refl, below other (all c) h st)
  good_list of_head kind c h st = absurd cc
  good_list of_import specifiers c h st = (refl, below of_specifiers (all c) h st)
  good_list of_import kind c h st = absurd cc
  good_list items kind c h st = absurd cc
  good_list of_declarators kind c h st = absurd cc
  good_list of_specifiers kind c h st = absurd cc
  good_list other kind c h st = ordinary_list other kind (all c) refl (first_of_both (is_ordinary kind) (not (takes_statement c)) h) (second_of_both (is_ordinary kind) (not (takes_statement c)) h) st

  good_holes : (row : Row) (kind : Kind) (c : Class) → suits row (list_with_holes kind c) ≡ true → Stand (all_or_holes c) a → Good row kind
  good_holes parts kind c h st = ordinary_list parts kind (all_or_holes c) refl (first_of_both (is_ordinary kind) (not (takes_statement c)) h) (second_of_both (is_ordinary kind) (not (takes_statement c)) h) st
  good_holes other kind c h st = ordinary_list other kind (all_or_holes c) refl (first_of_both (is_ordinary kind) (not (takes_statement c)) h) (second_of_both (is_ordinary kind) (not (takes_statement c)) h) st
  good_holes items kind c h st = absurd cc
  good_holes of_item kind c h st = absurd cc
  good_holes of_head kind c h st = absurd cc
  good_holes of_declarators kind c h st = absurd cc
  good_holes of_import kind c h st = absurd cc
  good_holes of_specifiers kind c h st = absurd cc

  good_body : (row : Row) (c : Class) → suits row (body c) ≡ true → Stand (all_of_body c) a → Good row statements
  good_body parts c h st = (refl, below items (all_of_body c) (both (not (is_prologue c)) (not (is_prologue c)) h h) st)
  good_body items c h st = absurd cc
  good_body of_item c h st = absurd cc
  good_body of_head c h st = absurd cc
  good_body of_declarators c h st = absurd cc
  good_body of_import c h st = absurd cc
  good_body of_specifiers c h st = absurd cc
  good_body other c h st = absurd cc

  good_hole : (row : Row) → Stand (these []) a → Good row hole
  good_hole row st = (refl, below (row_below row hole) (these []) refl st)

  good_at : (row : Row) (p : Place) (k : Kind) → suits row p ≡ true → IsAt k a (λ p. Stand p a) p → Good row k
  good_at row (one c) k h of = good_of row k c (one_open row c h) of
  good_at row (maybe_one c) k h of = good_of row k c (maybe_open row c h) of
  good_at row beyond k h at = absurd at
  good_at row (key_apart may) k h at = absurd at
  good_at row (key_node keys true) k h at = good_of row k private_key (key_open row keys true private_key refl h) at.1
  good_at row (key_node keys false) k h at = good_of row k expression (key_open row keys false expression refl h) at
  good_at row (list kind c) k h at = subst (λ x. Good row x) (sym at.0) (good_list row kind c h at.1)
  good_at row (list_with_holes kind c) k h at = subst (λ x. Good row x) (sym at.0) (good_holes row kind c h at.1)
  good_at row (body c) k h at = subst (λ x. Good row x) (sym at.0) (good_body row c h at.1)
  good_at row (item_or_hole c) k h (inl at) = subst (λ x. Good row x) (sym at.0) (good_hole row at.1)
  good_at row (item_or_hole c) k h (inr of) = good_of row k c (hole_open row c h) of
  good_at row (item_of_body c) k h (inl of) = good_of row k a_prologue (item_open row c a_prologue h) of
  good_at row (item_of_body c) k h (inr at) = good_of row k c (item_open row c c h) at.1

-- ---- directives stand first

free : (c : Class) → not (is_prologue c) ≡ true → takes_directive (stands c type.ExpressionStatement) ≡ false
free a_prologue h = absurd cc
free c h = refl

calm_free : (c : Class) → not (takes_statement c) ≡ true → takes_directive (stands c type.ExpressionStatement) ≡ false
calm_free a_prologue h = absurd cc
calm_free c h = refl

one_free : (row : Row) (c : Class) → suits row (one c) ≡ true → takes_directive (stands c type.ExpressionStatement) ≡ false
one_free parts c h = free c h
one_free items c h = free c h
one_free of_item c h = absurd cc
one_free of_head c h = absurd cc
one_free of_declarators c h = calm_free c h
one_free of_import c h = absurd cc
one_free of_specifiers c h = calm_free c h
one_free other c h = calm_free c h

maybe_free : (row : Row) (c : Class) → suits row (maybe_one c) ≡ true → takes_directive (stands c type.ExpressionStatement) ≡ false
maybe_free parts c h = free c h
maybe_free items c h = absurd cc
maybe_free of_item c h = absurd cc
maybe_free of_head c h = absurd cc
maybe_free of_declarators c h = absurd cc
maybe_free of_import c h = absurd cc
maybe_free of_specifiers c h = absurd cc
maybe_free other c h = calm_free c h

hole_free : (row : Row) (c : Class) → suits row (item_or_hole c) ≡ true → takes_directive (stands c type.ExpressionStatement) ≡ false
hole_free parts c h = calm_free c h
hole_free items c h = absurd cc
hole_free of_item c h = absurd cc
hole_free of_head c h = absurd cc
hole_free of_declarators c h = absurd cc
hole_free of_import c h = absurd cc
hole_free of_specifiers c h = absurd cc
hole_free other c h = calm_free c h

listed : (row : Row) (kind : Kind) (c : Class) → suits row (list kind c) ≡ true → is_directive_kind kind ≡ false
listed parts (directive written) c h = absurd cc
listed items (directive written) c h = absurd cc
listed of_item (directive written) c h = absurd cc
listed of_head (directive written) c h = absurd cc
listed of_declarators (directive written) c h = absurd cc
listed of_import (directive written) c h = absurd cc
listed of_specifiers (directive written) c h = absurd cc
listed other (directive written) c h = absurd cc
listed row kind c h = refl

listed_holes : (row : Row) (kind : Kind) (c : Class) → suits row (list_with_holes kind c) ≡ true → is_directive_kind kind ≡ false
listed_holes parts (directive written) c h = absurd cc
listed_holes items (directive written) c h = absurd cc
listed_holes of_item (directive written) c h = absurd cc
listed_holes of_head (directive written) c h = absurd cc
listed_holes of_declarators (directive written) c h = absurd cc
listed_holes of_import (directive written) c h = absurd cc
listed_holes of_specifiers (directive written) c h = absurd cc
listed_holes other (directive written) c h = absurd cc
listed_holes row kind c h = refl

not_directive : (row : Row) (p : Place) (k : Kind) (a : Forest) → suits row p ≡ true → is_item_of_body p ≡ false → IsAt k a (λ p. Stand p a) p → is_directive_kind k ≡ false
not_directive row (one c) k a h later of = no_directive c k a (one_free row c h) of
not_directive row (maybe_one c) k a h later of = no_directive c k a (maybe_free row c h) of
not_directive row beyond k a h later at = absurd at
not_directive row (key_apart may) k a h later at = absurd at
not_directive row (key_node keys true) k a h later at = no_directive private_key k a refl at.1
not_directive row (key_node keys false) k a h later at = no_directive expression k a refl at
not_directive row (list kind c) k a h later at = ap is_directive_kind at.0 ∙ listed row kind c h
not_directive row (list_with_holes kind c) k a h later at = ap is_directive_kind at.0 ∙ listed_holes row kind c h
not_directive row (body c) k a h later at = ap is_directive_kind at.0
not_directive row (item_or_hole c) k a h later (inl at) = ap is_directive_kind at.0
not_directive row (item_or_hole c) k a h later (inr of) = no_directive c k a (hole_free row c h) of
not_directive row (item_of_body c) k a h later at = absurd cc

-- plans that begin with directives
abbrev opens : Plan → Bool
opens (all_of_body c) = true
opens plan = false

not_opened : (row : Row) (plan : Plan) → suits_plan row plan ≡ true → opens plan ≡ false → is_item_of_body (first_place plan) ≡ false
not_opened row (these []) h later = refl
not_opened row (these (p ∷ ps)) h later = not_true (is_item_of_body p) (second_of_both _ _ (first_of_both _ _ h))
not_opened row (all c) h later = refl
not_opened row (all_or_holes c) h later = refl
not_opened row (all_of_body c) h later = absurd cc

strict_not : (k : Kind) (n : Note) (a r : Forest) → is_directive_kind k ≡ false → has_use_strict (node k n a r) ≡ false
strict_not (directive written) n a r h = absurd cc
strict_not k n a r h = refl

rest_not_strict : (row : Row) (plan : Plan) (r : Forest) → suits_plan row plan ≡ true → opens plan ≡ false → Stand plan r → has_use_strict r ≡ false
rest_not_strict row plan nothing h later st = refl
rest_not_strict row plan (absent r) h later st = refl
rest_not_strict row plan (node k n a r) h later st = strict_not k n a r (not_directive row (first_place plan) k a (first_suits row plan h) (not_opened row plan h later) st.0)

closed_after : (c : Class) (b : Bool) → b ≡ false → opens (after_body_item c b) ≡ false
closed_after c true h = absurd cc
closed_after c false h = refl

closed_behind : (plan : Plan) (k : Kind) → is_directive_kind k ≡ false → opens (behind plan k) ≡ false
closed_behind (these []) k h = refl
closed_behind (these (p ∷ ps)) k h = refl
closed_behind (all c) k h = refl
closed_behind (all_or_holes c) k h = refl
closed_behind (all_of_body c) k h = closed_after c (is_directive_kind k) h

in_order : (row : Row) (plan : Plan) (k : Kind) (r : Forest) (b : Bool) → is_directive_kind k ≡ b → suits_plan row plan ≡ true → Stand (behind plan k) r → (b || not (has_use_strict r)) ≡ true
in_order row plan k r true is h st = refl
in_order row plan k r false is h st = ap not (rest_not_strict row (behind plan k) r (behind_suits row plan k h) (closed_behind plan k is) st)

-- ---- trees

lacks : (row : Row) (p : Place) → suits row p ≡ true → MayLack p → not (is_declarators row) ≡ true
lacks of_declarators (one c) h may = absurd may
lacks of_declarators beyond h may = absurd may
lacks of_declarators p h may = absurd cc
lacks row p h may = refl

pub laid_as_planned : (t : Forest) (row : Row) (plan : Plan) → suits_plan row plan ≡ true → Stand plan t → is_laid_out row t ≡ true
laid_as_planned nothing row plan h st = refl
laid_as_planned (absent r) row plan h st = both (not (is_declarators row)) (is_laid_out row r) (lacks row (first_place plan) (first_suits row plan h) st.0) (laid_as_planned r row (behind plan hole) (behind_suits row plan hole h) st.1)
laid_as_planned (node k n a r) row plan h st =
    let good = good_at a (laid_as_planned a) row (first_place plan) k (first_suits row plan h) st.0 in
    both (is_directive_kind k || not (has_use_strict r)) (stands_right row k a && (is_laid_out (row_below row k) a && is_laid_out row r)) (in_order row plan k r (is_directive_kind k) refl h st.1)
    (both (stands_right row k a) (is_laid_out (row_below row k) a && is_laid_out row r) good.0
    (both (is_laid_out (row_below row k) a) (is_laid_out row r) good.1 (laid_as_planned r row (behind plan k) (behind_suits row plan k h) st.1)))

pub fits_laid_out : (t : Forest) → Fits root t → IsLaidOut t
fits_laid_out t fits = laid_as_planned t other (these (one root ∷ [])) refl fits
