-- In a tree that fits the table of node types a part may stand for its node wherever a node stands in whose place one may, and an
-- expression may be rebuilt wherever it stands.
use Rattle.std.proofs.Common.{◌≡◌, inl, inr, List, [], ◌∷◌, Bool, true, false, not, ◌&&◌, ◌||◌, None, Some, true≢false, refl, sym, subst, ap, ◌∙◌}
use Rattle.js_syntax.specs.Class.{Class, root, a_prologue, module_item, statement, block, declaration, declarator_item, binding, read_name, expression, private_key, no_node}
use Rattle.js_syntax.specs.declared.value.Key.{Key}
use Rattle.js_syntax.specs.declared.value.Key.TheVariants.{Name as key_name, Text as key_text, Number as key_number, Below as key_below}
use Rattle.js_syntax.specs.declared.node_kind.NodeKind.{NodeKind as Kind}
use Rattle.js_syntax.specs.declared.node_kind.NodeKind.TheVariants.{IfStatement as if_statement, TryStatement as try_statement, ReferenceName as reference_name, Hole as hole, Statements as statements}
use Rattle.js_syntax.specs.declared.node_type.NodeType.TheVariants as type
use Rattle.js_syntax.specs.Hint.{has, is_private}
use Rattle.js_syntax.specs.Field.{Keys, keeps, checks, a_key, child, maybe, each, each_or_hole, a_body, Field, field}
use Rattle.js_syntax.specs.Node.{Forest, nothing, node, absent}
use Rattle.js_syntax.specs.Table.{Row as TableRow, a_try_statement, a_program, a_block_statement, a_function_body, an_if_statement, a_variable_declaration, a_variable_declarator, a_function_declaration, a_default_function, a_class_declaration, a_default_class, a_binding_name, a_reference_name, a_target_name, a_binding_object, a_target_object, a_binding_array, a_target_array, fields_of, type_of, stands}
use Rattle.json_shape.specs.Shape.{Values, kind_in, first_of, Place, one, maybe_one, beyond, key_node, key_apart, key_place, list, list_with_holes, body, item_or_hole, item_of_body, places, Plan, these, all, all_or_holes, all_of_body, first_place, behind, after_body_item, is_directive_kind, IsOf, IsAt, Stand, Fits}
use Rattle.json_shape.proofs.Choice.{is_list_kind}
use Rattle.steps.specs.KeepForm.Part.{gives_way, is_statement, is_asked_for}
use Rattle.steps.specs.KeepForm.Sheds.{Row, parts, items, of_item, of_declarators, of_head, of_import, of_specifiers, other, row_below, asked_below, may_empty, may_give_way}
use Rattle.steps.proofs.KeepForm.Planned.{takes_statement, is_open}
use Rattle.js_syntax.proofs.Truth.{first_of_both, second_of_both, both}

-- a hole is of no class, and where a name stands an export may name it
abbrev pub is_told_apart : Kind → Bool
is_told_apart hole = true
is_told_apart (reference_name x) = true
is_told_apart k = false

-- nodes that give way to a part of theirs, and expressions
abbrev pub gives : Kind → Bool
gives k = gives_way k || (not (is_statement k || is_asked_for k) && not (is_list_kind k || is_told_apart k))

-- each node of a row, and each below, in whose place another may stand, is where one may
abbrev pub may_all_give_way : Row → (is_asked : Bool) → Forest → Bool
may_all_give_way row asked nothing = true
may_all_give_way row asked (absent r) = may_all_give_way row asked r
may_all_give_way row asked (node k n a r) = (not (gives k) || may_give_way row asked k) && (may_all_give_way (row_below row k) (asked_below row k) a && may_all_give_way row asked r)

-- ---- places

-- classes of nodes in whose place no part stands
abbrev is_firm : Class → Bool
is_firm block = true
is_firm declaration = true
is_firm declarator_item = true
is_firm binding = true
is_firm read_name = true
is_firm no_node = true
is_firm c = false

stands_nowhere : {P : Type 0} {r : TableRow} → None ≡ Some r → P
stands_nowhere h = absurd cc

firm_node : (c : Class) (r : TableRow) (vs : Values (fields_of r)) → is_firm c ≡ true → stands c (type_of r) ≡ Some (first_of r) → gives (kind_in r vs) ≡ false
firm_node block a_block_statement vs f h = refl
firm_node block a_function_body vs f h = absurd cc
firm_node block r vs f h = stands_nowhere h
firm_node declaration a_function_declaration vs f h = refl
firm_node declaration a_default_function vs f h = absurd cc
firm_node declaration a_class_declaration vs f h = refl
firm_node declaration a_default_class vs f h = absurd cc
firm_node declaration a_variable_declaration vs f h = refl
firm_node declaration r vs f h = stands_nowhere h
firm_node declarator_item a_variable_declarator vs f h = refl
firm_node declarator_item r vs f h = stands_nowhere h
firm_node binding a_binding_name vs f h = refl
firm_node binding a_reference_name vs f h = absurd cc
firm_node binding a_target_name vs f h = absurd cc
firm_node binding a_binding_object vs f h = refl
firm_node binding a_target_object vs f h = absurd cc
firm_node binding a_binding_array vs f h = refl
firm_node binding a_target_array vs f h = absurd cc
firm_node binding r vs f h = stands_nowhere h
firm_node read_name a_reference_name vs f h = refl
firm_node read_name a_binding_name vs f h = absurd cc
firm_node read_name a_target_name vs f h = absurd cc
firm_node read_name r vs f h = stands_nowhere h
firm_node no_node a_program vs f h = stands_nowhere h
firm_node no_node r vs f h = stands_nowhere h
firm_node c r vs f h = absurd (true≢false (sym f))

try_class : (c : Class) → stands c type.TryStatement ≡ Some a_try_statement → takes_statement c ≡ true
try_class module_item h = refl
try_class statement h = refl
try_class c h = absurd cc

if_class : (c : Class) → stands c type.IfStatement ≡ Some an_if_statement → takes_statement c ≡ true
if_class a_prologue h = absurd cc
if_class module_item h = refl
if_class statement h = refl
if_class c h = absurd cc

-- a node of this class, in such a row
abbrev suits_class : Row → (is_asked : Bool) → Class → Bool
suits_class row asked c = is_open row && (is_firm c || (not asked && (not (takes_statement c) || may_empty row)))

abbrev suits : Row → (is_asked : Bool) → Place → Bool
suits row asked (one c) = suits_class row asked c
suits row asked (maybe_one c) = suits_class row asked c
suits row asked beyond = true
suits row asked (key_node keys private) = suits_class row asked expression && suits_class row asked private_key
suits row asked (key_apart may) = true
suits row asked (list kind c) = not (gives kind) && suits_class (row_below row kind) (asked_below row kind) c
suits row asked (list_with_holes kind c) = not (gives kind) && suits_class (row_below row kind) (asked_below row kind) c
suits row asked (body c) = suits_class (row_below row statements) (asked_below row statements) a_prologue && suits_class (row_below row statements) (asked_below row statements) c
suits row asked (item_or_hole c) = suits_class row asked c
suits row asked (item_of_body c) = suits_class row asked a_prologue && suits_class row asked c

abbrev all_suit : Row → (is_asked : Bool) → List Place → Bool
all_suit row asked [] = true
all_suit row asked (p ∷ ps) = suits row asked p && all_suit row asked ps

abbrev suits_plan : Row → (is_asked : Bool) → Plan → Bool
suits_plan row asked (these ps) = all_suit row asked ps
suits_plan row asked (all c) = suits_class row asked c
suits_plan row asked (all_or_holes c) = suits_class row asked c
suits_plan row asked (all_of_body c) = suits_class row asked a_prologue && suits_class row asked c

first_suits : (row : Row) (asked : Bool) (plan : Plan) → suits_plan row asked plan ≡ true → suits row asked (first_place plan) ≡ true
first_suits row asked (these []) h = refl
first_suits row asked (these (p ∷ ps)) h = first_of_both _ _ h
first_suits row asked (all c) h = h
first_suits row asked (all_or_holes c) h = h
first_suits row asked (all_of_body c) h = h

behind_suits : (row : Row) (asked : Bool) (plan : Plan) (k : Kind) → suits_plan row asked plan ≡ true → suits_plan row asked (behind plan k) ≡ true
behind_suits row asked (these []) k h = refl
behind_suits row asked (these (p ∷ ps)) k h = second_of_both _ _ h
behind_suits row asked (all c) k h = h
behind_suits row asked (all_or_holes c) k h = h
behind_suits row asked (all_of_body c) k h = after (is_directive_kind k)
  where
    after : (b : Bool) → suits_plan row asked (after_body_item c b) ≡ true
    after true = h
    after false = second_of_both _ _ h

-- ---- rows of the table

abbrev sort_suits : Row → (is_asked : Bool) → Field → Bool
sort_suits row asked (field name (keeps k)) = true
sort_suits row asked (field name (checks c)) = true
sort_suits row asked (field name (a_key keys)) = suits_class row asked expression && suits_class row asked private_key
sort_suits row asked (field name (child c)) = suits row asked (one c)
sort_suits row asked (field name (maybe c)) = suits row asked (maybe_one c)
sort_suits row asked (field name (each kind c)) = suits row asked (list kind c)
sort_suits row asked (field name (each_or_hole kind c)) = suits row asked (list_with_holes kind c)
sort_suits row asked (field name (a_body c)) = suits row asked (body c)

abbrev fields_suit : Row → (is_asked : Bool) → List Field → Bool
fields_suit row asked [] = true
fields_suit row asked (f ∷ fs) = sort_suits row asked f && fields_suit row asked fs

made_suits : (row : Row) → is_open row ≡ true → (r : TableRow) (vs : Values (fields_of r)) → fields_suit (row_below row (kind_in r vs)) (asked_below row (kind_in r vs)) (fields_of r) ≡ true
made_suits parts h a_program vs = refl
made_suits parts h r vs = refl
made_suits items h a_program vs = refl
made_suits items h r vs = refl
made_suits of_declarators h a_program vs = refl
made_suits of_declarators h r vs = refl
made_suits of_specifiers h a_program vs = refl
made_suits of_specifiers h r vs = refl
made_suits other h a_program vs = refl
made_suits other h r vs = refl
made_suits of_item h r vs = absurd cc
made_suits of_head h r vs = absurd cc
made_suits of_import h r vs = absurd cc

module _ (row : Row) (asked : Bool) where
  key_suits : (keys : Keys) (private : Bool) (key : Key) → suits_class row asked expression && suits_class row asked private_key ≡ true → suits row asked (key_place keys private key) ≡ true
  key_suits keys private key_below h = h
  key_suits keys private (key_name s) h = refl
  key_suits keys private (key_text s) h = refl
  key_suits keys private (key_number n) h = refl

  places_suit : (private : Bool) (fs : List Field) (vs : Values fs) → fields_suit row asked fs ≡ true → all_suit row asked (places private fs vs) ≡ true
  places_suit private [] vs h = refl
  places_suit private (field name (keeps k) ∷ fs) vs h = places_suit private fs vs.1 h
  places_suit private (field name (checks c) ∷ fs) vs h = places_suit private fs vs h
  places_suit private (field name (a_key keys) ∷ fs) vs h = both _ _ (key_suits keys private vs.0 (first_of_both _ _ h)) (places_suit private fs vs.1 (second_of_both _ _ h))
  places_suit private (field name (child c) ∷ fs) vs h = both _ _ (first_of_both _ _ h) (places_suit private fs vs (second_of_both _ _ h))
  places_suit private (field name (maybe c) ∷ fs) vs h = both _ _ (first_of_both _ _ h) (places_suit private fs vs (second_of_both _ _ h))
  places_suit private (field name (each kind c) ∷ fs) vs h = both _ _ (first_of_both _ _ h) (places_suit private fs vs (second_of_both _ _ h))
  places_suit private (field name (each_or_hole kind c) ∷ fs) vs h = both _ _ (first_of_both _ _ h) (places_suit private fs vs (second_of_both _ _ h))
  places_suit private (field name (a_body c) ∷ fs) vs h = both _ _ (first_of_both _ _ h) (places_suit private fs vs (second_of_both _ _ h))

-- ---- a node at its place

abbrev IsRight : Row → (is_asked : Bool) → Kind → Type 0
IsRight row asked k = (not (gives k) || may_give_way row asked k) ≡ true

abbrev is_if_or_try : Kind → Bool
is_if_or_try if_statement = true
is_if_or_try try_statement = true
is_if_or_try k = false

no_statement : (k : Kind) → is_if_or_try k ≡ false → (gives k && is_statement k) ≡ false
no_statement if_statement h = absurd cc
no_statement try_statement h = absurd cc
no_statement k h = refl

other_right : (row : Row) (asked : Bool) (k : Kind) → is_if_or_try k ≡ false → not asked ≡ true → IsRight row asked k
other_right row asked k other_than unasked = right (gives k) (is_statement k) asked (no_statement k other_than) unasked
  where
    right : (g s a : Bool) → (g && s) ≡ false → not a ≡ true → (not g || (not a && (not s || may_empty row))) ≡ true
    right true true a e h = absurd cc
    right true false false e h = refl
    right true false true e h = absurd cc
    right false s a e h = refl

-- of a class of which a node may give way
open_right : (row : Row) (asked : Bool) (c : Class) (r : TableRow) (vs : Values (fields_of r)) → (not asked && (not (takes_statement c) || may_empty row)) ≡ true
    → stands c (type_of r) ≡ Some (first_of r) → IsRight row asked (kind_in r vs)
open_right row asked c an_if_statement vs may h =
    both (not asked) (may_empty row) (first_of_both (not asked) (not (takes_statement c) || may_empty row) may)
    (ap (λ x. not x || may_empty row) (sym (if_class c h)) ∙ second_of_both (not asked) (not (takes_statement c) || may_empty row) may)
open_right row asked c a_try_statement vs may h =
    both (not asked) (may_empty row) (first_of_both (not asked) (not (takes_statement c) || may_empty row) may)
    (ap (λ x. not x || may_empty row) (sym (try_class c h)) ∙ second_of_both (not asked) (not (takes_statement c) || may_empty row) may)
open_right row asked c r vs may h = other_right row asked (kind_in r vs) refl (first_of_both (not asked) (not (takes_statement c) || may_empty row) may)

class_right : (row : Row) (asked : Bool) (c : Class) (r : TableRow) (vs : Values (fields_of r)) → (is_firm c || (not asked && (not (takes_statement c) || may_empty row))) ≡ true
    → stands c (type_of r) ≡ Some (first_of r) → IsRight row asked (kind_in r vs)
class_right row asked c r vs suit h = of (is_firm c) refl suit
  where
    of : (x : Bool) → is_firm c ≡ x → (x || (not asked && (not (takes_statement c) || may_empty row))) ≡ true → IsRight row asked (kind_in r vs)
    of true is s = ap (λ g. not g || may_give_way row asked (kind_in r vs)) (firm_node c r vs is h)
    of false is s = open_right row asked c r vs s h

list_right : (row : Row) (asked : Bool) (kind : Kind) → not (gives kind) ≡ true → IsRight row asked kind
list_right row asked kind h = ap (λ x. x || may_give_way row asked kind) h

module _ (a : Forest) (below : (row : Row) (asked : Bool) (plan : Plan) → suits_plan row asked plan ≡ true → Stand plan a → may_all_give_way row asked a ≡ true) where
  abbrev Good : Row → (is_asked : Bool) → Kind → Type 0
  Good row asked k = IsRight row asked k × (may_all_give_way (row_below row k) (asked_below row k) a ≡ true)

  good_of : (row : Row) (asked : Bool) (k : Kind) (c : Class) → suits_class row asked c ≡ true → IsOf k a (λ p. Stand p a) c → Good row asked k
  good_of row asked k c suit of =
      let made = kind_in of.0 of.1 in
      let unfenced = first_of_both (is_open row) (is_firm c || (not asked && (not (takes_statement c) || may_empty row))) suit in
      subst (λ x. Good row asked x) (sym of.4) (
        class_right row asked c of.0 of.1 (second_of_both (is_open row) (is_firm c || (not asked && (not (takes_statement c) || may_empty row))) suit) of.2,
        below (row_below row made) (asked_below row made) (these (places (has is_private a) (fields_of of.0) of.1))
            (places_suit (row_below row made) (asked_below row made) (has is_private a) (fields_of of.0) of.1 (made_suits row unfenced of.0 of.1)) of.5,
      )

  good_list : (row : Row) (asked : Bool) (k kind : Kind) (plan : Plan) → k ≡ kind → not (gives kind) ≡ true → suits_plan (row_below row kind) (asked_below row kind) plan ≡ true
      → Stand plan a → Good row asked k
  good_list row asked k kind plan is calm suit st = subst (λ x. Good row asked x) (sym is) (list_right row asked kind calm, below (row_below row kind) (asked_below row kind) plan suit st)

  good_at : (row : Row) (asked : Bool) (p : Place) (k : Kind) → suits row asked p ≡ true → IsAt k a (λ p. Stand p a) p → Good row asked k
  good_at row asked (one c) k h of = good_of row asked k c h of
  good_at row asked (maybe_one c) k h of = good_of row asked k c h of
  good_at row asked beyond k h at = absurd at
  good_at row asked (key_apart may) k h at = absurd at
  good_at row asked (key_node keys true) k h at = good_of row asked k private_key (second_of_both (suits_class row asked expression) (suits_class row asked private_key) h) at.1
  good_at row asked (key_node keys false) k h at = good_of row asked k expression (first_of_both (suits_class row asked expression) (suits_class row asked private_key) h) at
  good_at row asked (list kind c) k h at = good_list row asked k kind (all c) at.0 (first_of_both _ _ h) (second_of_both _ _ h) at.1
  good_at row asked (list_with_holes kind c) k h at = good_list row asked k kind (all_or_holes c) at.0 (first_of_both _ _ h) (second_of_both _ _ h) at.1
  good_at row asked (body c) k h at = good_list row asked k statements (all_of_body c) at.0 refl h at.1
  good_at row asked (item_or_hole c) k h (inl at) = good_list row asked k hole (these []) at.0 refl refl at.1
  good_at row asked (item_or_hole c) k h (inr of) = good_of row asked k c h of
  good_at row asked (item_of_body c) k h (inl of) = good_of row asked k a_prologue (first_of_both (suits_class row asked a_prologue) (suits_class row asked c) h) of
  good_at row asked (item_of_body c) k h (inr at) = good_of row asked k c (second_of_both (suits_class row asked a_prologue) (suits_class row asked c) h) at.1

-- ---- trees

may_as_planned : (t : Forest) (row : Row) (asked : Bool) (plan : Plan) → suits_plan row asked plan ≡ true → Stand plan t → may_all_give_way row asked t ≡ true
may_as_planned nothing row asked plan h st = refl
may_as_planned (absent r) row asked plan h st = may_as_planned r row asked (behind plan hole) (behind_suits row asked plan hole h) st.1
may_as_planned (node k n a r) row asked plan h st =
    let good = good_at a (may_as_planned a) row asked (first_place plan) k (first_suits row asked plan h) st.0 in
    both (not (gives k) || may_give_way row asked k) (may_all_give_way (row_below row k) (asked_below row k) a && may_all_give_way row asked r) good.0
    (both (may_all_give_way (row_below row k) (asked_below row k) a) (may_all_give_way row asked r) good.1 (may_as_planned r row asked (behind plan k) (behind_suits row asked plan k h) st.1))

pub fits_may_give_way : (t : Forest) → Fits root t → may_all_give_way other false t ≡ true
fits_may_give_way t fits = may_as_planned t other false (these (one root ∷ [])) refl fits
