-- Where no statement may stand no variable is declared, but in functions and classes, and but for the static blocks of a class.
use Rattle.std.proofs.Common.{◌≡◌, inl, inr, [], Bool, true, false, ◌&&◌, Some, refl, sym, ap, ◌∙◌}
use Rattle.js_syntax.specs.Class.{Class, root, module_item, statement, block, function_block, arrow_body, handler, case_item, for_init, for_left, declaration, expression, private_key}
use Rattle.js_syntax.specs.declared.node_kind.NodeKind.{NodeKind as Kind}
use Rattle.js_syntax.specs.declared.node_kind.NodeKind.TheVariants.{Hole as hole, Function as function, Class as class, VariableDeclaration as variable_declaration, StaticBlock as static_block}
use Rattle.js_syntax.specs.Hint.{has, is_private}
use Rattle.js_syntax.specs.Node.{Forest, nothing, node, absent}
use Rattle.js_syntax.specs.Table.{Row, a_program, a_block_statement, a_function_body, a_with_statement, a_labeled_statement, an_if_statement, a_switch_statement, a_switch_case, a_try_statement, a_catch_clause, a_while_statement, a_do_while_statement, a_for_statement, a_for_in_statement, a_for_of_statement, a_function_declaration, a_default_function, a_function_expression, an_arrow_function, a_variable_declaration, a_class_declaration, a_default_class, a_class_expression, a_static_block, an_export_declaration, fields_of, type_of, stands}
use Rattle.js_meaning.specs.Scope.{vars_of, var_names}
use Rattle.json_shape.specs.Shape.{Values, kind_in, first_of, Place, one, maybe_one, beyond, key_node, key_apart, list, list_with_holes, body, item_or_hole, item_of_body, places, Plan, these, all, all_or_holes, first_place, behind, IsOf, IsAt, Stand}
use Rattle.json_shape.proofs.Choice.{is_list_kind}
use Rattle.steps.proofs.KeepForm.Rules.{both_empty}
use Rattle.steps.proofs.Fit.Passing.{fields_pass, plan_passes, first_passes, behind_passes, places_pass}
use Rattle.js_syntax.proofs.Truth.{first_of_both, second_of_both}

-- ---- which places take no statement

abbrev pub is_calm_class : Class → Bool
is_calm_class root = false
is_calm_class module_item = false
is_calm_class statement = false
is_calm_class block = false
is_calm_class function_block = false
is_calm_class arrow_body = false
is_calm_class handler = false
is_calm_class case_item = false
is_calm_class for_init = false
is_calm_class for_left = false
is_calm_class declaration = false
is_calm_class c = true

abbrev pub is_calm : Place → Bool
is_calm (one c) = is_calm_class c
is_calm (maybe_one c) = is_calm_class c
is_calm (list kind c) = is_list_kind kind && is_calm_class c
is_calm (list_with_holes kind c) = is_list_kind kind && is_calm_class c
is_calm (body c) = false
is_calm (item_or_hole c) = is_calm_class c
is_calm (item_of_body c) = false
is_calm p = true

-- trees without static blocks
abbrev pub is_not_static : Kind → Bool
is_not_static static_block = false
is_not_static k = true

abbrev pub lacks_static : Forest → Bool
lacks_static nothing = true
lacks_static (absent r) = lacks_static r
lacks_static (node k n a r) = is_not_static k && (lacks_static a && lacks_static r)

-- ---- what a row of the table makes there

pub row_silent : (r : Row) (c : Class) (vs : Values (fields_of r)) (a : Forest) → is_calm_class c ≡ true → stands c (type_of r) ≡ Some (first_of r) → is_not_static (kind_in r vs) ≡ true → (fields_pass is_calm (fields_of r) ≡ true → var_names a ≡ [])
    → vars_of (kind_in r vs) a (var_names a) ≡ []
row_silent a_program root vs a calm is plain below = absurd cc
row_silent a_program c vs a calm is plain below = absurd cc
row_silent a_block_statement root vs a calm is plain below = absurd cc
row_silent a_block_statement c vs a calm is plain below = absurd cc
row_silent a_function_body root vs a calm is plain below = absurd cc
row_silent a_function_body c vs a calm is plain below = absurd cc
row_silent a_with_statement root vs a calm is plain below = absurd cc
row_silent a_with_statement c vs a calm is plain below = absurd cc
row_silent a_labeled_statement root vs a calm is plain below = absurd cc
row_silent a_labeled_statement c vs a calm is plain below = absurd cc
row_silent an_if_statement root vs a calm is plain below = absurd cc
row_silent an_if_statement c vs a calm is plain below = absurd cc
row_silent a_switch_statement root vs a calm is plain below = absurd cc
row_silent a_switch_statement c vs a calm is plain below = absurd cc
row_silent a_switch_case root vs a calm is plain below = absurd cc
row_silent a_switch_case c vs a calm is plain below = absurd cc
row_silent a_try_statement root vs a calm is plain below = absurd cc
row_silent a_try_statement c vs a calm is plain below = absurd cc
row_silent a_catch_clause root vs a calm is plain below = absurd cc
row_silent a_catch_clause c vs a calm is plain below = absurd cc
row_silent a_while_statement root vs a calm is plain below = absurd cc
row_silent a_while_statement c vs a calm is plain below = absurd cc
row_silent a_do_while_statement root vs a calm is plain below = absurd cc
row_silent a_do_while_statement c vs a calm is plain below = absurd cc
row_silent a_for_statement root vs a calm is plain below = absurd cc
row_silent a_for_statement c vs a calm is plain below = absurd cc
row_silent a_for_in_statement root vs a calm is plain below = absurd cc
row_silent a_for_in_statement c vs a calm is plain below = absurd cc
row_silent a_for_of_statement root vs a calm is plain below = absurd cc
row_silent a_for_of_statement c vs a calm is plain below = absurd cc
row_silent a_variable_declaration root vs a calm is plain below = absurd cc
row_silent a_variable_declaration c vs a calm is plain below = absurd cc
row_silent an_export_declaration root vs a calm is plain below = absurd cc
row_silent an_export_declaration c vs a calm is plain below = absurd cc
row_silent a_static_block c vs a calm is plain below = absurd cc
row_silent a_function_declaration c vs a calm is plain below = refl
row_silent a_default_function c vs a calm is plain below = refl
row_silent a_function_expression c vs a calm is plain below = refl
row_silent an_arrow_function c vs a calm is plain below = refl
row_silent a_class_declaration c vs a calm is plain below = refl
row_silent a_default_class c vs a calm is plain below = refl
row_silent a_class_expression c vs a calm is plain below = refl
row_silent r c vs a calm is plain below = below refl

-- ---- a node there

list_silent : (kind : Kind) (a : Forest) → is_list_kind kind ≡ true → var_names a ≡ [] → vars_of kind a (var_names a) ≡ []
list_silent (variable_declaration how) a h e = absurd cc
list_silent (function how pure) a h e = absurd cc
list_silent (class how) a h e = absurd cc
list_silent kind a h e = e

module _ (a : Forest) (below : (plan : Plan) → plan_passes is_calm plan ≡ true → Stand plan a → var_names a ≡ []) where
  pub names_below : (r : Row) (vs : Values (fields_of r)) → Stand (these (places (has is_private a) (fields_of r) vs)) a → fields_pass is_calm (fields_of r) ≡ true → var_names a ≡ []
  names_below r vs st h = below (these (places (has is_private a) (fields_of r) vs)) (places_pass is_calm (has is_private a) (fields_of r) vs h) st

  silent_of : (c : Class) (k : Kind) → is_calm_class c ≡ true → is_not_static k ≡ true → IsOf k a (λ p. Stand p a) c → vars_of k a (var_names a) ≡ []
  silent_of c k calm plain of = ap (λ x. vars_of x a (var_names a)) of.4 ∙ row_silent of.0 c of.1 a calm of.2 (ap is_not_static (sym of.4) ∙ plain) (names_below of.0 of.1 of.5)

  listed : (kind k : Kind) (c : Class) (plan : Plan) → k ≡ kind → (is_list_kind kind && is_calm_class c) ≡ true → (is_calm_class c ≡ true → plan_passes is_calm plan ≡ true) → Stand plan a → vars_of k a (var_names a) ≡ []
  listed kind k c plan is h passes st =
      ap (λ x. vars_of x a (var_names a)) is ∙ list_silent kind a (first_of_both (is_list_kind kind) (is_calm_class c) h) (below plan (passes (second_of_both (is_list_kind kind) (is_calm_class c) h)) st)

  silent_at : (p : Place) (k : Kind) → is_calm p ≡ true → is_not_static k ≡ true → IsAt k a (λ p. Stand p a) p → vars_of k a (var_names a) ≡ []
  silent_at (one c) k h plain of = silent_of c k h plain of
  silent_at (maybe_one c) k h plain of = silent_of c k h plain of
  silent_at beyond k h plain at = absurd at
  silent_at (key_apart may) k h plain at = absurd at
  silent_at (key_node keys true) k h plain at = silent_of private_key k refl plain at.1
  silent_at (key_node keys false) k h plain at = silent_of expression k refl plain at
  silent_at (list kind c) k h plain at = listed kind k c (all c) at.0 h (λ e. e) at.1
  silent_at (list_with_holes kind c) k h plain at = listed kind k c (all_or_holes c) at.0 h (λ e. e) at.1
  silent_at (body c) k h plain at = absurd cc
  silent_at (item_or_hole c) k h plain (inl at) = ap (λ x. vars_of x a (var_names a)) at.0 ∙ below (these []) refl at.1
  silent_at (item_or_hole c) k h plain (inr of) = silent_of c k h plain of
  silent_at (item_of_body c) k h plain at = absurd cc

-- ---- rows of nodes

pub static_here : (k : Kind) (a r : Forest) → (is_not_static k && (lacks_static a && lacks_static r)) ≡ true → is_not_static k ≡ true
static_here k a r h = first_of_both (is_not_static k) (lacks_static a && lacks_static r) h

pub static_below : (k : Kind) (a r : Forest) → (is_not_static k && (lacks_static a && lacks_static r)) ≡ true → lacks_static a ≡ true
static_below k a r h = first_of_both (lacks_static a) (lacks_static r) (second_of_both (is_not_static k) (lacks_static a && lacks_static r) h)

pub static_behind : (k : Kind) (a r : Forest) → (is_not_static k && (lacks_static a && lacks_static r)) ≡ true → lacks_static r ≡ true
static_behind k a r h = second_of_both (lacks_static a) (lacks_static r) (second_of_both (is_not_static k) (lacks_static a && lacks_static r) h)

pub silent : (t : Forest) (plan : Plan) → lacks_static t ≡ true → plan_passes is_calm plan ≡ true → Stand plan t → var_names t ≡ []
silent nothing plan lacks h st = refl
silent (absent r) plan lacks h st = silent r (behind plan hole) lacks (behind_passes is_calm plan hole h) st.1
silent (node k n a r) plan lacks h st =
    both_empty (vars_of k a (var_names a)) (var_names r)
    (silent_at a (λ p. silent a p (static_below k a r lacks)) (first_place plan) k (first_passes is_calm plan refl h) (static_here k a r lacks) st.0)
    (silent r (behind plan k) (static_behind k a r lacks) (behind_passes is_calm plan k h) st.1)
