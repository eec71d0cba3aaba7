-- In a tree that fits the table of node types, and has no static block, variables stand where the walk over them looks.
use Rattle.std.proofs.Common.{◌≡◌, inl, inr, ℕ, List, [], ◌∷◌, Bool, true, false, ◌&&◌, ◌||◌, suc, refl, ap, ◌∙◌}
use Rattle.js_syntax.specs.Class.{Class, root, a_prologue, expression, private_key}
use Rattle.js_syntax.specs.declared.node_kind.NodeKind.{NodeKind as Kind}
use Rattle.js_syntax.specs.declared.node_kind.NodeKind.TheVariants.{Program as program, Hole as hole, VariableDeclaration as variable_declaration, StaticBlock as static_block}
use Rattle.js_syntax.specs.declared.kind.VariableKind.{VariableKind}
use Rattle.js_syntax.specs.declared.kind.VariableKind.TheVariants as variable
use Rattle.js_syntax.specs.Hint.{has, is_private}
use Rattle.js_syntax.specs.Node.{Forest, nothing, node, absent}
use Rattle.js_syntax.specs.Facts.{is_core}
use Rattle.js_syntax.specs.Table.{Row, a_program, a_block_statement, a_function_body, a_with_statement, a_labeled_statement, an_if_statement, a_switch_statement, a_switch_case, a_try_statement, a_catch_clause, a_while_statement, a_do_while_statement, a_for_statement, a_for_in_statement, a_for_of_statement, a_function_declaration, a_default_function, a_function_expression, an_arrow_function, a_variable_declaration, a_class_declaration, a_default_class, a_class_expression, a_static_block, an_export_list, an_export_declaration, an_export_from, fields_of}
use Rattle.js_meaning.specs.Value.{Text}
use Rattle.js_meaning.specs.Scope.{var_names}
use Rattle.steps.specs.Steps.{all_core}
use Rattle.json_shape.specs.Shape.{Values, kind_in, Place, one, maybe_one, beyond, key_node, key_apart, list, list_with_holes, body, item_or_hole, item_of_body, places, Plan, these, all, all_or_holes, all_of_body, first_place, behind, IsOf, IsAt, Stand, Fits}
use Rattle.json_shape.proofs.Choice.{is_list_kind}
use Rattle.steps.specs.Naming.Placed as placed
use Rattle.steps.specs.Naming.Placed.{Sort, never, others, fits, sort_of, place_below, well_placed, has_plain_values, is_well_placed}
use Rattle.steps.proofs.Naming.Taking.{never_fits}
use Rattle.steps.proofs.Naming.Sites.{placed_here, placed_below, placed_behind}
use Rattle.steps.specs.Fit.Hoisted.{is_none, holds_variables, has_variables_in_place}
use Rattle.steps.proofs.Fit.Passing.{fields_pass, plan_passes, first_passes, behind_passes, places_pass}
use Rattle.steps.proofs.Fit.Calm.{is_calm_class, is_calm, is_not_static, lacks_static, names_below, static_below, static_behind, silent}
use Rattle.js_syntax.proofs.Truth.{first_of_both, second_of_both, both}

-- ---- places by what stands below them

-- a list is one of the table, and has statements or none
abbrev pub is_sound : Place → Bool
is_sound (list kind c) = is_list_kind kind && (holds_variables kind || is_calm_class c)
is_sound (list_with_holes kind c) = is_list_kind kind && (holds_variables kind || is_calm_class c)
is_sound p = true

pub rows_sound : (r : Row) → fields_pass is_sound (fields_of r) ≡ true
rows_sound a_program = refl
rows_sound r = refl

-- what lies below a node stands as planned
abbrev pub Planned : Forest → Type 0
Planned a = (plan : Plan) × (plan_passes is_sound plan ≡ true) × Stand plan a

planned_of : (a : Forest) (c : Class) (k : Kind) → IsOf k a (λ p. Stand p a) c → Planned a
planned_of a c k of = (these (places (has is_private a) (fields_of of.0) of.1), places_pass is_sound (has is_private a) (fields_of of.0) of.1 (rows_sound of.0), of.5)

pub planned_below : (a : Forest) (p : Place) (k : Kind) → IsAt k a (λ p. Stand p a) p → Planned a
planned_below a (one c) k of = planned_of a c k of
planned_below a (maybe_one c) k of = planned_of a c k of
planned_below a beyond k at = absurd at
planned_below a (key_apart may) k at = absurd at
planned_below a (key_node keys true) k at = planned_of a private_key k at.1
planned_below a (key_node keys false) k at = planned_of a expression k at
planned_below a (list kind c) k at = (all c, refl, at.1)
planned_below a (list_with_holes kind c) k at = (all_or_holes c, refl, at.1)
planned_below a (body c) k at = (all_of_body c, refl, at.1)
planned_below a (item_or_hole c) k (inl at) = (these [], refl, at.1)
planned_below a (item_or_hole c) k (inr of) = planned_of a c k of
planned_below a (item_of_body c) k (inl of) = planned_of a a_prologue k of
planned_below a (item_of_body c) k (inr at) = planned_of a c k at.1

-- ---- a node

abbrev holds_at : Kind → Forest → Bool
holds_at k a = holds_variables k || is_none (var_names a)

declaration_holds : (how : VariableKind) (a : Forest) → var_names a ≡ [] → holds_at (variable_declaration how) a ≡ true
declaration_holds variable.Var a e = ap is_none e
declaration_holds variable.Let a e = ap is_none e
declaration_holds variable.Const a e = ap is_none e

row_holds : (r : Row) (vs : Values (fields_of r)) (a : Forest) → (fields_pass is_calm (fields_of r) ≡ true → var_names a ≡ []) → holds_at (kind_in r vs) a ≡ true
row_holds a_program vs a below = refl
row_holds a_block_statement vs a below = refl
row_holds a_function_body vs a below = refl
row_holds a_with_statement vs a below = refl
row_holds a_labeled_statement vs a below = refl
row_holds an_if_statement vs a below = refl
row_holds a_switch_statement vs a below = refl
row_holds a_switch_case vs a below = refl
row_holds a_try_statement vs a below = refl
row_holds a_catch_clause vs a below = refl
row_holds a_while_statement vs a below = refl
row_holds a_do_while_statement vs a below = refl
row_holds a_for_statement vs a below = refl
row_holds a_for_in_statement vs a below = refl
row_holds a_for_of_statement vs a below = refl
row_holds a_function_declaration vs a below = refl
row_holds a_default_function vs a below = refl
row_holds a_function_expression vs a below = refl
row_holds an_arrow_function vs a below = refl
row_holds a_variable_declaration vs a below = declaration_holds vs.0 a (below refl)
row_holds a_class_declaration vs a below = refl
row_holds a_default_class vs a below = refl
row_holds a_class_expression vs a below = refl
row_holds a_static_block vs a below = refl
row_holds an_export_list vs a below = refl
row_holds an_export_declaration vs a below = refl
row_holds an_export_from vs a below = refl
row_holds r vs a below = ap is_none (below refl)

or_none : (b c : Bool) (xs : List Text) → (b || c) ≡ true → (c ≡ true → xs ≡ []) → (b || is_none xs) ≡ true
or_none true c xs h f = refl
or_none false c xs h f = ap is_none (f h)

module _ (a : Forest) (below : (plan : Plan) → plan_passes is_calm plan ≡ true → Stand plan a → var_names a ≡ []) where
  holds_of : (c : Class) (k : Kind) → IsOf k a (λ p. Stand p a) c → holds_at k a ≡ true
  holds_of c k of = ap (λ x. holds_at x a) of.4 ∙ row_holds of.0 of.1 a (names_below a below of.0 of.1 of.5)

  holds_list : (kind k : Kind) (c : Class) (plan : Plan) → k ≡ kind → (is_list_kind kind && (holds_variables kind || is_calm_class c)) ≡ true → (is_calm_class c ≡ true → plan_passes is_calm plan ≡ true) → Stand plan a → holds_at k a ≡ true
  holds_list kind k c plan is h passes st =
      ap (λ x. holds_at x a) is ∙ or_none (holds_variables kind) (is_calm_class c) (var_names a) (second_of_both (is_list_kind kind) (holds_variables kind || is_calm_class c) h) (λ calm. below plan (passes calm) st)

  holds_here : (p : Place) (k : Kind) → is_sound p ≡ true → IsAt k a (λ p. Stand p a) p → holds_at k a ≡ true
  holds_here (one c) k h of = holds_of c k of
  holds_here (maybe_one c) k h of = holds_of c k of
  holds_here beyond k h at = absurd at
  holds_here (key_apart may) k h at = absurd at
  holds_here (key_node keys true) k h at = holds_of private_key k at.1
  holds_here (key_node keys false) k h at = holds_of expression k at
  holds_here (list kind c) k h at = holds_list kind k c (all c) at.0 h (λ e. e) at.1
  holds_here (list_with_holes kind c) k h at = holds_list kind k c (all_or_holes c) at.0 h (λ e. e) at.1
  holds_here (body c) k h at = ap (λ x. holds_at x a) at.0
  holds_here (item_or_hole c) k h (inl at) = ap (λ x. holds_at x a) at.0 ∙ ap is_none (below (these []) refl at.1)
  holds_here (item_or_hole c) k h (inr of) = holds_of c k of
  holds_here (item_of_body c) k h (inl of) = holds_of a_prologue k of
  holds_here (item_of_body c) k h (inr at) = holds_of c k at.1

-- ---- trees

pub in_place : (t : Forest) (plan : Plan) → lacks_static t ≡ true → plan_passes is_sound plan ≡ true → Stand plan t → has_variables_in_place t ≡ true
in_place nothing plan lacks h st = refl
in_place (absent r) plan lacks h st = in_place r (behind plan hole) lacks (behind_passes is_sound plan hole h) st.1
in_place (node k n a r) plan lacks h st =
    let planned = planned_below a (first_place plan) k st.0 in
    both (holds_at k a) (has_variables_in_place a && has_variables_in_place r) (holds_here a (λ p. silent a p (static_below k a r lacks)) (first_place plan) k (first_passes is_sound plan refl h) st.0)
    (both (has_variables_in_place a) (has_variables_in_place r) (in_place a planned.0 (static_below k a r lacks) planned.1 planned.2) (in_place r (behind plan k) (static_behind k a r lacks) (behind_passes is_sound plan k h) st.1))

pub fits_in_place : (t : Forest) → Fits root t → lacks_static t ≡ true → has_variables_in_place t ≡ true
fits_in_place t fit lacks = in_place t (these (one root ∷ [])) lacks refl fit

-- ---- trees without static blocks: those of the core, and those whose declarations stand where they may

not_static_core : (k : Kind) → is_core k ≡ true → is_not_static k ≡ true
not_static_core static_block h = absurd cc
not_static_core k h = refl

core_lacks : (t : Forest) → all_core t ≡ true → lacks_static t ≡ true
core_lacks nothing h = refl
core_lacks (absent r) h = core_lacks r h
core_lacks (node k n a r) h =
    let rest = second_of_both (is_core k) (all_core a && all_core r) h in
    both (is_not_static k) (lacks_static a && lacks_static r) (not_static_core k (first_of_both (is_core k) (all_core a && all_core r) h))
    (both (lacks_static a) (lacks_static r) (core_lacks a (first_of_both (all_core a) (all_core r) rest)) (core_lacks r (second_of_both (all_core a) (all_core r) rest)))

pub core_in_place : (t : Forest) → Fits root t → all_core t ≡ true → has_variables_in_place t ≡ true
core_in_place t fit core = fits_in_place t fit (core_lacks t core)

not_static : (p : placed.Place) (k : Kind) → fits p (sort_of k) ≡ true → is_not_static k ≡ true
not_static p static_block h = absurd (never_fits p h)
not_static p k h = refl

placed_lacks : (ps : ℕ → placed.Place) (at : ℕ) (t : Forest) → well_placed ps at t ≡ true → lacks_static t ≡ true
placed_lacks ps at nothing w = refl
placed_lacks ps at (absent r) w = placed_lacks ps (suc at) r w
placed_lacks ps at (node k n a r) w =
    both (is_not_static k) (lacks_static a && lacks_static r) (not_static (ps at) k (placed_here ps at k n a r w))
    (both (lacks_static a) (lacks_static r) (placed_lacks (place_below (ps at) k) 0 a (placed_below ps at k n a r w)) (placed_lacks ps (suc at) r (placed_behind ps at k n a r w)))

well_placed_lacks : (t : Forest) → is_well_placed t ≡ true → lacks_static t ≡ true
well_placed_lacks (node (program source) n a nothing) w =
    both (lacks_static a) true (placed_lacks (place_below others (program source)) 0 a (first_of_both (well_placed (place_below others (program source)) 0 a) (has_plain_values a) w)) refl
well_placed_lacks t w = absurd cc

pub placed_in_place : (t : Forest) → Fits root t → is_well_placed t ≡ true → has_variables_in_place t ≡ true
placed_in_place t fit placed = fits_in_place t fit (well_placed_lacks t placed)
