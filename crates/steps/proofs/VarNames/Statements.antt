-- What is kept of a statement are its VarDeclaredNames (ECMA-262 8.2.6), by what they are called.
use Rattle.std.proofs.Common.{◌≡◌, ◌∙◌, [], ◌∷◌, ◌++◌, Bool, true, false, not, ◌||◌, inl, inr, refl, sym, ap, ap₂, subst}
use Rattle.std.proofs.lemmas.List.{append-nil}
use Rattle.js_syntax.specs.Class.{Class, root, expression, private_key, statement, block, handler, case_item, declarator_item, for_init, for_left, binding}
use Rattle.js_syntax.specs.declared.kind.VariableKind.{VariableKind}
use Rattle.js_syntax.specs.declared.kind.VariableKind.TheVariants as variable
use Rattle.js_syntax.specs.declared.node_kind.NodeKind.{NodeKind as Kind}
use Rattle.js_syntax.specs.declared.node_kind.NodeKind.TheVariants.{Hole as hole, Statements as statements, Cases as cases, Declarators as declarators, VariableDeclaration as variable_declaration}
use Rattle.js_syntax.specs.Hint.{has, is_private}
use Rattle.js_syntax.specs.Node.{Forest, nothing, node, absent}
use Rattle.js_syntax.specs.Table.{Row, a_program, a_block_statement, a_with_statement, a_labeled_statement, an_if_statement, a_switch_statement, a_switch_case, a_try_statement, a_catch_clause, a_while_statement, a_do_while_statement, a_for_statement, a_for_in_statement, a_for_of_statement, a_variable_declaration, a_variable_declarator, fields_of}
use Rattle.js_syntax.proofs.Truth.{first_of_both, second_of_both}
use Rattle.js_meaning.specs.Scope as scope
use Rattle.js_meaning.specs.Scope.{names_of, bound_names, vars_of, var_names}
use Rattle.json_shape.specs.Shape.{Values, kind_in, first_of, Place, one, maybe_one, beyond, key_node, key_apart, list, list_with_holes, body, item_or_hole, item_of_body, places, Plan, these, all, all_or_holes, first_place, behind, IsOf, IsAt, Stand, Fits}
use Rattle.kept_names.specs.Kept.{declared_of, declared, kept_of, kept}
use Rattle.steps.proofs.Fit.CoreCalm.{rows_of}
use Rattle.steps.proofs.Fit.CoreRows.{takes_such}
use Rattle.steps.proofs.Fit.Held.{place_held, plan_held, first_held, behind_held}
use Rattle.steps.specs.VarNames.Texts.{texts}
use Rattle.steps.proofs.VarNames.Sets.{in_free, of_statement, in_statement}
use Rattle.steps.proofs.VarNames.Free.{node_is_free, row_is_free, nothing_kept, expressions_declare_none}
use Rattle.steps.proofs.VarNames.Patterns.{texts_joined, stands_behind, first_alone, pattern_row}

-- ---- declarators

abbrev pub of_declarator : Class → Bool
of_declarator declarator_item = true
of_declarator c = false

abbrev pub in_declarator : Row → Bool
in_declarator a_variable_declarator = true
in_declarator r = false

pub declarator_closed : (c : Class) → (not (of_declarator c) || takes_such in_declarator c) ≡ true
declarator_closed root = refl
declarator_closed c = refl

pub declarator_others : (r : Row) → (not (in_declarator (first_of r)) || in_declarator r) ≡ true
declarator_others a_program = refl
declarator_others r = refl

abbrev Declared : Kind → Forest → Type 0
Declared k a = texts (declared_of k a (declared a)) ≡ names_of k (bound_names a)

declarator_row : (a : Forest) (r : Row) (vs : Values (fields_of r)) → in_declarator r ≡ true → Stand (these (places (has is_private a) (fields_of r) vs)) a → Declared (kind_in r vs) a
declarator_row a a_variable_declarator vs h st =
    (pattern_row a).first (one binding) (maybe_one expression ∷ []) refl st
    ∙ first_alone a (expressions_declare_none (scope.behind a) (these (maybe_one expression ∷ [])) refl (stands_behind (one binding) (maybe_one expression ∷ []) a st))
declarator_row a r vs h st = absurd cc

declarators_law : (b : Forest) → Stand (all declarator_item) b → texts (declared b) ≡ bound_names b
declarators_law nothing st = refl
declarators_law (absent r) st = absurd st.0
declarators_law (node k n a r) st =
    let of = st.0 in
    texts_joined (declared_of k a (declared a)) (declared r)
    ∙ ap₂ (λ x y. x ++ y)
    (subst (λ x. Declared x a) (sym of.4) (declarator_row a of.0 of.1 (rows_of of_declarator in_declarator declarator_closed declarator_others declarator_item of.0 refl of.2) of.5))
    (declarators_law r st.1)

pub declaration_law : (a : Forest) → Stand (these (list declarators declarator_item ∷ [])) a → texts (declared a) ≡ bound_names a
declaration_law nothing st = absurd st
declaration_law (absent r) st = absurd st.0
declaration_law (node k n b (absent r)) st = absurd st.1.0
declaration_law (node k n b (node l m c r)) st = absurd st.1.0
declaration_law (node k n b nothing) st =
    subst (λ x. texts (declared (node x n b nothing)) ≡ bound_names (node x n b nothing)) (sym st.0.0)
    (texts_joined (declared b) [] ∙ ap (λ z. z ++ []) (declarators_law b st.0.1))

-- ---- statements

abbrev pub is_list : Kind → Bool
is_list statements = true
is_list cases = true
is_list k = false

pub closed : (c : Class) → (not (of_statement c) || takes_such in_statement c) ≡ true
closed root = refl
closed c = refl

pub others : (r : Row) → (not (in_statement (first_of r)) || in_statement r) ≡ true
others a_program = refl
others r = refl

abbrev Same : Kind → Forest → Type 0
Same k a = texts (kept_of k a (kept a)) ≡ vars_of k a (var_names a)

of_free_row : (a : Forest) (r : Row) (vs : Values (fields_of r)) → in_free r ≡ true → Stand (these (places (has is_private a) (fields_of r) vs)) a → Same (kind_in r vs) a
of_free_row a r vs h st = ap texts (nothing_kept r vs a h) ∙ sym (node_is_free r vs a h st)

of_declaration : (a : Forest) (how : VariableKind) → Stand (these (list declarators declarator_item ∷ [])) a → Same (variable_declaration how) a
of_declaration a variable.Var st =
    declaration_law a st
    ∙ sym (append-nil (bound_names a)) ∙ ap (λ z. bound_names a ++ z) (sym (row_is_free a (these (list declarators declarator_item ∷ [])) refl st))
of_declaration a variable.Let st = refl
of_declaration a variable.Const st = refl

nothing_stands : (a : Forest) → Stand (these []) a → [] ≡ var_names a
nothing_stands nothing st = refl
nothing_stands (absent r) st = absurd st.0
nothing_stands (node k n b r) st = absurd st.0

module _ (a : Forest) (below : (plan : Plan) → plan_held is_list of_statement plan ≡ true → Stand plan a → texts (kept a) ≡ var_names a) where
  by_row : (r : Row) (vs : Values (fields_of r)) → in_statement r ≡ true → Stand (these (places (has is_private a) (fields_of r) vs)) a → Same (kind_in r vs) a
  by_row a_block_statement vs h st = below (these (list statements statement ∷ [])) refl st
  by_row a_with_statement vs h st = below (these (one expression ∷ one statement ∷ [])) refl st
  by_row a_labeled_statement vs h st = below (these (one statement ∷ [])) refl st
  by_row an_if_statement vs h st = below (these (one expression ∷ one statement ∷ maybe_one statement ∷ [])) refl st
  by_row a_switch_statement vs h st = below (these (one expression ∷ list cases case_item ∷ [])) refl st
  by_row a_switch_case vs h st = below (these (maybe_one expression ∷ list statements statement ∷ [])) refl st
  by_row a_try_statement vs h st = below (these (one block ∷ maybe_one handler ∷ maybe_one block ∷ [])) refl st
  by_row a_catch_clause vs h st = below (these (maybe_one binding ∷ one block ∷ [])) refl st
  by_row a_while_statement vs h st = below (these (one expression ∷ one statement ∷ [])) refl st
  by_row a_do_while_statement vs h st = below (these (one statement ∷ one expression ∷ [])) refl st
  by_row a_for_statement vs h st = below (these (maybe_one for_init ∷ maybe_one expression ∷ maybe_one expression ∷ one statement ∷ [])) refl st
  by_row a_for_in_statement vs h st = below (these (one for_left ∷ one expression ∷ one statement ∷ [])) refl st
  by_row a_for_of_statement vs h st = below (these (one for_left ∷ one expression ∷ one statement ∷ [])) refl st
  by_row a_variable_declaration vs h st = of_declaration a vs.0 st
  by_row r vs h st = of_free_row a r vs h st

  by_class : (k : Kind) (c : Class) → of_statement c ≡ true → IsOf k a (λ p. Stand p a) c → Same k a
  by_class k c h of = subst (λ x. Same x a) (sym of.4) (by_row of.0 of.1 (rows_of of_statement in_statement closed others c of.0 h of.2) of.5)

  by_list : (kind : Kind) (plan : Plan) → is_list kind ≡ true → plan_held is_list of_statement plan ≡ true → Stand plan a → Same kind a
  by_list statements plan i h st = below plan h st
  by_list cases plan i h st = below plan h st
  by_list k plan i h st = absurd cc

  by_place : (p : Place) (k : Kind) → place_held is_list of_statement p ≡ true → IsAt k a (λ p. Stand p a) p → Same k a
  by_place (one c) k h at = by_class k c h at
  by_place (maybe_one c) k h at = by_class k c h at
  by_place beyond k h at = absurd at
  by_place (key_apart may) k h at = absurd at
  by_place (key_node keys true) k h at = by_class k private_key refl at.1
  by_place (key_node keys false) k h at = by_class k expression refl at
  by_place (list kind c) k h at = subst (λ x. Same x a) (sym at.0) (by_list kind (all c) (first_of_both (is_list kind) (of_statement c) h) (second_of_both (is_list kind) (of_statement c) h) at.1)
  by_place (list_with_holes kind c) k h at = subst (λ x. Same x a) (sym at.0) (by_list kind (all_or_holes c) (first_of_both (is_list kind) (of_statement c) h) (second_of_both (is_list kind) (of_statement c) h) at.1)
  by_place (body c) k h at = absurd cc
  by_place (item_or_hole c) k h (inl at) = subst (λ x. Same x a) (sym at.0) (nothing_stands a at.1)
  by_place (item_or_hole c) k h (inr of) = by_class k c h of
  by_place (item_of_body c) k h at = let never = second_of_both (of_statement c) false h in cc

as_planned : (t : Forest) (plan : Plan) → plan_held is_list of_statement plan ≡ true → Stand plan t → texts (kept t) ≡ var_names t
as_planned nothing plan h st = refl
as_planned (absent r) plan h st = as_planned r (behind plan hole) (behind_held is_list of_statement plan hole h) st.1
as_planned (node k n a r) plan h st =
    texts_joined (kept_of k a (kept a)) (kept r)
    ∙ ap₂ (λ x y. x ++ y)
    (by_place a (as_planned a) (first_place plan) k (first_held is_list of_statement plan h) st.0)
    (as_planned r (behind plan k) (behind_held is_list of_statement plan k h) st.1)

pub statement_law : (t : Forest) → Fits statement t → texts (kept t) ≡ var_names t
statement_law t fits = as_planned t (these (one statement ∷ [])) refl fits
