-- What is kept of a statement are the names that the rules of form and of scopes find declared by `var` in it.
use Rattle.std.proofs.Common.{◌≡◌, ◌∙◌, ℕ, ◌+◌, [], ◌∷◌, ◌++◌, true, false, not, ◌||◌, inl, inr, refl, sym, ap, ap₂, subst}
use Rattle.js_syntax.specs.Class.{Class, expression, private_key, statement, block, handler, case_item, declarator_item, for_init, for_left, binding}
use Rattle.js_syntax.specs.declared.kind.VariableKind.{VariableKind}
use Rattle.js_syntax.specs.declared.kind.VariableKind.TheVariants as variable_kind
use Rattle.js_syntax.specs.declared.node_kind.NodeKind.{NodeKind as Kind}
use Rattle.js_syntax.specs.declared.node_kind.NodeKind.TheVariants.{Hole as hole, Statements as statements, Cases as cases, Declarators as declarators, VariableDeclaration as variable_declaration}
use Rattle.js_syntax.specs.Hint.{has, is_private}
use Rattle.js_syntax.specs.Node.{Forest, nothing, node, absent, alone}
use Rattle.js_syntax.specs.Table.{Row, a_program, a_block_statement, a_with_statement, a_labeled_statement, an_if_statement, a_switch_statement, a_switch_case, a_try_statement, a_catch_clause, a_while_statement, a_do_while_statement, a_for_statement, a_for_in_statement, a_for_of_statement, a_variable_declaration, fields_of}
use Rattle.js_syntax.proofs.Truth.{first_of_both, second_of_both}
use Rattle.js_tree.specs.Count.{one_each, node_count}
use Rattle.json_shape.specs.Shape.{Values, kind_in, Place, one, maybe_one, beyond, key_node, key_apart, list, list_with_holes, body, item_or_hole, item_of_body, places, Plan, these, all, all_or_holes, first_place, behind, IsOf, IsAt, Stand, Fits}
use Rattle.form_rules.specs.Scope.{declared, variables_below}
use Rattle.form_rules.specs.declared.sought.Sort.TheVariants.{Variable as variable}
use Rattle.form_rules.specs.declared.sought.Sought.TheVariants.{Nothing as none, Variables as variables}
use Rattle.steps.proofs.Fit.CoreCalm.{rows_of}
use Rattle.steps.proofs.Fit.CoreRows.{if_so}
use Rattle.steps.proofs.Fit.Held.{place_held, plan_held, first_held, behind_held}
use Rattle.kept_names.specs.Kept.{kept_of, kept}
use Rattle.steps.specs.VarNames.Texts.{texts, names}
use Rattle.steps.proofs.VarNames.Sets.{in_free, of_statement, in_statement}
use Rattle.steps.proofs.VarNames.Free.{nothing_kept}
use Rattle.steps.proofs.VarNames.Patterns.{texts_joined}
use Rattle.steps.proofs.VarNames.Statements.{declaration_law, is_list, closed, others}
use Rattle.steps.proofs.VarNames.Bound.{names_joined, none_declared, is_none, when_none, bound_as_planned}

abbrev Same : Kind → Forest → Type 0
Same k a = (p : ℕ) → names (declared (variables_below k) p a) ≡ texts (kept_of k a (kept a))

free_rows : (r : Row) (vs : Values (fields_of r)) → (not (in_free r) || is_none (variables_below (kind_in r vs))) ≡ true
free_rows a_program vs = refl
free_rows r vs = refl

of_free_row : (a : Forest) (r : Row) (vs : Values (fields_of r)) → in_free r ≡ true → Same (kind_in r vs) a
of_free_row a r vs h p =
    when_none (variables_below (kind_in r vs)) p a (if_so (in_free r) (is_none (variables_below (kind_in r vs))) (free_rows r vs) h)
    ∙ sym (ap texts (nothing_kept r vs a h))

of_declaration : (a : Forest) (how : VariableKind) → Stand (these (list declarators declarator_item ∷ [])) a → Same (variable_declaration how) a
of_declaration a variable_kind.Var st p = bound_as_planned variable a (these (list declarators declarator_item ∷ [])) refl st p ∙ sym (declaration_law a st)
of_declaration a how st p = ap names (none_declared p a)

nothing_there : (p : ℕ) (a : Forest) → Stand (these []) a → names (declared none p a) ≡ []
nothing_there p a st = ap names (none_declared p a)

module _ (a : Forest) (below : (plan : Plan) → plan_held is_list of_statement plan ≡ true → Stand plan a → (p : ℕ) → names (declared variables p a) ≡ texts (kept a)) where
  by_row : (r : Row) (vs : Values (fields_of r)) → in_statement r ≡ true → Stand (these (places (has is_private a) (fields_of r) vs)) a → Same (kind_in r vs) a
  by_row a_block_statement vs h st = below (these (list statements statement ∷ [])) refl st
  by_row a_with_statement vs h st = below (these (one expression ∷ one statement ∷ [])) refl st
  by_row a_labeled_statement vs h st = below (these (one statement ∷ [])) refl st
  by_row an_if_statement vs h st = below (these (one expression ∷ one statement ∷ maybe_one statement ∷ [])) refl st
  by_row a_switch_statement vs h st = below (these (one expression ∷ list cases case_item ∷ [])) refl st
  by_row a_switch_case vs h st = below (these (maybe_one expression ∷ list statements statement ∷ [])) refl st
  by_row a_try_statement vs h st = below (these (one block ∷ maybe_one handler ∷ maybe_one block ∷ [])) refl st
  by_row a_catch_clause vs h st = below (these (maybe_one binding ∷ one block ∷ [])) refl st
  by_row a_while_statement vs h st = below (these (one expression ∷ one statement ∷ [])) refl st
  by_row a_do_while_statement vs h st = below (these (one statement ∷ one expression ∷ [])) refl st
  by_row a_for_statement vs h st = below (these (maybe_one for_init ∷ maybe_one expression ∷ maybe_one expression ∷ one statement ∷ [])) refl st
  by_row a_for_in_statement vs h st = below (these (one for_left ∷ one expression ∷ one statement ∷ [])) refl st
  by_row a_for_of_statement vs h st = below (these (one for_left ∷ one expression ∷ one statement ∷ [])) refl st
  by_row a_variable_declaration vs h st = of_declaration a vs.0 st
  by_row r vs h st = of_free_row a r vs h

  by_class : (k : Kind) (c : Class) → of_statement c ≡ true → IsOf k a (λ p. Stand p a) c → Same k a
  by_class k c h of = subst (λ x. Same x a) (sym of.4) (by_row of.0 of.1 (rows_of of_statement in_statement closed others c of.0 h of.2) of.5)

  by_list : (kind : Kind) (plan : Plan) → is_list kind ≡ true → plan_held is_list of_statement plan ≡ true → Stand plan a → Same kind a
  by_list statements plan i h st = below plan h st
  by_list cases plan i h st = below plan h st
  by_list k plan i h st = absurd cc

  by_place : (q : Place) (k : Kind) → place_held is_list of_statement q ≡ true → IsAt k a (λ p. Stand p a) q → Same k a
  by_place (one c) k h at = by_class k c h at
  by_place (maybe_one c) k h at = by_class k c h at
  by_place beyond k h at = absurd at
  by_place (key_apart may) k h at = absurd at
  by_place (key_node keys true) k h at = by_class k private_key refl at.1
  by_place (key_node keys false) k h at = by_class k expression refl at
  by_place (list kind c) k h at = subst (λ x. Same x a) (sym at.0) (by_list kind (all c) (first_of_both (is_list kind) (of_statement c) h) (second_of_both (is_list kind) (of_statement c) h) at.1)
  by_place (list_with_holes kind c) k h at = subst (λ x. Same x a) (sym at.0) (by_list kind (all_or_holes c) (first_of_both (is_list kind) (of_statement c) h) (second_of_both (is_list kind) (of_statement c) h) at.1)
  by_place (body c) k h at = absurd cc
  by_place (item_or_hole c) k h (inl at) = subst (λ x. Same x a) (sym at.0) (λ p. nothing_there p a at.1)
  by_place (item_or_hole c) k h (inr of) = by_class k c h of
  by_place (item_of_body c) k h at = let never = second_of_both (of_statement c) false h in cc

found_as_planned : (t : Forest) (plan : Plan) → plan_held is_list of_statement plan ≡ true → Stand plan t → (p : ℕ) → names (declared variables p t) ≡ texts (kept t)
found_as_planned nothing plan h st p = refl
found_as_planned (absent r) plan h st p = found_as_planned r (behind plan hole) (behind_held is_list of_statement plan hole h) st.1 p
found_as_planned (node k n a r) plan h st p =
    names_joined (declared (variables_below k) (p + one_each k) a) (declared variables (p + node_count (alone k n a)) r)
    ∙ ap₂ (λ x y. x ++ y)
    (by_place a (found_as_planned a) (first_place plan) k (first_held is_list of_statement plan h) st.0 (p + one_each k))
    (found_as_planned r (behind plan k) (behind_held is_list of_statement plan k h) st.1 (p + node_count (alone k n a)))
    ∙ sym (texts_joined (kept_of k a (kept a)) (kept r))

pub found_law : (p : ℕ) (t : Forest) → Fits statement t → names (declared variables p t) ≡ texts (kept t)
found_law p t fits = found_as_planned t (these (one statement ∷ [])) refl fits p
