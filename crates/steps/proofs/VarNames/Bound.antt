-- What the rules of form and of scopes find declared by a pattern are its BoundNames (ECMA-262 8.2.1).
use Rattle.std.proofs.Common.{◌≡◌, ◌∙◌, ℕ, ◌+◌, List, [], ◌∷◌, ◌++◌, Bool, true, false, not, ◌&&◌, ◌||◌, inl, inr, refl, sym, ap, ap₂, subst}
use Rattle.js_syntax.specs.Class.{Class, root, expression, private_key, binding, binding_value, binding_item, binding_element}
use Rattle.js_syntax.specs.Field.{property_key}
use Rattle.js_syntax.specs.declared.value.Key.{Key}
use Rattle.js_syntax.specs.declared.value.Key.TheVariants.{Name as key_name, Text as key_text, Number as key_number, Below as key_below}
use Rattle.js_syntax.specs.declared.node_kind.NodeKind.{NodeKind as Kind}
use Rattle.js_syntax.specs.declared.node_kind.NodeKind.TheVariants.{Hole as hole, Declarators as declarators, Properties as properties, Elements as elements, BindingName as binding_name}
use Rattle.js_syntax.specs.Hint.{has, is_private}
use Rattle.js_syntax.specs.Node.{Forest, nothing, node, absent, alone}
use Rattle.js_syntax.specs.Table.{Row, a_program, a_variable_declarator, a_binding_name, a_binding_rest, a_binding_object, a_binding_array, a_binding_property, a_binding_default, fields_of}
use Rattle.js_syntax.proofs.Truth.{first_of_both, second_of_both}
use Rattle.js_tree.specs.Count.{one_each, node_count}
use Rattle.js_meaning.specs.Scope.{names_of, bound_names}
use Rattle.json_shape.specs.Shape.{Values, kind_in, first_of, Place, one, maybe_one, beyond, key_node, key_apart, list, list_with_holes, body, item_or_hole, item_of_body, key_place, places, Plan, these, all, all_or_holes, first_place, behind, IsOf, IsAt, Stand}
use Rattle.form_rules.specs.Scope.{Declared, declared, declared_here, bound_below}
use Rattle.form_rules.specs.declared.sought.Sort.{Sort}
use Rattle.form_rules.specs.declared.sought.Sought.{Sought}
use Rattle.form_rules.specs.declared.sought.Sought.TheVariants.{Nothing as none, Bound as bound}
use Rattle.steps.proofs.Fit.CoreCalm.{rows_of}
use Rattle.steps.proofs.Fit.CoreRows.{takes_such, if_so}
use Rattle.steps.proofs.Fit.Held.{place_held, plan_held, first_held, behind_held}
use Rattle.steps.specs.VarNames.Texts.{names}
use Rattle.steps.proofs.VarNames.Sets.{in_expression, of_free}
use Rattle.steps.proofs.VarNames.Free.{is_name, node_declares_none}

pub names_joined : (xs ys : List Declared) → names (xs ++ ys) ≡ names xs ++ names ys
names_joined [] ys = refl
names_joined (x ∷ xs) ys = ap (λ z. x.name ∷ z) (names_joined xs ys)

names_thrice : (xs ys zs : List Declared) → names (xs ++ ys ++ zs) ≡ (names xs ++ names ys) ++ names zs
names_thrice xs ys zs =
    names_joined (xs ++ ys) zs ∙ ap (λ z. z ++ names zs) (names_joined xs ys)

pub none_declared : (p : ℕ) (t : Forest) → declared none p t ≡ []
none_declared p nothing = refl
none_declared p (absent r) = none_declared p r
none_declared p (node k n a r) = ap₂ (λ x y. x ++ y) (none_declared (p + one_each k) a) (none_declared (p + node_count (alone k n a)) r)

abbrev pub is_none : Sought → Bool
is_none none = true
is_none s = false

pub when_none : (s : Sought) (p : ℕ) (a : Forest) → is_none s ≡ true → names (declared s p a) ≡ []
when_none none p a h = ap names (none_declared p a)
when_none s p a h = absurd cc

-- ---- patterns and declarators

abbrev in_bound : Row → Bool
in_bound a_variable_declarator = true
in_bound a_binding_name = true
in_bound a_binding_rest = true
in_bound a_binding_object = true
in_bound a_binding_array = true
in_bound a_binding_property = true
in_bound a_binding_default = true
in_bound r = in_expression r

abbrev is_bound_list : Kind → Bool
is_bound_list declarators = true
is_bound_list properties = true
is_bound_list elements = true
is_bound_list k = false

bound_closed : (c : Class) → (not (of_free c) || takes_such in_bound c) ≡ true
bound_closed root = refl
bound_closed c = refl

bound_others : (r : Row) → (not (in_bound (first_of r)) || in_bound r) ≡ true
bound_others a_program = refl
bound_others r = refl

module _ (s : Sort) where
  abbrev Bound : Kind → Forest → Type 0
  Bound k a = (p : ℕ) → names (declared_here (bound s) p k) ++ names (declared (bound_below s k) (p + one_each k) a) ≡ names_of k (bound_names a)

  nothing_here : (k : Kind) (p : ℕ) → not (is_name k) ≡ true → declared_here (bound s) p k ≡ []
  nothing_here (binding_name x) p h = absurd cc
  nothing_here k p h = refl

  plain_rows : (r : Row) (vs : Values (fields_of r)) → (not (in_expression r) || (not (is_name (kind_in r vs)) && is_none (bound_below s (kind_in r vs)))) ≡ true
  plain_rows a_program vs = refl
  plain_rows r vs = refl

  nothing_stands : (p : ℕ) (a : Forest) → Stand (these []) a → names (declared none p a) ≡ bound_names a
  nothing_stands p nothing st = refl
  nothing_stands p (absent r) st = absurd st.0
  nothing_stands p (node k n b r) st = absurd st.0

  module _ (a : Forest) (below : (plan : Plan) → plan_held is_bound_list of_free plan ≡ true → Stand plan a → (p : ℕ) → names (declared (bound s) p a) ≡ bound_names a) where
    of_expressions : (r : Row) (vs : Values (fields_of r)) → in_expression r ≡ true → Stand (these (places (has is_private a) (fields_of r) vs)) a → Bound (kind_in r vs) a
    of_expressions r vs h st p =
        let kind = kind_in r vs in
        let plain = if_so (in_expression r) (not (is_name kind) && is_none (bound_below s kind)) (plain_rows r vs) h in
        ap₂ (λ x y. names x ++ y) (nothing_here kind p (first_of_both (not (is_name kind)) (is_none (bound_below s kind)) plain))
        (when_none (bound_below s kind) (p + one_each kind) a (second_of_both (not (is_name kind)) (is_none (bound_below s kind)) plain))
        ∙ sym (node_declares_none r vs a h st)

    with_key : (private : Bool) (x : Key) → plan_held is_bound_list of_free (these (key_place property_key private x ∷ one binding_value ∷ [])) ≡ true
    with_key private key_below = refl
    with_key private (key_name t) = refl
    with_key private (key_text t) = refl
    with_key private (key_number i) = refl

    by_row : (r : Row) (vs : Values (fields_of r)) → in_bound r ≡ true → Stand (these (places (has is_private a) (fields_of r) vs)) a → Bound (kind_in r vs) a
    by_row a_variable_declarator vs h st p = below (these (one binding ∷ maybe_one expression ∷ [])) refl st (p + 1)
    by_row a_binding_name vs h st p = ap (λ z. vs.0 ∷ z) (ap names (none_declared (p + 1) a))
    by_row a_binding_rest vs h st p = below (these (one binding ∷ [])) refl st (p + 1)
    by_row a_binding_object vs h st p = below (these (list properties binding_item ∷ [])) refl st (p + 1)
    by_row a_binding_array vs h st p = below (these (list_with_holes elements binding_element ∷ [])) refl st (p + 1)
    by_row a_binding_property vs h st p = below (these (key_place property_key (has is_private a) vs.0 ∷ one binding_value ∷ [])) (with_key (has is_private a) vs.0) st (p + 1)
    by_row a_binding_default vs h st p = below (these (one binding ∷ one expression ∷ [])) refl st (p + 1)
    by_row r vs h st p = of_expressions r vs h st p

    by_class : (k : Kind) (c : Class) → of_free c ≡ true → IsOf k a (λ p. Stand p a) c → Bound k a
    by_class k c h of = subst (λ x. Bound x a) (sym of.4) (by_row of.0 of.1 (rows_of of_free in_bound bound_closed bound_others c of.0 h of.2) of.5)

    by_list : (kind : Kind) (plan : Plan) → is_bound_list kind ≡ true → plan_held is_bound_list of_free plan ≡ true → Stand plan a → Bound kind a
    by_list declarators plan i h st p = below plan h st (p + 0)
    by_list properties plan i h st p = below plan h st (p + 0)
    by_list elements plan i h st p = below plan h st (p + 0)
    by_list k plan i h st p = absurd cc

    by_place : (q : Place) (k : Kind) → place_held is_bound_list of_free q ≡ true → IsAt k a (λ p. Stand p a) q → Bound k a
    by_place (one c) k h at = by_class k c h at
    by_place (maybe_one c) k h at = by_class k c h at
    by_place beyond k h at = absurd at
    by_place (key_apart may) k h at = absurd at
    by_place (key_node keys true) k h at = by_class k private_key refl at.1
    by_place (key_node keys false) k h at = by_class k expression refl at
    by_place (list kind c) k h at = subst (λ x. Bound x a) (sym at.0) (by_list kind (all c) (first_of_both (is_bound_list kind) (of_free c) h) (second_of_both (is_bound_list kind) (of_free c) h) at.1)
    by_place (list_with_holes kind c) k h at = subst (λ x. Bound x a) (sym at.0) (by_list kind (all_or_holes c) (first_of_both (is_bound_list kind) (of_free c) h) (second_of_both (is_bound_list kind) (of_free c) h) at.1)
    by_place (body c) k h at = absurd cc
    by_place (item_or_hole c) k h (inl at) = subst (λ x. Bound x a) (sym at.0) (λ p. nothing_stands (p + one_each hole) a at.1)
    by_place (item_or_hole c) k h (inr of) = by_class k c h of
    by_place (item_of_body c) k h at = let never = second_of_both (of_free c) false h in cc

  pub bound_as_planned : (t : Forest) (plan : Plan) → plan_held is_bound_list of_free plan ≡ true → Stand plan t → (p : ℕ) → names (declared (bound s) p t) ≡ bound_names t
  bound_as_planned nothing plan h st p = refl
  bound_as_planned (absent r) plan h st p = bound_as_planned r (behind plan hole) (behind_held is_bound_list of_free plan hole h) st.1 p
  bound_as_planned (node k n a r) plan h st p =
      names_thrice (declared_here (bound s) p k) (declared (bound_below s k) (p + one_each k) a) (declared (bound s) (p + node_count (alone k n a)) r)
      ∙ ap₂ (λ x y. x ++ y)
      (by_place a (bound_as_planned a) (first_place plan) k (first_held is_bound_list of_free plan h) st.0 p)
      (bound_as_planned r (behind plan k) (behind_held is_bound_list of_free plan k h) st.1 (p + node_count (alone k n a)))
