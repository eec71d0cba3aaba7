-- The names of declarators are declared in the layer that their declaration declares in, each with the symbol that it is marked with.
use Rattle.std.proofs.Common.{◌≡◌, ◌∙◌, ℕ, suc, List, [], ◌∷◌, ◌++◌, Bool, true, false, ◌&&◌, if◌then◌else◌, inl, inr, refl, sym, ap, ap₂, subst}
use Rattle.std.proofs.lemmas.List.{append-nil, append_assoc}
use Rattle.js_syntax.specs.Class.{Class, expression, binding, binding_value, binding_item, binding_element, declarator_item}
use Rattle.js_syntax.specs.Field.{property_key}
use Rattle.js_syntax.specs.declared.node_kind.NodeKind.{NodeKind as Kind}
use Rattle.js_syntax.specs.declared.node_kind.NodeKind.TheVariants.{Hole as hole, Properties as properties, Elements as elements, Declarators as declarators, BindingName as binding_name}
use Rattle.js_syntax.specs.Hint.{has, is_private}
use Rattle.js_syntax.specs.Node.{Note, Forest, nothing, node, absent, Tree}
use Rattle.js_syntax.specs.Table.{Row, a_variable_declarator, a_binding_name, a_binding_rest, a_binding_object, a_binding_array, a_binding_property, a_binding_default, fields_of}
use Rattle.js_syntax.proofs.Truth.{first_of_both, second_of_both}
use Rattle.js_tree.specs.Names as tree
use Rattle.js_tree.specs.Names.{looked}
use Rattle.js_meaning.specs.Scope as scope
use Rattle.js_meaning.specs.Scope.{first_of}
use Rattle.json_shape.specs.Shape.{Values, kind_in, Place, one, maybe_one, beyond, key_node, key_apart, list, list_with_holes, body, item_or_hole, item_of_body, key_place, places, Plan, these, all, all_or_holes, first_place, behind, IsOf, IsAt, Stand}
use Rattle.kept_names.specs.Kept.{declared_of, declared}
use Rattle.scope_counts.specs.Counts.{Decl, Aims, no_part, aims_inside, named, hoisted}
use Rattle.steps.specs.Fit.Enclosed.{is_enclosed}
use Rattle.steps.specs.VarNames.Declared.{decl_of, decls, decls_if}
use Rattle.steps.proofs.Fit.CoreCalm.{rows_of}
use Rattle.steps.proofs.Fit.Held.{place_held, plan_held, first_held, behind_held}
use Rattle.steps.proofs.Fit.Shut.{Passing, takes_set}
use Rattle.steps.proofs.Owed.Expressions.{expressions_declare_nothing}
use Rattle.steps.proofs.VarNames.Sets.{of_expression, of_pattern, in_pattern}
use Rattle.steps.proofs.Owed.Inside.{enclosed_below, enclosed_rest}
use Rattle.steps.proofs.Owed.KnownIf.{enclosed_alone}
use Rattle.steps.proofs.VarNames.Patterns.{stands_behind, is_list, closed, others, key_takes}
use Rattle.steps.proofs.VarNames.Statements.{of_declarator, in_declarator, declarator_closed, declarator_others}

-- ---- lists of them

pub decls_joined : (xs ys : List Tree) → decls (xs ++ ys) ≡ decls xs ++ decls ys
decls_joined [] ys = refl
decls_joined (x ∷ xs) ys = ap (λ z. decl_of x.kind x.note ++ z) (decls_joined xs ys) ∙ sym (append_assoc (decl_of x.kind x.note) (decls xs) (decls ys))

pub if_joined : (v : Bool) (xs ys : List Tree) → decls_if v (xs ++ ys) ≡ decls_if v xs ++ decls_if v ys
if_joined true xs ys = decls_joined xs ys
if_joined false xs ys = refl

pub if_none : (v : Bool) → decls_if v [] ≡ []
if_none true = refl
if_none false = refl

-- ---- rows in one layer

module _ (a : Aims) where
  abbrev pub here : Forest → List Decl
  here t = hoisted (λ i. a) 0 t

  abbrev one_node : Kind → Note → Forest → List Decl
  one_node k n b = named a n k ++ hoisted (aims_inside no_part a k b) 0 b

  -- it doesn't matter which of them a row begins with
  anywhere : (at : ℕ) (t : Forest) → hoisted (λ i. a) at t ≡ here t
  anywhere at nothing = refl
  anywhere at (absent r) = anywhere (suc at) r ∙ sym (anywhere 1 r)
  anywhere at (node k n b r) = ap (λ z. one_node k n b ++ z) (anywhere (suc at) r ∙ sym (anywhere 1 r))

  node_first : (k : Kind) (n : Note) (b r : Forest) → here (node k n b r) ≡ one_node k n b ++ here r
  node_first k n b r = ap (λ z. one_node k n b ++ z) (anywhere 1 r)

  first_then : (t : Forest) → here t ≡ here (first_of t) ++ here (scope.behind t)
  first_then nothing = refl
  first_then (absent r) = anywhere 1 r
  first_then (node k n b r) = node_first k n b r ∙ ap (λ z. z ++ here r) (sym (node_first k n b nothing ∙ append-nil (one_node k n b)))

  -- ---- patterns

  pub record Declares (t : Forest) : Type 0 where
    pub all : (plan : Plan) → plan_held is_list of_pattern plan ≡ true → Stand plan t → is_enclosed t ≡ true → here t ≡ decls_if a.naming (looked t).all
    pub first : (p : Place) (ps : List Place) → place_held is_list of_pattern p ≡ true → Stand (these (p ∷ ps)) t → is_enclosed t ≡ true → here (first_of t) ≡ decls_if a.naming (looked t).first
    pub later : (p : Place) (ps : List Place) → plan_held is_list of_pattern (these ps) ≡ true → Stand (these (p ∷ ps)) t → is_enclosed t ≡ true → here (scope.behind t) ≡ decls_if a.naming (looked t).behind

  abbrev Same : Kind → Note → Forest → Type 0
  Same k n b = one_node k n b ≡ decls_if a.naming (tree.names_of (record { kind = k; note = n; below = b }) (looked b))

  only_named : (v : Bool) (x : _) (n : Note) → (if v then record { name = x; symbol = n.id } ∷ [] else []) ≡ decls_if v (record { kind = binding_name x; note = n; below = nothing } ∷ [])
  only_named true x n = refl
  only_named false x n = refl

  nothing_stands : (b : Forest) → Stand (these []) b → b ≡ nothing
  nothing_stands nothing st = refl
  nothing_stands (absent r) st = absurd st.0
  nothing_stands (node k n c r) st = absurd st.0

  behind_enclosed : (t : Forest) → is_enclosed t ≡ true → is_enclosed (scope.behind t) ≡ true
  behind_enclosed nothing h = refl
  behind_enclosed (absent r) h = h
  behind_enclosed (node k n b r) h = enclosed_rest k n b r h

  first_unnamed : (p : Place) (ps : List Place) (t : Forest) → (takes_set of_expression p && true) ≡ true → Stand (these (p ∷ ps)) t → is_enclosed t ≡ true → here (first_of t) ≡ []
  first_unnamed p ps nothing h st e = refl
  first_unnamed p ps (absent r) h st e = refl
  first_unnamed p ps (node k n b r) h st e = expressions_declare_nothing (node k n b nothing) (these (p ∷ [])) h (st.0, tt) (enclosed_alone k n b r e) (λ i. a) 0

  later_unnamed : (t : Forest) (ps : List Place) → Passing of_expression (λ i. true) 0 (these ps) → Stand (these ps) t → is_enclosed t ≡ true → here t ≡ []
  later_unnamed t ps h st e = expressions_declare_nothing t (these ps) h st e (λ i. a) 0

  module _ (n : Note) (b : Forest) (it : Declares b) (e : is_enclosed b ≡ true) where
    by_row : (r : Row) (vs : Values (fields_of r)) → in_pattern r ≡ true → Stand (these (places (has is_private b) (fields_of r) vs)) b → Same (kind_in r vs) n b
    by_row a_binding_name vs h st = subst (λ z. Same (binding_name vs.0) n z) (sym (nothing_stands b st)) (append-nil (named a n (binding_name vs.0)) ∙ only_named a.naming vs.0 n)
    by_row a_binding_rest vs h st = it.all (these (one binding ∷ [])) refl st e
    by_row a_binding_object vs h st = it.all (these (list properties binding_item ∷ [])) refl st e
    by_row a_binding_array vs h st = it.all (these (list_with_holes elements binding_element ∷ [])) refl st e
    by_row a_binding_property vs h st =
        let key = key_place property_key (has is_private b) vs.0 in
        first_then b
        ∙ ap₂ (λ x y. x ++ y) (first_unnamed key (one binding_value ∷ []) b (key_takes (has is_private b) vs.0) st e) (it.later key (one binding_value ∷ []) refl st e)
    by_row a_binding_default vs h st =
        first_then b
        ∙ ap₂ (λ x y. x ++ y) (it.first (one binding) (one expression ∷ []) refl st e)
        (later_unnamed (scope.behind b) (one expression ∷ []) refl (stands_behind (one binding) (one expression ∷ []) b st) (behind_enclosed b e))
        ∙ append-nil (decls_if a.naming (looked b).first)
    by_row r vs h st = absurd cc

    by_class : (k : Kind) (c : Class) → of_pattern c ≡ true → IsOf k b (λ p. Stand p b) c → Same k n b
    by_class k c h of = subst (λ x. Same x n b) (sym of.4) (by_row of.0 of.1 (rows_of of_pattern in_pattern closed others c of.0 h of.2) of.5)

    by_list : (kind : Kind) (plan : Plan) → is_list kind ≡ true → plan_held is_list of_pattern plan ≡ true → Stand plan b → Same kind n b
    by_list properties plan i h st = it.all plan h st e
    by_list elements plan i h st = it.all plan h st e
    by_list k plan i h st = absurd cc

    by_place : (p : Place) (k : Kind) → place_held is_list of_pattern p ≡ true → IsAt k b (λ p. Stand p b) p → Same k n b
    by_place (one c) k h at = by_class k c h at
    by_place (maybe_one c) k h at = by_class k c h at
    by_place beyond k h at = absurd at
    by_place (key_apart may) k h at = absurd at
    by_place (key_node keys private) k h at = absurd cc
    by_place (list kind c) k h at = subst (λ x. Same x n b) (sym at.0) (by_list kind (all c) (first_of_both (is_list kind) (of_pattern c) h) (second_of_both (is_list kind) (of_pattern c) h) at.1)
    by_place (list_with_holes kind c) k h at = subst (λ x. Same x n b) (sym at.0) (by_list kind (all_or_holes c) (first_of_both (is_list kind) (of_pattern c) h) (second_of_both (is_list kind) (of_pattern c) h) at.1)
    by_place (body c) k h at = absurd cc
    by_place (item_or_hole c) k h (inl at) = subst (λ x. Same x n b) (sym at.0) (subst (λ z. Same hole n z) (sym (nothing_stands b at.1)) (sym (if_none a.naming)))
    by_place (item_or_hole c) k h (inr of) = by_class k c h of
    by_place (item_of_body c) k h at = let never = second_of_both (of_pattern c) false h in cc

  pub pattern_row : (t : Forest) → Declares t
  pattern_row nothing = record { all = λ plan h st e. sym (if_none a.naming); first = λ p ps h st e. sym (if_none a.naming); later = λ p ps h st e. sym (if_none a.naming) }
  pattern_row (absent r) =
      record {
        all = λ plan h st e. anywhere 1 r ∙ (pattern_row r).all (behind plan hole) (behind_held is_list of_pattern plan hole h) st.1 e;
        first = λ p ps h st e. sym (if_none a.naming);
        later = λ p ps h st e. (pattern_row r).all (these ps) h st.1 e;
      }
  pattern_row (node k n b r) =
      let names = tree.names_of (record { kind = k; note = n; below = b }) (looked b) in
      record {
        all = λ plan h st e. node_first k n b r
            ∙ ap₂ (λ x y. x ++ y) (by_place n b (pattern_row b) (enclosed_below k n b r e) (first_place plan) k (first_held is_list of_pattern plan h) st.0)
            ((pattern_row r).all (behind plan k) (behind_held is_list of_pattern plan k h) st.1 (enclosed_rest k n b r e))
            ∙ sym (if_joined a.naming names (looked r).all);
        first = λ p ps h st e. node_first k n b nothing ∙ append-nil (one_node k n b) ∙ by_place n b (pattern_row b) (enclosed_below k n b r e) p k h st.0;
        later = λ p ps h st e. (pattern_row r).all (these ps) h st.1 (enclosed_rest k n b r e);
      }

  -- ---- declarators

  abbrev Declared : Kind → Note → Forest → Type 0
  Declared k n b = one_node k n b ≡ decls_if a.naming (declared_of k b (declared b))

  declarator_row : (n : Note) (b : Forest) → is_enclosed b ≡ true → (r : Row) (vs : Values (fields_of r)) → in_declarator r ≡ true → Stand (these (places (has is_private b) (fields_of r) vs)) b → Declared (kind_in r vs) n b
  declarator_row n b e a_variable_declarator vs h st =
      first_then b
      ∙ ap₂ (λ x y. x ++ y) ((pattern_row b).first (one binding) (maybe_one expression ∷ []) refl st e)
      (later_unnamed (scope.behind b) (maybe_one expression ∷ []) refl (stands_behind (one binding) (maybe_one expression ∷ []) b st) (behind_enclosed b e))
      ∙ append-nil (decls_if a.naming (looked b).first)
  declarator_row n b e r vs h st = absurd cc

  pub declarators_declare : (t : Forest) → Stand (all declarator_item) t → is_enclosed t ≡ true → here t ≡ decls_if a.naming (declared t)
  declarators_declare nothing st e = sym (if_none a.naming)
  declarators_declare (absent r) st e = absurd st.0
  declarators_declare (node k n b r) st e =
      let of = st.0 in
      node_first k n b r
      ∙ ap₂ (λ x y. x ++ y)
      (subst (λ x. Declared x n b) (sym of.4) (declarator_row n b (enclosed_below k n b r e) of.0 of.1 (rows_of of_declarator in_declarator declarator_closed declarator_others declarator_item of.0 refl of.2) of.5))
      (declarators_declare r st.1 (enclosed_rest k n b r e))
      ∙ sym (if_joined a.naming (declared_of k b (declared b)) (declared r))

  pub declaration_declares : (t : Forest) → Stand (these (list declarators declarator_item ∷ [])) t → is_enclosed t ≡ true → here t ≡ decls_if a.naming (declared t)
  declaration_declares nothing st e = absurd st
  declaration_declares (absent r) st e = absurd st.0
  declaration_declares (node k n b (absent r)) st e = absurd st.1.0
  declaration_declares (node k n b (node l m c r)) st e = absurd st.1.0
  declaration_declares (node k n b nothing) st e =
      subst (λ x. here (node x n b nothing) ≡ decls_if a.naming (declared (node x n b nothing))) (sym st.0.0)
      (append-nil (here b) ∙ declarators_declare b st.0.1 (enclosed_below k n b nothing e) ∙ ap (λ z. decls_if a.naming z) (sym (append-nil (declared b))))
