-- The names that a pattern declares are its BoundNames (ECMA-262 8.2.1), by what they are called.
use Rattle.std.proofs.Common.{◌≡◌, ◌∙◌, List, [], ◌∷◌, ◌++◌, Bool, true, false, not, ◌&&◌, ◌||◌, inl, inr, refl, sym, ap, ap₂, subst}
use Rattle.std.proofs.lemmas.List.{append-nil, append_assoc}
use Rattle.js_syntax.specs.Class.{Class, root, expression, binding, binding_value, binding_item, binding_element}
use Rattle.js_syntax.specs.Field.{property_key}
use Rattle.js_syntax.specs.declared.value.Key.{Key}
use Rattle.js_syntax.specs.declared.value.Key.TheVariants.{Name as key_name, Text as key_text, Number as key_number, Below as key_below}
use Rattle.js_syntax.specs.declared.node_kind.NodeKind.{NodeKind as Kind}
use Rattle.js_syntax.specs.declared.node_kind.NodeKind.TheVariants.{Hole as hole, Properties as properties, Elements as elements}
use Rattle.js_syntax.specs.Hint.{has, is_private}
use Rattle.js_syntax.specs.Node.{Note, Forest, nothing, node, absent, Tree}
use Rattle.js_syntax.specs.Table.{Row, a_program, a_binding_name, a_binding_rest, a_binding_object, a_binding_array, a_binding_property, a_binding_default, fields_of}
use Rattle.js_syntax.proofs.Truth.{first_of_both, second_of_both}
use Rattle.js_tree.specs.Names as tree
use Rattle.js_tree.specs.Names.{looked}
use Rattle.js_meaning.specs.Scope as scope
use Rattle.js_meaning.specs.Scope.{names_of, bound_names, first_of}
use Rattle.json_shape.specs.Shape as shape
use Rattle.json_shape.specs.Shape.{Values, kind_in, Place, one, maybe_one, beyond, key_node, key_apart, list, list_with_holes, body, item_or_hole, item_of_body, key_place, places, Plan, these, all, all_or_holes, first_place, behind, IsOf, IsAt, Stand}
use Rattle.steps.proofs.Fit.CoreCalm.{rows_of}
use Rattle.steps.proofs.Fit.CoreRows.{takes_such}
use Rattle.steps.proofs.Fit.Held.{place_held, plan_held, first_held, behind_held}
use Rattle.steps.proofs.Fit.Shut.{takes_set}
use Rattle.steps.specs.VarNames.Texts.{text_of, texts}
use Rattle.steps.proofs.VarNames.Sets.{of_expression, of_pattern, in_pattern}
use Rattle.steps.proofs.VarNames.Free.{expressions_declare_none}

pub texts_joined : (xs ys : List Tree) → texts (xs ++ ys) ≡ texts xs ++ texts ys
texts_joined [] ys = refl
texts_joined (x ∷ xs) ys = ap (λ z. text_of x.kind ++ z) (texts_joined xs ys) ∙ sym (append_assoc (text_of x.kind) (texts xs) (texts ys))

-- ---- what stands first, and behind it

pub stands_behind : (p : Place) (ps : List Place) (a : Forest) → Stand (these (p ∷ ps)) a → Stand (these ps) (scope.behind a)
stands_behind p ps nothing st = absurd st
stands_behind p ps (absent r) st = st.1
stands_behind p ps (node k n b r) st = st.1

pub first_alone : (a : Forest) → bound_names (scope.behind a) ≡ [] → bound_names (first_of a) ≡ bound_names a
first_alone nothing h = refl
first_alone (absent r) h = sym h
first_alone (node k n b r) h = ap (λ z. names_of k (bound_names b) ++ z) (sym h)

behind_alone : (a : Forest) → bound_names (first_of a) ≡ [] → bound_names (scope.behind a) ≡ bound_names a
behind_alone nothing h = refl
behind_alone (absent r) h = refl
behind_alone (node k n b r) h = ap (λ z. z ++ bound_names r) (sym h ∙ append-nil (names_of k (bound_names b)))

-- ---- places of patterns

abbrev pub is_list : Kind → Bool
is_list properties = true
is_list elements = true
is_list k = false

-- what is declared by a row of nodes, by which of them are looked at
pub record Declares (t : Forest) : Type 0 where
  pub all : (plan : Plan) → plan_held is_list of_pattern plan ≡ true → Stand plan t → texts (looked t).all ≡ bound_names t
  pub first : (p : Place) (ps : List Place) → place_held is_list of_pattern p ≡ true → Stand (these (p ∷ ps)) t → texts (looked t).first ≡ bound_names (first_of t)
  pub later : (p : Place) (ps : List Place) → plan_held is_list of_pattern (these ps) ≡ true → Stand (these (p ∷ ps)) t → texts (looked t).behind ≡ bound_names (scope.behind t)

abbrev Same : Kind → Note → Forest → Type 0
Same k n a = texts (tree.names_of (record { kind = k; note = n; below = a }) (looked a)) ≡ names_of k (bound_names a)

pub closed : (c : Class) → (not (of_pattern c) || takes_such in_pattern c) ≡ true
closed root = refl
closed c = refl

pub others : (r : Row) → (not (in_pattern (shape.first_of r)) || in_pattern r) ≡ true
others a_program = refl
others r = refl

pub key_takes : (private : Bool) (x : Key) → (takes_set of_expression (key_place property_key private x) && true) ≡ true
key_takes private key_below = refl
key_takes private (key_name s) = refl
key_takes private (key_text s) = refl
key_takes private (key_number i) = refl

key_declares_none : (p : Place) (ps : List Place) (a : Forest) → (takes_set of_expression p && true) ≡ true → Stand (these (p ∷ ps)) a → bound_names (first_of a) ≡ []
key_declares_none p ps nothing h st = refl
key_declares_none p ps (absent r) h st = refl
key_declares_none p ps (node k n b r) h st = expressions_declare_none (node k n b nothing) (these (p ∷ [])) h (st.0, tt)

nothing_stands : (a : Forest) → Stand (these []) a → [] ≡ bound_names a
nothing_stands nothing st = refl
nothing_stands (absent r) st = absurd st.0
nothing_stands (node k n b r) st = absurd st.0

module _ (n : Note) (a : Forest) (here : Declares a) where
  by_row : (r : Row) (vs : Values (fields_of r)) → in_pattern r ≡ true → Stand (these (places (has is_private a) (fields_of r) vs)) a → Same (kind_in r vs) n a
  by_row a_binding_name vs h st = refl
  by_row a_binding_rest vs h st = here.all (these (one binding ∷ [])) refl st
  by_row a_binding_object vs h st = here.all (these (list properties binding_item ∷ [])) refl st
  by_row a_binding_array vs h st = here.all (these (list_with_holes elements binding_element ∷ [])) refl st
  by_row a_binding_property vs h st =
      let key = key_place property_key (has is_private a) vs.0 in
      here.later key (one binding_value ∷ []) refl st
      ∙ behind_alone a (key_declares_none key (one binding_value ∷ []) a (key_takes (has is_private a) vs.0) st)
  by_row a_binding_default vs h st =
      here.first (one binding) (one expression ∷ []) refl st
      ∙ first_alone a (expressions_declare_none (scope.behind a) (these (one expression ∷ [])) refl (stands_behind (one binding) (one expression ∷ []) a st))
  by_row r vs h st = absurd cc

  by_class : (k : Kind) (c : Class) → of_pattern c ≡ true → IsOf k a (λ p. Stand p a) c → Same k n a
  by_class k c h of = subst (λ x. Same x n a) (sym of.4) (by_row of.0 of.1 (rows_of of_pattern in_pattern closed others c of.0 h of.2) of.5)

  by_list : (kind : Kind) (plan : Plan) → is_list kind ≡ true → plan_held is_list of_pattern plan ≡ true → Stand plan a → Same kind n a
  by_list properties plan i h st = here.all plan h st
  by_list elements plan i h st = here.all plan h st
  by_list k plan i h st = absurd cc

  by_place : (p : Place) (k : Kind) → place_held is_list of_pattern p ≡ true → IsAt k a (λ p. Stand p a) p → Same k n a
  by_place (one c) k h at = by_class k c h at
  by_place (maybe_one c) k h at = by_class k c h at
  by_place beyond k h at = absurd at
  by_place (key_apart may) k h at = absurd at
  by_place (key_node keys private) k h at = absurd cc
  by_place (list kind c) k h at = subst (λ x. Same x n a) (sym at.0) (by_list kind (all c) (first_of_both (is_list kind) (of_pattern c) h) (second_of_both (is_list kind) (of_pattern c) h) at.1)
  by_place (list_with_holes kind c) k h at = subst (λ x. Same x n a) (sym at.0) (by_list kind (all_or_holes c) (first_of_both (is_list kind) (of_pattern c) h) (second_of_both (is_list kind) (of_pattern c) h) at.1)
  by_place (body c) k h at = absurd cc
  by_place (item_or_hole c) k h (inl at) = subst (λ x. Same x n a) (sym at.0) (nothing_stands a at.1)
  by_place (item_or_hole c) k h (inr of) = by_class k c h of
  by_place (item_of_body c) k h at = let never = second_of_both (of_pattern c) false h in cc

pub pattern_row : (t : Forest) → Declares t
pattern_row nothing = record { all = λ plan h st. refl; first = λ p ps h st. refl; later = λ p ps h st. refl }
pattern_row (absent r) =
    record {
      all = λ plan h st. (pattern_row r).all (behind plan hole) (behind_held is_list of_pattern plan hole h) st.1;
      first = λ p ps h st. refl;
      later = λ p ps h st. (pattern_row r).all (these ps) h st.1;
    }
pattern_row (node k n a r) =
    let here = by_place n a (pattern_row a) in
    let names = tree.names_of (record { kind = k; note = n; below = a }) (looked a) in
    record {
      all = λ plan h st. texts_joined names (looked r).all
          ∙ ap₂ (λ x y. x ++ y) (here (first_place plan) k (first_held is_list of_pattern plan h) st.0) ((pattern_row r).all (behind plan k) (behind_held is_list of_pattern plan k h) st.1);
      first = λ p ps h st. here p k h st.0 ∙ sym (append-nil (names_of k (bound_names a)));
      later = λ p ps h st. (pattern_row r).all (these ps) h st.1;
    }
