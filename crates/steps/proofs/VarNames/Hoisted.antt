-- What is kept of a statement is what it declares around it, where it declares nothing there but by `var`.
use Rattle.std.proofs.Common.{◌≡◌, ◌∙◌, ℕ, suc, List, [], ◌∷◌, ◌++◌, Bool, true, false, ◌&&◌, ◌==◌, if◌then◌else◌, inl, inr, refl, sym, ap, ap₂, subst, true≢false}
use Rattle.std.proofs.lemmas.List.{append-nil}
use Rattle.js_syntax.specs.Class.{Class, expression, private_key, statement, block, handler, case_item, declarator_item, for_init, for_left, binding}
use Rattle.js_syntax.specs.declared.kind.VariableKind.{VariableKind}
use Rattle.js_syntax.specs.declared.kind.VariableKind.TheVariants as variable
use Rattle.js_syntax.specs.declared.node_kind.NodeKind.{NodeKind as Kind}
use Rattle.js_syntax.specs.declared.node_kind.NodeKind.TheVariants.{Hole as hole, Statements as statements, Cases as cases, Declarators as declarators, VariableDeclaration as variable_declaration, BlockStatement as block_statement, ForStatement as for_statement, ForInStatement as for_in_statement, ForOfStatement as for_of_statement, CatchClause as catch_clause, WithStatement as with_statement, SwitchStatement as switch_statement, LabeledStatement as labeled_statement, IfStatement as if_statement, SwitchCase as switch_case, TryStatement as try_statement, WhileStatement as while_statement, DoWhileStatement as do_while_statement}
use Rattle.js_syntax.specs.Hint.{has, is_private}
use Rattle.js_syntax.specs.Node.{Forest, Note, nothing, node, absent}
use Rattle.js_syntax.specs.Table.{Row, a_block_statement, a_with_statement, a_labeled_statement, an_if_statement, a_switch_statement, a_switch_case, a_try_statement, a_catch_clause, a_while_statement, a_do_while_statement, a_for_statement, a_for_in_statement, a_for_of_statement, a_variable_declaration, fields_of}
use Rattle.js_syntax.proofs.Truth.{first_of_both, second_of_both, both}
use Rattle.json_shape.specs.Shape.{Values, kind_in, Place, one, maybe_one, beyond, key_node, key_apart, list, list_with_holes, body, item_or_hole, item_of_body, places, Plan, these, all, all_or_holes, first_place, behind, IsOf, IsAt, Stand, Fits}
use Rattle.kept_names.specs.Kept.{is_var, declared, kept_of, kept}
use Rattle.scope_counts.specs.Counts.{Decl, Aims, no_part, aims_of_block, naming_in, aims_inside, named, hoisted}
use Rattle.steps.specs.Allowed.Branches.{is_handler, lets_only_at, lets_only, inside_or_parameter, stays_inside, inside_from, none_or_parameter, none_from, declares_none}
use Rattle.steps.specs.Fit.Enclosed.{is_enclosed}
use Rattle.steps.specs.VarNames.Declared.{is_code, without_vars, decls_if}
use Rattle.steps.proofs.Fit.CoreCalm.{rows_of}
use Rattle.steps.proofs.Fit.Held.{place_held, plan_held, first_held, behind_held}
use Rattle.steps.proofs.Owed.Inside.{enclosed_below, enclosed_rest}
use Rattle.steps.proofs.Owed.KnownIf.{enclosed_alone}
use Rattle.steps.proofs.Owed.Outward.{Unaimed, lets_declare, Apart, apart_inside, insides_declare, row_declares}
use Rattle.steps.proofs.VarNames.Sets.{of_free, in_free, of_statement, in_statement}
use Rattle.steps.proofs.VarNames.Free.{free_closed, free_others, nothing_kept, node_without_vars, row_without_vars}
use Rattle.steps.proofs.VarNames.Statements.{is_list, closed, others}
use Rattle.steps.proofs.VarNames.Layers.{if_joined, if_none, declaration_declares}

-- what `var` declares in the layer at each place of a row
abbrev pub Varies : (aims : ℕ → Aims) → Bool → Type 0
Varies aims v = (i : ℕ) → (aims i).variables ≡ v

pub record Found (t : Forest) : Type 0 where
  -- a row of what stands around, or of what lies in a block
  pub outside : none_from false (without_vars t) ≡ true → is_enclosed t ≡ true → (aims : ℕ → Aims) (at : ℕ) (v : Bool) → Varies aims v → hoisted aims at t ≡ decls_if v (kept t)
  pub inside : inside_from false (without_vars t) ≡ true → is_enclosed t ≡ true → (aims : ℕ → Aims) (at : ℕ) (v : Bool) → Varies aims v → ((i : ℕ) → Apart (aims i)) → hoisted aims at t ≡ decls_if v (kept t)

-- a row that begins with a handler's parameter, or with none
record FoundHandler (t : Forest) : Type 0 where
  outside : none_from true (without_vars t) ≡ true → is_enclosed t ≡ true → (aims : ℕ → Aims) (v : Bool) → Varies aims v → Unaimed (aims 0) → hoisted aims 0 t ≡ decls_if v (kept t)
  inside : inside_from true (without_vars t) ≡ true → is_enclosed t ≡ true → (aims : ℕ → Aims) (v : Bool) → Varies aims v → ((i : ℕ) → Apart (aims i)) → Unaimed (aims 0) → hoisted aims 0 t ≡ decls_if v (kept t)

abbrev OfHandler : Plan
OfHandler = these (maybe_one binding ∷ one block ∷ [])

pub record Finds (t : Forest) : Type 0 where
  pub row : (plan : Plan) → plan_held is_list of_statement plan ≡ true → Stand plan t → Found t
  handler : Stand OfHandler t → FoundHandler t

record FindsNode (k : Kind) (n : Note) (a : Forest) : Type 0 where
  outside : none_from false (without_vars (node k n a nothing)) ≡ true → (c : Aims) (v : Bool) → c.variables ≡ v → named c n k ++ hoisted (aims_inside no_part c k a) 0 a ≡ decls_if v (kept_of k a (kept a))
  inside : inside_from false (without_vars (node k n a nothing)) ≡ true → (c : Aims) (v : Bool) → c.variables ≡ v → Apart c → named c n k ++ hoisted (aims_inside no_part c k a) 0 a ≡ decls_if v (kept_of k a (kept a))

-- ---- aims

block_varies : (c : Aims) (v z : Bool) → c.variables ≡ v → (if z then aims_of_block no_part c else c).variables ≡ v
block_varies c v true h = h
block_varies c v false h = h

handler_varies : (c : Aims) (v z : Bool) → c.variables ≡ v → (if z then naming_in false (aims_of_block no_part c) else aims_of_block no_part c).variables ≡ v
handler_varies c v true h = h
handler_varies c v false h = h

-- ---- a node with no `var` in it

abbrev alone_is : (c : Aims) (k : Kind) (n : Note) (a : Forest) → List Decl
alone_is c k n a = named c n k ++ hoisted (aims_inside no_part c k a) 0 a

as_alone : (c : Aims) (k : Kind) (n : Note) (a : Forest) → hoisted (λ i. c) 0 (node k n a nothing) ≡ alone_is c k n a
as_alone c k n a = append-nil (alone_is c k n a)

module _ (k : Kind) (n : Note) (a : Forest) (free : without_vars (node k n a nothing) ≡ node k n a nothing) (none : kept_of k a (kept a) ≡ []) (e : is_enclosed (node k n a nothing) ≡ true) where
  no_more : (v : Bool) → [] ≡ decls_if v (kept_of k a (kept a))
  no_more v = sym (ap (decls_if v) none ∙ if_none v)

  plain_node : FindsNode k n a
  plain_node = record {
    outside = λ h c v is. sym (as_alone c k n a) ∙ row_declares false (node k n a nothing) (subst (λ t. none_from false t ≡ true) free h) e (λ i. c) 0 (λ never. absurd (true≢false (sym never))) ∙ no_more v;
    inside = λ h c v is apart. sym (as_alone c k n a) ∙ insides_declare false (node k n a nothing) (subst (λ t. inside_from false t ≡ true) free h) e (λ i. c) (λ i. apart) 0 (λ never. absurd (true≢false (sym never))) ∙ no_more v;
  }

-- ---- by its kind

and_alone : (b : Bool) → (b && true) ≡ true → b ≡ true
and_alone b h = first_of_both b true h

module _ (n : Note) (a : Forest) where
  of_free_row : (r : Row) (vs : Values (fields_of r)) → in_free r ≡ true → Stand (these (places (has is_private a) (fields_of r) vs)) a → is_enclosed (node (kind_in r vs) n a nothing) ≡ true → FindsNode (kind_in r vs) n a
  of_free_row r vs h st e = plain_node (kind_in r vs) n a (node_without_vars r vs n a nothing h st) (nothing_kept r vs a h) e

  of_declaration : (how : VariableKind) → Stand (these (list declarators declarator_item ∷ [])) a → is_enclosed (node (variable_declaration how) n a nothing) ≡ true → FindsNode (variable_declaration how) n a
  of_declaration variable.Var st e =
      let inner = enclosed_below (variable_declaration variable.Var) n a nothing e in
      record {
        outside = λ h c v is. declaration_declares (naming_in c.variables c) a st inner ∙ ap (λ z. decls_if z (declared a)) is;
        inside = λ h c v is apart. declaration_declares (naming_in c.variables c) a st inner ∙ ap (λ z. decls_if z (declared a)) is;
      }
  of_declaration variable.Let st e = plain_node (variable_declaration variable.Let) n a (ap (λ z. node (variable_declaration variable.Let) n z nothing) (row_without_vars a (these (list declarators declarator_item ∷ [])) refl st)) refl e
  of_declaration variable.Const st e = plain_node (variable_declaration variable.Const) n a (ap (λ z. node (variable_declaration variable.Const) n z nothing) (row_without_vars a (these (list declarators declarator_item ∷ [])) refl st)) refl e

module _ (n : Note) (a : Forest) (it : Finds a) (e : is_enclosed a ≡ true) where
  -- what lies below stands where the node does
  module _ (k : Kind) (plan : Plan) (h : plan_held is_list of_statement plan ≡ true) (st : Stand plan a) where
    in_same : (none_from false (without_vars (node k n a nothing)) ≡ true → none_from false (without_vars a) ≡ true)
        → (inside_from false (without_vars (node k n a nothing)) ≡ true → inside_from false (without_vars a) ≡ true)
        → ((c : Aims) (v : Bool) → c.variables ≡ v → Varies (aims_inside no_part c k a) v)
        → ((c : Aims) → named c n k ≡ []) → kept_of k a (kept a) ≡ kept a → FindsNode k n a
    in_same out in_block varies unnamed keeps = record {
      outside = λ g c v is. ap₂ (λ x y. x ++ y) (unnamed c) ((it.row plan h st).outside (out g) e (aims_inside no_part c k a) 0 v (varies c v is)) ∙ ap (decls_if v) (sym keeps);
      inside = λ g c v is apart. ap₂ (λ x y. x ++ y) (unnamed c) ((it.row plan h st).inside (in_block g) e (aims_inside no_part c k a) 0 v (varies c v is) (apart_inside c apart k a)) ∙ ap (decls_if v) (sym keeps);
    }

    -- it stands in a block
    in_its_block : (none_from false (without_vars (node k n a nothing)) ≡ true → inside_from false (without_vars a) ≡ true)
        → (inside_from false (without_vars (node k n a nothing)) ≡ true → inside_from false (without_vars a) ≡ true)
        → ((c : Aims) (i : ℕ) → aims_inside no_part c k a i ≡ aims_of_block no_part c)
        → ((c : Aims) → named c n k ≡ []) → kept_of k a (kept a) ≡ kept a → FindsNode k n a
    in_its_block out in_block layer unnamed keeps =
        let varies : (c : Aims) (v : Bool) → c.variables ≡ v → Varies (aims_inside no_part c k a) v = λ c v is i. ap (λ z. z.variables) (layer c i) ∙ is in
        let apart : (c : Aims) (i : ℕ) → Apart (aims_inside no_part c k a i) = λ c i. ap (λ z. z.block) (layer c i) in
        record {
          outside = λ g c v is. ap₂ (λ x y. x ++ y) (unnamed c) ((it.row plan h st).inside (out g) e (aims_inside no_part c k a) 0 v (varies c v is) (apart c)) ∙ ap (decls_if v) (sym keeps);
          inside = λ g c v is around. ap₂ (λ x y. x ++ y) (unnamed c) ((it.row plan h st).inside (in_block g) e (aims_inside no_part c k a) 0 v (varies c v is) (apart c)) ∙ ap (decls_if v) (sym keeps);
        }

  in_handler : Stand OfHandler a → FindsNode catch_clause n a
  in_handler st = record {
    outside = λ g c v is. (it.handler st).outside (and_alone (none_from true (without_vars a)) g) e (aims_inside no_part c catch_clause a) v (λ i. handler_varies c v (i == 0) is) (record { block = refl; naming = refl });
    inside = λ g c v is apart. (it.handler st).inside (and_alone (inside_from true (without_vars a)) g) e (aims_inside no_part c catch_clause a) v (λ i. handler_varies c v (i == 0) is) (apart_inside c apart catch_clause a) (record { block = refl; naming = refl });
  }

  abbrev Outer : Bool
  Outer = none_from false (without_vars a)

  abbrev Inner : Bool
  Inner = inside_from false (without_vars a)

  by_row : (r : Row) (vs : Values (fields_of r)) → in_statement r ≡ true → Stand (these (places (has is_private a) (fields_of r) vs)) a → is_enclosed (node (kind_in r vs) n a nothing) ≡ true → FindsNode (kind_in r vs) n a
  by_row a_block_statement vs h st g = in_its_block block_statement (these (list statements statement ∷ [])) refl st (and_alone Inner) (and_alone Inner) (λ c i. refl) (λ c. refl) refl
  by_row a_with_statement vs h st g = in_same with_statement (these (one expression ∷ one statement ∷ [])) refl st (and_alone Outer) (and_alone Inner) (λ c v is i. block_varies c v (i == 1) is) (λ c. refl) refl
  by_row a_labeled_statement vs h st g = in_same (labeled_statement vs.0) (these (one statement ∷ [])) refl st (and_alone Outer) (and_alone Inner) (λ c v is i. is) (λ c. refl) refl
  by_row an_if_statement vs h st g = in_same if_statement (these (one expression ∷ one statement ∷ maybe_one statement ∷ [])) refl st (and_alone Outer) (and_alone Inner) (λ c v is i. is) (λ c. refl) refl
  by_row a_switch_statement vs h st g = in_same switch_statement (these (one expression ∷ list cases case_item ∷ [])) refl st (and_alone Outer) (and_alone Inner) (λ c v is i. block_varies c v (i == 1) is) (λ c. refl) refl
  by_row a_switch_case vs h st g = in_same switch_case (these (maybe_one expression ∷ list statements statement ∷ [])) refl st (and_alone Outer) (and_alone Inner) (λ c v is i. is) (λ c. refl) refl
  by_row a_try_statement vs h st g = in_same try_statement (these (one block ∷ maybe_one handler ∷ maybe_one block ∷ [])) refl st (and_alone Outer) (and_alone Inner) (λ c v is i. is) (λ c. refl) refl
  by_row a_catch_clause vs h st g = in_handler st
  by_row a_while_statement vs h st g = in_same while_statement (these (one expression ∷ one statement ∷ [])) refl st (and_alone Outer) (and_alone Inner) (λ c v is i. is) (λ c. refl) refl
  by_row a_do_while_statement vs h st g = in_same do_while_statement (these (one statement ∷ one expression ∷ [])) refl st (and_alone Outer) (and_alone Inner) (λ c v is i. is) (λ c. refl) refl
  by_row a_for_statement vs h st g = in_its_block for_statement (these (maybe_one for_init ∷ maybe_one expression ∷ maybe_one expression ∷ one statement ∷ [])) refl st (and_alone Inner) (and_alone Inner) (λ c i. refl) (λ c. refl) refl
  by_row a_for_in_statement vs h st g = in_its_block for_in_statement (these (one for_left ∷ one expression ∷ one statement ∷ [])) refl st (and_alone Inner) (and_alone Inner) (λ c i. refl) (λ c. refl) refl
  by_row a_for_of_statement vs h st g = in_its_block for_of_statement (these (one for_left ∷ one expression ∷ one statement ∷ [])) refl st (and_alone Inner) (and_alone Inner) (λ c i. refl) (λ c. refl) refl
  by_row a_variable_declaration vs h st g = of_declaration n a vs.0 st g
  by_row r vs h st g = of_free_row n a r vs h st g

  by_class : (k : Kind) (c : Class) → of_statement c ≡ true → IsOf k a (λ p. Stand p a) c → is_enclosed (node k n a nothing) ≡ true → FindsNode k n a
  by_class k c h of = subst (λ x. is_enclosed (node x n a nothing) ≡ true → FindsNode x n a) (sym of.4) (by_row of.0 of.1 (rows_of of_statement in_statement closed others c of.0 h of.2) of.5)

  by_list : (kind : Kind) (plan : Plan) → is_list kind ≡ true → plan_held is_list of_statement plan ≡ true → Stand plan a → FindsNode kind n a
  by_list statements plan i h st = in_same statements plan h st (and_alone Outer) (and_alone Inner) (λ c v is i. is) (λ c. refl) refl
  by_list cases plan i h st = in_same cases plan h st (and_alone Outer) (and_alone Inner) (λ c v is i. is) (λ c. refl) refl
  by_list k plan i h st = absurd cc

  nothing_stands : Stand (these []) a → a ≡ nothing
  nothing_stands st = go a st
    where
      go : (b : Forest) → Stand (these []) b → b ≡ nothing
      go nothing st = refl
      go (absent r) st = absurd st.0
      go (node k m c r) st = absurd st.0

  of_hole : Stand (these []) a → FindsNode hole n a
  of_hole st = subst (FindsNode hole n) (sym (nothing_stands st)) (record { outside = λ h c v is. sym (if_none v); inside = λ h c v is apart. sym (if_none v) })

  by_place : (p : Place) (k : Kind) → place_held is_list of_statement p ≡ true → IsAt k a (λ p. Stand p a) p → is_enclosed (node k n a nothing) ≡ true → FindsNode k n a
  by_place (one c) k h at g = by_class k c h at g
  by_place (maybe_one c) k h at g = by_class k c h at g
  by_place beyond k h at g = absurd at
  by_place (key_apart may) k h at g = absurd at
  by_place (key_node keys true) k h at g = by_class k private_key refl at.1 g
  by_place (key_node keys false) k h at g = by_class k expression refl at g
  by_place (list kind c) k h at g = subst (λ x. FindsNode x n a) (sym at.0) (by_list kind (all c) (first_of_both (is_list kind) (of_statement c) h) (second_of_both (is_list kind) (of_statement c) h) at.1)
  by_place (list_with_holes kind c) k h at g = subst (λ x. FindsNode x n a) (sym at.0) (by_list kind (all_or_holes c) (first_of_both (is_list kind) (of_statement c) h) (second_of_both (is_list kind) (of_statement c) h) at.1)
  by_place (body c) k h at g = absurd cc
  by_place (item_or_hole c) k h (inl at) g = subst (λ x. FindsNode x n a) (sym at.0) (of_hole at.1)
  by_place (item_or_hole c) k h (inr of) g = by_class k c h of g
  by_place (item_of_body c) k h at g = let never = second_of_both (of_statement c) false h in cc

-- ---- rows

-- a row begins with a node
module _ (k : Kind) (n : Note) (a r : Forest) where
  node_then : (aims : ℕ → Aims) (at : ℕ) (v : Bool) → alone_is (aims at) k n a ≡ decls_if v (kept_of k a (kept a)) → hoisted aims (suc at) r ≡ decls_if v (kept r) → hoisted aims at (node k n a r) ≡ decls_if v (kept (node k n a r))
  node_then aims at v here later =
      ap₂ (λ x y. x ++ y) here later ∙ sym (if_joined v (kept_of k a (kept a)) (kept r))

split_outside : (k : Kind) (n : Note) (v : Bool) (b w : Forest) → none_from false (if v then absent w else node k n b w) ≡ true → (none_from false (if v then absent nothing else node k n b nothing) ≡ true) × (none_from false w ≡ true)
split_outside k n true b w h = (refl, h)
split_outside k n false b w h =
    let here = none_or_parameter false k (lets_only b) (stays_inside b) (none_from (is_handler k) b) in
    (both here true (first_of_both here (none_from false w) h) refl, second_of_both here (none_from false w) h)

split_inside : (k : Kind) (n : Note) (v : Bool) (b w : Forest) → inside_from false (if v then absent w else node k n b w) ≡ true → (inside_from false (if v then absent nothing else node k n b nothing) ≡ true) × (inside_from false w ≡ true)
split_inside k n true b w h = (refl, h)
split_inside k n false b w h =
    let here = inside_or_parameter false k (lets_only b) (inside_from (is_handler k) b) in
    (both here true (first_of_both here (inside_from false w) h) refl, second_of_both here (inside_from false w) h)

-- a handler's parameter is in the handler's own layer
record Parameter (k : Kind) (n : Note) (a : Forest) : Type 0 where
  free : (rest : Forest) → without_vars (node k n a rest) ≡ node k n a (without_vars rest)
  none : kept_of k a (kept a) ≡ []

parameter : (k : Kind) (n : Note) (a : Forest) → IsOf k a (λ p. Stand p a) binding → Parameter k n a
parameter k n a of =
    let in_row = rows_of of_free in_free free_closed free_others binding of.0 refl of.2 in
    subst (λ x. Parameter x n a) (sym of.4) (record { free = λ rest. node_without_vars of.0 of.1 n a rest in_row of.5; none = nothing_kept of.0 of.1 a in_row })

parameter_declares : (k : Kind) (n : Note) (a r : Forest) → Parameter k n a → lets_only_at k (lets_only a) ≡ true → is_enclosed (node k n a r) ≡ true → (aims : ℕ → Aims) (v : Bool) → Unaimed (aims 0)
    → hoisted aims 1 r ≡ decls_if v (kept r) → hoisted aims 0 (node k n a r) ≡ decls_if v (kept (node k n a r))
parameter_declares k n a r it lets e aims v unaimed later =
    node_then k n a r aims 0 v
    (sym (as_alone (aims 0) k n a) ∙ lets_declare (node k n a nothing) (both (lets_only_at k (lets_only a)) true lets refl) (enclosed_alone k n a r e) (λ i. aims 0) (λ i. unaimed) 0 ∙ sym (ap (decls_if v) it.none ∙ if_none v))
    later

pub as_planned : (t : Forest) → Finds t
as_planned nothing = record {
  row = λ plan h st. record { outside = λ g e aims at v is. sym (if_none v); inside = λ g e aims at v is apart. sym (if_none v) };
  handler = λ st. absurd st;
}
as_planned (absent r) =
    let it = as_planned r in
    record {
      row = λ plan h st.
          let later = it.row (behind plan hole) (behind_held is_list of_statement plan hole h) st.1 in
          record { outside = λ g e aims at v is. later.outside g e aims (suc at) v is; inside = λ g e aims at v is apart. later.inside g e aims (suc at) v is apart };
      handler = λ st.
          let later = it.row (these (one block ∷ [])) refl st.1 in
          record { outside = λ g e aims v is unaimed. later.outside g e aims 1 v is; inside = λ g e aims v is apart unaimed. later.inside g e aims 1 v is apart };
    }
as_planned (node k n a r) =
    let it = as_planned r in
    let b = if is_code k then a else without_vars a in
    record {
      row = λ plan h st.
          let later = it.row (behind plan k) (behind_held is_list of_statement plan k h) st.1 in
          let here : (e : is_enclosed (node k n a r) ≡ true) → FindsNode k n a = λ e. by_place n a (as_planned a) (enclosed_below k n a r e) (first_place plan) k (first_held is_list of_statement plan h) st.0 (enclosed_alone k n a r e) in
          record {
            outside = λ g e aims at v is.
                let parts = split_outside k n (is_var k) b (without_vars r) g in
                node_then k n a r aims at v ((here e).outside parts.0 (aims at) v (is at)) (later.outside parts.1 (enclosed_rest k n a r e) aims (suc at) v is);
            inside = λ g e aims at v is apart.
                let parts = split_inside k n (is_var k) b (without_vars r) g in
                node_then k n a r aims at v ((here e).inside parts.0 (aims at) v (is at) (apart at)) (later.inside parts.1 (enclosed_rest k n a r e) aims (suc at) v is apart);
          };
      handler = λ st.
          let later = it.row (these (one block ∷ [])) refl st.1 in
          let at_first = parameter k n a st.0 in
          record {
            outside = λ g e aims v is unaimed.
                let lets = subst (λ t. none_from true t ≡ true) (at_first.free r) g in
                parameter_declares k n a r at_first (first_of_both (lets_only_at k (lets_only a)) (none_from false (without_vars r)) lets) e aims v unaimed
                (later.outside (second_of_both (lets_only_at k (lets_only a)) (none_from false (without_vars r)) lets) (enclosed_rest k n a r e) aims 1 v is);
            inside = λ g e aims v is apart unaimed.
                let lets = subst (λ t. inside_from true t ≡ true) (at_first.free r) g in
                parameter_declares k n a r at_first (first_of_both (lets_only_at k (lets_only a)) (inside_from false (without_vars r)) lets) e aims v unaimed
                (later.inside (second_of_both (lets_only_at k (lets_only a)) (inside_from false (without_vars r)) lets) (enclosed_rest k n a r e) aims 1 v is apart);
          };
    }

-- a statement
pub kept_declares : (t : Forest) → Fits statement t → declares_none (without_vars t) ≡ true → is_enclosed t ≡ true → (aims : ℕ → Aims) (at : ℕ) (v : Bool) → Varies aims v → hoisted aims at t ≡ decls_if v (kept t)
kept_declares t fits h e = ((as_planned t).row (these (one statement ∷ [])) refl fits).outside h e
