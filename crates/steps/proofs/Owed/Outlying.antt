-- What a node declares around it, it declares in a scope that stands before.
use Rattle.std.proofs.Common.{◌≡◌, ◌∙◌, ◌<◌, ◌+◌, ◌⊎◌, inl, inr, ℕ, suc, Bool, true, false, ◌&&◌, ◌==◌, List, [], ◌∷◌, ◌++◌, if◌then◌else◌, append-nil, refl, sym, ap, subst, arith, true≢false}
use Rattle.std.specs.Prelude.{Some}
use Rattle.js_syntax.specs.declared.node_kind.NodeKind.{NodeKind as Kind}
use Rattle.js_syntax.specs.declared.node_kind.NodeKind.TheVariants.{Program as program, Function as function, Class as class, PropertyDefinition as property_definition, StaticBlock as static_block, BlockStatement as block_statement, WithStatement as with_statement, SwitchStatement as switch_statement, CatchClause as catch_clause, ForStatement as for_statement, ForInStatement as for_in_statement, ForOfStatement as for_of_statement, VariableDeclaration as variable_declaration, ImportDeclaration as import_declaration, BindingName as binding_name}
use Rattle.js_syntax.specs.declared.kind.FunctionKind.{FunctionKind}
use Rattle.js_syntax.specs.declared.kind.FunctionKind.TheVariants as function_kind
use Rattle.js_syntax.specs.declared.kind.ClassKind.{ClassKind}
use Rattle.js_syntax.specs.declared.kind.ClassKind.TheVariants as class_kind
use Rattle.js_syntax.specs.declared.kind.VariableKind.{VariableKind}
use Rattle.js_syntax.specs.declared.kind.VariableKind.TheVariants as variable
use Rattle.js_syntax.specs.Node.{Forest, Tree, Note, nothing, node, absent}
use Rattle.scope_rules.specs.declared.layer.Layer.{Layer}
use Rattle.scope_rules.specs.Context.{Context, has_second, inside, outermost}
use Rattle.scope_rules.specs.Site.{BindingSite, opens_one, scope_count, sites, bindings_among}
use Rattle.scope_laws.specs.Exact.{Among}
use Rattle.scope_laws.specs.Place.{Around, first, behind, behind_none, under, plug, there, scopes_before, sites_there}
use Rattle.scope_laws.proofs.Among.{among_left, among_right, among_cases}
use Rattle.scope_counts.specs.Counts.{Decl, Aims, no_part, aims_of_body, aims_of_block, aims_of_parameters, aims_of_variables, aims_of_function_name, aims_of_class_name, naming_in, aims_inside, named, hoisted}
use Rattle.scope_counts.proofs.Layers.{aims_at}
use Rattle.scope_counts.proofs.Counting.{Fresh, program_fresh, outside_fresh, fresh_below, fresh_behind, hoisted_are}
use Rattle.scope_counts.proofs.Scopes.{below_or_above}
use Rattle.scope_counts.proofs.Whole.{same_layer_same, from_decls}
use Rattle.steps.specs.Owed.Kept.{is_program}
use Rattle.steps.proofs.Owed.Places.{IsInside}

-- ---- what is declared in one of two layers

record Splits (a b c : Aims) : Type 0 where
  variables : a.variables ≡ true → (b.variables ≡ true) ⊎ (c.variables ≡ true)
  block : a.block ≡ true → (b.block ≡ true) ⊎ (c.block ≡ true)
  naming : a.naming ≡ true → (b.naming ≡ true) ⊎ (c.naming ≡ true)

never : {P : Type 0} → false ≡ true → P
never e = absurd (true≢false (sym e))

module _ (a b c : Aims) (h : Splits a b c) where
  in_body : Splits (aims_of_body no_part a) (aims_of_body no_part b) (aims_of_body no_part c)
  in_body = record { variables = never; block = never; naming = h.naming }

  in_block : Splits (aims_of_block no_part a) (aims_of_block no_part b) (aims_of_block no_part c)
  in_block = record { variables = h.variables; block = never; naming = h.naming }

  in_parameters : Splits (aims_of_parameters no_part) (aims_of_parameters no_part) (aims_of_parameters no_part)
  in_parameters = record { variables = never; block = never; naming = never }

  at_name : Splits (naming_in a.block a) (naming_in b.block b) (naming_in c.block c)
  at_name = record { variables = h.variables; block = h.block; naming = h.block }

  at_no_name : Splits (naming_in false a) (naming_in false b) (naming_in false c)
  at_no_name = record { variables = h.variables; block = h.block; naming = never }

  function_name : (how : FunctionKind) → Splits (aims_of_function_name no_part a how) (aims_of_function_name no_part b how) (aims_of_function_name no_part c how)
  function_name function_kind.Declaration = at_name
  function_name how = at_no_name

  class_name : (how : ClassKind) → Splits (aims_of_class_name no_part a how) (aims_of_class_name no_part b how) (aims_of_class_name no_part c how)
  class_name class_kind.Declaration = at_name
  class_name class_kind.Expression = at_no_name

  variables_split : (how : VariableKind) → Splits (aims_of_variables a how) (aims_of_variables b how) (aims_of_variables c how)
  variables_split variable.Var = record { variables = h.variables; block = h.block; naming = h.variables }
  variables_split variable.Let = at_name
  variables_split variable.Const = at_name

  either : (z : Bool) (d e f g i j : Aims) → Splits d e f → Splits g i j → Splits (if z then d else g) (if z then e else i) (if z then f else j)
  either true d e f g i j x y = x
  either false d e f g i j x y = y

  inside_splits : (k : Kind) (t : Forest) (n : ℕ) → Splits (aims_inside no_part a k t n) (aims_inside no_part b k t n) (aims_inside no_part c k t n)
  inside_splits (program source) t n = in_body
  inside_splits (function how pure) t n = either (n == 0) _ _ _ _ _ _ (function_name how) (either (n == 1) _ _ _ _ _ _ in_parameters in_body)
  inside_splits (class how) t n = either (n == 0) _ _ _ _ _ _ (class_name how) in_block
  inside_splits static_block t n = in_body
  inside_splits (property_definition is_static key) t n = either (has_second t && n == 1) _ _ _ _ _ _ in_block h
  inside_splits block_statement t n = in_block
  inside_splits switch_statement t n = either (n == 1) _ _ _ _ _ _ in_block h
  inside_splits with_statement t n = either (n == 1) _ _ _ _ _ _ in_block h
  inside_splits catch_clause t n = either (n == 0) _ _ _ _ _ _ (record { variables = h.variables; block = never; naming = never }) in_block
  inside_splits for_statement t n = in_block
  inside_splits for_in_statement t n = in_block
  inside_splits for_of_statement t n = in_block
  inside_splits (variable_declaration how) t n = variables_split how
  inside_splits (import_declaration source) t n = at_name
  inside_splits k t n = h

  named_splits : (n : Note) (k : Kind) (d : Decl) → Among d (named a n k) → Among d (named b n k) ⊎ Among d (named c n k)
  named_splits n (binding_name x) d i = go a.naming refl i
    where
      stands : (z : Bool) → z ≡ true → record { name = x; symbol = n.id } ≡ d → Among d (if z then record { name = x; symbol = n.id } ∷ [] else [])
      stands true e j = inl j
      stands false e j = never e

      go : (z : Bool) → a.naming ≡ z → Among d (if z then record { name = x; symbol = n.id } ∷ [] else []) → Among d (named b n (binding_name x)) ⊎ Among d (named c n (binding_name x))
      go true e (inl j) = elim (h.naming e) [
        | inl f ↦ inl (stands b.naming f j)
        | inr f ↦ inr (stands c.naming f j)
      ]
      go true e (inr j) = absurd j
      go false e j = absurd j
  named_splits n k d i = absurd i

in_three : (d : Decl) (xs ys zs us vs ws fs gs hs : List Decl) → (Among d xs → Among d us ⊎ Among d fs) → (Among d ys → Among d vs ⊎ Among d gs) → (Among d zs → Among d ws ⊎ Among d hs)
    → Among d (xs ++ ys ++ zs) → Among d (us ++ vs ++ ws) ⊎ Among d (fs ++ gs ++ hs)
in_three d xs ys zs us vs ws fs gs hs f g h i = elim (among_cases d (xs ++ ys) zs i) [
  | inl j ↦ elim (among_cases d xs ys j) [
    | inl k ↦ elim (f k) [
      | inl l ↦ inl (among_left d (us ++ vs) ws (among_left d us vs l))
      | inr l ↦ inr (among_left d (fs ++ gs) hs (among_left d fs gs l))
    ]
    | inr k ↦ elim (g k) [
      | inl l ↦ inl (among_left d (us ++ vs) ws (among_right d us vs l))
      | inr l ↦ inr (among_left d (fs ++ gs) hs (among_right d fs gs l))
    ]
  ]
  | inr j ↦ elim (h j) [
    | inl l ↦ inl (among_right d (us ++ vs) ws l)
    | inr l ↦ inr (among_right d (fs ++ gs) hs l)
  ]
]

hoisted_splits : (a b c : ℕ → Aims) → ((i : ℕ) → Splits (a i) (b i) (c i)) → (at : ℕ) (t : Forest) (d : Decl) → Among d (hoisted a at t) → Among d (hoisted b at t) ⊎ Among d (hoisted c at t)
hoisted_splits a b c h at nothing d i = absurd i
hoisted_splits a b c h at (absent t) d i = hoisted_splits a b c h (suc at) t d i
hoisted_splits a b c h at (node k n t rest) d i =
    in_three d (named (a at) n k) (hoisted (aims_inside no_part (a at) k t) 0 t) (hoisted a (suc at) rest) (named (b at) n k) (hoisted (aims_inside no_part (b at) k t) 0 t)
    (hoisted b (suc at) rest) (named (c at) n k) (hoisted (aims_inside no_part (c at) k t) 0 t) (hoisted c (suc at) rest)
    (named_splits (a at) (b at) (c at) (h at) n k d)
    (hoisted_splits (aims_inside no_part (a at) k t) (aims_inside no_part (b at) k t) (aims_inside no_part (c at) k t) (inside_splits (a at) (b at) (c at) (h at) k t) 0 t d)
    (hoisted_splits a b c h (suc at) rest d) i

-- ---- by layers of scopes around

abbrev only_variables : Aims
only_variables = record { variables = true; block = false; naming = false }

abbrev only_block : Aims
only_block = record { variables = false; block = true; naming = false }

abbrev only_naming : Aims
only_naming = record { variables = false; block = false; naming = true }

abbrev not_variables : Aims
not_variables = record { variables = false; block = true; naming = true }

outer_layer : (cs : ℕ → Context) (next i : ℕ) → Fresh cs next → (l : Layer) → (aims_at l (cs i) ≡ record { variables = false; block = false; naming = false } → ⊥) → l.scope < next
outer_layer cs next i fresh l used = elim (below_or_above l.scope next) [
  | inl h ↦ h
  | inr h ↦ absurd (used (fresh l h i))
]

-- one of these sites declares it, in a scope whose number is below the limit
pub record IsDeclaredBefore (bs : List BindingSite) (limit : ℕ) (d : Decl) : Type 0 where
  pub site : BindingSite
  pub stands : Among site bs
  pub outlies : site.layer.scope < limit
  pub is : record { name = site.name; symbol = site.id } ≡ d

of_layer : (cs : ℕ → Context) (at next : ℕ) (t : Forest) (l : Layer) → l.scope < next → (d : Decl) → Among d (hoisted (λ i. aims_at l (cs i)) at t)
    → IsDeclaredBefore (bindings_among (sites cs at next t)) next d
of_layer cs at next t l h d i =
    let x = from_decls l (bindings_among (sites cs at next t)) d (subst (Among d) (sym (hoisted_are l cs (λ i. aims_at l (cs i)) at next t h (λ i. refl))) i) in
    record { site = x.site; stands = x.stands; outlies = subst (λ (m : Layer). m.scope < next) (sym x.there) h; is = x.is }

-- a name that the node declares outward stands in a layer of the context
node_declares : (cs : ℕ → Context) (at next : ℕ) (k : Kind) (n : Note) (b : Forest) → Fresh cs next → (a : Aims) (d : Decl)
    → Among d (named a n k ++ hoisted (aims_inside no_part a k b) 0 b) → IsDeclaredBefore (bindings_among (sites cs at next (node k n b nothing))) next d
node_declares cs at next k n b fresh a d i =
    let t = node k n b nothing in
    let c = cs at in
    let all : Among d (hoisted (λ i. a) at t) = subst (Among d) (sym (append-nil (named a n k ++ hoisted (aims_inside no_part a k b) 0 b))) i in
    elim (hoisted_splits (λ i. a) (λ i. only_variables) (λ i. not_variables) (λ i. record { variables = λ e. inl refl; block = λ e. inr refl; naming = λ e. inr refl }) at t d all) [
      | inl j ↦ by c.variables (λ e. true≢false (sym (same_layer_same c.variables) ∙ ap (λ (x : Aims). x.variables) e)) only_variables
          (record { variables = λ e. inl (same_layer_same c.variables); block = never; naming = never }) j
      | inr j ↦ elim (hoisted_splits (λ i. not_variables) (λ i. only_block) (λ i. only_naming) (λ i. record { variables = never; block = λ e. inl refl; naming = λ e. inr refl }) at t d j) [
        | inl l ↦ by c.block (λ e. true≢false (sym (same_layer_same c.block) ∙ ap (λ (x : Aims). x.block) e)) only_block
            (record { variables = never; block = λ e. inl (same_layer_same c.block); naming = never }) l
        | inr l ↦ by c.declaring.layer (λ e. true≢false (sym (same_layer_same c.declaring.layer) ∙ ap (λ (x : Aims). x.naming) e)) only_naming
            (record { variables = never; block = never; naming = λ e. inl (same_layer_same c.declaring.layer) }) l
      ]
    ]
  where
    here : (l : Layer) (a : Aims) → Splits a (aims_at l (cs at)) (aims_at l (cs at)) → Among d (hoisted (λ i. a) at (node k n b nothing))
        → Among d (hoisted (λ i. aims_at l (cs i)) at (node k n b nothing))
    here l a h j = elim (hoisted_splits (λ i. a) (λ i. aims_at l (cs at)) (λ i. aims_at l (cs at)) (λ i. h) at (node k n b nothing) d j) [
      | inl m ↦ m
      | inr m ↦ m
    ]

    by : (l : Layer) → (aims_at l (cs at) ≡ record { variables = false; block = false; naming = false } → ⊥) → (a : Aims) → Splits a (aims_at l (cs at)) (aims_at l (cs at))
        → Among d (hoisted (λ i. a) at (node k n b nothing)) → IsDeclaredBefore (bindings_among (sites cs at next (node k n b nothing))) next d
    by l used a h j = of_layer cs at next (node k n b nothing) l (outer_layer cs next at fresh l used) d (here l a h j)

-- ---- at a place

module _ (x : Tree) (a : Aims) (d : Decl) (i : Among d (named a x.note x.kind ++ hoisted (aims_inside no_part a x.kind x.below) 0 x.below)) where
  there_declares : (cs : ℕ → Context) (at next : ℕ) (place : Around) → Fresh cs next → IsDeclaredBefore (bindings_among (there cs at next place (Some x))) (next + scopes_before place (Some x)) d
  there_declares cs at next (first rest) fresh =
      let s = node_declares cs at next x.kind x.note x.below fresh a d i in record { site = s.site; stands = s.stands; outlies = Prim.omega (arith, s.outlies); is = s.is }
  there_declares cs at next (behind k n b place) fresh =
      let s = there_declares cs (suc at) (next + scope_count (node k n b nothing)) place
      (fresh_behind cs next (scope_count (node k n b nothing)) fresh) in record { site = s.site; stands = s.stands; outlies = Prim.omega (arith, s.outlies); is = s.is }
  there_declares cs at next (behind_none place) fresh = there_declares cs (suc at) next place fresh
  there_declares cs at next (under k n place rest) fresh =
      let s = there_declares (inside (cs at) next k (plug place (Some x))) 0 (next + opens_one k (plug place (Some x))) place (fresh_below cs at next k (plug place (Some x)) fresh) in
      record { site = s.site; stands = s.stands; outlies = Prim.omega (arith, s.outlies); is = s.is }

  -- in a program
  pub declares_before : (place : Around) → IsInside place → is_program (plug place (Some x)) ≡ true → IsDeclaredBefore (bindings_among (sites_there place (Some x))) (scopes_before place (Some x)) d
  declares_before (first rest) lies e = absurd (lies rest refl)
  declares_before (behind (program source) n b place) lies e =
      let s = there_declares (λ at. outermost) 1 (0 + scope_count (node (program source) n b nothing)) place (outside_fresh (0 + scope_count (node (program source) n b nothing)) (Prim.omega arith)) in
      record { site = s.site; stands = s.stands; outlies = Prim.omega (arith, s.outlies); is = s.is }
  declares_before (behind k n b place) lies e = absurd cc
  declares_before (behind_none place) lies e = absurd (true≢false (sym e))
  declares_before (under (program source) n place rest) lies e =
      let s = there_declares (inside outermost 0 (program source) (plug place (Some x))) 0 1 place
      (program_fresh source (plug place (Some x))) in record { site = s.site; stands = s.stands; outlies = Prim.omega (arith, s.outlies); is = s.is }
  declares_before (under k n place rest) lies e = absurd cc
