-- An expression that is rebuilt of its parts.
use Rattle.std.proofs.Common.{◌≡◌, ◌∙◌, ◌≤◌, ◌+◌, ◌++◌, inl, inr, ℕ, suc, Bool, true, false, List, [], ◌∷◌, if◌then◌else◌, append_assoc, append-nil, refl, sym, ap, ap₂, subst, arith, true≢false}
use Rattle.js_syntax.specs.declared.node_kind.NodeKind.{NodeKind as Kind}
use Rattle.js_syntax.specs.declared.node_kind.NodeKind.TheVariants.{Program as program, Function as function, Class as class, PropertyDefinition as property_definition, StaticBlock as static_block, BlockStatement as block_statement, WithStatement as with_statement, SwitchStatement as switch_statement, CatchClause as catch_clause, ForStatement as for_statement, ForInStatement as for_in_statement, ForOfStatement as for_of_statement, VariableDeclaration as variable_declaration, ImportDeclaration as import_declaration, BindingName as binding_name, ReferenceName as reference_name, TargetName as target_name}
use Rattle.js_syntax.specs.Node.{Forest, Note, nothing, node, absent, joined, alone}
use Rattle.js_rebuilt.specs.Rebuilt.{is_operation, Rebuilt, ends, stays, leaves, opened, built, absent_leaves, absent_comes}
use Rattle.scope_rules.specs.Context.{opens}
use Rattle.scope_laws.specs.Exact.{Among}
use Rattle.scope_laws.proofs.Among.{among_left, among_right, among_cases}
use Rattle.scope_counts.specs.Counts.{Decl, Aims, no_part, aims_inside, named, hoisted, declared, Bound, Weight, weights_inside, refs, bound_to, tally, by_id, ids}
use Rattle.scope_counts.specs.Edits.{Small, Even}
use Rattle.scope_counts.specs.Scopes.{Parts, over, holds, Agree, EachScope}
use Rattle.scope_counts.specs.Losing.{Loses, gone_by, Related, own_referring, referring, own_declaring, declaring, Thins, LosesOutward, DeclaresNone, Plain}
use Rattle.scope_counts.proofs.Edits.{refs_small}
use Rattle.scope_counts.proofs.Losing.{refs_related}
use Rattle.scope_counts.proofs.Leaving.{refs_even, refs_joined, hoisted_even, hoisted_joined, weights_plain, ids_joined, over_joined, behind_all}

-- ---- an operation counts what its parts do

pub operation_is_plain : (k : Kind) → is_operation k ≡ true → Plain k
operation_is_plain (program source) h = absurd cc
operation_is_plain (function how pure) h = absurd cc
operation_is_plain (class how) h = absurd cc
operation_is_plain (property_definition is_static key) h = absurd cc
operation_is_plain static_block h = absurd cc
operation_is_plain block_statement h = absurd cc
operation_is_plain with_statement h = absurd cc
operation_is_plain switch_statement h = absurd cc
operation_is_plain catch_clause h = absurd cc
operation_is_plain for_statement h = absurd cc
operation_is_plain for_in_statement h = absurd cc
operation_is_plain for_of_statement h = absurd cc
operation_is_plain (variable_declaration how) h = absurd cc
operation_is_plain (import_declaration source) h = absurd cc
operation_is_plain (binding_name x) h = absurd cc
operation_is_plain (reference_name x) h = absurd cc
operation_is_plain (target_name x) h = absurd cc
operation_is_plain k h = record { opens_none = λ t. refl; aims_same = λ o a t i. refl; names_none = λ a n. refl; refers_none = λ w n. refl }

referring_none : (k : Kind) (n : Note) → is_operation k ≡ true → own_referring n k ≡ []
referring_none (reference_name x) n h = absurd cc
referring_none (target_name x) n h = absurd cc
referring_none k n h = refl

declaring_none : (k : Kind) (n : Note) → is_operation k ≡ true → own_declaring n k ≡ []
declaring_none (binding_name x) n h = absurd cc
declaring_none k n h = refl

tally_opened : (w : Weight) (k : Kind) (n : Note) (a r : Forest) → is_operation k ≡ true → tally w (node k n a r) ≡ tally w (joined a r)
tally_opened w k n a r is = Prim.omega (arith, (operation_is_plain k is).refers_none w n, ids_joined w a r)

over_opened : (f : Parts → ℕ) (k : Kind) (n : Note) (a r : Forest) → is_operation k ≡ true → over f (node k n a r) ≡ over f (joined a r)
over_opened f k n a r is =
    let none : (if opens k a then f (λ p. declared p k a) else 0) ≡ 0 = ap (λ b. if b then f (λ p. declared p k a) else 0) ((operation_is_plain k is).opens_none a) in
    Prim.omega (arith, none, over_joined f a r)

same_weight : (w : Weight) → Even (λ (at : ℕ). w)
same_weight w i j = refl

refs_opened : (g : Bound) (w : Weight) (k : Kind) (n : Note) (a r : Forest) → is_operation k ≡ true → refs g (λ at. w) 0 (node k n a r) ≡ refs g (λ at. w) 0 (joined a r)
refs_opened g w k n a r is =
    let plain = operation_is_plain k is in
    let inside : weights_inside g k a w ≡ (λ at. w) = λ z. λ at. weights_plain g k a w plain at z in
    let below : refs g (weights_inside g k a w) 0 a ≡ refs g (λ at. w) 0 a = ap (λ (f : ℕ → Weight). refs g f 0 a) inside in
    Prim.omega (arith, plain.refers_none w n, below, refs_even g (λ at. w) (same_weight w) 1 0 r, refs_joined g (λ at. w) (same_weight w) 0 a r)

same_aims : (a : Aims) → Even (λ (at : ℕ). a)
same_aims a i j = refl

hoisted_opened : (c : Aims) (k : Kind) (n : Note) (a r : Forest) → is_operation k ≡ true → hoisted (λ at. c) 0 (node k n a r) ≡ hoisted (λ at. c) 0 (joined a r)
hoisted_opened c k n a r is =
    let plain = operation_is_plain k is in
    let inside : aims_inside no_part c k a ≡ (λ at. c) = λ z. λ at. plain.aims_same no_part c a at z in
    ap₂ (λ ds es. ds ++ es)
    (ap₂ (λ ds es. ds ++ es) (plain.names_none c n) (ap (λ (f : ℕ → Aims). hoisted f 0 a) inside))
    (hoisted_even (λ at. c) (same_aims c) 1 0 r)
    ∙ sym (hoisted_joined (λ at. c) (same_aims c) 0 a r)

module _ (own_of : Note → Kind → List Decl) (all_of : Forest → List Decl) (none : all_of nothing ≡ []) (skips : (t : Forest) → all_of (absent t) ≡ all_of t) (is_node : (k : Kind) (n : Note) (a r : Forest) → all_of (node k n a r) ≡ (own_of n k ++ all_of a) ++ all_of r) (own_none : (k : Kind) (n : Note) → is_operation k ≡ true → own_of n k ≡ []) where
  all_joined : (t u : Forest) → all_of (joined t u) ≡ all_of t ++ all_of u
  all_joined nothing u = ap (λ ds. ds ++ all_of u) (sym none)
  all_joined (absent t) u = skips (joined t u) ∙ all_joined t u ∙ ap (λ ds. ds ++ all_of u) (sym (skips t))
  all_joined (node k n a t) u =
      is_node k n a (joined t u)
      ∙ ap (λ ds. (own_of n k ++ all_of a) ++ ds) (all_joined t u)
      ∙ sym (append_assoc (own_of n k ++ all_of a) (all_of t) (all_of u))
      ∙ ap (λ ds. ds ++ all_of u) (sym (is_node k n a t))

  all_opened : (k : Kind) (n : Note) (a r : Forest) → is_operation k ≡ true → all_of (node k n a r) ≡ all_of (joined a r)
  all_opened k n a r is = is_node k n a r ∙ ap (λ ds. (ds ++ all_of a) ++ all_of r) (own_none k n is) ∙ sym (all_joined a r)

  -- nothing comes in
  among_rebuilt : {t u : Forest} → Rebuilt t u → (d : Decl) → Among d (all_of u) → Among d (all_of t)
  among_rebuilt ends d h = h
  among_rebuilt (stays {k = k} {n = n} {a = a} {r = r} {s = s} rest) d h =
      subst (Among d) (sym (is_node k n a r)) (elim (among_cases d (own_of n k ++ all_of a) (all_of s) (subst (Among d) (is_node k n a s) h)) [
        | inl i ↦ among_left d (own_of n k ++ all_of a) (all_of r) i
        | inr i ↦ among_right d (own_of n k ++ all_of a) (all_of r) (among_rebuilt rest d i)
      ])
  among_rebuilt (leaves {k = k} {n = n} {a = a} {r = r} rest) d h = subst (Among d) (sym (is_node k n a r)) (among_right d (own_of n k ++ all_of a) (all_of r) (among_rebuilt rest d h))
  among_rebuilt (opened {k = k} {n = n} {a = a} {r = r} is rest) d h = subst (Among d) (sym (all_opened k n a r is)) (among_rebuilt rest d h)
  among_rebuilt (built {l = l} {m = m} {b = b} {s = s} may rest) d h = among_rebuilt rest d (subst (Among d) (all_opened l m b s may.operation) h)
  among_rebuilt (absent_leaves {r = r} rest) d h = subst (Among d) (sym (skips r)) (among_rebuilt rest d h)
  among_rebuilt (absent_comes {s = s} rest) d h = among_rebuilt rest d (subst (Among d) (skips s) h)

-- ---- rows that are rebuilt

pub rebuilt_tally : (w : Weight) {t u : Forest} → Rebuilt t u → tally w u ≤ tally w t
rebuilt_tally w ends = Prim.omega arith
rebuilt_tally w (stays rest) = Prim.omega (arith, rebuilt_tally w rest)
rebuilt_tally w (leaves rest) = Prim.omega (arith, rebuilt_tally w rest)
rebuilt_tally w (opened {k = k} {n = n} {a = a} {r = r} is rest) = Prim.omega (arith, tally_opened w k n a r is, rebuilt_tally w rest)
rebuilt_tally w (built {l = l} {m = m} {b = b} {s = s} may rest) = Prim.omega (arith, tally_opened w l m b s may.operation, rebuilt_tally w rest)
rebuilt_tally w (absent_leaves rest) = rebuilt_tally w rest
rebuilt_tally w (absent_comes rest) = rebuilt_tally w rest

rebuilt_over : (f : Parts → ℕ) {t u : Forest} → Rebuilt t u → over f u ≤ over f t
rebuilt_over f ends = Prim.omega arith
rebuilt_over f (stays rest) = Prim.omega (arith, rebuilt_over f rest)
rebuilt_over f (leaves rest) = Prim.omega (arith, rebuilt_over f rest)
rebuilt_over f (opened {k = k} {n = n} {a = a} {r = r} is rest) = Prim.omega (arith, over_opened f k n a r is, rebuilt_over f rest)
rebuilt_over f (built {l = l} {m = m} {b = b} {s = s} may rest) = Prim.omega (arith, over_opened f l m b s may.operation, rebuilt_over f rest)
rebuilt_over f (absent_leaves rest) = rebuilt_over f rest
rebuilt_over f (absent_comes rest) = rebuilt_over f rest

both_scopes : (t u : Forest) → EachScope Agree t → EachScope Agree u → EachScope Agree (joined t u)
both_scopes nothing u e f = f
both_scopes (absent t) u e f = both_scopes t u e f
both_scopes (node k n a t) u e f = (e.0, e.1, both_scopes t u e.2 f)

before_all : (t u : Forest) → EachScope Agree (joined t u) → EachScope Agree t
before_all nothing u e = tt
before_all (absent t) u e = before_all t u e
before_all (node k n a t) u e = (e.0, e.1, before_all t u e.2)

rebuilt_scopes : {t u : Forest} → Rebuilt t u → EachScope Agree t → EachScope Agree u
rebuilt_scopes ends e = e
rebuilt_scopes (stays rest) e = (e.0, e.1, rebuilt_scopes rest e.2)
rebuilt_scopes (leaves rest) e = rebuilt_scopes rest e.2
rebuilt_scopes (opened {a = a} {r = r} is rest) e = rebuilt_scopes rest (both_scopes a r e.1 e.2)
rebuilt_scopes (built {l = l} {b = b} {s = s} may rest) e =
    let below = rebuilt_scopes rest e in
    (λ o. absurd (true≢false (sym o ∙ (operation_is_plain l may.operation).opens_none b)), before_all b s below, behind_all b s below)
rebuilt_scopes (absent_leaves rest) e = rebuilt_scopes rest e
rebuilt_scopes (absent_comes rest) e = rebuilt_scopes rest e

-- what stays counts as it did
rebuilt_refs : (gone : ℕ → Bool) (s z : ℕ) {t u : Forest} → Rebuilt t u → (wg w v : Weight) → Small z w → Small z v → Related wg w v → refs (gone_by gone z) (λ at. wg) 0 t ≡ 0 → ids z u ≡ ids z t
    → refs (bound_to s z) (λ at. w) 0 t ≡ refs (bound_to s z) (λ at. v) 0 u
rebuilt_refs gone s z ends wg w v small tiny related none e = refl
rebuilt_refs gone s z (stays {k = k} {n = n} {a = a} {r = r} {s = q} rest) wg w v small tiny related none e =
    let behind = refs_even (gone_by gone z) (λ at. wg) (same_weight wg) 1 0 r in
    Prim.omega (
      arith,
      refs_related gone s z (λ at. wg) (λ at. w) (λ at. v) 0 (node k n a nothing) (λ i. small) (λ i. tiny) (λ i. related) (Prim.omega (arith, none)),
      rebuilt_refs gone s z rest wg w v small tiny related (Prim.omega (arith, none, behind)) (Prim.omega (arith, e)),
      refs_even (bound_to s z) (λ at. w) (same_weight w) 1 0 r,
      refs_even (bound_to s z) (λ at. v) (same_weight v) 1 0 q,
    )
rebuilt_refs gone s z (leaves {k = k} {n = n} {a = a} {r = r} rest) wg w v small tiny related none e =
    let behind = refs_even (gone_by gone z) (λ at. wg) (same_weight wg) 1 0 r in
    let fewer = rebuilt_tally (by_id z) rest in
    Prim.omega (
      arith,
      e,
      fewer,
      refs_small s z (λ at. w) 0 (node k n a nothing) (λ i. small),
      rebuilt_refs gone s z rest wg w v small tiny related (Prim.omega (arith, none, behind)) (Prim.omega (arith, e, fewer)),
      refs_even (bound_to s z) (λ at. w) (same_weight w) 1 0 r,
    )
rebuilt_refs gone s z (opened {k = k} {n = n} {a = a} {r = r} is rest) wg w v small tiny related none e =
    refs_opened (bound_to s z) w k n a r is
    ∙ rebuilt_refs gone s z rest wg w v small tiny related (sym (refs_opened (gone_by gone z) wg k n a r is) ∙ none) (e ∙ tally_opened (by_id z) k n a r is)
rebuilt_refs gone s z (built {l = l} {m = m} {b = b} {s = q} may rest) wg w v small tiny related none e =
    rebuilt_refs gone s z rest wg w v small tiny related none (sym (tally_opened (by_id z) l m b q may.operation) ∙ e)
    ∙ sym (refs_opened (bound_to s z) v l m b q may.operation)
rebuilt_refs gone s z (absent_leaves {r = r} rest) wg w v small tiny related none e =
    refs_even (bound_to s z) (λ at. w) (same_weight w) 1 0 r
    ∙ rebuilt_refs gone s z rest wg w v small tiny related (refs_even (gone_by gone z) (λ at. wg) (same_weight wg) 0 1 r ∙ none) e
rebuilt_refs gone s z (absent_comes {s = q} rest) wg w v small tiny related none e =
    rebuilt_refs gone s z rest wg w v small tiny related none e
    ∙ refs_even (bound_to s z) (λ at. v) (same_weight v) 0 1 q

-- ---- what it declares around

none_first : (ds es : List Decl) → ds ++ es ≡ [] → ds ≡ []
none_first [] es e = refl
none_first (d ∷ ds) es e = absurd cc

none_second : (ds es : List Decl) → ds ++ es ≡ [] → es ≡ []
none_second [] es e = e
none_second (d ∷ ds) es e = absurd cc

rebuilt_hoisted : (c : Aims) {t u : Forest} → Rebuilt t u → hoisted (λ at. c) 0 t ≡ [] → hoisted (λ at. c) 0 u ≡ []
rebuilt_hoisted c ends e = e
rebuilt_hoisted c (stays {k = k} {n = n} {a = a} {r = r} {s = s} rest) e =
    let here = named c n k ++ hoisted (aims_inside no_part c k a) 0 a in
    let behind = hoisted_even (λ at. c) (same_aims c) 0 1 r ∙ none_second here (hoisted (λ at. c) 1 r) e in
    ap₂ (λ ds es. ds ++ es) (none_first here (hoisted (λ at. c) 1 r) e) (hoisted_even (λ at. c) (same_aims c) 1 0 s ∙ rebuilt_hoisted c rest behind)
rebuilt_hoisted c (leaves {k = k} {n = n} {a = a} {r = r} rest) e =
    rebuilt_hoisted c rest (hoisted_even (λ at. c) (same_aims c) 0 1 r ∙ none_second (named c n k ++ hoisted (aims_inside no_part c k a) 0 a) (hoisted (λ at. c) 1 r) e)
rebuilt_hoisted c (opened {k = k} {n = n} {a = a} {r = r} is rest) e = rebuilt_hoisted c rest (sym (hoisted_opened c k n a r is) ∙ e)
rebuilt_hoisted c (built {l = l} {m = m} {b = b} {s = s} may rest) e = hoisted_opened c l m b s may.operation ∙ rebuilt_hoisted c rest e
rebuilt_hoisted c (absent_leaves {r = r} rest) e = rebuilt_hoisted c rest (hoisted_even (λ at. c) (same_aims c) 0 1 r ∙ e)
rebuilt_hoisted c (absent_comes {s = s} rest) e = hoisted_even (λ at. c) (same_aims c) 1 0 s ∙ rebuilt_hoisted c rest e

-- ---- one expression in the place of another

module _ (gone : ℕ → Bool) (k l : Kind) (n m : Note) (a b r : Forest) (rebuilt : Rebuilt (alone k n a) (alone l m b)) where
  among_one : (own_of : Note → Kind → List Decl) (all_of : Forest → List Decl) (none : all_of nothing ≡ []) (skips : (t : Forest) → all_of (absent t) ≡ all_of t)
      → (is_node : (k : Kind) (n : Note) (a r : Forest) → all_of (node k n a r) ≡ (own_of n k ++ all_of a) ++ all_of r) → ((k : Kind) (n : Note) → is_operation k ≡ true → own_of n k ≡ [])
      → (d : Decl) → Among d (all_of (node l m b r)) → Among d (all_of (node k n a r))
  among_one own_of all_of none skips is_node own_none d h =
      let alone_is : (j : Kind) (i : Note) (c : Forest) → all_of (node j i c nothing) ≡ own_of i j ++ all_of c = λ j i c. is_node j i c nothing ∙ ap (λ ds. (own_of i j ++ all_of c) ++ ds) none ∙ append-nil (own_of i j ++ all_of c) in
      subst (Among d) (sym (is_node k n a r)) (elim (among_cases d (own_of m l ++ all_of b) (all_of r) (subst (Among d) (is_node l m b r) h)) [
        | inl i ↦ among_left d (own_of n k ++ all_of a) (all_of r)
            (subst (Among d) (alone_is k n a) (among_rebuilt own_of all_of none skips is_node own_none rebuilt d (subst (Among d) (sym (alone_is l m b)) i)))
        | inr i ↦ among_right d (own_of n k ++ all_of a) (all_of r) i
      ])

  pub rebuilt_thins : Thins gone false (node k n a r) (node l m b r)
  rebuilt_thins = record {
    fewer = λ z. Prim.omega (arith, rebuilt_tally (by_id z) rebuilt);
    same = λ s z wg ws vs at eg ew ev small tiny related none e.
        Prim.omega (
          arith,
          rebuilt_refs gone s z rebuilt (wg at) (ws at) (vs at) (small at) (tiny at) (related at) (Prim.omega (arith, none)) (Prim.omega (arith, e)),
          refs_related gone s z wg ws vs (suc at) r small tiny related (Prim.omega (arith, none)),
        );
    references = among_one own_referring referring refl (λ t. refl) (λ k n a r. refl) referring_none;
    declarations = among_one own_declaring declaring refl (λ t. refl) (λ k n a r. refl) declaring_none;
    agree = λ e. let here = rebuilt_scopes rebuilt (e.0, e.1, tt) in (here.0, here.1, e.2);
    apart = λ s. Prim.omega (arith, rebuilt_over (holds s) rebuilt);
  }

  pub rebuilt_loses : DeclaresNone (alone k n a) → LosesOutward gone false (node k n a r) (node l m b r)
  rebuilt_loses none aims at even =
      let old = named (aims at) n k ++ hoisted (aims_inside no_part (aims at) k a) 0 a in
      let new = named (aims at) m l ++ hoisted (aims_inside no_part (aims at) l b) 0 b in
      let old_none : old ≡ [] = none_first old [] (none (aims at)) in
      let new_none : new ≡ [] = none_first new [] (rebuilt_hoisted (aims at) rebuilt (none (aims at))) in
      let rest = hoisted aims (suc at) r in
      subst (Loses gone (old ++ rest)) (ap (λ ds. ds ++ rest) (old_none ∙ sym new_none)) (record { found = λ x. inl refl; among = λ d h. h })
