-- A table of scopes stays exact, with shorter lists, where a statement leaves a declaration of the names that it declares by `var`.
use Rattle.std.proofs.Common.{◌≡◌, ◌∙◌, ◌≤◌, inl, inr, ℕ, suc, ◌+◌, List, [], ◌∷◌, ◌++◌, Bool, true, false, ◌&&◌, ◌||◌, if◌then◌else◌, refl, sym, ap, ap₂, subst, arith, true≢false}
use Rattle.std.specs.Prelude.{Option, Some, None, map}
use Rattle.std.proofs.lemmas.List.{append-nil}
use Rattle.js_syntax.specs.Class.{statement}
use Rattle.js_syntax.specs.declared.node_kind.NodeKind.{NodeKind as Kind}
use Rattle.js_syntax.specs.declared.node_kind.NodeKind.TheVariants.{Program as program, BindingName as binding_name, Declarators as declarators, VariableDeclarator as variable_declarator, VariableDeclaration as variable_declaration}
use Rattle.js_syntax.specs.declared.kind.VariableKind.TheVariants as variable
use Rattle.js_syntax.specs.Node.{Note, Forest, nothing, node, absent, nowhere, Tree, row, alone, forest_of}
use Rattle.js_syntax.proofs.Truth.{first_of_both, second_of_both}
use Rattle.js_tree.specs.Names.{Part, all_of, first_of, behind_first, Looked, looked, chosen, part_below, is_name, names_of}
use Rattle.json_shape.specs.Shape.{Fits}
use Rattle.kept_names.specs.Kept.{is_var, holds_statements, declared_of, declared, kept_of, kept, declarator_of, declaration_of}
use Rattle.scope_laws.specs.Exact.{Among}
use Rattle.scope_laws.proofs.Bindings.{same_value}
use Rattle.scope_laws.proofs.Among.{among_left, among_right, among_cases}
use Rattle.scope_rules.specs.Table.{Scoping}
use Rattle.scope_laws.specs.Place.{Around, plug}
use Rattle.scope_counts.specs.Counts.{Decl, Aims, no_part, aims_inside, named, hoisted, Bound, Weight, weights_inside, bound_to, refs, tally, by_id}
use Rattle.scope_counts.specs.Edits.{Rooted, program_with, place_in, SameScopes}
use Rattle.scope_counts.specs.Scopes.{Parts, over, holds, EachScope, Agree, unmarked}
use Rattle.scope_counts.specs.Losing.{find, own_referring, referring, own_declaring, declaring, Thins, LosesOutward, left}
use Rattle.scope_counts.proofs.Edits.{own_small, refs_small, inside_small}
use Rattle.scope_counts.proofs.Losing.{refs_related}
use Rattle.scope_counts.proofs.Stays.{exact_stays}
use Rattle.scope_counts.proofs.Whole.{exact_with}
use Rattle.steps.specs.Allowed.Branches.{declares_none}
use Rattle.steps.specs.Fit.Enclosed.{is_enclosed}
use Rattle.steps.specs.Owed.Kept.{is_program, IsKept}
use Rattle.steps.specs.VarNames.Declared.{without_vars, decl_of, decls}
use Rattle.steps.specs.VarNames.Texts.{may_keep}
use Rattle.steps.proofs.Owed.Places.{place_of, rest_of, same_scopes, inside_program, is_rooted}
use Rattle.steps.proofs.Owed.Pruning.{kept_but_marks}
use Rattle.steps.proofs.VarNames.Again.{is_name_alone, is_bare_name, are_names, kept_are_names}
use Rattle.steps.proofs.VarNames.Anew.{declared_in_layers}
use Rattle.steps.proofs.VarNames.Layers.{decls_joined}

-- ---- declarators of names refer to nothing, and make no scope

pub record BringsNames (t : Forest) (ds : List Decl) : Type 0 where
  pub no_ids : (w : Weight) → tally w t ≡ 0
  pub no_refs : (g : Bound) (ws : ℕ → Weight) (at : ℕ) → refs g ws at t ≡ 0
  pub no_referring : referring t ≡ []
  pub declares : declaring t ≡ ds
  pub agree : EachScope Agree t
  pub apart : (f : Parts → ℕ) → over f t ≡ 0

one_brings : (n : Note) (t : Tree) (rest : Forest) (ds : List Decl) → is_bare_name t ≡ true → BringsNames rest ds
    → BringsNames (node variable_declarator n (node t.kind t.note t.below (absent nothing)) rest) (decl_of t.kind t.note ++ ds)
one_brings n t rest ds h later = go t.kind t.note t.below h
  where
    go : (k : Kind) (m : Note) (b : Forest) → is_name_alone k b ≡ true → BringsNames (node variable_declarator n (node k m b (absent nothing)) rest) (decl_of k m ++ ds)
    go (binding_name x) m nothing h = record {
      no_ids = λ w. let none = later.no_ids w in Prim.omega (arith, none);
      no_refs = λ g ws at. let none = later.no_refs g ws (suc at) in Prim.omega (arith, none);
      no_referring = later.no_referring;
      declares = ap (λ zs. record { name = x; symbol = m.id } ∷ zs) later.declares;
      agree = (λ o. absurd (true≢false (sym o)), ((λ o. absurd (true≢false (sym o))), tt, tt), later.agree);
      apart = λ f. let none = later.apart f in Prim.omega (arith, none);
    }
    go (binding_name x) m (absent r) h = absurd cc
    go (binding_name x) m (node j i c r) h = absurd cc
    go k m b h = absurd cc

declarators_bring : (ts : List Tree) → are_names ts ≡ true → BringsNames (row (map declarator_of ts)) (decls ts)
declarators_bring [] h = record { no_ids = λ w. refl; no_refs = λ g ws at. refl; no_referring = refl; declares = refl; agree = tt; apart = λ f. refl }
declarators_bring (t ∷ ts) h = one_brings (record { span = t.note.span; id = None }) t (row (map declarator_of ts)) (decls ts) (first_of_both (is_bare_name t) (are_names ts) h) (declarators_bring ts (second_of_both (is_bare_name t) (are_names ts) h))

pub declaration_brings : (ts : List Tree) (y : Tree) → are_names ts ≡ true → declaration_of (map declarator_of ts) ≡ Some y → BringsNames (forest_of y) (decls ts)
declaration_brings [] y h e = absurd cc
declaration_brings (t ∷ ts) y h e =
    let it = declarators_bring (t ∷ ts) h in
    subst (λ z. BringsNames (forest_of z) (decls (t ∷ ts))) (same_value e) (record {
      no_ids = λ w. let none = it.no_ids w in Prim.omega (arith, none);
      no_refs = λ g ws at. let none = it.no_refs g (λ q. ws at) 0 in Prim.omega (arith, none);
      no_referring = ap (λ zs. (zs ++ []) ++ []) it.no_referring;
      declares = append-nil (declaring (row (map declarator_of (t ∷ ts))) ++ []) ∙ append-nil (declaring (row (map declarator_of (t ∷ ts)))) ∙ it.declares;
      agree = (λ o. absurd (true≢false (sym o)), ((λ o. absurd (true≢false (sym o))), it.agree, tt), tt);
      apart = λ f. let none = it.apart f in Prim.omega (arith, none);
    })

-- ---- what is kept is declared there

abbrev pub Stands : List Tree → Forest → Type 0
Stands ts t = (d : Decl) → Among d (decls ts) → Among d (declaring t)

record StandsLooked (t : Forest) : Type 0 where
  all : Stands (looked t).all t
  first : Stands (looked t).first t
  behind : Stands (looked t).behind t

none_stands : (t : Forest) → Stands [] t
none_stands t d i = absurd i

both_stand : (k : Kind) (n : Note) (a r : Forest) (xs ys : List Tree) → Stands xs (alone k n a) → Stands ys r → Stands (xs ++ ys) (node k n a r)
both_stand k n a r xs ys here later d i =
    elim (among_cases d (decls xs) (decls ys) (subst (Among d) (decls_joined xs ys) i)) [
      | inl x ↦ among_left d (own_declaring n k ++ declaring a) (declaring r) (subst (Among d) (append-nil (own_declaring n k ++ declaring a)) (here d x))
      | inr y ↦ among_right d (own_declaring n k ++ declaring a) (declaring r) (later d y)
    ]

below_stands : (k : Kind) (n : Note) (a : Forest) (xs : List Tree) → Stands xs a → Stands xs (alone k n a)
below_stands k n a xs h d i = subst (Among d) (sym (append-nil (own_declaring n k ++ declaring a))) (among_right d (own_declaring n k) (declaring a) (h d i))

chosen_stands : (p : Option Part) (a : Forest) → StandsLooked a → Stands (chosen p (looked a)) a
chosen_stands None a h = none_stands a
chosen_stands (Some all_of) a h = h.all
chosen_stands (Some first_of) a h = h.first
chosen_stands (Some behind_first) a h = h.behind

names_stand : (k : Kind) (n : Note) (a : Forest) → StandsLooked a → Stands (names_of (record { kind = k; note = n; below = a }) (looked a)) (alone k n a)
names_stand (binding_name x) n a h = λ d i. among_left d (own_declaring n (binding_name x) ++ declaring a) [] (among_left d (own_declaring n (binding_name x)) (declaring a) i)
names_stand k n a h = below_stands k n a (chosen (part_below k) (looked a)) (chosen_stands (part_below k) a h)

looked_stands : (t : Forest) → StandsLooked t
looked_stands nothing = record { all = none_stands nothing; first = none_stands nothing; behind = none_stands nothing }
looked_stands (absent r) = let later = looked_stands r in record { all = later.all; first = none_stands (absent r); behind = later.all }
looked_stands (node k n a r) =
    let later = looked_stands r in
    let names = names_of (record { kind = k; note = n; below = a }) (looked a) in
    let here = names_stand k n a (looked_stands a) in
    record {
      all = both_stand k n a r names (looked r).all here later.all;
      first = λ d i. among_left d (own_declaring n k ++ declaring a) (declaring r) (subst (Among d) (append-nil (own_declaring n k ++ declaring a)) (here d i));
      behind = λ d i. among_right d (own_declaring n k ++ declaring a) (declaring r) (later.all d i);
    }

declared_stands : (t : Forest) → Stands (declared t) t
declared_stands nothing = none_stands nothing
declared_stands (absent r) = declared_stands r
declared_stands (node k n a r) = both_stand k n a r (declared_of k a (declared a)) (declared r) (below_stands k n a (declared_of k a (declared a)) (of_node k a (declared_stands a))) (declared_stands r)
  where
    of_node : (k : Kind) (a : Forest) → Stands (declared a) a → Stands (declared_of k a (declared a)) a
    of_node declarators a h = h
    of_node variable_declarator a h = (looked_stands a).first
    of_node k a h = none_stands a

pub kept_stands : (t : Forest) → Stands (kept t) t
kept_stands nothing = none_stands nothing
kept_stands (absent r) = kept_stands r
kept_stands (node k n a r) = both_stand k n a r (kept_of k a (kept a)) (kept r) (below_stands k n a (kept_of k a (kept a)) (of_node (is_var k) (holds_statements k) a (kept_stands a))) (kept_stands r)
  where
    of_node : (v s : Bool) (a : Forest) → Stands (kept a) a → Stands (if v then declared a else if s then kept a else []) a
    of_node true s a h = declared_stands a
    of_node false true a h = h
    of_node false false a h = none_stands a

-- ---- in the statement's place

module _ (k l : Kind) (i j : Note) (b c rest : Forest) (ts : List Tree) (new : BringsNames (alone l j c) (decls ts)) (stand : Stands ts (alone k i b)) where
  new_refers : (d : Decl) → Among d (own_referring j l ++ referring c) → ⊥
  new_refers d h = subst (Among d) new.no_referring (among_left d (own_referring j l ++ referring c) [] h)

  new_declares : (d : Decl) → Among d (own_declaring j l ++ declaring c) → Among d (own_declaring i k ++ declaring b)
  new_declares d h =
      subst (Among d) (append-nil (own_declaring i k ++ declaring b))
      (stand d (subst (Among d) new.declares (among_left d (own_declaring j l ++ declaring c) [] h)))

  pub names_thin : Thins (λ s. false) false (node k i b rest) (node l j c rest)
  names_thin = record {
    fewer = λ r. let none = new.no_ids (by_id r) in Prim.omega (arith, none);
    same = λ s r wg ws vs at eg ew ev small tiny related none e.
        Prim.omega (
          arith,
          e,
          own_small r (ws at) i k (small at),
          refs_small s r (weights_inside (bound_to s r) k b (ws at)) 0 b (inside_small s r k b (ws at) (small at)),
          refs_related (λ z. false) s r wg ws vs (suc at) rest small tiny related (Prim.omega (arith, none)),
          new.no_ids (by_id r),
          new.no_refs (bound_to s r) vs at,
        );
    references = λ d h. elim (among_cases d (own_referring j l ++ referring c) (referring rest) h) [
      | inl x ↦ absurd (new_refers d x)
      | inr y ↦ among_right d (own_referring i k ++ referring b) (referring rest) y
    ];
    declarations = λ d h. elim (among_cases d (own_declaring j l ++ declaring c) (declaring rest) h) [
      | inl x ↦ among_left d (own_declaring i k ++ declaring b) (declaring rest) (new_declares d x)
      | inr y ↦ among_right d (own_declaring i k ++ declaring b) (declaring rest) y
    ];
    agree = λ e. (new.agree.0, new.agree.1, e.2);
    apart = λ s. let none = new.apart (holds s) in Prim.omega (arith, none);
  }

  module _ (same : (aims : Aims) → hoisted (λ q. aims) 0 (alone k i b) ≡ hoisted (λ q. aims) 0 (alone l j c)) where
    outward_same : (aims : ℕ → Aims) (at : ℕ) → hoisted aims at (node k i b rest) ≡ hoisted aims at (node l j c rest)
    outward_same aims at =
        ap (λ z. z ++ hoisted aims (suc at) rest)
        (sym (append-nil (named (aims at) i k ++ hoisted (aims_inside no_part (aims at) k b) 0 b)) ∙ same (aims at) ∙ append-nil (named (aims at) j l ++ hoisted (aims_inside no_part (aims at) l c) 0 c))

    outward_kept : LosesOutward (λ s. false) false (node k i b rest) (node l j c rest)
    outward_kept aims at even = record { found = λ x. inl (ap (find x) (outward_same aims at)); among = λ d h. subst (Among d) (sym (outward_same aims at)) h }

    names_keep : (place : Rooted) → SameScopes (place_in place) (node k i b rest) (node l j c rest) → (s : Scoping) → IsKept s (program_with place (node k i b rest)) → IsKept s (program_with place (node l j c rest))
    names_keep place scopes s kept =
        let t = node k i b rest in
        let u = node l j c rest in
        kept_but_marks place (left t u) t u s kept
        (exact_stays (λ z. false) place false t u names_thin outward_kept scopes (λ e. absurd (true≢false (sym e))) (λ z e. absurd (true≢false (sym e))) kept.table unmarked (left t u) (λ z. refl) ((exact_with place t kept.table).0 kept.exact))

no_program : (k : Kind) (n : Note) (below rest : Forest) → may_keep k ≡ true → is_program (node k n below rest) ≡ false
no_program (program source) n below rest h = absurd cc
no_program k n below rest h = refl

pub names_kept : (a : Around) (x y : Tree) → may_keep x.kind ≡ true → Fits statement (forest_of x) → declares_none (without_vars (forest_of x)) ≡ true → is_enclosed (forest_of x) ≡ true
    → declaration_of (map declarator_of (kept (forest_of x))) ≡ Some y → is_program (plug a (Some x)) ≡ true → (s : Scoping) → IsKept s (plug a (Some x)) → IsKept s (plug a (Some y))
names_kept a x y kind fits alone_vars enclosed e is s it =
    let place = is_rooted a x (inside_program a x is (λ rest. no_program x.kind x.note x.below rest kind)) is in
    let rest = rest_of a in
    let ts = kept (forest_of x) in
    subst (IsKept s) (sym (place.with_node y))
    (names_keep x.kind y.kind x.note y.note x.below y.below rest ts (declaration_brings ts y (kept_are_names (forest_of x) fits) e) (kept_stands (forest_of x))
    (λ aims. sym (declared_in_layers (forest_of x) fits alone_vars enclosed (λ q. aims) 0 (λ q. refl)) ∙ ap (hoisted (λ q. aims) 0) (as_declared ts y e)) place.rooted
    (subst (λ p. SameScopes p (node x.kind x.note x.below rest) (node y.kind y.note y.below rest)) (sym place.place_is) (same_scopes x.kind y.kind x.note y.note x.below y.below rest (place_of place.inner))) s
    (subst (IsKept s) (place.with_node x) it))
  where
    as_declared : (ts : List Tree) (y : Tree) → declaration_of (map declarator_of ts) ≡ Some y → row (declaration_of (map declarator_of ts) ∷ []) ≡ forest_of y
    as_declared [] y e = absurd cc
    as_declared (t ∷ ts) y e = ap forest_of (same_value e)
