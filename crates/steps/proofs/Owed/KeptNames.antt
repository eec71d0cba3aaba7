-- What a statement owes of which a declaration of its names is left.
use Rattle.std.proofs.Common.{◌≡◌, ◌∙◌, ◌≤◌, ◌<◌, ◌⊎◌, inl, inr, ℕ, List, [], ◌∷◌, ◌++◌, Bool, true, false, ◌&&◌, ◌||◌, append-nil, arith, refl, sym, ap, subst, true≢false}
use Rattle.std.proofs.lemmas.Bool.{or_cases}
use Rattle.std.specs.Prelude.{Some, map}
use Rattle.js_syntax.specs.Class.{root, statement}
use Rattle.js_syntax.specs.declared.node_kind.NodeKind.{NodeKind as Kind}
use Rattle.js_syntax.specs.declared.node_kind.NodeKind.TheVariants.{BindingName as binding_name}
use Rattle.js_syntax.specs.Facts.{weight, is_core}
use Rattle.js_syntax.specs.Node.{Note, Forest, Tree, nothing, node, absent, row, alone, forest_of, total}
use Rattle.js_syntax.specs.Table.{Row, a_program, a_labeled_statement, an_if_statement, a_with_statement, a_while_statement, a_do_while_statement, a_for_statement, a_for_in_statement, a_for_of_statement, a_switch_statement, a_try_statement, fields_of, type_of, stands}
use Rattle.js_syntax.proofs.Truth.{both, first_of_both, second_of_both}
use Rattle.json_shape.specs.Shape.{Values, kind_in, first_of, one, these, IsChosen, Fits}
use Rattle.kept_names.specs.Kept.{is_var, kept_of, kept, declarator_of, declaration_of}
use Rattle.scope_laws.proofs.Bindings.{same_value}
use Rattle.scope_laws.specs.Place.{Around, first, behind, behind_none, under, plug}
use Rattle.steps.specs.Steps.{all_core}
use Rattle.steps.specs.Allowed.Branches.{declares_none}
use Rattle.steps.specs.Allowed.Calls.{may_end}
use Rattle.steps.specs.Allowed.KeptNames.{KeptNames, names_stay}
use Rattle.steps.specs.Allowed.Places.{IsItem}
use Rattle.steps.specs.Allowed.Untaken.{begins_untaken, runs_inside, is_untaken}
use Rattle.steps.specs.Allowed.UnrunValue.{declares, passes, is_unrun}
use Rattle.steps.specs.KeepForm.Part.{leaves_names_of}
use Rattle.steps.specs.VarNames.Declared.{without_vars}
use Rattle.steps.specs.VarNames.Texts.{may_keep}
use Rattle.steps.specs.Owed.Owed.{IsUncalled, Becoming, by_changing}
use Rattle.steps.proofs.Fit.Enclosing.{fits_enclosed}
use Rattle.steps.proofs.Fit.Modules.{fits_program}
use Rattle.steps.proofs.Owed.ChoiceRuns.{module_placed}
use Rattle.steps.proofs.Owed.Made.{MadeBy, is_single, single_made_there}
use Rattle.steps.proofs.Owed.PartRuns.{core_kept}
use Rattle.steps.proofs.Owed.Unseen.{enclosed_alone_there}
use Rattle.steps.proofs.VarNames.Again.{is_name_alone, is_bare_name, are_names, kept_are_names}
use Rattle.steps.proofs.VarNames.Place.{keeps_kind, names_sheds, names_fit}
use Rattle.steps.proofs.VarNames.Runs.{names_are_local}
use Rattle.steps.proofs.VarNames.Table.{names_kept}
use Rattle.steps.proofs.VarNames.Weighs.{weighs_less}

no_kind : {A : Type 0} → false ≡ true → A
no_kind e = absurd (true≢false (sym e))

-- ---- kinds

record Holds (a : Around) (x : Tree) : Type 0 where
  single : is_single x.kind ≡ true
  heavy : 1 ≤ weight x.kind
  other : is_var x.kind ≡ false
  uncalled : IsUncalled a x
  ends : may_end x.kind ≡ true

holds_of : (a : Around) (k : Kind) (n : Note) (b : Forest) → leaves_names_of k ≡ true → Holds a (record { kind = k; note = n; below = b })
holds_of a (Kind.LabeledStatement l) n b h = record { single = refl; heavy = Prim.omega arith; other = refl; uncalled = record { counts = refl; lists = λ i. refl; begins = λ i. refl; calls = inl refl }; ends = refl }
holds_of a Kind.IfStatement n b h = record { single = refl; heavy = Prim.omega arith; other = refl; uncalled = record { counts = refl; lists = λ i. refl; begins = λ i. refl; calls = inl refl }; ends = refl }
holds_of a Kind.WithStatement n b h = record { single = refl; heavy = Prim.omega arith; other = refl; uncalled = record { counts = refl; lists = λ i. refl; begins = λ i. refl; calls = inl refl }; ends = refl }
holds_of a Kind.WhileStatement n b h = record { single = refl; heavy = Prim.omega arith; other = refl; uncalled = record { counts = refl; lists = λ i. refl; begins = λ i. refl; calls = inl refl }; ends = refl }
holds_of a Kind.DoWhileStatement n b h = record { single = refl; heavy = Prim.omega arith; other = refl; uncalled = record { counts = refl; lists = λ i. refl; begins = λ i. refl; calls = inl refl }; ends = refl }
holds_of a Kind.ForStatement n b h = record { single = refl; heavy = Prim.omega arith; other = refl; uncalled = record { counts = refl; lists = λ i. refl; begins = λ i. refl; calls = inl refl }; ends = refl }
holds_of a Kind.ForInStatement n b h = record { single = refl; heavy = Prim.omega arith; other = refl; uncalled = record { counts = refl; lists = λ i. refl; begins = λ i. refl; calls = inl refl }; ends = refl }
holds_of a Kind.ForOfStatement n b h = record { single = refl; heavy = Prim.omega arith; other = refl; uncalled = record { counts = refl; lists = λ i. refl; begins = λ i. refl; calls = inl refl }; ends = refl }
holds_of a Kind.SwitchStatement n b h = record { single = refl; heavy = Prim.omega arith; other = refl; uncalled = record { counts = refl; lists = λ i. refl; begins = λ i. refl; calls = inl refl }; ends = refl }
holds_of a Kind.TryStatement n b h = record { single = refl; heavy = Prim.omega arith; other = refl; uncalled = record { counts = refl; lists = λ i. refl; begins = λ i. refl; calls = inl refl }; ends = refl }
holds_of a k n b h = no_kind h

-- such a node is a statement
stands_statement : (r : Row) (vs : Values (fields_of r)) → leaves_names_of (kind_in r vs) ≡ true → stands statement (type_of r) ≡ Some (first_of r)
stands_statement a_labeled_statement vs h = refl
stands_statement an_if_statement vs h = refl
stands_statement a_with_statement vs h = refl
stands_statement a_while_statement vs h = refl
stands_statement a_do_while_statement vs h = refl
stands_statement a_for_statement vs h = refl
stands_statement a_for_in_statement vs h = refl
stands_statement a_for_of_statement vs h = refl
stands_statement a_switch_statement vs h = refl
stands_statement a_try_statement vs h = refl
stands_statement a_program vs h = no_kind h
stands_statement r vs h = no_kind h

made_fits : (x : Tree) → leaves_names_of x.kind ≡ true → MadeBy x.kind x.below → Fits statement (forest_of x)
made_fits x h made = ((made.row, made.values, stands_statement made.row made.values (sym (ap leaves_names_of made.is) ∙ h), made.chosen, made.is, made.stands), tt)

-- ---- what is never taken is never run

passes_more : (k : Kind) → runs_inside k ≡ true → passes k ≡ true
passes_more k h = ap (λ b. b || declares k) h

never_run : (a : Around) (u v : Bool) → (u ≡ true → v ≡ true) → is_untaken u a ≡ true → is_unrun v a ≡ true
never_run (first rest) u v f h = f h
never_run (behind k n b a) u v f h = never_run a u v f h
never_run (behind_none a) u v f h = never_run a u v f h
never_run (under k n a rest) u v f h =
    never_run a (u && runs_inside k || begins_untaken k a) (v && passes k || begins_untaken k a)
    (λ e. elim (or_cases (u && runs_inside k) (begins_untaken k a) e) [
      | inl around ↦ ap (λ b. b || begins_untaken k a) (both v (passes k) (f (first_of_both u (runs_inside k) around)) (passes_more k (second_of_both u (runs_inside k) around)))
      | inr here ↦ or_right (v && passes k) (begins_untaken k a) here
    ]) h
  where
    or_right : (b c : Bool) → c ≡ true → (b || c) ≡ true
    or_right true c e = refl
    or_right false c e = e

-- ---- the declaration is core

one_core : (k : Kind) (m : Note) (b : Forest) → is_name_alone k b ≡ true → all_core (node k m b (absent nothing)) ≡ true
one_core (binding_name x) m nothing h = refl
one_core (binding_name x) m (absent r) h = absurd cc
one_core (binding_name x) m (node j i c r) h = absurd cc
one_core k m b h = absurd cc

names_core : (ts : List Tree) → are_names ts ≡ true → all_core (row (map declarator_of ts)) ≡ true
names_core [] h = refl
names_core (t ∷ ts) h =
    let name = node t.kind t.note t.below (absent nothing) in
    both (all_core name) (all_core (row (map declarator_of ts))) (one_core t.kind t.note t.below (first_of_both (is_bare_name t) (are_names ts) h)) (names_core ts (second_of_both (is_bare_name t) (are_names ts) h))

declaration_core : (ts : List Tree) (y : Tree) → are_names ts ≡ true → declaration_of (map declarator_of ts) ≡ Some y → all_core (forest_of y) ≡ true
declaration_core [] y h e = absurd cc
declaration_core (t ∷ ts) y h e =
    subst (λ z. all_core (forest_of z) ≡ true) (same_value e) (both (all_core (row (map declarator_of (t ∷ ts))) && true) true (both (all_core (row (map declarator_of (t ∷ ts)))) true (names_core (t ∷ ts) h) refl) refl)

-- ---- all of it

module _ (a : Around) (x y : Tree) (item : IsItem a) (untaken : is_untaken false a ≡ true) (leaves : leaves_names_of x.kind ≡ true) (vars_alone : declares_none (without_vars (forest_of x)) ≡ true)
    (is : declaration_of (map declarator_of (kept (forest_of x))) ≡ Some y) where
  kind : Holds a x
  kind = holds_of a x.kind x.note x.below leaves

  pub stands_there : Fits root (plug a (Some x)) → Fits statement (forest_of x)
  stands_there fits = made_fits x leaves (single_made_there a x (these (one root ∷ [])) kind.single refl fits)

  owes : Becoming a x y
  owes = record {
    lighter = weighs_less x.kind x.note x.below y kind.heavy kind.other (ap (λ ts. declaration_of (map declarator_of ts)) (sym (append-nil (kept_of x.kind x.below (kept x.below)))) ∙ is);
    no_call = kind.uncalled;
    ends = inl kind.ends;
    may_change = inr (inl (never_run a false false (λ e. e) untaken));
    fits = λ fits. names_fit x y leaves (stands_there fits) is a fits;
    sheds = λ fits. names_sheds x y leaves (stands_there fits) is a item fits;
    kept = λ fits s it.
        names_kept a x y (keeps_kind x.kind leaves) (stands_there fits) vars_alone (enclosed_alone_there a x.kind x.note x.below (fits_enclosed (plug a (Some x)) fits)) is (fits_program (plug a (Some x)) fits) s it;
    runs = by_changing (λ p q b same fits form core.
        let whole = subst (Fits root) (sym same) fits in
        let there = stands_there whole in (
          names_are_local a x y (keeps_kind x.kind leaves) there is p q b same (module_placed p q b fits form core) untaken whole,
          core_kept x y (λ c. declaration_core (kept (forest_of x)) y (kept_are_names (forest_of x) there) is) a (subst (λ t. all_core t ≡ true) (sym same) core),
        ));
  }

pub kept_names_owe : (a : Around) (x y : Tree) → KeptNames a x y → Becoming a x y
kept_names_owe a _ _ (names_stay x y item untaken leaves vars_alone plain is) = owes a x y item untaken leaves vars_alone is
