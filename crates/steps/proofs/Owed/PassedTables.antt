-- The table of scopes, symbols and references stays exact where an import and an export are an export from the other module: the export's
-- references leave, then the names that nothing refers to, and what comes in has neither.
use Rattle.std.proofs.Common.{◌≡◌, ◌∙◌, inr, ℕ, suc, ◌+◌, List, [], ◌∷◌, ◌++◌, Bool, true, false, true≢false, Some, arith, refl, sym, ap, subst}
use Rattle.js_syntax.specs.declared.node_kind.NodeKind.{NodeKind as Kind}
use Rattle.js_syntax.specs.declared.node_kind.NodeKind.TheVariants.{Program as program, Statements as statements, ImportDeclaration as import_declaration, Specifiers as specifiers}
use Rattle.js_syntax.specs.declared.scalar.SourceType.TheVariants as source_type
use Rattle.js_syntax.specs.Node.{Forest, Note, nothing, node, absent, forest_of}
use Rattle.js_meaning_near.specs.Near.{module_of}
use Rattle.scope_rules.specs.Context.{Context, inside, outermost, body_of}
use Rattle.scope_rules.specs.Site.{BindingSite, own_sites, opens_one, scope_count, sites, bindings_among}
use Rattle.scope_rules.specs.Table.{Scoping}
use Rattle.scope_laws.specs.Exact.{Among}
use Rattle.scope_laws.specs.Place.{Around, first, behind, behind_none, under, plug}
use Rattle.scope_laws.specs.Lists.{without}
use Rattle.scope_counts.specs.Counts.{Aims, Bound, Weight, everywhere, no_part, aims_inside, named, hoisted, refs, tally}
use Rattle.scope_counts.specs.Losing.{own_referring, referring, own_declaring, declaring}
use Rattle.scope_counts.specs.Scopes.{Parts, over, EachScope, Agree}
use Rattle.scope_counts.proofs.Leaving.{hoisted_even, refs_even}
use Rattle.steps.specs.Allowed.PassedExports.{AreFree, PassedExports, exports_pass}
use Rattle.steps.specs.Owed.Kept.{IsKept}
use Rattle.steps.specs.Owed.Part.{DeclaresNothing}
use Rattle.steps.specs.Owed.Unseen.{IsUnreferred, IsUnseen}
use Rattle.steps.proofs.Naming.Sites.{InThree, in_first, in_second, in_third, binding_in, binding_second}
use Rattle.steps.proofs.Owed.ImportFacts.{import_facts, declares_name}
use Rattle.steps.proofs.Owed.Shuffled.{as_before, by_equal}
use Rattle.steps.proofs.Owed.AlikeTables.{Any, in_program, IsAlike, alike_kept}
use Rattle.steps.proofs.Owed.MergedRows.{AreNames, no_names, a_name}
use Rattle.steps.proofs.Owed.PassedPlaces.{an_export, an_import, a_tree, export_in, export_out, import_in, in_module, flat_listed, flat_holds}
use Rattle.steps.proofs.Owed.PassedRows.{AreListed, none_listed, one_listed, ArePassed, none_passed, one_passed, IsNew, new_names, new_namespace}
use Rattle.steps.proofs.Owed.RepeatedRuns.{is_flat}
use Rattle.steps.proofs.Owed.Unseen.{Fine, free_unreferred, unseen_there}
use Rattle.steps.proofs.Owed.UnseenCounts.{idle_leaves, unseen_leaves}

-- ---- the export declares nothing

listed_hoist : {listed : Forest} → AreListed listed → (aims : ℕ → Aims) (at : ℕ) → hoisted aims at listed ≡ []
listed_hoist none_listed aims at = refl
listed_hoist (one_listed exported n m x rest are) aims at = listed_hoist are aims (suc at)

export_declares_nothing : {listed : Forest} → AreListed listed → (n m : Note) → DeclaresNothing (forest_of (an_export listed n m))
export_declares_nothing are n m aims at = ap (λ l. ((l ++ []) ++ [])) (listed_hoist are (λ i. aims at) 0)

-- ---- nothing refers to the import's names

names_unreferred : (v : Forest) (c : Context) → c.declaring.layer ≡ body_of 0 → {names : Forest} → AreNames names → AreFree v names → (at next : ℕ) (b : BindingSite) → Among b (bindings_among (sites (λ i. c) at next names)) → IsUnreferred v b
names_unreferred v c here no_names free at next b g = absurd g
names_unreferred v c here (a_name k n m x rest binds names) free at next b g =
    by (names_unreferred v c here names free.1 (suc at) (next + scope_count (node k n below nothing)) b)
    (binding_in b (own_sites c n k below) (sites (inside c next k below) 0 (next + opens_one k below) below) (sites (λ i. c) (suc at) (next + scope_count (node k n below nothing)) rest) g)
  where
    below : Forest
    below = node (Kind.BindingName x) m nothing nothing

    by : (Among b (bindings_among (sites (λ i. c) (suc at) (next + scope_count (node k n below nothing)) rest)) → IsUnreferred v b) → InThree b (bindings_among (own_sites c n k below)) (bindings_among (sites (inside c next k below) 0 (next + opens_one k below) below)) (bindings_among (sites (λ i. c) (suc at) (next + scope_count (node k n below nothing)) rest)) → IsUnreferred v b
    by more (in_first q) = absurd (subst (λ bs. Among b bs) ((import_facts k n below binds).no_own c) q)
    by more (in_second q) =
        let d = declares_name x m k n binds (λ i. c) at next b (binding_second b (own_sites c n k below) (sites (inside c next k below) 0 (next + opens_one k below) below) [] q) in
        free_unreferred v b x (body_of 0) d.0 (d.1 ∙ here) free.0
    by more (in_third q) = more q

module _ (n m : Note) (a : Around) (flat : is_flat a ≡ true) (source : List ℕ) (i j : Note) {names : Forest} (are : AreNames names) where
  abbrev x : Forest
  x = plug (in_module n m a) (Some (an_import source names i j))

  import_unseen : AreFree x names → IsUnseen (in_module n m a) (Some (an_import source names i j))
  import_unseen free =
      unseen_there (in_module n m a) (Some (an_import source names i j)) (λ w c next. c.block ≡ body_of 0)
      (flat_holds (inside (inside outermost 0 (program source_type.Module) (node statements m (plug a (Some (an_import source names i j))) nothing) 0) 1 statements (plug a (Some (an_import source names i j))) 0) (an_import source names i j) (λ w c next. c.block ≡ body_of 0) (λ next. refl) 0 1 a flat) by
    where
      list : Forest
      list = node specifiers j names nothing

      by : (b : BindingSite) (w : Bool) (ds : ℕ → Context) (place next : ℕ) → (ds place).block ≡ body_of 0 → Among b (bindings_among (sites ds place next (node (import_declaration source) i list nothing)))
          → Fine x (scope_count (node (import_declaration source) i list nothing)) next b
      by b w ds place next here g = inr (of_import (binding_in b [] (sites (inside (ds place) next (import_declaration source) list) 0 (next + 0) list) [] g))
        where
          outer : Context
          outer = inside (ds place) next (import_declaration source) list 0

          of_list : InThree b [] (bindings_among (sites (inside outer (next + 0) specifiers names) 0 (next + 0 + 0) names)) [] → IsUnreferred x b
          of_list (in_first q) = absurd q
          of_list (in_second q) = names_unreferred x (inside outer (next + 0) specifiers names 0) here are free 0 (next + 0 + 0) b q
          of_list (in_third q) = absurd q

          of_import : InThree b [] (bindings_among (sites (inside (ds place) next (import_declaration source) list) 0 (next + 0) list)) [] → IsUnreferred x b
          of_import (in_first q) = absurd q
          of_import (in_second q) = of_list (binding_in b [] (sites (inside outer (next + 0) specifiers names) 0 (next + 0 + 0) names) [] q)
          of_import (in_third q) = absurd q

-- ---- what comes in has nothing of which a table tells

module _ (w : Weight) where
  passed_tally : {passed : Forest} → ArePassed passed → tally w passed ≡ 0
  passed_tally none_passed = refl
  passed_tally (one_passed imported exported n rest are) = Prim.omega (arith, passed_tally are)

  pub new_tally : {source : List ℕ} {k : Kind} {below : Forest} → IsNew source k below → (n : Note) (rest : Forest) → tally w (node k n below rest) ≡ tally w rest
  new_tally (new_names passed j are) n rest = Prim.omega (arith, passed_tally are)
  new_tally (new_namespace exported) n rest = Prim.omega arith

module _ (g : Bound) (w : Weight) where
  passed_refs : {passed : Forest} → ArePassed passed → (at : ℕ) → refs g (λ i. w) at passed ≡ 0
  passed_refs none_passed at = refl
  passed_refs (one_passed imported exported n rest are) at = Prim.omega (arith, passed_refs are (suc at))

  new_refs : {source : List ℕ} {k : Kind} {below : Forest} → IsNew source k below → (n : Note) (rest : Forest) (at : ℕ) → refs g (λ i. w) at (node k n below rest) ≡ refs g (λ i. w) (suc at) rest
  new_refs (new_names passed j are) n rest at = Prim.omega (arith, passed_refs are 0)
  new_refs (new_namespace exported) n rest at = Prim.omega arith

module _ (f : Parts → ℕ) where
  passed_over : {passed : Forest} → ArePassed passed → over f passed ≡ 0
  passed_over none_passed = refl
  passed_over (one_passed imported exported n rest are) = Prim.omega (arith, passed_over are)

  new_over : {source : List ℕ} {k : Kind} {below : Forest} → IsNew source k below → (n : Note) (rest : Forest) → over f (node k n below rest) ≡ over f rest
  new_over (new_names passed j are) n rest = Prim.omega (arith, passed_over are)
  new_over (new_namespace exported) n rest = Prim.omega arith

module _ (C : Parts → Type 0) where
  passed_scopes : {passed : Forest} → ArePassed passed → EachScope C passed
  passed_scopes none_passed = tt
  passed_scopes (one_passed imported exported n rest are) = (λ o. absurd (true≢false (sym o)), tt, passed_scopes are)

  new_scopes : {source : List ℕ} {k : Kind} {below : Forest} → IsNew source k below → (n : Note) (rest : Forest) → EachScope C rest → EachScope C (node k n below rest)
  new_scopes (new_names passed j are) n rest e = (λ o. absurd (true≢false (sym o)), (λ o. absurd (true≢false (sym o)), passed_scopes are, tt), e)
  new_scopes (new_namespace exported) n rest e = (λ o. absurd (true≢false (sym o)), tt, e)

passed_refers : {passed : Forest} → ArePassed passed → referring passed ≡ []
passed_refers none_passed = refl
passed_refers (one_passed imported exported n rest are) = passed_refers are

passed_declares : {passed : Forest} → ArePassed passed → declaring passed ≡ []
passed_declares none_passed = refl
passed_declares (one_passed imported exported n rest are) = passed_declares are

passed_hoists : {passed : Forest} → ArePassed passed → (aims : ℕ → Aims) (at : ℕ) → hoisted aims at passed ≡ []
passed_hoists none_passed aims at = refl
passed_hoists (one_passed imported exported n rest are) aims at = passed_hoists are aims (suc at)

pub new_refers : {source : List ℕ} {k : Kind} {below : Forest} → IsNew source k below → (n : Note) (rest : Forest) → referring (node k n below rest) ≡ referring rest
new_refers (new_names passed j are) n rest = ap (λ l. (l ++ []) ++ referring rest) (passed_refers are)
new_refers (new_namespace exported) n rest = refl

pub new_declares : {source : List ℕ} {k : Kind} {below : Forest} → IsNew source k below → (n : Note) (rest : Forest) → declaring (node k n below rest) ≡ declaring rest
new_declares (new_names passed j are) n rest = ap (λ l. (l ++ []) ++ declaring rest) (passed_declares are)
new_declares (new_namespace exported) n rest = refl

hoists_behind : (t : Forest) → hoisted (λ (i : ℕ). everywhere) 1 t ≡ in_program t
hoists_behind t = hoisted_even (λ i. everywhere) (λ i j. refl) 1 0 t

new_hoists : {source : List ℕ} {k : Kind} {below : Forest} → IsNew source k below → (n : Note) (rest : Forest) → in_program (node k n below rest) ≡ in_program rest
new_hoists (new_names passed j are) n rest = ap (λ l. (l ++ []) ++ hoisted (λ (i : ℕ). everywhere) 1 rest) (passed_hoists are (λ i. everywhere) 0) ∙ hoists_behind rest
new_hoists (new_namespace exported) n rest = hoists_behind rest

-- ---- so it may come in anywhere

module _ {source : List ℕ} {k : Kind} {below : Forest} (new : IsNew source k below) (n : Note) where
  abbrev with_new : Around → Forest
  with_new a = plug a (Some (a_tree k n below))

  same_tally : (w : Weight) (a : Around) → is_flat a ≡ true → tally w (with_new a) ≡ tally w (without a)
  same_tally w (first rest) flat = new_tally w new n rest
  same_tally w (behind j i b a) flat = Prim.omega (arith, same_tally w a flat)
  same_tally w (behind_none a) flat = same_tally w a flat
  same_tally w (under j i a rest) flat = absurd (true≢false (sym flat))

  same_refs : (g : Bound) (w : Weight) (a : Around) → is_flat a ≡ true → (at : ℕ) → refs g (λ i. w) at (with_new a) ≡ refs g (λ i. w) at (without a)
  same_refs g w (first rest) flat at = new_refs g w new n rest at ∙ refs_even g (λ i. w) (λ i j. refl) (suc at) at rest
  same_refs g w (behind j i b a) flat at = Prim.omega (arith, same_refs g w a flat (suc at))
  same_refs g w (behind_none a) flat at = same_refs g w a flat (suc at)
  same_refs g w (under j i a rest) flat at = absurd (true≢false (sym flat))

  same_over : (f : Parts → ℕ) (a : Around) → is_flat a ≡ true → over f (with_new a) ≡ over f (without a)
  same_over f (first rest) flat = new_over f new n rest
  same_over f (behind j i b a) flat = Prim.omega (arith, same_over f a flat)
  same_over f (behind_none a) flat = same_over f a flat
  same_over f (under j i a rest) flat = absurd (true≢false (sym flat))

  same_scopes : (C : Parts → Type 0) (a : Around) → is_flat a ≡ true → EachScope C (without a) → EachScope C (with_new a)
  same_scopes C (first rest) flat e = new_scopes C new n rest e
  same_scopes C (behind j i b a) flat e = (e.0, e.1, same_scopes C a flat e.2)
  same_scopes C (behind_none a) flat e = same_scopes C a flat e
  same_scopes C (under j i a rest) flat e = absurd (true≢false (sym flat))

  pub same_referring : (a : Around) → is_flat a ≡ true → referring (with_new a) ≡ referring (without a)
  same_referring (first rest) flat = new_refers new n rest
  same_referring (behind j i b a) flat = ap (λ l. (own_referring i j ++ referring b) ++ l) (same_referring a flat)
  same_referring (behind_none a) flat = same_referring a flat
  same_referring (under j i a rest) flat = absurd (true≢false (sym flat))

  pub same_declaring : (a : Around) → is_flat a ≡ true → declaring (with_new a) ≡ declaring (without a)
  same_declaring (first rest) flat = new_declares new n rest
  same_declaring (behind j i b a) flat = ap (λ l. (own_declaring i j ++ declaring b) ++ l) (same_declaring a flat)
  same_declaring (behind_none a) flat = same_declaring a flat
  same_declaring (under j i a rest) flat = absurd (true≢false (sym flat))

  same_hoists : (a : Around) → is_flat a ≡ true → in_program (with_new a) ≡ in_program (without a)
  same_hoists (first rest) flat = new_hoists new n rest
  same_hoists (behind j i b a) flat =
      ap (λ l. (named everywhere i j ++ hoisted (aims_inside no_part everywhere j b) 0 b) ++ l) (hoists_behind (with_new a) ∙ same_hoists a flat ∙ sym (hoists_behind (without a)))
  same_hoists (behind_none a) flat = hoists_behind (with_new a) ∙ same_hoists a flat ∙ sym (hoists_behind (without a))
  same_hoists (under j i a rest) flat = absurd (true≢false (sym flat))

  pub new_alike : (a : Around) → is_flat a ≡ true → IsAlike (without a) (with_new a)
  new_alike a flat = record {
    tally_same = λ w. same_tally w a flat;
    refs_same = λ g w. same_refs g w a flat 0;
    over_same = λ f. same_over f a flat;
    scopes = same_scopes Agree a flat;
    refers = same_referring a flat;
    declares = by_equal Any (declaring (with_new a)) (declaring (without a)) (same_declaring a flat);
    hoists = by_equal Any (in_program (with_new a)) (in_program (without a)) (same_hoists a flat);
  }

-- ---- the table

pub passed_keeps : (t u : Forest) → PassedExports t u → (table : Scoping) → IsKept table t → IsKept table u
passed_keeps _ _ (exports_pass n m names r s z passes free none) table kept =
    let listed = export_out passes in
    let e = export_in listed.out in
    let i = import_in passes in
    let old = subst (λ t. IsKept table (module_of n m t)) (sym e.there) kept in
    let left = subst (λ t. IsKept table (module_of n m t)) (e.gone ∙ sym i.there) (idle_leaves (in_module n m e.around) (an_export listed.listed e.note e.list_note) (export_declares_nothing listed.listed_are e.note e.list_note) refl (flat_listed e.around e.flat) table old) in
    let unseen = import_unseen n m i.around i.flat i.source i.note i.list_note i.names_are (subst (λ t. AreFree (module_of n m t) names) (sym i.there) free) in
    let both = unseen_leaves (in_module n m i.around) (an_import i.source names i.note i.list_note) unseen refl (flat_listed i.around i.flat) table left in
    subst (λ t. IsKept table (module_of n m t)) i.comes
    (alike_kept source_type.Module n m (without i.around) (plug i.around (Some (a_tree i.kind i.new_note i.below))) (new_alike i.new i.new_note i.around i.flat) table both)
