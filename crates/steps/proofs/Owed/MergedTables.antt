-- The table of scopes, symbols and references stays exact where two imports are one: the same names are declared and refer, with their marks.
use Rattle.std.proofs.Common.{◌≡◌, ◌∙◌, ℕ, suc, ◌+◌, List, [], ◌∷◌, ◌++◌, Bool, true, false, true≢false, if◌then◌else◌, append-nil, arith, refl, sym, ap}
use Rattle.js_syntax.specs.declared.node_kind.NodeKind.{NodeKind as Kind}
use Rattle.js_syntax.specs.declared.node_kind.NodeKind.TheVariants.{BindingName as binding_name}
use Rattle.js_syntax.specs.declared.scalar.SourceType.TheVariants as source_type
use Rattle.js_syntax.specs.Node.{Forest, Note, nothing, node, absent}
use Rattle.scope_rules.specs.Context.{opens}
use Rattle.scope_rules.specs.Table.{Scoping}
use Rattle.scope_counts.specs.Counts.{Bound, Weight, everywhere, no_part, aims_inside, named, hoisted, declared, refs, tally}
use Rattle.scope_counts.specs.Edits.{Even}
use Rattle.scope_counts.specs.Losing.{own_referring, referring, own_declaring, declaring, Plain}
use Rattle.scope_counts.specs.Scopes.{Parts, over, EachScope, Agree}
use Rattle.scope_counts.proofs.Leaving.{hoisted_even}
use Rattle.steps.specs.Steps.{binds_import}
use Rattle.steps.specs.Allowed.MergedImports.{as_named, WithoutImport, import_leaves, leaves_behind, MergesIn, merges_here, merges_behind, MergedImports, imports_merge}
use Rattle.steps.specs.Owed.Kept.{IsKept}
use Rattle.steps.proofs.Owed.AlikeTables.{Any, all_any, in_program, IsAlike, alike_kept}
use Rattle.steps.proofs.Owed.MergedRows.{AreNames, no_names, a_name, may, merged_are, Reads, reordered}
use Rattle.steps.proofs.Owed.MergedRuns.{Nothing, same_order}

-- ---- what binds names of imports makes no scope, and is no name itself

pub plain_import : (k : Kind) → binds_import k ≡ true → Plain k
plain_import (Kind.ImportSpecifier imported) h = record { opens_none = λ t. refl; aims_same = λ o a t i. refl; names_none = λ a n. refl; refers_none = λ w n. refl }
plain_import Kind.ImportDefaultSpecifier h = record { opens_none = λ t. refl; aims_same = λ o a t i. refl; names_none = λ a n. refl; refers_none = λ w n. refl }
plain_import Kind.ImportNamespaceSpecifier h = record { opens_none = λ t. refl; aims_same = λ o a t i. refl; names_none = λ a n. refl; refers_none = λ w n. refl }
plain_import k h = absurd (true≢false (sym h))

-- ---- what is summed over a row

module _ (w : Weight) where
  names_tally : {t : Forest} → AreNames t → tally w t ≡ 0
  names_tally no_names = refl
  names_tally (a_name k n m x rest h names) = Prim.omega (arith, (plain_import k h).refers_none w n, names_tally names)

  left_tally : {source : List ℕ} {names r s : Forest} → AreNames names → WithoutImport source names r s → tally w s ≡ tally w r
  left_tally names (import_leaves n m rest) = Prim.omega (arith, names_tally names)
  left_tally names (leaves_behind k n below r s out) = Prim.omega (arith, left_tally names out)

  pub merged_tally : {r s : Forest} → MergesIn r s → tally w s ≡ tally w r
  merged_tally (merges_here source n m names later r s h out) =
      let known = may names later h in
      Prim.omega (arith, names_tally known.names_are, names_tally (merged_are known.names_are known.later_are), left_tally known.later_are out)
  merged_tally (merges_behind k n below r s h) = Prim.omega (arith, merged_tally h)

-- of references, where all nodes of a row count alike
module _ (g : Bound) (w : Weight) where
  abbrev counted : ℕ → Forest → ℕ
  counted at t = refs g (λ i. w) at t

  names_refs : {t : Forest} (at : ℕ) → AreNames t → counted at t ≡ 0
  names_refs at no_names = refl
  names_refs at (a_name k n m x rest h names) = Prim.omega (arith, (plain_import k h).refers_none w n, names_refs (suc at) names)

  refs_anywhere : (i j : ℕ) (t : Forest) → counted i t ≡ counted j t
  refs_anywhere i j nothing = refl
  refs_anywhere i j (absent t) = refs_anywhere (suc i) (suc j) t
  refs_anywhere i j (node k n b t) = Prim.omega (arith, refs_anywhere (suc i) (suc j) t)

  left_refs : {source : List ℕ} {names r s : Forest} (at : ℕ) → AreNames names → WithoutImport source names r s → counted at s ≡ counted at r
  left_refs at names (import_leaves n m rest) = Prim.omega (arith, names_refs 0 names, refs_anywhere at (suc at) rest)
  left_refs at names (leaves_behind k n below r s out) = Prim.omega (arith, left_refs (suc at) names out)

  merged_refs : {r s : Forest} (at : ℕ) → MergesIn r s → counted at s ≡ counted at r
  merged_refs at (merges_here source n m names later r s h out) =
      let known = may names later h in
      Prim.omega (arith, names_refs 0 known.names_are, names_refs 0 (merged_are known.names_are known.later_are), left_refs (suc at) known.later_are out)
  merged_refs at (merges_behind k n below r s h) = Prim.omega (arith, merged_refs (suc at) h)

-- over scopes
module _ (f : Parts → ℕ) where
  names_over : {t : Forest} → AreNames t → over f t ≡ 0
  names_over no_names = refl
  names_over (a_name k n m x rest h names) = unopened (f (λ p. declared p k (node (binding_name x) m nothing nothing))) (over f rest) (opens k (node (binding_name x) m nothing nothing)) ((plain_import k h).opens_none (node (binding_name x) m nothing nothing)) (names_over names)
    where
      unopened : (i j : ℕ) (b : Bool) → b ≡ false → j ≡ 0 → (if b then i else 0) + 0 + j ≡ 0
      unopened i j true e z = absurd (true≢false e)
      unopened i j false e z = Prim.omega (arith, z)

  left_over : {source : List ℕ} {names r s : Forest} → AreNames names → WithoutImport source names r s → over f s ≡ over f r
  left_over names (import_leaves n m rest) = Prim.omega (arith, names_over names)
  left_over names (leaves_behind k n below r s out) = Prim.omega (arith, left_over names out)

  merged_over : {r s : Forest} → MergesIn r s → over f s ≡ over f r
  merged_over (merges_here source n m names later r s h out) =
      let known = may names later h in
      Prim.omega (arith, names_over known.names_are, names_over (merged_are known.names_are known.later_are), left_over known.later_are out)
  merged_over (merges_behind k n below r s h) = Prim.omega (arith, merged_over h)

module _ (C : Parts → Type 0) where
  names_scopes : {t : Forest} → AreNames t → EachScope C t
  names_scopes no_names = tt
  names_scopes (a_name k n m x rest h names) = (λ o. absurd (true≢false (sym o ∙ (plain_import k h).opens_none (node (binding_name x) m nothing nothing))), (λ o. absurd (true≢false (sym o)), tt, tt), names_scopes names)

  left_scopes : {source : List ℕ} {names r s : Forest} → WithoutImport source names r s → EachScope C r → EachScope C s
  left_scopes (import_leaves n m rest) e = e.2
  left_scopes (leaves_behind k n below r s out) e = (e.0, e.1, left_scopes out e.2)

  merged_scopes : {r s : Forest} → MergesIn r s → EachScope C r → EachScope C s
  merged_scopes (merges_here source n m names later r s h out) e =
      let known = may names later h in
      (λ o. absurd (true≢false (sym o)), (λ o. absurd (true≢false (sym o)), names_scopes (merged_are known.names_are known.later_are), tt), left_scopes out e.2)
  merged_scopes (merges_behind k n below r s h) e = (e.0, e.1, merged_scopes h e.2)

-- ---- what refers, and what is declared

no_references : {t : Forest} → AreNames t → referring t ≡ []
no_references no_names = refl
no_references (a_name (Kind.ImportSpecifier imported) n m x rest h names) = no_references names
no_references (a_name Kind.ImportDefaultSpecifier n m x rest h names) = no_references names
no_references (a_name Kind.ImportNamespaceSpecifier n m x rest h names) = no_references names
no_references (a_name k n m x rest h names) = absurd (true≢false (sym h))

pub reads_references : Reads Nothing referring (λ source t. [])
reads_references = record {
  one_first = λ k n below rest. ap (λ l. l ++ referring rest) (sym (append-nil (own_referring n k ++ referring below)));
  of_import = λ source n m all names. append-nil (referring all ++ []) ∙ append-nil (referring all) ∙ no_references names;
  no_names = λ source. refl;
  name_first = λ source k n below rest. refl;
  default_same = λ source k n below h. refl;
  each = λ source all names. tt;
}

default_declares : (n : Note) (k : Kind) (below : Forest) → binds_import k ≡ true → (own_declaring n (as_named k) ++ declaring below) ++ [] ≡ (own_declaring n k ++ declaring below) ++ []
default_declares n Kind.ImportDefaultSpecifier below h = refl
default_declares n k below h = refl

pub reads_declaring : Reads Any declaring (λ source t. declaring t)
reads_declaring = record {
  one_first = λ k n below rest. ap (λ l. l ++ declaring rest) (sym (append-nil (own_declaring n k ++ declaring below)));
  of_import = λ source n m all names. append-nil (declaring all ++ []) ∙ append-nil (declaring all);
  no_names = λ source. refl;
  name_first = λ source k n below rest. ap (λ l. l ++ declaring rest) (sym (append-nil (own_declaring n k ++ declaring below)));
  default_same = λ source k n below h. default_declares n k below h;
  each = λ source all names. all_any (declaring all);
}

everywhere_alike : Even (λ (i : ℕ). everywhere)
everywhere_alike i j = refl

default_hoists : (n : Note) (k : Kind) (below : Forest) → binds_import k ≡ true
    → (named everywhere n (as_named k) ++ hoisted (aims_inside no_part everywhere (as_named k) below) 0 below) ++ [] ≡ (named everywhere n k ++ hoisted (aims_inside no_part everywhere k below) 0 below) ++ []
default_hoists n Kind.ImportDefaultSpecifier below h = refl
default_hoists n k below h = refl

reads_program : Reads Any in_program (λ source t. in_program t)
reads_program = record {
  one_first = λ k n below rest.
      let own = named everywhere n k ++ hoisted (aims_inside no_part everywhere k below) 0 below in
      ap (λ l. own ++ l) (hoisted_even (λ i. everywhere) everywhere_alike 1 0 rest) ∙ ap (λ l. l ++ in_program rest) (sym (append-nil own));
  of_import = λ source n m all names. append-nil (in_program all ++ []) ∙ append-nil (in_program all);
  no_names = λ source. refl;
  name_first = λ source k n below rest.
      let own = named everywhere n k ++ hoisted (aims_inside no_part everywhere k below) 0 below in
      ap (λ l. own ++ l) (hoisted_even (λ i. everywhere) everywhere_alike 1 0 rest) ∙ ap (λ l. l ++ in_program rest) (sym (append-nil own));
  default_same = λ source k n below h. default_hoists n k below h;
  each = λ source all names. all_any (in_program all);
}

-- ---- the table

merged_alike : {r s : Forest} → MergesIn r s → IsAlike r s
merged_alike h = record {
  tally_same = λ w. merged_tally w h;
  refs_same = λ g w. merged_refs g w 0 h;
  over_same = λ f. merged_over f h;
  scopes = merged_scopes Agree h;
  refers = same_order (reordered reads_references h);
  declares = reordered reads_declaring h;
  hoists = reordered reads_program h;
}

pub merged_keeps : (t u : Forest) → MergedImports t u → (table : Scoping) → IsKept table t → IsKept table u
merged_keeps _ _ (imports_merge n m r s h none) table kept = alike_kept source_type.Module n m r s (merged_alike h) table kept
