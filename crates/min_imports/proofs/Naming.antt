-- To which exports the names of an import are bound, and what an export lists of them.
use Rattle.std.proofs.Common.{◌≡◌, ◌∙◌, ◌<◌, ◌≤◌, ◌+◌, ℕ, List, [], ◌∷◌, ◌++◌, Bool, true, false, ◌&&◌, cond, Option, Some, None, is_some, if◌then◌else◌, length, drop, get_or, refl, sym, ap, subst, arith}
use Rattle.std.specs.BTreeMap as tree
use Rattle.std.specs.BTreeMap.{BTreeMap}
use Rattle.std.specs.Cmp.Lexicographic.{slice_cmp}
use Rattle.std.specs.Map.{lookup}
use Rattle.std.specs.Ordering.{nat_cmp}
use Rattle.std.specs.Str.{bytes_eq}
use Rattle.std.proofs.lemmas.List.{drop_all}
use Rattle.std.proofs.lemmas.Map.Text.{is_eq-slice_cmp}
use Rattle.js_syntax.specs.declared.node_kind.NodeKind.{NodeKind as Kind}
use Rattle.js_syntax.specs.declared.node_kind.NodeKind.TheVariants.{Specifiers as specifiers, ImportDeclaration as import_declaration, ExportSpecifier as export_specifier}
use Rattle.js_syntax.specs.declared.value.ModuleName.{ModuleName}
use Rattle.js_syntax.specs.Node.{Tree, Forest, Note, nothing, node, absent, joined, forest_of, row}
use Rattle.js_tree.proofs.Rows.{front_of, joined_nothing, joined_assoc, row_push}
use Rattle.steps.specs.Allowed.PassedExports.{may_pass}
use Rattle.rules.specs.DeadCode.Rules.{Facts}
use Rattle.rules.specs.Imports.Passed.{are_passed_alone, imported, bound_in, and_passed, passed, namespace_passed, export_of, passed_on}
use Rattle.min_imports.specs.Merging.{imported_from}
use Rattle.min_imports.specs.Passing.{bound_below, is_text, imported_there, found_in, or_found, item_found, Bound, exported_as, reference_alone, exported_alone, is_namespace_alone, only_exported, list_among}
use denote.Ref.{Bor}

-- ---- names and their kinds

pub some_if : (b : Bool) (name : ModuleName) → b ≡ is_some (if b then Some name else None)
some_if true name = refl
some_if false name = refl

pub bound_first : (k : Kind) (n : Note) (b r : Forest) (x : List ℕ) → bound_in (node k n b r) x ≡ or_found (is_text (bound_below b) x) k (bound_in r x)
bound_first k n nothing r x = refl
bound_first k n (absent s) r x = refl
bound_first k n (node (Kind.BindingName y) m c d) r x = refl
bound_first k n (node l m c d) r x = refl

bound_each : (t : Option Tree) (ts : List (Option Tree)) (x : List ℕ) → bound_in (row (t ∷ ts)) x ≡ item_found t x (bound_in (row ts) x)
bound_each None ts x = refl
bound_each (Some t) ts x = bound_first t.kind t.note t.below (row ts) x

-- one more is put in
there_if : (e : Bool) (k : Bor Kind) (o : Option (Bor Kind)) (b : Bool) → b ≡ is_some (imported k.now) → b ≡ true → imported_there (cond e (Some k) o) ≡ or_found e k.now (imported_there o)
there_if true k o b is does = ap (λ c. if c then imported k.now else imported_there o) (sym does ∙ is)
there_if false k o b is does = refl

pub put_in : (text : Bor (List ℕ)) (k : Bor Kind) (m n : BTreeMap (Bor (List ℕ)) (Bor Kind)) (b : Bool) → b ≡ is_some (imported k.now) → b ≡ true → tree.Updates (λ x y. slice_cmp nat_cmp x.now y.now) m n text (Some k)
    → (x : List ℕ) → found_in n x ≡ or_found (bytes_eq text.now x) k.now (found_in m x)
put_in text k m n b is does updates x =
    ap imported_there (updates.0 (record { ref_ptr = (0, 0); now = x }) ∙ ap (λ e. cond e (Some k) (tree.get_by (λ l. slice_cmp nat_cmp x l.now) m)) (is_eq-slice_cmp text.now x))
    ∙ there_if (bytes_eq text.now x) k (tree.get_by (λ l. slice_cmp nat_cmp x l.now) m) b is does

pub put_not : (same : Bool) (k : Kind) (b : Bool) (o : Option ModuleName) → b ≡ is_some (imported k) → b ≡ false → o ≡ or_found same k o
put_not same k b o is isnt = by same ∙ ap (λ c. if same && c then imported k else o) (sym isnt ∙ is)
  where
    by : (s : Bool) → o ≡ (if s && false then imported k else o)
    by true = refl
    by false = refl

pub text_found : (o p : Option (List ℕ)) (k : Kind) (x : List ℕ) (r s : Option ModuleName) → o ≡ p → r ≡ or_found (is_text o x) k s → r ≡ or_found (is_text p x) k s
text_found o p k x r s is said = said ∙ ap (λ q. or_found (is_text q x) k s) is

-- ---- all names, from the last to the first

pub none_bound : (m : BTreeMap (Bor (List ℕ)) (Bor Kind)) (names : List (Option Tree)) (n : ℕ) → m.entries ≡ [] → n ≡ length names → Bound m (row (drop n names))
none_bound m names n is all = λ x. ap (λ l. imported_there (lookup (tree.is_at (λ k. slice_cmp nat_cmp x k.now)) l)) is ∙ ap (λ l. bound_in (row l) x) (sym (drop_all n names (Prim.omega (arith, all))))

pub more_bound : (m n : BTreeMap (Bor (List ℕ)) (Bor Kind)) (names : List (Option Tree)) (at was : ℕ) (t : Option Tree) → at + 1 ≡ was → was ≤ length names → t ≡ get_or names at t → ((x : List ℕ) → found_in n x ≡ item_found t x (found_in m x))
    → Bound m (row (drop was names)) → Bound n (row (drop at names))
more_bound m n names at was t next inside is put bound = λ x.
    put x
    ∙ ap (item_found t x) (bound x ∙ ap (λ i. bound_in (row (drop i names)) x) (sym next))
    ∙ sym (ap (λ l. bound_in (row l) x) (front_of names at t (Prim.omega (arith, next, inside)) is) ∙ bound_each t (drop (at + 1) names) x)

pub all_bound : (m : BTreeMap (Bor (List ℕ)) (Bor Kind)) (names : List (Option Tree)) (at : ℕ) → at ≡ 0 → Bound m (row (drop at names)) → Bound m (row names)
all_bound m names at is bound = subst (λ i. Bound m (row (drop i names))) is bound

-- ---- what an export lists

abbrev pub both_rows : Option Forest → Option Forest → Option Forest
both_rows (Some t) (Some u) = Some (joined t u)
both_rows o p = None

rows_none : (o : Option Forest) → both_rows o None ≡ None
rows_none None = refl
rows_none (Some t) = refl

passed_both : (exported : ModuleName) (n : Note) (o : Option ModuleName) (p : Option Forest) → and_passed exported n o p ≡ both_rows (and_passed exported n o (Some nothing)) p
passed_both exported n (Some name) (Some t) = refl
passed_both exported n (Some name) None = refl
passed_both exported n None (Some t) = refl
passed_both exported n None None = refl

pub passed_named : (names : Forest) (exported : ModuleName) (n : Note) (b r : Forest) (x : List ℕ) → reference_alone b ≡ Some x → passed names (node (export_specifier exported) n b r) ≡ and_passed exported n (bound_in names x) (passed names r)
passed_named names exported n nothing r x is = absurd cc
passed_named names exported n (absent s) r x is = absurd cc
passed_named names exported n (node (Kind.ReferenceName y) m nothing nothing) r x is = let same : y ≡ x = cc is in ap (λ z. and_passed exported n (bound_in names z) (passed names r)) same
passed_named names exported n (node (Kind.ReferenceName y) m (node k l c d) nothing) r x is = absurd cc
passed_named names exported n (node (Kind.ReferenceName y) m (absent c) nothing) r x is = absurd cc
passed_named names exported n (node (Kind.ReferenceName y) m c (node k l b d)) r x is = absurd cc
passed_named names exported n (node (Kind.ReferenceName y) m c (absent d)) r x is = absurd cc
passed_named names exported n (node k m c nothing) r x is = absurd cc
passed_named names exported n (node k m c (node l o b d)) r x is = absurd cc
passed_named names exported n (node k m c (absent d)) r x is = absurd cc

pub passed_unnamed : (names : Forest) (exported : ModuleName) (n : Note) (b r : Forest) → reference_alone b ≡ None → passed names (node (export_specifier exported) n b r) ≡ None
passed_unnamed names exported n nothing r is = refl
passed_unnamed names exported n (absent s) r is = refl
passed_unnamed names exported n (node (Kind.ReferenceName y) m nothing nothing) r is = absurd cc
passed_unnamed names exported n (node (Kind.ReferenceName y) m (node k l c d) nothing) r is = refl
passed_unnamed names exported n (node (Kind.ReferenceName y) m (absent c) nothing) r is = refl
passed_unnamed names exported n (node (Kind.ReferenceName y) m nothing (node k l b d)) r is = refl
passed_unnamed names exported n (node (Kind.ReferenceName y) m nothing (absent d)) r is = refl
passed_unnamed names exported n (node (Kind.ReferenceName y) m (node k l c e) (node o i b d)) r is = refl
passed_unnamed names exported n (node (Kind.ReferenceName y) m (node k l c e) (absent d)) r is = refl
passed_unnamed names exported n (node (Kind.ReferenceName y) m (absent c) (node o i b d)) r is = refl
passed_unnamed names exported n (node (Kind.ReferenceName y) m (absent c) (absent d)) r is = refl
passed_unnamed names exported n (node k m c d) r is = refl

pub no_export : (names : Forest) (k : Kind) (n : Note) (b r : Forest) → exported_as k ≡ None → passed names (node k n b r) ≡ None
no_export names (Kind.ExportSpecifier exported) n b r is = absurd cc
no_export names k n b r is = refl

-- one specifier, and more behind it
specifier_first : (names : Forest) (k : Kind) (n : Note) (b r : Forest) → passed names (node k n b r) ≡ both_rows (passed names (node k n b nothing)) (passed names r)
specifier_first names (Kind.ExportSpecifier exported) n b r = by (reference_alone b) refl
  where
    by : (o : Option (List ℕ)) → reference_alone b ≡ o → passed names (node (export_specifier exported) n b r) ≡ both_rows (passed names (node (export_specifier exported) n b nothing)) (passed names r)
    by (Some x) is = passed_named names exported n b r x is ∙ passed_both exported n (bound_in names x) (passed names r) ∙ ap (λ o. both_rows o (passed names r)) (sym (passed_named names exported n b nothing x is))
    by None is = passed_unnamed names exported n b r is ∙ ap (λ o. both_rows o (passed names r)) (sym (passed_unnamed names exported n b nothing is))
specifier_first names k n b r = refl

passed_first : (names : Forest) (t : Option Tree) (ts : List (Option Tree)) → passed names (row (t ∷ ts)) ≡ both_rows (passed names (row (t ∷ []))) (passed names (row ts))
passed_first names None ts = refl
passed_first names (Some x) ts = specifier_first names x.kind x.note x.below (row ts)

-- so far they are these, and what is listed behind comes to them
module _ (bound : BTreeMap (Bor (List ℕ)) (Bor Kind)) (ts : List (Option Tree)) where
  abbrev pub SoFar : ℕ → List (Option Tree) → Type 0
  SoFar i names = (later : Forest) → Bound bound later → both_rows (Some (row names)) (passed later (row (drop i ts))) ≡ passed later (row ts)

  pub none_so_far : (names : List (Option Tree)) → names ≡ [] → SoFar 0 names
  none_so_far names is later told = ap (λ l. both_rows (Some (row l)) (passed later (row ts))) is ∙ by (passed later (row ts))
    where
      by : (o : Option Forest) → both_rows (Some nothing) o ≡ o
      by None = refl
      by (Some t) = refl

  next : (later : Forest) (i : ℕ) (t : Option Tree) → i < length ts → t ≡ get_or ts i t → passed later (row (drop i ts)) ≡ both_rows (passed later (row (t ∷ []))) (passed later (row (drop (i + 1) ts)))
  next later i t h is = ap (λ l. passed later (row l)) (front_of ts i t h is) ∙ passed_first later t (drop (i + 1) ts)

  pub one_more : (i : ℕ) (t : Option Tree) (names more : List (Option Tree)) (x : Tree) → i < length ts → t ≡ get_or ts i t → ((later : Forest) → Bound bound later → Some (forest_of x) ≡ passed later (row (t ∷ []))) → more ≡ names ++ Some x ∷ []
      → SoFar i names → SoFar (i + 1) more
  one_more i t names more x h is said put so later told =
      ap (λ l. both_rows (Some (row l)) (passed later (row (drop (i + 1) ts)))) put
      ∙ ap (λ u. both_rows (Some u) (passed later (row (drop (i + 1) ts)))) (row_push names (Some x))
      ∙ by (passed later (row (drop (i + 1) ts)))
      ∙ ap (λ o. both_rows (Some (row names)) (both_rows o (passed later (row (drop (i + 1) ts))))) (said later told)
      ∙ ap (both_rows (Some (row names))) (sym (next later i t h is))
      ∙ so later told
    where
      by : (o : Option Forest) → both_rows (Some (joined (row names) (forest_of x))) o ≡ both_rows (Some (row names)) (both_rows (Some (forest_of x)) o)
      by None = refl
      by (Some u) = ap Some (joined_assoc (row names) (forest_of x) u)

  pub one_fails : (i : ℕ) (t : Option Tree) (names : List (Option Tree)) → i < length ts → t ≡ get_or ts i t → ((later : Forest) → Bound bound later → (let none : Option Forest = None in none ≡ passed later (row (t ∷ [])))) → SoFar i names
      → (later : Forest) → Bound bound later → (let none : Option Forest = None in none ≡ passed later (row ts))
  one_fails i t names h is said so later told =
      ap (λ o. both_rows (Some (row names)) (both_rows o (passed later (row (drop (i + 1) ts))))) (said later told) ∙ ap (both_rows (Some (row names))) (sym (next later i t h is)) ∙ so later told

  pub all_so : (i : ℕ) (names : List (Option Tree)) → length ts ≤ i → SoFar i names → (later : Forest) → Bound bound later → Some (row names) ≡ passed later (row ts)
  all_so i names all so later told = ap Some (sym (joined_nothing (row names))) ∙ ap (λ l. both_rows (Some (row names)) (passed later (row l))) (sym (drop_all i ts all)) ∙ so later told

-- a name that is found, or isn't
module _ (bound : BTreeMap (Bor (List ℕ)) (Bor Kind)) (x : Tree) (exported : ModuleName) (is : exported_as x.kind ≡ Some exported) where
  kind_is : (k : Kind) → exported_as k ≡ Some exported → k ≡ export_specifier exported
  kind_is (Kind.ExportSpecifier other) e = let same : other ≡ exported = cc e in ap export_specifier same
  kind_is k e = absurd cc

  pub unnamed : reference_alone x.below ≡ None → (later : Forest) → Bound bound later → (let none : Option Forest = None in none ≡ passed later (forest_of x))
  unnamed none later told = sym (ap (λ k. passed later (node k x.note x.below nothing)) (kind_is x.kind is) ∙ passed_unnamed later exported x.note x.below nothing none)

  named : (text : List ℕ) → reference_alone x.below ≡ Some text → (later : Forest) → passed later (forest_of x) ≡ and_passed exported x.note (bound_in later text) (Some nothing)
  named text some later = ap (λ k. passed later (node k x.note x.below nothing)) (kind_is x.kind is) ∙ passed_named later exported x.note x.below nothing text some

  pub not_found : (text : List ℕ) → reference_alone x.below ≡ Some text → tree.get_by (λ k. slice_cmp nat_cmp text k.now) bound ≡ None → (later : Forest) → Bound bound later → (let none : Option Forest = None in none ≡ passed later (forest_of x))
  not_found text some none later told = sym (named text some later ∙ ap (λ o. and_passed exported x.note o (Some nothing)) (sym (told text) ∙ ap imported_there none))

  pub is_found : (text : List ℕ) (k : Bor Kind) (o : Option Forest) → reference_alone x.below ≡ Some text → tree.get_by (λ l. slice_cmp nat_cmp text l.now) bound ≡ Some k → o ≡ and_passed exported x.note (imported k.now) (Some nothing) → (later : Forest) → Bound bound later → o ≡ passed later (forest_of x)
  is_found text k o some there said later told = said ∙ sym (named text some later ∙ ap (λ q. and_passed exported x.note q (Some nothing)) (sym (told text) ∙ ap imported_there there))

-- ---- a namespace

namespace_alone : (n : Note) (b listed : Forest) → namespace_passed (node Kind.ImportNamespaceSpecifier n b nothing) listed ≡ only_exported listed
namespace_alone n b nothing = refl
namespace_alone n b (absent r) = refl
namespace_alone n b (node k i c (absent r)) = no_rest k c
  where
    no_rest : (l : Kind) (d : Forest) → namespace_passed (node Kind.ImportNamespaceSpecifier n b nothing) (node l i d (absent r)) ≡ None
    no_rest (Kind.ExportSpecifier exported) nothing = refl
    no_rest (Kind.ExportSpecifier exported) (absent s) = refl
    no_rest (Kind.ExportSpecifier exported) (node (Kind.ReferenceName y) j nothing nothing) = refl
    no_rest (Kind.ExportSpecifier exported) (node (Kind.ReferenceName y) j nothing (absent s)) = refl
    no_rest (Kind.ExportSpecifier exported) (node (Kind.ReferenceName y) j nothing (node m o e s)) = refl
    no_rest (Kind.ExportSpecifier exported) (node (Kind.ReferenceName y) j (absent s) t) = refl
    no_rest (Kind.ExportSpecifier exported) (node (Kind.ReferenceName y) j (node m o e s) t) = refl
    no_rest (Kind.ExportSpecifier exported) (node m j e s) = refl
    no_rest l d = refl
namespace_alone n b (node k i c (node l j d r)) = no_rest k c
  where
    no_rest : (o : Kind) (e : Forest) → namespace_passed (node Kind.ImportNamespaceSpecifier n b nothing) (node o i e (node l j d r)) ≡ None
    no_rest (Kind.ExportSpecifier exported) nothing = refl
    no_rest (Kind.ExportSpecifier exported) (absent s) = refl
    no_rest (Kind.ExportSpecifier exported) (node (Kind.ReferenceName y) m nothing nothing) = refl
    no_rest (Kind.ExportSpecifier exported) (node (Kind.ReferenceName y) m nothing (absent s)) = refl
    no_rest (Kind.ExportSpecifier exported) (node (Kind.ReferenceName y) m nothing (node p q f s)) = refl
    no_rest (Kind.ExportSpecifier exported) (node (Kind.ReferenceName y) m (absent s) t) = refl
    no_rest (Kind.ExportSpecifier exported) (node (Kind.ReferenceName y) m (node p q f s) t) = refl
    no_rest (Kind.ExportSpecifier exported) (node p m f s) = refl
    no_rest o e = refl
namespace_alone n b (node k i c nothing) = by k c
  where
    by : (l : Kind) (d : Forest) → namespace_passed (node Kind.ImportNamespaceSpecifier n b nothing) (node l i d nothing) ≡ exported_alone l d
    by (Kind.ExportSpecifier exported) nothing = refl
    by (Kind.ExportSpecifier exported) (absent s) = refl
    by (Kind.ExportSpecifier exported) (node (Kind.ReferenceName y) j nothing nothing) = refl
    by (Kind.ExportSpecifier exported) (node (Kind.ReferenceName y) j nothing (absent s)) = refl
    by (Kind.ExportSpecifier exported) (node (Kind.ReferenceName y) j nothing (node m o e s)) = refl
    by (Kind.ExportSpecifier exported) (node (Kind.ReferenceName y) j (absent s) nothing) = refl
    by (Kind.ExportSpecifier exported) (node (Kind.ReferenceName y) j (absent s) (absent t)) = refl
    by (Kind.ExportSpecifier exported) (node (Kind.ReferenceName y) j (absent s) (node m o e t)) = refl
    by (Kind.ExportSpecifier exported) (node (Kind.ReferenceName y) j (node m o e s) nothing) = refl
    by (Kind.ExportSpecifier exported) (node (Kind.ReferenceName y) j (node m o e s) (absent t)) = refl
    by (Kind.ExportSpecifier exported) (node (Kind.ReferenceName y) j (node m o e s) (node p q f t)) = refl
    by (Kind.ExportSpecifier exported) (node m j e nothing) = refl
    by (Kind.ExportSpecifier exported) (node m j e (absent s)) = refl
    by (Kind.ExportSpecifier exported) (node m j e (node o q f s)) = refl
    by l d = none (is_some (reference_alone d)) l
      where
        none : (t : Bool) (p : Kind) → (let o : Option ModuleName = None in o ≡ (if t then o else o))
        none true p = refl
        none false p = refl

pub namespace_so : (names listed : Forest) (b : Bool) → b ≡ is_namespace_alone names → b ≡ true → only_exported listed ≡ namespace_passed names listed
namespace_so (node Kind.ImportNamespaceSpecifier n c nothing) listed b is does = sym (namespace_alone n c listed)
namespace_so names listed b is does = absurd cc

pub namespace_not : (names listed : Forest) (b : Bool) → b ≡ is_namespace_alone names → b ≡ false → (let none : Option ModuleName = None in none ≡ namespace_passed names listed)
namespace_not (node Kind.ImportNamespaceSpecifier n c nothing) listed b is isnt = absurd cc
namespace_not names listed b is isnt = refl

two_specifiers : (k : Kind) (n : Note) (b : Forest) (y : Option Tree) (ts : List (Option Tree)) → (let none : Option ModuleName = None in none ≡ only_exported (node k n b (row (y ∷ ts))))
two_specifiers k n b None ts = refl
two_specifiers k n b (Some y) ts = refl

pub several_specifiers : (ts : List (Option Tree)) → 2 ≤ length ts → (let none : Option ModuleName = None in none ≡ only_exported (row ts))
several_specifiers [] h = absurd (Prim.omega (arith, h))
several_specifiers (None ∷ ts) h = refl
several_specifiers (Some x ∷ []) h = absurd (Prim.omega (arith, h))
several_specifiers (Some x ∷ y ∷ ts) h = two_specifiers x.kind x.note x.below y ts

two_references : (k : Kind) (n : Note) (b : Forest) (y : Option Tree) (ts : List (Option Tree)) → (let none : Option (List ℕ) = None in none ≡ reference_alone (node k n b (row (y ∷ ts))))
two_references k n b None ts = refl
two_references k n b (Some y) ts = refl

pub several_references : (ts : List (Option Tree)) → 2 ≤ length ts → (let none : Option (List ℕ) = None in none ≡ reference_alone (row ts))
several_references [] h = absurd (Prim.omega (arith, h))
several_references (None ∷ ts) h = refl
several_references (Some x ∷ []) h = absurd (Prim.omega (arith, h))
several_references (Some x ∷ y ∷ ts) h = two_references x.kind x.note x.below y ts

two_names : (k : Kind) (n : Note) (b : Forest) (y : Option Tree) (ts : List (Option Tree)) → false ≡ is_namespace_alone (node k n b (row (y ∷ ts)))
two_names Kind.ImportNamespaceSpecifier n b None ts = refl
two_names Kind.ImportNamespaceSpecifier n b (Some y) ts = refl
two_names k n b None ts = refl
two_names k n b (Some y) ts = refl

pub several_names : (ts : List (Option Tree)) → 2 ≤ length ts → false ≡ is_namespace_alone (row ts)
several_names [] h = absurd (Prim.omega (arith, h))
several_names (None ∷ ts) h = refl
several_names (Some x ∷ []) h = absurd (Prim.omega (arith, h))
several_names (Some x ∷ y ∷ ts) h = two_names x.kind x.note x.below y ts

two_lists : (k : Kind) (n : Note) (b : Forest) (y : Option Tree) (ts : List (Option Tree)) → (let none : Option Tree = None in none ≡ list_among (node k n b (row (y ∷ ts))))
two_lists k n b None ts = refl
two_lists k n b (Some y) ts = refl

pub several_lists : (ts : List (Option Tree)) → 2 ≤ length ts → (let none : Option Tree = None in none ≡ list_among (row ts))
several_lists [] h = absurd (Prim.omega (arith, h))
several_lists (None ∷ ts) h = refl
several_lists (Some x ∷ []) h = absurd (Prim.omega (arith, h))
several_lists (Some x ∷ y ∷ ts) h = two_lists x.kind x.note x.below y ts

-- ---- an import

module _ (f : Facts) (listed : Forest) where
  pub no_import : (k : Kind) (n : Note) (b : Forest) → imported_from k ≡ None → (let none : Option Tree = None in none ≡ passed_on f listed k n b)
  no_import (Kind.ImportDeclaration source) n b is = absurd cc
  no_import k n b is = refl

  list_none : (source : List ℕ) (n : Note) (b : Forest) → list_among b ≡ None → (let none : Option Tree = None in none ≡ passed_on f listed (import_declaration source) n b)
  list_none source n nothing is = refl
  list_none source n (absent r) is = refl
  list_none source n (node Kind.Specifiers m names nothing) is = absurd cc
  list_none source n (node Kind.Specifiers m names (absent r)) is = refl
  list_none source n (node Kind.Specifiers m names (node k i c r)) is = refl
  list_none source n (node k m names r) is = refl

  pub no_list : (source : List ℕ) (k : Kind) (n : Note) (b : Forest) → imported_from k ≡ Some source → list_among b ≡ None → (let none : Option Tree = None in none ≡ passed_on f listed k n b)
  no_list source (Kind.ImportDeclaration other) n b is none = list_none other n b none
  no_list source k n b is none = absurd cc

  list_there : (source : List ℕ) (n : Note) (b : Forest) (t : Tree) → list_among b ≡ Some t
      → passed_on f listed (import_declaration source) n b ≡ (if may_pass t.below listed && are_passed_alone f listed t.below then export_of source n t.note (namespace_passed t.below listed) (passed t.below listed) else None)
  list_there source n nothing t is = absurd cc
  list_there source n (absent r) t is = absurd cc
  list_there source n (node Kind.Specifiers m names nothing) t is =
      let same : t ≡ record { kind = specifiers; note = m; below = names } = cc (sym is) in
      ap (λ (z : Tree). if may_pass z.below listed && are_passed_alone f listed z.below then export_of source n z.note (namespace_passed z.below listed) (passed z.below listed) else None) (sym same)
  list_there source n (node Kind.Specifiers m names (absent r)) t is = absurd cc
  list_there source n (node Kind.Specifiers m names (node k i c r)) t is = absurd cc
  list_there source n (node k m names nothing) t is = absurd cc
  list_there source n (node k m names (absent r)) t is = absurd cc
  list_there source n (node k m names (node l i c r)) t is = absurd cc

  abbrev pub exported : (source : List ℕ) (n : Note) → Tree → Bool → Option Tree
  exported source n t b = if b then export_of source n t.note (namespace_passed t.below listed) (passed t.below listed) else None

  pub import_so : (source : List ℕ) (k : Kind) (n : Note) (b : Forest) (t : Tree) (c : Bool) → imported_from k ≡ Some source → list_among b ≡ Some t → c ≡ may_pass t.below listed && are_passed_alone f listed t.below → exported source n t c ≡ passed_on f listed k n b
  import_so source (Kind.ImportDeclaration other) n b t c is there said =
      let same : other ≡ source = cc is in ap (exported source n t) said ∙ ap (λ s. exported s n t (may_pass t.below listed && are_passed_alone f listed t.below)) (sym same) ∙ sym (list_there other n b t there)
  import_so source k n b t c is there said = absurd cc
