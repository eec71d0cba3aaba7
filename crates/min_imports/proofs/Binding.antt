-- Which imports bind a name, and that none passes names on that doesn't bind the first that is listed.
use Rattle.std.proofs.Common.{◌≡◌, ◌∙◌, ◌<◌, ◌≤◌, ◌+◌, ℕ, List, [], ◌∷◌, Bool, true, false, true≢false, ◌&&◌, ◌||◌, cond, Option, Some, None, is_some, if◌then◌else◌, length, drop, get_or, refl, sym, ap, arith}
use Rattle.std.specs.BTreeMap as tree
use Rattle.std.specs.BTreeMap.{BTreeMap}
use Rattle.std.specs.Cmp.Lexicographic.{slice_cmp}
use Rattle.std.specs.Ordering.{nat_cmp}
use Rattle.std.specs.Str.{bytes_eq}
use Rattle.std.proofs.lemmas.Bool.{and_parts}
use Rattle.std.proofs.lemmas.List.{drop_all}
use Rattle.std.proofs.lemmas.Map.Text.{is_eq-slice_cmp}
use Rattle.std.proofs.lemmas.Slice.Eq.{bytes_eq-Decides}
use Rattle.js_syntax.specs.declared.node_kind.NodeKind.{NodeKind as Kind}
use Rattle.js_syntax.specs.declared.node_kind.NodeKind.TheVariants.{Specifiers as specifiers, BindingName as binding_name, ImportDeclaration as import_declaration, ExportSpecifier as export_specifier, ExportNamedDeclaration as export_named_declaration}
use Rattle.js_syntax.specs.declared.value.ModuleName.{ModuleName}
use Rattle.js_syntax.specs.Node.{Tree, Forest, Note, nothing, node, absent, joined, row}
use Rattle.js_syntax.proofs.Truth.{or_false, first_of_neither, second_of_neither}
use Rattle.js_tree.proofs.Rows.{front_of}
use Rattle.js_tree.proofs.Search.{AsksEach}
use Rattle.steps.specs.Steps.{binds_import}
use Rattle.steps.specs.Allowed.MergedImports.{is_one_name, are_names}
use Rattle.steps.specs.Allowed.PassedExports.{lists, lists_each, may_pass}
use Rattle.steps.specs.Allowed.Places.{has_node}
use Rattle.rules.specs.DeadCode.Rules.{Facts}
use Rattle.rules.specs.Imports.Passed.{are_passed_alone, bound_in, and_passed, passed, namespace_passed, export_of, passed_on, passed_among, passed_before, one_passes}
use Rattle.min_imports.specs.declared.passing.Within.{Within}
use Rattle.min_imports.specs.Merging.{is_import, imported_from, names_of, is_missing, or_changed}
use Rattle.min_imports.specs.Passing.{bound_below, bound_text, listed_below, is_text, or_found, names_bind, imports_names, names_in, item_binds, is_plain, exports_names, specifiers_of, item_exports, has_export, stretch, widened, widened_if, Covered, first_text, is_namespace_alone, only_exported, exported_as, exported_alone, reference_alone, item_passed_on, passes_at, imports}
use Rattle.min_imports.proofs.Listing.{lists_first}
use Rattle.min_imports.proofs.Naming.{bound_first, passed_named, passed_unnamed, namespace_so, namespace_not}
use denote.Ref.{Bor}

-- ---- exports of names alone

pub specifiers_here : (k : Kind) (n : Note) (t : Forest) → k ≡ specifiers → Some t ≡ specifiers_of (absent (node k n t nothing))
specifiers_here k n t is = ap (λ l. specifiers_of (absent (node l n t nothing))) (sym is)

two_behind : (k : Kind) (n : Note) (b : Forest) (y : Option Tree) (ts : List (Option Tree)) → (let none : Option Forest = None in none ≡ specifiers_of (absent (node k n b (row (y ∷ ts)))))
two_behind Kind.Specifiers n b None ts = refl
two_behind Kind.Specifiers n b (Some y) ts = refl
two_behind k n b None ts = refl
two_behind k n b (Some y) ts = refl

pub several_behind : (ts : List (Option Tree)) → 3 ≤ length ts → (let none : Option Forest = None in none ≡ specifiers_of (row ts))
several_behind [] h = absurd (Prim.omega (arith, h))
several_behind (Some x ∷ ts) h = refl
several_behind (None ∷ []) h = absurd (Prim.omega (arith, h))
several_behind (None ∷ None ∷ ts) h = refl
several_behind (None ∷ Some x ∷ []) h = absurd (Prim.omega (arith, h))
several_behind (None ∷ Some x ∷ y ∷ ts) h = two_behind x.kind x.note x.below y ts

plain_so : (b : Forest) → specifiers_of b ≡ exports_names (export_named_declaration None) b
plain_so nothing = refl
plain_so (node k n c r) = refl
plain_so (absent nothing) = refl
plain_so (absent (absent r)) = refl
plain_so (absent (node Kind.Specifiers m t nothing)) = refl
plain_so (absent (node Kind.Specifiers m t (node k n c r))) = refl
plain_so (absent (node Kind.Specifiers m t (absent r))) = refl
plain_so (absent (node k m t r)) = refl

pub plain_there : (k : Kind) (b : Forest) → is_plain k ≡ true → specifiers_of b ≡ exports_names k b
plain_there (Kind.ExportNamedDeclaration None) b is = plain_so b
plain_there (Kind.ExportNamedDeclaration (Some source)) b is = absurd (true≢false (sym is))
plain_there k b is = absurd (true≢false (sym is))

pub plain_not : (k : Kind) (b : Forest) → is_plain k ≡ false → (let none : Option Forest = None in none ≡ exports_names k b)
plain_not (Kind.ExportNamedDeclaration None) b is = absurd (true≢false is)
plain_not (Kind.ExportNamedDeclaration (Some source)) b is = refl
plain_not k b is = refl

pub exports_each : AsksEach has_export
exports_each None ts = refl
exports_each (Some x) ts = ap (λ b. b || has_export (row ts)) (sym (or_false (is_some (exports_names x.kind x.below))))

pub one_exports : (t : Option Tree) → has_export (row (t ∷ [])) ≡ item_exports t
one_exports None = refl
one_exports (Some x) = or_false (is_some (exports_names x.kind x.below))

module _ (f : Facts) (before : Forest) where
  exported_not : (b : Forest) → exports_names (export_named_declaration None) b ≡ None → passed_before f before (export_named_declaration None) b ≡ None
  exported_not nothing is = refl
  exported_not (node k n c r) is = refl
  exported_not (absent nothing) is = refl
  exported_not (absent (absent r)) is = refl
  exported_not (absent (node Kind.Specifiers m t nothing)) is = absurd cc
  exported_not (absent (node Kind.Specifiers m t (node k n c r))) is = refl
  exported_not (absent (node Kind.Specifiers m t (absent r))) is = refl
  exported_not (absent (node k m t r)) is = refl

  pub exports_not : (k : Kind) (b : Forest) → exports_names k b ≡ None → passed_before f before k b ≡ None
  exports_not (Kind.ExportNamedDeclaration None) b is = exported_not b is
  exports_not (Kind.ExportNamedDeclaration (Some source)) b is = refl
  exports_not k b is = refl

  exported_there : (b t : Forest) → exports_names (export_named_declaration None) b ≡ Some t → passed_before f before (export_named_declaration None) b ≡ passed_among f t before
  exported_there nothing t is = absurd cc
  exported_there (node k n c r) t is = absurd cc
  exported_there (absent nothing) t is = absurd cc
  exported_there (absent (absent r)) t is = absurd cc
  exported_there (absent (node Kind.Specifiers m u nothing)) t is = let same : u ≡ t = cc is in ap (λ z. passed_among f z before) same
  exported_there (absent (node Kind.Specifiers m u (node k n c r))) t is = absurd cc
  exported_there (absent (node Kind.Specifiers m u (absent r))) t is = absurd cc
  exported_there (absent (node k m u nothing)) t is = absurd cc
  exported_there (absent (node k m u (node l n c r))) t is = absurd cc
  exported_there (absent (node k m u (absent r))) t is = absurd cc

  pub exports_there : (k : Kind) (b t : Forest) → exports_names k b ≡ Some t → passed_before f before k b ≡ passed_among f t before
  exports_there (Kind.ExportNamedDeclaration None) b t is = exported_there b t is
  exports_there (Kind.ExportNamedDeclaration (Some source)) b t is = absurd cc
  exports_there k b t is = absurd cc

some_not : (o : Option Forest) → is_some o ≡ false → o ≡ None
some_not None e = refl
some_not (Some t) e = absurd (true≢false e)

-- where there is none, none goes
pub none_exported : (f : Facts) (before t : Forest) → has_export t ≡ false → one_passes f before t ≡ false
none_exported f before nothing h = refl
none_exported f before (absent r) h = refl
none_exported f before (node k n b r) h =
    ap (λ o. is_some o || one_passes f (joined before (node k n b nothing)) r) (exports_not f before k b (some_not (exports_names k b) (first_of_neither (is_some (exports_names k b)) (has_export r) h)))
    ∙ none_exported f (joined before (node k n b nothing)) r (second_of_neither (is_some (exports_names k b)) (has_export r) h)

-- ---- the names of an import

names_so : (source : List ℕ) (b : Forest) → names_of b ≡ imports_names (import_declaration source) b
names_so source nothing = refl
names_so source (absent r) = refl
names_so source (node Kind.Specifiers m t nothing) = refl
names_so source (node Kind.Specifiers m t (node k n c r)) = refl
names_so source (node Kind.Specifiers m t (absent r)) = refl
names_so source (node k m t r) = refl

pub names_there : (source : List ℕ) (k : Kind) (b : Forest) → imported_from k ≡ Some source → names_of b ≡ imports_names k b
names_there source (Kind.ImportDeclaration other) b is = names_so other b
names_there source k b is = absurd cc

pub names_not : (k : Kind) (b : Forest) → imported_from k ≡ None → (let none : Option Forest = None in none ≡ imports_names k b)
names_not (Kind.ImportDeclaration other) b is = absurd cc
names_not k b is = refl

pub no_names : (k : Kind) (b : Forest) → is_import k ≡ false → names_in k b ≡ nothing
no_names (Kind.ImportDeclaration other) b is = absurd (true≢false is)
no_names k b is = refl

-- ---- where they stand

pub put_there : (text : Bor (List ℕ)) (m n : BTreeMap (Bor (List ℕ)) Within) (w : Within) (at : ℕ) → w ≡ widened (stretch m text.now) at → tree.Updates (λ x y. slice_cmp nat_cmp x.now y.now) m n text (Some w)
    → (x : List ℕ) → stretch n x ≡ widened_if (bytes_eq text.now x) (stretch m x) at
put_there text m n w at is updates x = updates.0 (record { ref_ptr = (0, 0); now = x }) ∙ ap (λ b. cond b (Some w) (stretch m x)) (is_eq-slice_cmp text.now x) ∙ by (bytes_eq text.now x) refl
  where
    by : (b : Bool) → bytes_eq text.now x ≡ b → cond b (Some w) (stretch m x) ≡ widened_if b (stretch m x) at
    by true same = ap Some (is ∙ ap (λ q. widened (stretch m q) at) ((bytes_eq-Decides text.now x).0 same))
    by false same = refl

pub text_there : (o p : Option (List ℕ)) (x : List ℕ) (s t : Option Within) (at : ℕ) → o ≡ p → t ≡ widened_if (is_text o x) s at → t ≡ widened_if (is_text p x) s at
text_there o p x s t at is said = said ∙ ap (λ q. widened_if (is_text q x) s at) is

twice : (a b : Bool) (s : Option Within) (at : ℕ) → widened_if b (widened_if a s at) at ≡ widened_if (a || b) s at
twice true true None at = refl
twice true true (Some w) at = refl
twice true false s at = refl
twice false b s at = refl

first_binds : (t : Option Tree) (ts : List (Option Tree)) (x : List ℕ) → names_bind (row (t ∷ ts)) x ≡ is_text (bound_text t) x || names_bind (row ts) x
first_binds None ts x = refl
first_binds (Some t) ts x = refl

module _ (first : BTreeMap (Bor (List ℕ)) Within) (names : List (Option Tree)) (at : ℕ) where
  -- with the names behind an index, all are there
  abbrev pub Adding : ℕ → BTreeMap (Bor (List ℕ)) Within → Type 0
  Adding i m = (x : List ℕ) → widened_if (names_bind (row (drop i names)) x) (stretch m x) at ≡ widened_if (names_bind (row names) x) (stretch first x) at

  pub adding_more : (i : ℕ) (t : Option Tree) (m n : BTreeMap (Bor (List ℕ)) Within) → i < length names → t ≡ get_or names i t → ((x : List ℕ) → stretch n x ≡ widened_if (is_text (bound_text t) x) (stretch m x) at) → Adding i m → Adding (i + 1) n
  adding_more i t m n h is put so x =
      ap (λ s. widened_if (names_bind (row (drop (i + 1) names)) x) s at) (put x)
      ∙ twice (is_text (bound_text t) x) (names_bind (row (drop (i + 1) names)) x) (stretch m x) at
      ∙ ap (λ b. widened_if b (stretch m x) at) (sym (ap (λ l. names_bind (row l) x) (front_of names i t h is) ∙ first_binds t (drop (i + 1) names) x))
      ∙ so x

  pub added : (i : ℕ) (m : BTreeMap (Bor (List ℕ)) Within) → length names ≤ i → Adding i m → Covered first m (row names) at
  added i m all so x = ap (λ l. widened_if (names_bind (row l) x) (stretch m x) at) (sym (drop_all i names all)) ∙ so x

-- ---- an import passes names on that binds the first that is listed

bound_binds : (names : Forest) (x : List ℕ) (o : ModuleName) → bound_in names x ≡ Some o → names_bind names x ≡ true
bound_binds nothing x o is = absurd cc
bound_binds (absent r) x o is = bound_binds r x o is
bound_binds (node k n b r) x o is = by (is_text (bound_below b) x) (sym (bound_first k n b r x) ∙ is) (λ h. bound_binds r x o h)
  where
    by : (c : Bool) → or_found c k (bound_in r x) ≡ Some o → (bound_in r x ≡ Some o → names_bind r x ≡ true) → c || names_bind r x ≡ true
    by true h rest = refl
    by false h rest = rest h

pub record First (names listed : Forest) : Type 0 where
  pub text : List ℕ
  pub first : first_text listed ≡ Some text
  pub bound : names_bind names text ≡ true

bound_some : (exported : ModuleName) (n : Note) (o : Option ModuleName) (p : Option Forest) (u : Forest) → and_passed exported n o p ≡ Some u → (name : ModuleName) × (o ≡ Some name)
bound_some exported n (Some name) (Some t) u is = (name, refl)
bound_some exported n (Some name) None u is = absurd cc
bound_some exported n None (Some t) u is = absurd cc
bound_some exported n None None u is = absurd cc

names_there_none : (t : Forest) → may_pass t nothing ≡ true → ⊥
names_there_none nothing h = true≢false (sym h)
names_there_none (absent r) h = true≢false (sym (and_parts false (lists_each nothing r) (and_parts (has_node r) (false && lists_each nothing r) h).1).0)
names_there_none (node k n (node (Kind.BindingName z) m c d) r) h =
    let o = and_parts (are_names (node k n (node (binding_name z) m c d) r)) (lists_each nothing (node k n (node (binding_name z) m c d) r)) h in true≢false (sym o.1)
names_there_none (node k n b r) h = no_name k b r (and_parts (are_names (node k n b r)) (lists_each nothing (node k n b r)) h).0 refl
  where
    no_name : (l : Kind) (c s : Forest) → binds_import l && (is_one_name c && are_names s) ≡ true → is_one_name c ≡ false → ⊥
    no_name l c s e none = true≢false (sym (sym none ∙ (and_parts (is_one_name c) (are_names s) (and_parts (binds_import l) (is_one_name c && are_names s) e).1).0))

alone_text : (b : Forest) (x : List ℕ) → reference_alone b ≡ Some x → listed_below b ≡ Some x
alone_text nothing x is = absurd cc
alone_text (absent r) x is = absurd cc
alone_text (node (Kind.ReferenceName y) m nothing nothing) x is = is
alone_text (node (Kind.ReferenceName y) m (node k n c d) nothing) x is = absurd cc
alone_text (node (Kind.ReferenceName y) m (absent c) nothing) x is = absurd cc
alone_text (node (Kind.ReferenceName y) m c (node k n b d)) x is = absurd cc
alone_text (node (Kind.ReferenceName y) m c (absent d)) x is = absurd cc
alone_text (node k m c nothing) x is = absurd cc
alone_text (node k m c (node l n b d)) x is = absurd cc
alone_text (node k m c (absent d)) x is = absurd cc

specifier_begins : (names : Forest) (exported : ModuleName) (n : Note) (b r u : Forest) → passed names (node (export_specifier exported) n b r) ≡ Some u → First names (node (export_specifier exported) n b r)
specifier_begins names exported n b r u is = by (reference_alone b) refl
  where
    by : (o : Option (List ℕ)) → reference_alone b ≡ o → First names (node (export_specifier exported) n b r)
    by (Some x) e =
        let o = bound_some exported n (bound_in names x) (passed names r) u (sym (passed_named names exported n b r x e) ∙ is) in
        record { text = x; first = alone_text b x e; bound = bound_binds names x o.0 o.1 }
    by None e = no_some (sym (passed_unnamed names exported n b r e) ∙ is)
      where
        no_some : (let none : Option Forest = None in none ≡ Some u) → First names (node (export_specifier exported) n b r)
        no_some h = absurd cc

passed_begins : (names listed u : Forest) → passed names listed ≡ Some u → may_pass names listed ≡ true → First names listed
passed_begins names nothing u is may = absurd (names_there_none names may)
passed_begins names (absent r) u is may = absurd cc
passed_begins names (node (Kind.ExportSpecifier exported) n b r) u is may = specifier_begins names exported n b r u is
passed_begins names (node k n b r) u is may = absurd cc

module _ (n : Note) where
  alone_listed : (c : Forest) (k : Kind) (i : Note) (inner : Forest) (y : List ℕ) → reference_alone inner ≡ Some y → may_pass (node Kind.ImportNamespaceSpecifier n c nothing) (node k i inner nothing) ≡ true
      → First (node Kind.ImportNamespaceSpecifier n c nothing) (node k i inner nothing)
  alone_listed (node (Kind.BindingName z) m nothing nothing) k i inner y is may =
      let text = alone_text inner y is in
      let listed = (and_parts (lists (node k i inner nothing) z) true may).0 in
      let same : y ≡ z = (bytes_eq-Decides y z).0 (or_none (bytes_eq y z) (sym (lists_first k i inner nothing z ∙ ap (λ o. is_text o z || false) text) ∙ listed)) in
      record { text = y; first = text; bound = ap (λ b. b || false) ((bytes_eq-Decides z y).1 (sym same)) }
    where
      or_none : (b : Bool) → b || false ≡ true → b ≡ true
      or_none true h = refl
      or_none false h = h
  alone_listed (node (Kind.BindingName z) m nothing (node l o d r)) k i inner y is may = absurd (true≢false (sym may))
  alone_listed (node (Kind.BindingName z) m nothing (absent r)) k i inner y is may = absurd (true≢false (sym may))
  alone_listed (node (Kind.BindingName z) m (node l o d r) s) k i inner y is may = absurd (true≢false (sym may))
  alone_listed (node (Kind.BindingName z) m (absent r) s) k i inner y is may = absurd (true≢false (sym may))
  alone_listed (node l m d r) k i inner y is may = absurd (true≢false (sym may))
  alone_listed (absent r) k i inner y is may = absurd (true≢false (sym may))
  alone_listed nothing k i inner y is may = absurd (true≢false (sym may))

  one_listed : (c : Forest) (k : Kind) (i : Note) (inner : Forest) (exported : ModuleName) → exported_alone k inner ≡ Some exported → may_pass (node Kind.ImportNamespaceSpecifier n c nothing) (node k i inner nothing) ≡ true
      → First (node Kind.ImportNamespaceSpecifier n c nothing) (node k i inner nothing)
  one_listed c k i inner exported is may = by (reference_alone inner) refl is
    where
      by : (o : Option (List ℕ)) → reference_alone inner ≡ o → (if is_some o then exported_as k else None) ≡ Some exported → First (node Kind.ImportNamespaceSpecifier n c nothing) (node k i inner nothing)
      by (Some y) e h = alone_listed c k i inner y e may
      by None e h = absurd cc

  alone_begins : (c listed : Forest) (exported : ModuleName) → only_exported listed ≡ Some exported → may_pass (node Kind.ImportNamespaceSpecifier n c nothing) listed ≡ true → First (node Kind.ImportNamespaceSpecifier n c nothing) listed
  alone_begins c nothing exported is may = absurd cc
  alone_begins c (absent r) exported is may = absurd cc
  alone_begins c (node k i inner nothing) exported is may = one_listed c k i inner exported is may
  alone_begins c (node k i inner (node l m d r)) exported is may = absurd cc
  alone_begins c (node k i inner (absent r)) exported is may = absurd cc

namespace_begins : (names listed : Forest) (exported : ModuleName) → namespace_passed names listed ≡ Some exported → may_pass names listed ≡ true → First names listed
namespace_begins names listed exported is may = by names is may (is_namespace_alone names) refl
  where
    by : (t : Forest) → namespace_passed t listed ≡ Some exported → may_pass t listed ≡ true → (b : Bool) → is_namespace_alone t ≡ b → First t listed
    by t h m false isnt = no_some (namespace_not t listed false (sym isnt) refl ∙ h)
      where
        no_some : (let none : Option ModuleName = None in none ≡ Some exported) → First t listed
        no_some e = absurd cc
    by (node Kind.ImportNamespaceSpecifier n c nothing) h m true alone = alone_begins n c listed exported (namespace_so (node Kind.ImportNamespaceSpecifier n c nothing) listed true refl refl ∙ h) m
    by t h m true alone = absurd (true≢false (sym alone))

-- an item
pub record Starts (t : Option Tree) (listed : Forest) : Type 0 where
  pub text : List ℕ
  pub first : first_text listed ≡ Some text
  pub bound : item_binds t text ≡ true

module _ (f : Facts) (listed : Forest) where
  exported_begins : (source : List ℕ) (n m : Note) (names : Forest) (y : Tree) → (if may_pass names listed && are_passed_alone f listed names then export_of source n m (namespace_passed names listed) (passed names listed) else None) ≡ Some y → First names listed
  exported_begins source n m names y is = go (may_pass names listed) (are_passed_alone f listed names) refl is
    where
      by : may_pass names listed ≡ true → (o : Option ModuleName) (p : Option Forest) → namespace_passed names listed ≡ o → passed names listed ≡ p → export_of source n m o p ≡ Some y → First names listed
      by may (Some exported) p there more h = namespace_begins names listed exported there may
      by may None (Some u) there more h = passed_begins names listed u more may
      by may None None there more h = absurd cc

      go : (a b : Bool) → may_pass names listed ≡ a → (if a && b then export_of source n m (namespace_passed names listed) (passed names listed) else None) ≡ Some y → First names listed
      go true true may h = by may (namespace_passed names listed) (passed names listed) refl refl h
      go true false may h = absurd cc
      go false b may h = absurd cc

  import_starts : (source : List ℕ) (n : Note) (b : Forest) (y : Tree) → passed_on f listed (import_declaration source) n b ≡ Some y → Starts (Some (record { kind = import_declaration source; note = n; below = b })) listed
  import_starts source n nothing y is = absurd cc
  import_starts source n (absent r) y is = absurd cc
  import_starts source n (node Kind.Specifiers m names nothing) y is = let o = exported_begins source n m names y is in record { text = o.text; first = o.first; bound = o.bound }
  import_starts source n (node Kind.Specifiers m names (node k i c r)) y is = absurd cc
  import_starts source n (node Kind.Specifiers m names (absent r)) y is = absurd cc
  import_starts source n (node k m names nothing) y is = absurd cc
  import_starts source n (node k m names (node l i c r)) y is = absurd cc
  import_starts source n (node k m names (absent r)) y is = absurd cc

  tree_starts : (k : Kind) (n : Note) (b : Forest) (y : Tree) → passed_on f listed k n b ≡ Some y → Starts (Some (record { kind = k; note = n; below = b })) listed
  tree_starts (Kind.ImportDeclaration source) n b y is = import_starts source n b y is
  tree_starts k n b y is = absurd cc

  pub starts : (stays : Bool) (t : Option Tree) (y : Tree) → passes_at f listed stays t ≡ Some y → Starts t listed
  starts false t y is = absurd cc
  starts true None y is = absurd cc
  starts true (Some x) y is = tree_starts x.kind x.note x.below y is

  -- what it becomes is no import
  export_is : (source : List ℕ) (n m : Note) (o : Option ModuleName) (p : Option Forest) (c : Bool) (y : Tree) → (if c then export_of source n m o p else None) ≡ Some y → is_import y.kind ≡ false
  export_is source n m (Some exported) p true y is = ap is_import (ap (λ (z : Option Tree). kind_or z) (sym is))
    where
      kind_or : Option Tree → Kind
      kind_or None = Kind.EmptyStatement
      kind_or (Some z) = z.kind
  export_is source n m None (Some u) true y is = ap is_import (ap (λ (z : Option Tree). kind_or z) (sym is))
    where
      kind_or : Option Tree → Kind
      kind_or None = Kind.EmptyStatement
      kind_or (Some z) = z.kind
  export_is source n m None None true y is = absurd cc
  export_is source n m o p false y is = absurd cc

  import_is : (source : List ℕ) (n : Note) (b : Forest) (y : Tree) → passed_on f listed (import_declaration source) n b ≡ Some y → is_import y.kind ≡ false
  import_is source n nothing y is = absurd cc
  import_is source n (absent r) y is = absurd cc
  import_is source n (node Kind.Specifiers m names nothing) y is = export_is source n m (namespace_passed names listed) (passed names listed) (may_pass names listed && are_passed_alone f listed names) y is
  import_is source n (node Kind.Specifiers m names (node k i c r)) y is = absurd cc
  import_is source n (node Kind.Specifiers m names (absent r)) y is = absurd cc
  import_is source n (node k m names nothing) y is = absurd cc
  import_is source n (node k m names (node l i c r)) y is = absurd cc
  import_is source n (node k m names (absent r)) y is = absurd cc

  tree_is : (k : Kind) (n : Note) (b : Forest) (y : Tree) → passed_on f listed k n b ≡ Some y → is_import y.kind ≡ false
  tree_is (Kind.ImportDeclaration source) n b y is = import_is source n b y is
  tree_is k n b y is = absurd cc

  pub became : (stays : Bool) (t : Option Tree) (y : Tree) → passes_at f listed stays t ≡ Some y → is_import y.kind ≡ false
  became false t y is = absurd cc
  became true None y is = absurd cc
  became true (Some x) y is = tree_is x.kind x.note x.below y is

  -- and no other item becomes anything
  other_none : (k : Kind) (n : Note) (b : Forest) → is_import k ≡ false → passed_on f listed k n b ≡ None
  other_none (Kind.ImportDeclaration source) n b is = absurd (true≢false is)
  other_none k n b is = refl

  pub none_at : (stays : Bool) (x : Option Tree) → stays ≡ false → (let none : Option Tree = None in none ≡ passes_at f listed stays x)
  none_at true x isnt = absurd (true≢false isnt)
  none_at false x isnt = refl

  pub changed_none : (stays : Bool) (x c : Option Tree) → is_missing c ≡ false → imports c ≡ false → (let none : Option Tree = None in none ≡ passes_at f listed stays (or_changed x c))
  changed_none stays x None isnt other = absurd (true≢false isnt)
  changed_none true x (Some y) isnt other = sym (other_none y.kind y.note y.below other)
  changed_none false x (Some y) isnt other = refl

  pub same_at : (stays : Bool) (x c o : Option Tree) → stays ≡ true → is_missing c ≡ true → o ≡ item_passed_on f listed x → o ≡ passes_at f listed stays (or_changed x c)
  same_at true x None o does isnt said = said
  same_at true x (Some y) o does isnt said = absurd (true≢false (sym isnt))
  same_at false x c o does isnt said = absurd (true≢false (sym does))
