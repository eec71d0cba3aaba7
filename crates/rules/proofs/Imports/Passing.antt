-- Imports that later exports list become exports from their modules by edits, one after the other; and none may exactly where none does.
use Rattle.std.proofs.Common.{◌≡◌, ◌∙◌, ◌≤◌, ◌+◌, ℕ, List, codes, Bool, true, false, true≢false, not, ◌&&◌, ◌||◌, is_some, Option, Some, None, if◌then◌else◌, refl, sym, subst, arith}
use Rattle.std.proofs.lemmas.Bool.{and_parts, and_from}
use Rattle.std.proofs.lemmas.Slice.Eq.{bytes_eq-Decides}
use Rattle.std.specs.Str.{bytes_eq}
use Rattle.js_syntax.specs.declared.node_kind.NodeKind.{NodeKind as Kind}
use Rattle.js_syntax.specs.declared.node_kind.NodeKind.TheVariants.{Program as program, Statements as statements, ImportDeclaration as import_declaration, Specifiers as specifiers, ImportSpecifier as import_specifier, ImportDefaultSpecifier as import_default_specifier, ImportNamespaceSpecifier as import_namespace_specifier, BindingName as binding_name, ReferenceName as reference_name, ExportNamedDeclaration as export_named_declaration, ExportSpecifier as export_specifier}
use Rattle.js_syntax.specs.declared.scalar.SourceType.TheVariants as source_type
use Rattle.js_syntax.specs.declared.value.ModuleName.{ModuleName}
use Rattle.js_syntax.specs.declared.value.ModuleName.TheVariants.{Name as plain_name}
use Rattle.js_syntax.specs.Facts.{weight}
use Rattle.js_syntax.specs.Node.{Forest, Tree, Note, nothing, node, absent, joined, forest_of, total}
use Rattle.js_syntax.proofs.Truth.{first_of_either, second_of_either}
use Rattle.js_tree.proofs.Rows.{joined_nothing, joined_assoc}
use Rattle.js_meaning_near.specs.Near.{module_of}
use Rattle.json_shape.specs.Exact.{is_exact_module_name}
use Rattle.min_context.specs.Edited.{evals}
use Rattle.min_context.specs.Place.{Place, place_at, goes_on}
use Rattle.scope_rules.specs.ScopeFlags as scope_flag
use Rattle.scope_counts.specs.Counts.{Weight, by_id, tally, ids}
use Rattle.scope_counts.specs.Edits.{Around, here, plug}
use Rattle.scope_counts.specs.Scopes.{unmarked}
use Rattle.scope_counts.proofs.Leaving.{ids_joined}
use Rattle.steps.specs.Allowed.Edits.{TreeEdits, no_tree_edit, one_tree_edit, passes}
use Rattle.steps.specs.Allowed.Exposure.{evaluates_somewhere}
use Rattle.steps.specs.Allowed.MergedImports.{are_names}
use Rattle.steps.specs.Allowed.PassedExports.{Binds, binds_export, binds_default, binds_behind, lists_each, Passes, passes_none, passes_one, may_pass, PassedOn, names_passed_on, namespace_passed_on, WithoutExport, export_leaves, leaves_behind, PassesIn, passes_here, passes_behind, PassedExports, exports_pass}
use Rattle.steps.specs.Allowed.Places.{has_node}
use Rattle.steps.specs.Marked.Flags.{scope_has}
use Rattle.steps.proofs.Marked.Passed.{same_evaluates}
use Rattle.steps.proofs.Owed.MergedRows.{AreNames, no_names, a_name, known_names}
use Rattle.steps.proofs.Owed.PassedRows.{AreListed, parts}
use Rattle.steps.proofs.Owed.PassedTables.{new_tally}
use Rattle.rules.specs.DeadCode.Knows.{Knows}
use Rattle.rules.specs.DeadCode.Quiet.{Exactly}
use Rattle.rules.specs.DeadCode.Rules.{Facts}
use Rattle.rules.proofs.DeadCode.Alive.{program_evaluates}
use Rattle.rules.proofs.DeadCode.Keeping.{Known, still_known}
use Rattle.rules.specs.Imports.Merged.{with_below, is_outermost}
use Rattle.rules.specs.Imports.Passed.{are_passed_alone, imported, bound_in, and_passed, passed, namespace_passed, export_of, passed_on, put_in, passed_among, passed_before, one_passes, or_joined, all_passed, and_gone, all_gone, list_passed, list_gone, below_passed, pass_on}
use Rattle.rules.proofs.Imports.PassedLeft.{left_known, left_only, import_sites, are_free, are_alone}
use Rattle.rules.proofs.Imports.Together.{no_kind, Items, no_items, an_item, one_more, none_some, is_shut, flat, Alone, all_alone, alone, shut_there, not_flagged}
use Rattle.rules.proofs.Told.Passed.{row_evaluates, listed_evaluate}

-- ---- a row in which an import passes on what this export lists

pub data Passing (names listed : Forest) : (row left now : Forest) → Type 0 where
  passing_here : (source : List ℕ) (n m i : Note) (k : Kind) (below r s : Forest) → PassedOn source names listed k below → WithoutExport listed r s
      → Passing names listed (node (import_declaration source) n (node specifiers m names nothing) r) (node (import_declaration source) n (node specifiers m names nothing) s) (node k i below s)
  passing_behind : (k : Kind) (n : Note) (below r s z : Forest) → Passing names listed r s z → Passing names listed (node k n below r) (node k n below s) (node k n below z)

it_passes : {names listed r s z : Forest} → Passing names listed r s z → PassesIn names r s z
it_passes {names = names} {listed = listed} (passing_here source n m i k below r s on out) = passes_here source n m i listed k below r s on out
it_passes (passing_behind k n below r s z p) = passes_behind k n below r s z (it_passes p)

without_it : {names listed r s z : Forest} → Passing names listed r s z → WithoutExport listed r s
without_it {names = names} (passing_here source n m i k below r s on out) = leaves_behind (import_declaration source) n (node specifiers m names nothing) r s out
without_it (passing_behind k n below r s z p) = leaves_behind k n below r s (without_it p)

record Both (names listed : Forest) : Type 0 where
  names_are : AreNames names
  listed_are : AreListed listed

both : {names listed r s z : Forest} → Passing names listed r s z → Both names listed
both (passing_here source n m i k below r s on out) = let o = parts on in record { names_are = o.names_are; listed_are = o.listed_are }
both (passing_behind k n below r s z p) = both p

record Listing (names r s z : Forest) : Type 0 where
  listed : Forest
  passing : Passing names listed r s z

listing : {names r s z : Forest} → PassesIn names r s z → Listing names r s z
listing (passes_here source n m i listed k below r s on out) = record { listed = listed; passing = passing_here source n m i k below r s on out }
listing (passes_behind k n below r s z p) = let o = listing p in record { listed = o.listed; passing = passing_behind k n below r s z o.passing }

-- by what is known of a program, and where it does
record Step (f : Facts) (r z : Forest) : Type 0 where
  names : Forest
  listed : Forest
  left : Forest
  passing : Passing names listed r left z
  alone_there : are_passed_alone f listed names ≡ true

-- ---- each name comes from the other module

bound_here : (k : Kind) (n m : Note) (y x : List ℕ) (rest : Forest) (exported : ModuleName) → bytes_eq y x ≡ true → imported k ≡ Some exported → Binds (node k n (node (binding_name y) m nothing nothing) rest) x exported
bound_here (Kind.ImportSpecifier name) n m y x rest exported e is = by (is_exact_module_name name) refl is
  where
    by : (b : Bool) → is_exact_module_name name ≡ b → (if b then Some name else None) ≡ Some exported → Binds (node (import_specifier name) n (node (binding_name y) m nothing nothing) rest) x exported
    by true exact h =
        subst (λ z. Binds (node (import_specifier name) n (node (binding_name y) m nothing nothing) rest) x z) (cc h)
        (subst (λ z. Binds (node (import_specifier name) n (node (binding_name y) m nothing nothing) rest) z name) ((bytes_eq-Decides y x).0 e) (binds_export name n m y rest exact))
    by false exact h = none_some h
bound_here Kind.ImportDefaultSpecifier n m y x rest exported e is =
    subst (λ z. Binds (node import_default_specifier n (node (binding_name y) m nothing nothing) rest) x z) (cc is)
    (subst (λ z. Binds (node import_default_specifier n (node (binding_name y) m nothing nothing) rest) z (plain_name (codes "default"))) ((bytes_eq-Decides y x).0 e) (binds_default n m y rest))
bound_here k n m y x rest exported e is = none_some is

bound_is : {names : Forest} → AreNames names → (x : List ℕ) (exported : ModuleName) → bound_in names x ≡ Some exported → Binds names x exported
bound_is no_names x exported e = none_some e
bound_is (a_name k n m y rest h names) x exported e = by (bytes_eq y x) (is_some (imported k)) refl e (λ is. bound_is names x exported is)
  where
    by : (b c : Bool) → bytes_eq y x ≡ b → (if b && c then imported k else bound_in rest x) ≡ Some exported → (bound_in rest x ≡ Some exported → Binds rest x exported) → Binds (node k n (node (binding_name y) m nothing nothing) rest) x exported
    by true true e is more = bound_here k n m y x rest exported e is
    by true false e is more = binds_behind k n (node (binding_name y) m nothing nothing) rest x exported (more is)
    by false c e is more = binds_behind k n (node (binding_name y) m nothing nothing) rest x exported (more is)

passed_is : {names : Forest} → AreNames names → (listed list : Forest) → passed names listed ≡ Some list → Passes names listed list
passed_is {names = names} are nothing list e = subst (λ z. Passes names nothing z) (cc e) passes_none
passed_is {names = names} are (node (Kind.ExportSpecifier exported) n (node (Kind.ReferenceName x) m nothing nothing) rest) list e = by (bound_in names x) (passed names rest) refl refl e (λ more h. passed_is are rest more h)
  where
    by : (o : Option ModuleName) (p : Option Forest) → bound_in names x ≡ o → passed names rest ≡ p → and_passed exported n o p ≡ Some list → ((more : Forest) → passed names rest ≡ Some more → Passes names rest more)
        → Passes names (node (export_specifier exported) n (node (reference_name x) m nothing nothing) rest) list
    by (Some name) (Some more) b h is later =
        subst (λ z. Passes names (node (export_specifier exported) n (node (reference_name x) m nothing nothing) rest) z) (cc is) (passes_one exported name n m n x rest more (bound_is are x name b) (later more h))
    by (Some name) None b h is later = none_some is
    by None p b h is later = none_some is
passed_is are (node (Kind.ExportSpecifier exported) n (node (Kind.ReferenceName x) m nothing (node k i b r)) rest) list e = none_some e
passed_is are (node (Kind.ExportSpecifier exported) n (node (Kind.ReferenceName x) m nothing (absent r)) rest) list e = none_some e
passed_is are (node (Kind.ExportSpecifier exported) n (node (Kind.ReferenceName x) m (node k i b r) beside) rest) list e = none_some e
passed_is are (node (Kind.ExportSpecifier exported) n (node (Kind.ReferenceName x) m (absent r) beside) rest) list e = none_some e
passed_is are (node (Kind.ExportSpecifier exported) n (node k m b beside) rest) list e = none_some e
passed_is are (node (Kind.ExportSpecifier exported) n (absent r) rest) list e = none_some e
passed_is are (node (Kind.ExportSpecifier exported) n nothing rest) list e = none_some e
passed_is are (node k n b rest) list e = none_some e
passed_is are (absent rest) list e = none_some e

-- ---- a namespace

data Namespace : (names listed : Forest) → ModuleName → Type 0 where
  a_namespace : (exported : ModuleName) (n i j : Note) (below : Forest) (y : List ℕ) → Namespace (node import_namespace_specifier n below nothing) (node (export_specifier exported) i (node (reference_name y) j nothing nothing) nothing) exported

namespace_listed : (n : Note) (below listed : Forest) (exported : ModuleName) → namespace_passed (node import_namespace_specifier n below nothing) listed ≡ Some exported → Namespace (node import_namespace_specifier n below nothing) listed exported
namespace_listed n below (node (Kind.ExportSpecifier given) i (node (Kind.ReferenceName y) j nothing nothing) nothing) exported e =
    subst (λ z. Namespace (node import_namespace_specifier n below nothing) (node (export_specifier given) i (node (reference_name y) j nothing nothing) nothing) z) (cc e) (a_namespace given n i j below y)
namespace_listed n below (node (Kind.ExportSpecifier given) i (node (Kind.ReferenceName y) j nothing nothing) (node k l b r)) exported e = none_some e
namespace_listed n below (node (Kind.ExportSpecifier given) i (node (Kind.ReferenceName y) j nothing nothing) (absent r)) exported e = none_some e
namespace_listed n below (node (Kind.ExportSpecifier given) i (node (Kind.ReferenceName y) j nothing (node k l b r)) rest) exported e = none_some e
namespace_listed n below (node (Kind.ExportSpecifier given) i (node (Kind.ReferenceName y) j nothing (absent r)) rest) exported e = none_some e
namespace_listed n below (node (Kind.ExportSpecifier given) i (node (Kind.ReferenceName y) j (node k l b r) beside) rest) exported e = none_some e
namespace_listed n below (node (Kind.ExportSpecifier given) i (node (Kind.ReferenceName y) j (absent r) beside) rest) exported e = none_some e
namespace_listed n below (node (Kind.ExportSpecifier given) i (node k j b beside) rest) exported e = none_some e
namespace_listed n below (node (Kind.ExportSpecifier given) i (absent r) rest) exported e = none_some e
namespace_listed n below (node (Kind.ExportSpecifier given) i nothing rest) exported e = none_some e
namespace_listed n below (node k i b rest) exported e = none_some e
namespace_listed n below (absent rest) exported e = none_some e
namespace_listed n below nothing exported e = none_some e

namespace_is : (names listed : Forest) (exported : ModuleName) → namespace_passed names listed ≡ Some exported → Namespace names listed exported
namespace_is (node Kind.ImportNamespaceSpecifier n below nothing) listed exported e = namespace_listed n below listed exported e
namespace_is (node Kind.ImportNamespaceSpecifier n below (node k i b r)) listed exported e = none_some e
namespace_is (node Kind.ImportNamespaceSpecifier n below (absent r)) listed exported e = none_some e
namespace_is (node k n below rest) listed exported e = none_some e
namespace_is (absent rest) listed exported e = none_some e
namespace_is nothing listed exported e = none_some e

one_listed_so : (a b : Bool) → (a || false) && b ≡ true → a ≡ true
one_listed_so true b h = refl
one_listed_so false b h = no_kind h

namespace_on : (source : List ℕ) {names listed : Forest} (exported : ModuleName) → AreNames names → Namespace names listed exported → lists_each listed names ≡ true → PassedOn source names listed (Kind.ExportAllDeclaration (Some exported) source) nothing
namespace_on source _ (a_name _ n m x _ binds no_names) (a_namespace exported _ i j _ y) h =
    subst (λ z. PassedOn source (node import_namespace_specifier n (node (binding_name x) m nothing nothing) nothing) (node (export_specifier exported) i (node (reference_name z) j nothing nothing) nothing) (Kind.ExportAllDeclaration (Some exported) source) nothing)
    (sym ((bytes_eq-Decides y x).0 (one_listed_so (bytes_eq y x) true h))) (namespace_passed_on exported n m i j x)
namespace_on source exported no_names whole h = elim whole [ ]
namespace_on source exported (a_name k n m x _ binds (a_name _ _ _ _ rest _ _)) whole h = elim whole [ ]

-- ---- what an import becomes

data Becomes (f : Facts) (listed : Forest) : Kind → Note → Forest → Tree → Type 0 where
  becomes_it : (source : List ℕ) (n m : Note) (names : Forest) (k : Kind) (below : Forest) → PassedOn source names listed k below → are_passed_alone f listed names ≡ true
      → Becomes f listed (import_declaration source) n (node specifiers m names nothing) (record { kind = k; note = n; below = below })

import_becomes : (f : Facts) (listed : Forest) (source : List ℕ) (n m : Note) (names : Forest) (y : Tree) → may_pass names listed ≡ true → are_passed_alone f listed names ≡ true → export_of source n m (namespace_passed names listed) (passed names listed) ≡ Some y
    → Becomes f listed (import_declaration source) n (node specifiers m names nothing) y
import_becomes f listed source n m names y may only e = by (namespace_passed names listed) (passed names listed) refl refl e
  where
    each : (are_names names ≡ true) × (lists_each listed names ≡ true)
    each = and_parts (are_names names) (lists_each listed names) (and_parts (has_node names) (are_names names && lists_each listed names) may).1

    by : (o : Option ModuleName) (p : Option Forest) → namespace_passed names listed ≡ o → passed names listed ≡ p → export_of source n m o p ≡ Some y → Becomes f listed (import_declaration source) n (node specifiers m names nothing) y
    by (Some exported) p whole h is =
        subst (λ z. Becomes f listed (import_declaration source) n (node specifiers m names nothing) z) (cc is)
        (becomes_it source n m names (Kind.ExportAllDeclaration (Some exported) source) nothing (namespace_on source exported (known_names names each.0) (namespace_is names listed exported whole) each.1) only)
    by None (Some list) whole h is =
        subst (λ z. Becomes f listed (import_declaration source) n (node specifiers m names nothing) z) (cc is)
        (becomes_it source n m names (export_named_declaration (Some source)) (absent (node specifiers m list nothing)) (names_passed_on names listed list m may (passed_is (known_names names each.0) listed list h)) only)
    by None None whole h is = none_some is

of_import : (f : Facts) (listed : Forest) (source : List ℕ) (n : Note) (b : Forest) (y : Tree) → passed_on f listed (import_declaration source) n b ≡ Some y → Becomes f listed (import_declaration source) n b y
of_import f listed source n (node Kind.Specifiers m names nothing) y e = by (may_pass names listed) (are_passed_alone f listed names) refl refl e
  where
    by : (b c : Bool) → may_pass names listed ≡ b → are_passed_alone f listed names ≡ c → (if b && c then export_of source n m (namespace_passed names listed) (passed names listed) else None) ≡ Some y
        → Becomes f listed (import_declaration source) n (node specifiers m names nothing) y
    by true true may only is = import_becomes f listed source n m names y may only is
    by true false may only is = none_some is
    by false c may only is = none_some is
of_import f listed source n (node Kind.Specifiers m names (absent r)) y e = none_some e
of_import f listed source n (node Kind.Specifiers m names (node k i b r)) y e = none_some e
of_import f listed source n (node k m names r) y e = none_some e
of_import f listed source n (absent r) y e = none_some e
of_import f listed source n nothing y e = none_some e

becomes : (f : Facts) (listed : Forest) (k : Kind) (n : Note) (b : Forest) (y : Tree) → passed_on f listed k n b ≡ Some y → Becomes f listed k n b y
becomes f listed (Kind.ImportDeclaration source) n b y e = of_import f listed source n b y e
becomes f listed k n b y e = none_some e

-- ---- among the items before an export

without_behind : {listed r s p : Forest} → Items p → WithoutExport listed r s → WithoutExport listed (joined p r) (joined p s)
without_behind no_items out = out
without_behind {r = r} {s = s} (an_item k n below rest items) out = leaves_behind k n below (joined rest r) (joined rest s) (without_behind items out)

record Found (f : Facts) (listed row left now : Forest) : Type 0 where
  names : Forest
  passing : Passing names listed row left now
  alone_there : are_passed_alone f listed names ≡ true

module _ (f : Facts) (listed : Forest) {r s : Forest} (out : WithoutExport listed r s) where
  here_found : {k : Kind} {n : Note} {b : Forest} {y : Tree} → Becomes f listed k n b y → {p : Forest} → Items p → Found f listed (node k n b (joined p r)) (node k n b (joined p s)) (node y.kind y.note y.below (joined p s))
  here_found (becomes_it source n m names k below on only) {p = p} items =
      record { names = names; passing = passing_here source n m n k below (joined p r) (joined p s) on (without_behind items out); alone_there = only }

  behind_found : (k : Kind) (n : Note) (b : Forest) {t u z : Forest} → Found f listed t u z → Found f listed (node k n b t) (node k n b u) (node k n b z)
  behind_found k n b {t = t} {u = u} {z = z} o = record { names = o.names; passing = passing_behind k n b t u z o.passing; alone_there = o.alone_there }

  found : {before : Forest} → Items before → (others : Forest) → passed_among f listed before ≡ Some others → Found f listed (joined before r) (joined before s) (joined others s)
  found no_items others e = none_some e
  found (an_item k n b p items) others e = by (passed_on f listed k n b) (passed_among f listed p) refl refl e (λ more h. found items more h)
    where
      by : (o : Option Tree) (l : Option Forest) → passed_on f listed k n b ≡ o → passed_among f listed p ≡ l → put_in k n b p o l ≡ Some others
          → ((more : Forest) → passed_among f listed p ≡ Some more → Found f listed (joined p r) (joined p s) (joined more s)) → Found f listed (node k n b (joined p r)) (node k n b (joined p s)) (joined others s)
      by (Some y) l it later is next =
          let same : node y.kind y.note y.below p ≡ others = cc is in
          subst (λ z. Found f listed (node k n b (joined p r)) (node k n b (joined p s)) (joined z s)) same (here_found (becomes f listed k n b y it) items)
      by None (Some more) it later is next =
          let same : node k n b more ≡ others = cc is in
          subst (λ z. Found f listed (node k n b (joined p r)) (node k n b (joined p s)) (joined z s)) same (behind_found k n b (next more later))
      by None None it later is next = none_some is

found_items : (f : Facts) (listed : Forest) {before : Forest} → Items before → (others : Forest) → passed_among f listed before ≡ Some others → Items others
found_items f listed no_items others e = none_some e
found_items f listed (an_item k n b p items) others e = by (passed_on f listed k n b) (passed_among f listed p) refl e (λ more h. found_items f listed items more h)
  where
    by : (o : Option Tree) (l : Option Forest) → passed_among f listed p ≡ l → put_in k n b p o l ≡ Some others → ((more : Forest) → passed_among f listed p ≡ Some more → Items more) → Items others
    by (Some y) l later is next = subst (λ z. Items z) (cc is) (an_item y.kind y.note y.below p items)
    by None (Some more) later is next = subst (λ z. Items z) (cc is) (an_item k n b more (next more later))
    by None None later is next = none_some is

-- an export that goes
data Goes (f : Facts) (before : Forest) : Kind → Forest → Forest → Type 0 where
  goes_away : (m : Note) (listed others : Forest) → passed_among f listed before ≡ Some others → Goes f before (export_named_declaration None) (absent (node specifiers m listed nothing)) others

export_goes : (f : Facts) (before b others : Forest) → passed_before f before (export_named_declaration None) b ≡ Some others → Goes f before (export_named_declaration None) b others
export_goes f before (absent (node Kind.Specifiers m listed nothing)) others e = goes_away m listed others e
export_goes f before (absent (node Kind.Specifiers m listed (absent r))) others e = none_some e
export_goes f before (absent (node Kind.Specifiers m listed (node k i b r))) others e = none_some e
export_goes f before (absent (node k m listed r)) others e = none_some e
export_goes f before (absent (absent r)) others e = none_some e
export_goes f before (absent nothing) others e = none_some e
export_goes f before (node k m listed r) others e = none_some e
export_goes f before nothing others e = none_some e

goes_view : (f : Facts) (before : Forest) (k : Kind) (b others : Forest) → passed_before f before k b ≡ Some others → Goes f before k b others
goes_view f before (Kind.ExportNamedDeclaration None) b others e = export_goes f before b others e
goes_view f before (Kind.ExportNamedDeclaration (Some source)) b others e = none_some e
goes_view f before k b others e = none_some e

goes_step : (f : Facts) {before : Forest} → Items before → {k : Kind} {b others : Forest} → Goes f before k b others → (n : Note) (rest : Forest) → Step f (joined before (node k n b rest)) (joined others rest)
goes_step f {before = before} items (goes_away m listed others e) n rest =
    let o = found f listed (export_leaves n m rest) items others e in
    record { names = o.names; listed = listed; left = joined before rest; passing = o.passing; alone_there = o.alone_there }

goes_items : (f : Facts) {before : Forest} → Items before → {k : Kind} {b others : Forest} → Goes f before k b others → Items others
goes_items f items (goes_away m listed others e) = found_items f listed items others e

-- ---- one after the other

data Steps (f : Facts) : Forest → Forest → Type 0 where
  none_more : (r : Forest) → Steps f r r
  one_more_passes : (r s t : Forest) → Step f r s → Steps f s t → Steps f r t

-- one at least
record StepsSome (f : Facts) (r t : Forest) : Type 0 where
  next : Forest
  first : Step f r next
  more : Steps f next t

-- items behind others, whichever these are
abbrev Behind : (f : Facts) (items : Forest) → Type 0
Behind f items = (p : Forest) → Items p → Steps f (joined p items) (all_passed f p items)

-- and with one more
abbrev longer : (before : Forest) → Kind → Note → (below : Forest) → Forest
longer before k n b = joined before (node k n b nothing)

module _ (f : Facts) where
  all_pass : {before : Forest} (items : Forest) → Items before → Steps f (joined before items) (all_passed f before items)
  all_pass {before = before} nothing all = subst (λ z. Steps f z before) (sym (joined_nothing before)) (none_more before)
  all_pass {before = before} (absent rest) all = none_more (joined before (absent rest))
  all_pass {before = before} (node k n b rest) all = by (passed_before f before k b) refl (λ p. λ ps. all_pass {before = p} rest ps)
    where
      by : (o : Option Forest) → passed_before f before k b ≡ o → Behind f rest → Steps f (joined before (node k n b rest)) (all_passed f (or_joined o before (node k n b nothing)) rest)
      by (Some others) e next =
          let goes = goes_view f before k b others e in
          one_more_passes (joined before (node k n b rest)) (joined others rest) (all_passed f others rest) (goes_step f all goes n rest) (next others (goes_items f all goes))
      by None e next = subst (λ z. Steps f z (all_passed f (longer before k n b) rest)) (joined_assoc before (node k n b nothing) rest) (next (longer before k n b) (one_more all k n b))

  some_pass : {before : Forest} (items : Forest) → Items before → one_passes f before items ≡ true → StepsSome f (joined before items) (all_passed f before items)
  some_pass nothing all h = no_kind h
  some_pass (absent rest) all h = no_kind h
  some_pass {before = before} (node k n b rest) all h = by (passed_before f before k b) refl h (λ g. some_pass rest (one_more all k n b) g)
    where
      by : (o : Option Forest) → passed_before f before k b ≡ o → is_some o || one_passes f (longer before k n b) rest ≡ true
          → (one_passes f (longer before k n b) rest ≡ true → StepsSome f (joined (longer before k n b) rest) (all_passed f (longer before k n b) rest))
          → StepsSome f (joined before (node k n b rest)) (all_passed f (or_joined o before (node k n b nothing)) rest)
      by (Some others) e g more =
          let goes = goes_view f before k b others e in
          record { next = joined others rest; first = goes_step f all goes n rest; more = all_pass rest (goes_items f all goes) }
      by None e g more = subst (λ z. StepsSome f z (all_passed f (longer before k n b) rest)) (joined_assoc before (node k n b nothing) rest) (more g)

  -- where none goes, all is as it was
  pub none_pass : (before items : Forest) → one_passes f before items ≡ false → all_passed f before items ≡ joined before items
  none_pass before nothing h = sym (joined_nothing before)
  none_pass before (absent rest) h = refl
  none_pass before (node k n b rest) h = by (passed_before f before k b) h (λ g. none_pass (longer before k n b) rest g)
    where
      by : (o : Option Forest) → is_some o || one_passes f (longer before k n b) rest ≡ false → (one_passes f (longer before k n b) rest ≡ false → all_passed f (longer before k n b) rest ≡ joined (longer before k n b) rest)
          → all_passed f (or_joined o before (node k n b nothing)) rest ≡ joined before (node k n b rest)
      by (Some others) g same = absurd (true≢false g)
      by None g same = same g ∙ joined_assoc before (node k n b nothing) rest

-- ---- less is left

left_sum : {listed r s : Forest} → WithoutExport listed r s → total weight s + (weight (export_named_declaration None) + weight specifiers + total weight listed) ≡ total weight r
left_sum (export_leaves n m rest) = Prim.omega arith
left_sum (leaves_behind k n below r s out) = Prim.omega (arith, left_sum out)

passed_sum : {names listed list : Forest} → Passes names listed list → total weight list ≤ total weight listed
passed_sum passes_none = Prim.omega arith
passed_sum (passes_one exported imported n m i x rest list binds more) = Prim.omega (arith, passed_sum more)

row_lighter : {names listed r s z : Forest} → Passing names listed r s z → total weight z + 1 ≤ total weight r
row_lighter (passing_here source n m i _ _ r s (names_passed_on names listed list j may each) out) = Prim.omega (arith, passed_sum each, left_sum out)
row_lighter (passing_here source n m i _ _ r s (namespace_passed_on exported j l o q x) out) = Prim.omega (arith, left_sum out)
row_lighter (passing_behind k n below r s z p) = Prim.omega (arith, row_lighter p)

less : {f : Facts} {r t : Forest} → Steps f r t → total weight t ≤ total weight r
less (none_more r) = Prim.omega arith
less (one_more_passes r s t h more) = Prim.omega (arith, row_lighter h.passing, less more)

less_in_row : (f : Facts) (r : Forest) → one_passes f nothing r ≡ true → total weight (all_passed f nothing r) + 1 ≤ total weight r
less_in_row f r h =
    let o = some_pass f r no_items h in
    Prim.omega (arith, row_lighter o.first.passing, less o.more)

same_calls : {f : Facts} {r t : Forest} → Steps f r t → evals t ≡ evals r
same_calls (none_more r) = refl
same_calls (one_more_passes r s t h more) = same_calls more ∙ row_evaluates (it_passes h.passing)

-- ---- and of the references those that the exports list go

module _ (w : Weight) where
  names_tally : {t : Forest} → AreNames t → tally w t ≡ 0
  names_tally no_names = refl
  names_tally (a_name (Kind.ImportSpecifier name) n m x rest h names) = Prim.omega (arith, names_tally names)
  names_tally (a_name Kind.ImportDefaultSpecifier n m x rest h names) = Prim.omega (arith, names_tally names)
  names_tally (a_name Kind.ImportNamespaceSpecifier n m x rest h names) = Prim.omega (arith, names_tally names)
  names_tally (a_name k n m x rest h names) = no_kind h

  becomes_tally : {f : Facts} {listed : Forest} {k : Kind} {n : Note} {b : Forest} {y : Tree} → Becomes f listed k n b y → (p : Forest) → tally w (node y.kind y.note y.below p) ≡ tally w (node k n b p)
  becomes_tally (becomes_it source n m names k below on only) p = let o = parts on in Prim.omega (arith, new_tally w o.new n p, names_tally o.names_are)

  among_tally : (f : Facts) (listed : Forest) {before : Forest} → Items before → (others : Forest) → passed_among f listed before ≡ Some others → tally w others ≡ tally w before
  among_tally f listed no_items others e = none_some e
  among_tally f listed (an_item k n b p items) others e = by (passed_on f listed k n b) (passed_among f listed p) refl refl e (λ more h. among_tally f listed items more h)
    where
      by : (o : Option Tree) (l : Option Forest) → passed_on f listed k n b ≡ o → passed_among f listed p ≡ l → put_in k n b p o l ≡ Some others → ((more : Forest) → passed_among f listed p ≡ Some more → tally w more ≡ tally w p)
          → tally w others ≡ tally w (node k n b p)
      by (Some y) l it later is next = let same : node y.kind y.note y.below p ≡ others = cc is in subst (λ z. tally w z ≡ tally w (node k n b p)) same (becomes_tally (becomes f listed k n b y it) p)
      by None (Some more) it later is next = let same : node k n b more ≡ others = cc is in subst (λ z. tally w z ≡ tally w (node k n b p)) same (Prim.omega (arith, next more later))
      by None None it later is next = none_some is

  goes_tally : (f : Facts) {before : Forest} → Items before → {k : Kind} {b others : Forest} → Goes f before k b others → tally w others ≡ tally w before
  goes_tally f items (goes_away m listed others e) = among_tally f listed items others e

  gone_tally : (f : Facts) {before : Forest} (items : Forest) → Items before → tally w before + tally w items ≡ tally w (all_passed f before items) + tally w (all_gone f before items)
  gone_tally f {before = before} nothing all = Prim.omega arith
  gone_tally f {before = before} (absent rest) all = Prim.omega (arith, ids_joined w before (absent rest))
  gone_tally f {before = before} (node k n b rest) all = by (passed_before f before k b) refl (λ p. λ ps. gone_tally f {before = p} rest ps)
    where
      by : (o : Option Forest) → passed_before f before k b ≡ o → ((p : Forest) → Items p → tally w p + tally w rest ≡ tally w (all_passed f p rest) + tally w (all_gone f p rest))
          → tally w before + tally w (node k n b rest) ≡ tally w (all_passed f (or_joined o before (node k n b nothing)) rest) + tally w (and_gone o k n b (all_gone f (or_joined o before (node k n b nothing)) rest))
      by (Some others) e next =
          let goes = goes_view f before k b others e in
          Prim.omega (arith, goes_tally f all goes, next others (goes_items f all goes))
      by None e next = Prim.omega (arith, ids_joined w before (node k n b nothing), next (longer before k n b) (one_more all k n b))

-- no call goes with them
listed_there : {names listed r s z : Forest} → Passing names listed r s z → AreListed listed
listed_there p = (both p).listed_are

goes_calls : (f : Facts) {before : Forest} → Items before → {k : Kind} {b others : Forest} → Goes f before k b others → (n : Note) (gone : Forest) → evals (node k n b gone) ≡ evals gone
goes_calls f items (goes_away m listed others e) n gone =
    let o = found f listed (export_leaves n m nothing) items others e in
    Prim.omega (arith, listed_evaluate (listed_there o.passing))

gone_calls : (f : Facts) {before : Forest} (items : Forest) → Items before → evals (all_gone f before items) ≡ 0
gone_calls f nothing all = refl
gone_calls f (absent rest) all = refl
gone_calls f {before = before} (node k n b rest) all = by (passed_before f before k b) refl (λ p. λ ps. gone_calls f {before = p} rest ps)
  where
    by : (o : Option Forest) → passed_before f before k b ≡ o → ((p : Forest) → Items p → evals (all_gone f p rest) ≡ 0) → evals (and_gone o k n b (all_gone f (or_joined o before (node k n b nothing)) rest)) ≡ 0
    by (Some others) e next =
        let goes = goes_view f before k b others e in
        goes_calls f all goes n (all_gone f others rest) ∙ next others (goes_items f all goes)
    by None e next = next (longer before k n b) (one_more all k n b)

-- ---- by what is known of a module

module _ (f : Facts) (n m : Note) where
  step_passes : {r z : Forest} → Known f (module_of n m r) → evaluates_somewhere (module_of n m r) ≡ false → Step f r z → PassedExports (module_of n m r) (module_of n m z)
  step_passes {r = r} {z = z} k quiet h =
      let o = both h.passing in
      let p = it_passes h.passing in
      exports_pass n m h.names r h.left z p (are_free f k.marked h.listed (module_of n m h.left) (left_known f k.marked n m o.listed_are (without_it h.passing) k.knows) o.names_are (import_sites n m p) h.alone_there) quiet

  steps_edit : {r t : Forest} → Known f (module_of n m r) → evaluates_somewhere (module_of n m r) ≡ false → Steps f r t → TreeEdits (module_of n m r) (module_of n m t)
  steps_edit k quiet (none_more r) = no_tree_edit (module_of n m r)
  steps_edit k quiet (one_more_passes r s t h more) =
      let old = module_of n m r in
      let now = module_of n m s in
      let it = step_passes k quiet h in
      let known = still_known f old now (one_tree_edit old now now (passes old now it) (no_tree_edit now)) k in
      one_tree_edit old now (module_of n m t) (passes old now it) (steps_edit known (same_evaluates old now it ∙ quiet) more)

-- ---- which may go

bound_again : (k : Kind) (n : Note) (below rest : Forest) (x : List ℕ) → is_some (bound_in rest x) ≡ true → is_some (bound_in (node k n below rest) x) ≡ true
bound_again k n (node (Kind.BindingName y) m b beside) rest x h = by (bytes_eq y x) (is_some (imported k)) refl
  where
    by : (b c : Bool) → is_some (imported k) ≡ c → is_some (if b && c then imported k else bound_in rest x) ≡ true
    by true true e = e
    by true false e = h
    by false c e = h
bound_again k n (node l m b beside) rest x h = h
bound_again k n (absent r) rest x h = h
bound_again k n nothing rest x h = h

same_name : (x : List ℕ) → bytes_eq x x ≡ true
same_name x = (bytes_eq-Decides x x).1 refl

some_there : (b c : Bool) {A : Type 0} (o p : Option A) → b ≡ true → c ≡ true → is_some o ≡ true → is_some (if b && c then o else p) ≡ true
some_there true true o p e g h = h
some_there true false o p e g h = no_kind g
some_there false c o p e g h = no_kind e

exact_some : (name : ModuleName) → is_exact_module_name name ≡ true → is_some (imported (import_specifier name)) ≡ true
exact_some name e = by (is_exact_module_name name) e
  where
    by : (b : Bool) → b ≡ true → is_some (if b then Some name else None) ≡ true
    by true e = refl
    by false e = no_kind e

bound_some : {names : Forest} {x : List ℕ} {exported : ModuleName} → Binds names x exported → is_some (bound_in names x) ≡ true
bound_some (binds_export name n m x rest exact) =
    some_there (bytes_eq x x) (is_some (imported (import_specifier name))) (imported (import_specifier name)) (bound_in rest x) (same_name x) (exact_some name exact) (exact_some name exact)
bound_some (binds_default n m x rest) = some_there (bytes_eq x x) true (imported import_default_specifier) (bound_in rest x) (same_name x) refl refl
bound_some (binds_behind k n below rest x exported b) = bound_again k n below rest x (bound_some b)

passed_some : {names listed list : Forest} → Passes names listed list → is_some (passed names listed) ≡ true
passed_some passes_none = refl
passed_some {names = names} (passes_one exported name n m i x rest list binds more) = by (bound_in names x) (passed names rest) (bound_some binds) (passed_some more)
  where
    by : (o : Option ModuleName) (p : Option Forest) → is_some o ≡ true → is_some p ≡ true → is_some (and_passed exported n o p) ≡ true
    by (Some y) (Some t) e h = refl
    by (Some y) None e h = no_kind h
    by None p e h = no_kind e

export_some : (source : List ℕ) (n m : Note) (o : Option ModuleName) (p : Option Forest) → is_some p ≡ true → is_some (export_of source n m o p) ≡ true
export_some source n m (Some y) p h = refl
export_some source n m None (Some t) h = refl
export_some source n m None None h = no_kind h

on_some : (f : Facts) (source : List ℕ) (n m : Note) {names listed below : Forest} {k : Kind} → PassedOn source names listed k below → are_passed_alone f listed names ≡ true → is_some (passed_on f listed (import_declaration source) n (node specifiers m names nothing)) ≡ true
on_some f source n m (names_passed_on names listed list j may more) only =
    some_there (may_pass names listed) (are_passed_alone f listed names) (export_of source n m (namespace_passed names listed) (passed names listed)) None may only (export_some source n m (namespace_passed names listed) (passed names listed) (passed_some more))
on_some f source n m (namespace_passed_on exported i j o q x) only =
    let names = node import_namespace_specifier i (node (binding_name x) j nothing nothing) nothing in
    let listed = node (export_specifier exported) o (node (reference_name x) q nothing nothing) nothing in
    some_there (may_pass names listed) (are_passed_alone f listed names) (export_of source n m (Some exported) (passed names listed)) None (and_from (bytes_eq x x || false) true (first_of_either (bytes_eq x x) false (same_name x)) refl) only refl

put_first : (k : Kind) (n : Note) (b rest : Forest) (o : Option Tree) (l : Option Forest) → is_some o ≡ true → is_some (put_in k n b rest o l) ≡ true
put_first k n b rest (Some y) l h = refl
put_first k n b rest None l h = no_kind h

put_later : (k : Kind) (n : Note) (b rest : Forest) (o : Option Tree) (l : Option Forest) → is_some l ≡ true → is_some (put_in k n b rest o l) ≡ true
put_later k n b rest (Some y) l h = refl
put_later k n b rest None (Some t) h = refl
put_later k n b rest None None h = no_kind h

put_either : (k : Kind) (n : Note) (b p q : Forest) (o : Option Tree) (l i : Option Forest) → (is_some l ≡ true → is_some i ≡ true) → is_some (put_in k n b p o l) ≡ true → is_some (put_in k n b q o i) ≡ true
put_either k n b p q (Some y) l i more h = refl
put_either k n b p q None (Some t) i more h = put_later k n b q None i (more refl)
put_either k n b p q None None i more h = no_kind h

module _ (f : Facts) (listed : Forest) where
  still_some : (p q : Forest) → is_some (passed_among f listed p) ≡ true → is_some (passed_among f listed (joined p q)) ≡ true
  still_some nothing q h = no_kind h
  still_some (absent p) q h = no_kind h
  still_some (node k n b p) q h = put_either k n b p (joined p q) (passed_on f listed k n b) (passed_among f listed p) (passed_among f listed (joined p q)) (λ g. still_some p q g) h

  last_some : {p : Forest} → Items p → (k : Kind) (n : Note) (b : Forest) → is_some (passed_on f listed k n b) ≡ true → is_some (passed_among f listed (joined p (node k n b nothing))) ≡ true
  last_some no_items k n b h = put_first k n b nothing (passed_on f listed k n b) None h
  last_some (an_item l i c p items) k n b h = put_later l i c (joined p (node k n b nothing)) (passed_on f listed l i c) (passed_among f listed (joined p (node k n b nothing))) (last_some items k n b h)

  later_goes : {r s : Forest} → WithoutExport listed r s → (before : Forest) → is_some (passed_among f listed before) ≡ true → one_passes f before r ≡ true
  later_goes (export_leaves n m rest) before h =
      first_of_either (is_some (passed_among f listed before)) (one_passes f (joined before (node (export_named_declaration None) n (absent (node specifiers m listed nothing)) nothing)) rest) h
  later_goes (leaves_behind k n b r s out) before h =
      second_of_either (is_some (passed_before f before k b)) (one_passes f (joined before (node k n b nothing)) r) (later_goes out (joined before (node k n b nothing)) (still_some before (node k n b nothing) h))

  goes_somewhere : {names r s z : Forest} → Passing names listed r s z → are_passed_alone f listed names ≡ true → {before : Forest} → Items before → one_passes f before r ≡ true
  goes_somewhere {names = names} (passing_here source n m i k below r s on out) only {before = before} all =
      let import_kind = import_declaration source in
      let list = node specifiers m names nothing in
      second_of_either false (one_passes f (joined before (node import_kind n list nothing)) r) (later_goes out (joined before (node import_kind n list nothing)) (last_some all import_kind n list (on_some f source n m on only)))
  goes_somewhere (passing_behind k n b r s z p) only {before = before} all =
      second_of_either (is_some (passed_before f before k b)) (one_passes f (joined before (node k n b nothing)) r) (goes_somewhere p only (one_more all k n b))

-- ---- the rule

data PassedList (f : Facts) : Kind → Forest → Forest → Type 0 where
  list_passes : (m : Note) (items : Forest) → one_passes f nothing items ≡ true → PassedList f (program source_type.Module) (node statements m items nothing) (node statements m (all_passed f nothing items) nothing)

list_view : (f : Facts) (b c : Forest) → list_passed f b ≡ Some c → PassedList f (program source_type.Module) b c
list_view f (node Kind.Statements m items nothing) c e = by (one_passes f nothing items) refl e
  where
    by : (q : Bool) → one_passes f nothing items ≡ q → (if q then Some (node statements m (all_passed f nothing items) nothing) else None) ≡ Some c → PassedList f (program source_type.Module) (node statements m items nothing) c
    by true h is = subst (λ z. PassedList f (program source_type.Module) (node statements m items nothing) z) (cc is) (list_passes m items h)
    by false h is = none_some is
list_view f (node Kind.Statements m items (absent r)) c e = none_some e
list_view f (node Kind.Statements m items (node k n b r)) c e = none_some e
list_view f (node k m items r) c e = none_some e
list_view f (absent r) c e = none_some e
list_view f nothing c e = none_some e

below_view : (f : Facts) (k : Kind) (b c : Forest) → below_passed f k b ≡ Some c → PassedList f k b c
below_view f (Kind.Program source_type.Module) b c e = list_view f b c e
below_view f k b c e = none_some e

record Came (f : Facts) (p : Place) (x y : Tree) : Type 0 where
  below : Forest
  comes : PassedList f x.kind x.below below
  outermost : is_outermost p.ancestors ≡ true
  shut : scope_has f.scoping 0 scope_flag.direct_eval ≡ false
  is : record { kind = x.kind; note = x.note; below = below } ≡ y

came : (f : Facts) (p : Place) (x y : Tree) → pass_on f p x ≡ Some y → Came f p x y
came f p x y e = by (is_outermost p.ancestors && not (scope_has f.scoping 0 scope_flag.direct_eval)) refl e
  where
    with_new : is_outermost p.ancestors && not (scope_has f.scoping 0 scope_flag.direct_eval) ≡ true → (o : Option Forest) → below_passed f x.kind x.below ≡ o → with_below x o ≡ Some y → Came f p x y
    with_new may None h is = none_some is
    with_new may (Some c) h is =
        let o = and_parts (is_outermost p.ancestors) (not (scope_has f.scoping 0 scope_flag.direct_eval)) may in
        record { below = c; comes = below_view f x.kind x.below c h; outermost = o.0; shut = is_shut (scope_has f.scoping 0 scope_flag.direct_eval) o.1; is = cc is }

    by : (q : Bool) → is_outermost p.ancestors && not (scope_has f.scoping 0 scope_flag.direct_eval) ≡ q → (if q then with_below x (below_passed f x.kind x.below) else None) ≡ Some y → Came f p x y
    by true h is = with_new h (below_passed f x.kind x.below) refl is
    by false h is = none_some is

-- ---- what it does

module _ (f : Facts) where
  edits_by : {k : Kind} {b c : Forest} → PassedList f k b c → (n : Note) → Known f (node k n b nothing) → evaluates_somewhere (node k n b nothing) ≡ false → TreeEdits (node k n b nothing) (node k n c nothing)
  edits_by (list_passes m items h) n known quiet = steps_edit f n m known quiet (all_pass f items no_items)

  edits_there : (marked : ℕ → Bool) {a : Around} {rest : Forest} → Alone a rest → (x y : Tree) → Knows f marked (plug a (node x.kind x.note x.below rest)) → Came f (place_at a (goes_on rest)) x y
      → TreeEdits (plug a (node x.kind x.note x.below rest)) (plug a (node y.kind y.note y.below rest))
  edits_there marked all_alone x y k o =
      subst (λ (z : Tree). TreeEdits (forest_of x) (forest_of z)) o.is (edits_by o.comes x.note (record { marked = marked; knows = k }) (shut_there f marked (forest_of x) k o.shut))

  pub rule_edits : (marked : ℕ → Bool) (a : Around) (x y : Tree) (rest : Forest) → Knows f marked (plug a (node x.kind x.note x.below rest)) → pass_on f (place_at a (goes_on rest)) x ≡ Some y
      → TreeEdits (plug a (node x.kind x.note x.below rest)) (plug a (node y.kind y.note y.below rest))
  rule_edits marked a x y rest k e =
      let o = came f (place_at a (goes_on rest)) x y e in
      edits_there marked (alone a x.kind x.note x.below rest k.fits (flat a (goes_on rest) o.outermost)) x y k o

  lighter_by : {k : Kind} {b c : Forest} → PassedList f k b c → (n : Note) → total weight (node k n c nothing) + 1 ≤ total weight (node k n b nothing)
  lighter_by (list_passes m items h) n = Prim.omega (arith, less_in_row f items h)

  pub rule_lighter : (p : Place) (x y : Tree) → pass_on f p x ≡ Some y → total weight (forest_of y) + 1 ≤ total weight (forest_of x)
  rule_lighter p x y e = let o = came f p x y e in subst (λ (z : Tree). total weight (forest_of z) + 1 ≤ total weight (forest_of x)) o.is (lighter_by o.comes x.note)

  refers_by : {k : Kind} {b c : Forest} → PassedList f k b c → (n : Note) (i : ℕ) → ids i (node k n b nothing) ≡ ids i (node k n c nothing) + ids i (list_gone f b)
  refers_by (list_passes m items h) n i = Prim.omega (arith, gone_tally (by_id i) f items no_items)

  pub rule_refers : (p : Place) (x y : Tree) → pass_on f p x ≡ Some y → (i : ℕ) → ids i (forest_of x) ≡ ids i (forest_of y) + ids i (list_gone f x.below)
  rule_refers p x y e i = let o = came f p x y e in subst (λ (z : Tree). ids i (forest_of x) ≡ ids i (forest_of z) + ids i (list_gone f x.below)) o.is (refers_by o.comes x.note i)

  calls_by : {k : Kind} {b c : Forest} → PassedList f k b c → (n : Note) → evals (node k n c nothing) ≡ evals (node k n b nothing)
  calls_by (list_passes m items h) n = Prim.omega (arith, same_calls (all_pass f items no_items))

  pub rule_calls : (p : Place) (x y : Tree) → pass_on f p x ≡ Some y → evals (forest_of y) ≡ evals (forest_of x)
  rule_calls p x y e = let o = came f p x y e in subst (λ (z : Tree). evals (forest_of z) ≡ evals (forest_of x)) o.is (calls_by o.comes x.note)

  gone_by : {k : Kind} {b c : Forest} → PassedList f k b c → evals (list_gone f b) ≡ 0
  gone_by (list_passes m items h) = gone_calls f items no_items

  pub rule_gone : (p : Place) (x y : Tree) → pass_on f p x ≡ Some y → evals (list_gone f x.below) ≡ 0
  rule_gone p x y e = gone_by (came f p x y e).comes

  -- ---- where it finds nothing

  passes_by : {k : Kind} {b c : Forest} → PassedList f k b c → (n : Note) → Known f (node k n b nothing) → evaluates_somewhere (node k n b nothing) ≡ false → ((u : Forest) → PassedExports (node k n b nothing) u → ⊥) → ⊥
  passes_by (list_passes m items h) n known quiet none = let o = some_pass f items no_items h in none (module_of n m o.next) (step_passes f n m known quiet o.first)

  stays_there : (marked : ℕ → Bool) {a : Around} {rest : Forest} → Alone a rest → (x y : Tree) → Knows f marked (plug a (node x.kind x.note x.below rest)) → ((u : Forest) → PassedExports (plug a (node x.kind x.note x.below rest)) u → ⊥) → Came f (place_at a (goes_on rest)) x y → ⊥
  stays_there marked all_alone x y k none o = passes_by o.comes x.note (record { marked = marked; knows = k }) (shut_there f marked (forest_of x) k o.shut) none

  pub rule_stays : (marked : ℕ → Bool) (t : Forest) → Knows f marked t → ((u : Forest) → PassedExports t u → ⊥) → (a : Around) (x : Tree) (rest : Forest) → t ≡ plug a (node x.kind x.note x.below rest) → pass_on f (place_at a (goes_on rest)) x ≡ None
  rule_stays marked t knows nobody a x rest is =
      by (subst (λ u. Knows f marked u) is knows) (subst (λ v. (u : Forest) → PassedExports v u → ⊥) is nobody) (pass_on f (place_at a (goes_on rest)) x) refl
    where
      by : Knows f marked (plug a (node x.kind x.note x.below rest)) → ((u : Forest) → PassedExports (plug a (node x.kind x.note x.below rest)) u → ⊥) → (o : Option Tree) → pass_on f (place_at a (goes_on rest)) x ≡ o → o ≡ None
      by k none None e = refl
      by k none (Some y) e =
          let o = came f (place_at a (goes_on rest)) x y e in
          absurd (stays_there marked (alone a x.kind x.note x.below rest k.fits (flat a (goes_on rest) o.outermost)) x y k none o)

comes_then : (x : Tree) (c : Forest) (a b : Bool) → a ≡ false → b ≡ true → (if not a then with_below x (if b then Some c else None) else None) ≡ None → ⊥
comes_then x c false true h g e = cc
comes_then x c true b h g e = true≢false h
comes_then x c false false h g e = true≢false (sym g)

pub rule_goes : (f : Facts) (t : Forest) → Knows f unmarked t → Exactly f t → ((a : Around) (x : Tree) (rest : Forest) → t ≡ plug a (node x.kind x.note x.below rest) → pass_on f (place_at a (goes_on rest)) x ≡ None) → (u : Forest) → PassedExports t u → ⊥
rule_goes f _ k exactly none _ (exports_pass n m names r s z p free quiet) =
    let t = module_of n m r in
    let x : Tree = record { kind = program source_type.Module; note = n; below = node statements m r nothing } in
    let o = listing p in
    let there = both o.passing in
    let left = left_known f unmarked n m there.listed_are (without_it o.passing) k in
    let only = are_alone f o.listed (module_of n m s) left (left_only f n m there.listed_are (without_it o.passing) exactly) there.names_are (import_sites n m p) free in
    comes_then x (node statements m (all_passed f nothing r) nothing) (scope_has f.scoping 0 scope_flag.direct_eval) (one_passes f nothing r)
    (not_flagged (scope_has f.scoping 0 scope_flag.direct_eval) (evaluates_somewhere t) (program_evaluates f t k.outermost exactly.flags) quiet) (goes_somewhere f o.listed o.passing only no_items) (none here x nothing refl)
