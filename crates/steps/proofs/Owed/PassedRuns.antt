-- A core module does the same where it passes on, in front of an import, what it exported of that: the export leaves, and what comes in is
-- resolved to what the import binds.
use Rattle.std.proofs.Common.{◌≡◌, ◌∙◌, ◌⊎◌, inl, inr, ◌≤◌, ◌+◌, List, [], ◌∷◌, ◌++◌, Bool, true, false, true≢false, ◌||◌, if◌then◌else◌, bytes_eq, codes, append-nil, Some, arith, refl, sym, ap, ap₂, subst}
use Rattle.std.proofs.lemmas.List.{append_assoc}
use Rattle.std.proofs.lemmas.Slice.Eq.{bytes_eq-Decides}
use Rattle.js_syntax.specs.declared.node_kind.NodeKind.{NodeKind as Kind}
use Rattle.js_syntax.specs.declared.value.ModuleName.{ModuleName}
use Rattle.js_syntax.specs.Node.{Forest, Tree, Note, nothing, node}
use Rattle.js_meaning.specs.Value.{Text, this_name}
use Rattle.js_meaning.specs.Scope.{Way, ready, linked, Decl, decl, all_so, module_text, specifier_decls, import_decls, item_decls, lexical, vars_of, var_names, module_decls}
use Rattle.js_meaning.specs.Module.{Entry, local_entries, foreign_entries, entries_of, entries, requests_of, requests, distinct, star_of, stars}
use Rattle.js_meaning.specs.Kept.{Refined}
use Rattle.js_meaning_near.specs.Avoid.{CellIf, HasCells, declares, InPlace}
use Rattle.js_meaning_near.specs.Fit.{names_after, whole}
use Rattle.js_meaning_near.specs.Names.{Names, no_names as no_names_yet, Decls, AllPlain}
use Rattle.js_meaning_near.specs.Near.{items, Near, leaves, idle_export, module_of}
use Rattle.js_meaning_near.specs.Purpose.{Purposes}
use Rattle.js_meaning_near.specs.Reexported as near
use Rattle.js_meaning_near.specs.Reexported.{Imports, imports_here, imports_further_on, entry_name, as_before, further_on, passed_on, two_change, one_by_one, PutIn, names_put_in, namespace_put_in, put_in_behind, reexported_module}
use Rattle.js_meaning_near.proofs.Avoid.{after_plain, fits_clear}
use Rattle.js_meaning_near.proofs.Fit.{same_decls, fit}
use Rattle.js_meaning_near.proofs.Once.{node_stays}
use Rattle.js_meaning_near.proofs.Reexported.{reexported_refines}
use Rattle.scope_laws.specs.Place.{Around, first, behind, behind_none, under, plug}
use Rattle.steps.specs.Steps.{binds_import}
use Rattle.steps.specs.Allowed.PassedExports.{Binds, binds_export, binds_default, binds_behind, Passes, passes_none, passes_one, PassedOn, names_passed_on, namespace_passed_on, WithoutExport, export_leaves, leaves_behind, PassesIn, passes_here, passes_behind}
use Rattle.steps.specs.Fit.Clear.{times}
use Rattle.steps.specs.Fit.Sensible.{IsSensibleModule}
use Rattle.steps.proofs.Fit.Lists.{times_joined}
use Rattle.steps.proofs.KeepRuns.Modules.{exports_plain}
use Rattle.steps.proofs.Owed.EntryNames.{entry_names, entries_joined, entries_apart}
use Rattle.steps.proofs.Owed.Exported.{Lacks, Distinct}
use Rattle.steps.proofs.Owed.MergedForm.{name_twice}
use Rattle.steps.proofs.Owed.MergedRuns.{distinct_behind}
use Rattle.steps.proofs.Owed.PassedForm.{exports_apart}
use Rattle.steps.proofs.Owed.PassedPlaces.{an_import, export_out, import_in}
use Rattle.steps.proofs.Owed.PassedRows.{AreListed, none_listed, one_listed, ArePassed, none_passed, one_passed, IsNew, new_names, new_namespace, parts}
use Rattle.steps.proofs.Owed.RepeatedRuns.{is_flat, distinct_again}

-- ---- entries under other names go in front of others

lacks_left : (xs ys : List Text) (x : Text) → Lacks (xs ++ ys) x → Lacks xs x
lacks_left [] ys x h = tt
lacks_left (z ∷ xs) ys x h = (h.0, lacks_left xs ys x h.1)

lacks_right : (xs ys : List Text) (x : Text) → Lacks (xs ++ ys) x → Lacks ys x
lacks_right [] ys x h = h
lacks_right (z ∷ xs) ys x h = lacks_right xs ys x h.1

distinct_right : (xs ys : List Text) → Distinct (xs ++ ys) → Distinct ys
distinct_right [] ys h = h
distinct_right (x ∷ xs) ys h = distinct_right xs ys h.1

apart_behind : (es fs : List Entry) → Distinct (entry_names (es ++ fs)) → Distinct (entry_names fs)
apart_behind es fs h = distinct_right (entry_names es) (entry_names fs) (subst Distinct (entries_joined es fs) h)

abbrev EachLacks : (es ls : List Entry) → Type 0
EachLacks [] ls = Unit {0}
EachLacks (e ∷ es) ls = Lacks (entry_names ls) (entry_name e) × EachLacks es ls

listed_lacks : {listed r s : Forest} (x : Text) → WithoutExport listed r s → Lacks (entry_names (entries r)) x → Lacks (entry_names (local_entries listed)) x
listed_lacks {listed = listed} x (export_leaves n m rest) h = lacks_left (entry_names (local_entries listed)) (entry_names (entries rest)) x (subst (λ l. Lacks l x) (entries_joined (local_entries listed) (entries rest)) h)
listed_lacks x (leaves_behind k n below r s out) h = listed_lacks x out (lacks_right (entry_names (entries_of k below)) (entry_names (entries r)) x (subst (λ l. Lacks l x) (entries_joined (entries_of k below) (entries r)) h))

each_lacks : {listed r s : Forest} → WithoutExport listed r s → (es : List Entry) → Distinct (entry_names (es ++ entries r)) → EachLacks es (local_entries listed)
each_lacks out [] h = tt
each_lacks {r = r} out (e ∷ es) h =
    (listed_lacks (entry_name e) out (lacks_right (entry_names es) (entry_names (entries r)) (entry_name e) (subst (λ l. Lacks l (entry_name e)) (entries_joined es (entries r)) h.0)), each_lacks out es h.1)

module _ (ds : List Decl) where
  one_over : (e : Entry) (ls es : List Entry) → Lacks (entry_names ls) (entry_name e) → near.PassedOn ds (e ∷ (ls ++ es)) (ls ++ (e ∷ es))
  one_over e [] es h = as_before
  one_over e (l ∷ ls) es h = one_by_one (two_change (name_twice (entry_name e) (entry_name l) ∙ h.0)) (further_on (one_over e ls es h.1))

  all_over : (fs ls es : List Entry) → EachLacks fs ls → near.PassedOn ds (fs ++ (ls ++ es)) (ls ++ (fs ++ es))
  all_over [] ls es h = as_before
  all_over (f ∷ fs) ls es h = one_by_one (further_on (all_over fs ls es h.1)) (one_over f ls (fs ++ es) h.0)

  behind_all : (fs : List Entry) {es gs : List Entry} → near.PassedOn ds es gs → near.PassedOn ds (fs ++ es) (fs ++ gs)
  behind_all [] h = h
  behind_all (f ∷ fs) h = further_on (behind_all fs h)

  listed_first : {listed r s : Forest} → WithoutExport listed r s → Distinct (entry_names (entries r)) → near.PassedOn ds (entries r) (local_entries listed ++ entries s)
  listed_first (export_leaves n m rest) h = as_before
  listed_first {listed = listed} (leaves_behind k n below r s out) h =
      let own = entries_of k below in
      one_by_one (behind_all own (listed_first out (apart_behind own (entries r) h))) (all_over own (local_entries listed) (entries s) (each_lacks out own h))

-- ---- what an import binds

abbrev pub text_of_kind : Kind → Text
text_of_kind (Kind.ImportSpecifier imported) = module_text imported
text_of_kind Kind.ImportDefaultSpecifier = codes "default"
text_of_kind k = codes "*"

pub data Named : Forest → (x text : Text) → Type 0 where
  named_here : (k : Kind) (n m : Note) (x : Text) (rest : Forest) → binds_import k ≡ true → Named (node k n (node (Kind.BindingName x) m nothing nothing) rest) x (text_of_kind k)
  named_behind : (k : Kind) (n : Note) (below rest : Forest) (x text : Text) → Named rest x text → Named (node k n below rest) x text

bound_named : {names : Forest} {x : Text} {imported : ModuleName} → Binds names x imported → Named names x (module_text imported)
bound_named (binds_export imported n m x rest exact) = named_here (Kind.ImportSpecifier imported) n m x rest refl
bound_named (binds_default n m x rest) = named_here Kind.ImportDefaultSpecifier n m x rest refl
bound_named (binds_behind k n below rest x imported h) = named_behind k n below rest x (module_text imported) (bound_named h)

abbrev Bound : List Decl → Text → Forest → Type 0
Bound ds source names = (x text : Text) → Named names x text → Imports ds x source text

module _ (ds : List Decl) (source : Text) where
  passes_on : {names listed passed : Forest} → Bound ds source names → Passes names listed passed → (es : List Entry) → near.PassedOn ds (local_entries listed ++ es) (foreign_entries source passed ++ es)
  passes_on bound passes_none es = as_before
  passes_on bound (passes_one exported imported n m i x rest passed binds more) es = one_by_one (passed_on (bound x (module_text imported) (bound_named binds))) (further_on (passes_on bound more es))

  both_pass : {names listed : Forest} {k : Kind} {below : Forest} → Bound ds source names → PassedOn source names listed k below → (es : List Entry) → near.PassedOn ds (local_entries listed ++ es) (entries_of k below ++ es)
  both_pass bound (names_passed_on names listed passed j may passes) es = passes_on bound passes es
  both_pass bound (namespace_passed_on exported n m i j x) es = passed_on (bound x (codes "*") (named_here Kind.ImportNamespaceSpecifier n m x nothing refl))

row_passes : {names r s z : Forest} (h : PassesIn names r s z) (ds : List Decl) → Bound ds (import_in h).source names → Distinct (entry_names (entries r)) → near.PassedOn ds (entries r) (entries z)
unfolding import_in
row_passes (passes_here source n m i listed k below r s on out) ds bound apart = one_by_one (listed_first ds out apart) (both_pass ds source bound on (entries s))
row_passes (passes_behind k n below r s z h) ds bound apart = behind_all ds (entries_of k below) (row_passes h ds bound (apart_behind (entries_of k below) (entries r) apart))

-- ---- a module declares once what it imports

undeclared : (x : Text) (ds : List Decl) → times x ds ≡ 0 → declares ds x ≡ false
undeclared x [] h = refl
undeclared x (decl y way ∷ ds) h = by (bytes_eq y x) h (λ g. undeclared x ds g)
  where
    by : (b : Bool) → (if b then 1 else 0) + times x ds ≡ 0 → (times x ds ≡ 0 → declares ds x ≡ false) → (b || declares ds x) ≡ false
    by true g more = absurd (Prim.omega (arith, g))
    by false g more = more (Prim.omega (arith, g))

once_here : (x : Text) (way : Way) (ds : List Decl) → times x (decl x way ∷ ds) ≤ 1 → declares ds x ≡ false
once_here x way ds h = undeclared x ds (Prim.omega (arith, h, ap (λ b. (if b then 1 else 0) + times x ds) ((bytes_eq-Decides x x).1 refl)))

further : (ds : List Decl) {es : List Decl} {x source name : Text} → Imports es x source name → Imports (ds ++ es) x source name
further [] h = h
further (d ∷ ds) h = imports_further_on (further ds h)

pub cells_behind : (x : Text) (ds es : List Decl) → HasCells x (ds ++ es) → HasCells x es
cells_behind x [] es h = h
cells_behind x (decl y way ∷ ds) es h = cells_behind x ds es h.1

-- its list, where the import declares one name and others behind
import_behind : (source : Text) (k : Kind) (n : Note) (below rest : Forest) (ds : List Decl) → import_decls source (node k n below rest) ++ ds ≡ specifier_decls source k below (import_decls source below) ++ (import_decls source rest ++ ds)
import_behind source k n below rest ds = append_assoc (specifier_decls source k below (import_decls source below)) (import_decls source rest) ds

pub import_here : (source : Text) (k : Kind) (n m : Note) (x : Text) (rest : Forest) (ds : List Decl) → binds_import k ≡ true
    → import_decls source (node k n (node (Kind.BindingName x) m nothing nothing) rest) ++ ds ≡ decl x (linked source (text_of_kind k)) ∷ (import_decls source rest ++ ds)
import_here source (Kind.ImportSpecifier imported) n m x rest ds h = refl
import_here source Kind.ImportDefaultSpecifier n m x rest ds h = refl
import_here source Kind.ImportNamespaceSpecifier n m x rest ds h = refl
import_here source k n m x rest ds h = absurd (true≢false (sym h))

module _ (source : Text) (ds : List Decl) where
  abbrev with_names : Forest → List Decl
  with_names names = import_decls source names ++ ds

  no_cell : {names : Forest} {x text : Text} → Named names x text → HasCells x (with_names names) → ⊥
  no_cell (named_here k n m x rest binds) h = by (bytes_eq x x) ((bytes_eq-Decides x x).1 refl) (subst (HasCells x) (import_here source k n m x rest ds binds) h).0
    where
      by : (b : Bool) → b ≡ true → CellIf b (linked source (text_of_kind k)) → ⊥
      by true e c = c
      by false e c = true≢false (sym e)
  no_cell (named_behind k n below rest x text named) h =
      no_cell named (cells_behind x (specifier_decls source k below (import_decls source below)) (with_names rest) (subst (HasCells x) (import_behind source k n below rest ds) h))

  imported_once : {names : Forest} {x text : Text} → Named names x text → times x (with_names names) ≤ 1 → Imports (with_names names) x source text
  imported_once (named_here k n m x rest binds) h =
      subst (λ es. Imports es x source (text_of_kind k)) (sym (import_here source k n m x rest ds binds))
      (imports_here (once_here x (linked source (text_of_kind k)) (with_names rest) (subst (λ es. times x es ≤ 1) (import_here source k n m x rest ds binds) h)))
  imported_once (named_behind k n below rest x text named) h =
      let own = specifier_decls source k below (import_decls source below) in
      let both = import_behind source k n below rest ds in
      subst (λ es. Imports es x source text) (sym both) (further own (imported_once named (Prim.omega (arith, h, ap (times x) both, times_joined x own (with_names rest)))))

-- ---- what a module declares around an import

abbrev pub lexical_before : Around → List Decl
lexical_before (first rest) = []
lexical_before (behind k n b a) = item_decls k b (lexical b) ++ lexical_before a
lexical_before (behind_none a) = lexical_before a
lexical_before (under k n a rest) = []

abbrev pub lexical_after : Around → List Decl
lexical_after (first rest) = lexical rest
lexical_after (behind k n b a) = lexical_after a
lexical_after (behind_none a) = lexical_after a
lexical_after (under k n a rest) = []

pub lexical_around : (source : Text) (names : Forest) (n m : Note) (a : Around) → is_flat a ≡ true → lexical (plug a (Some (an_import source names n m))) ≡ lexical_before a ++ (import_decls source names ++ lexical_after a)
lexical_around source names n m (first rest) flat = ap (λ l. l ++ lexical rest) (append-nil (import_decls source names))
lexical_around source names n m (behind k i b a) flat =
    ap (λ l. item_decls k b (lexical b) ++ l) (lexical_around source names n m a flat) ∙ sym (append_assoc (item_decls k b (lexical b)) (lexical_before a) (import_decls source names ++ lexical_after a))
lexical_around source names n m (behind_none a) flat = lexical_around source names n m a flat
lexical_around source names n m (under k i a rest) flat = absurd (true≢false (sym flat))

abbrev pub declared_before : Around → Tree → List Decl
declared_before a x = decl this_name ready ∷ (all_so ready (var_names (plug a (Some x))) ++ lexical_before a)

pub declared_around : (source : Text) (names : Forest) (n m : Note) (a : Around) → is_flat a ≡ true
    → module_decls (plug a (Some (an_import source names n m))) ≡ declared_before a (an_import source names n m) ++ (import_decls source names ++ lexical_after a)
declared_around source names n m a flat =
    let vs = all_so ready (var_names (plug a (Some (an_import source names n m)))) in
    ap (λ l. decl this_name ready ∷ l) (ap (λ l. vs ++ l) (lexical_around source names n m a flat) ∙ sym (append_assoc vs (lexical_before a) (import_decls source names ++ lexical_after a)))

-- names are bound once by it
pub names_bound : (source : Text) (names : Forest) (n m : Note) (a : Around) → is_flat a ≡ true → (ds : List Decl) → ds ≡ module_decls (plug a (Some (an_import source names n m))) → ((x : Text) → (times x ds ≤ 1) ⊎ HasCells x ds) → Bound ds source names
names_bound source names n m a flat ds is once x text named =
    let front = declared_before a (an_import source names n m) in
    let rest = import_decls source names ++ lexical_after a in
    let all = is ∙ declared_around source names n m a flat in
    subst (λ es. Imports es x source text) (sym all) (further front (imported_once source (lexical_after a) named (elim (once x) [
      | inl few ↦ Prim.omega (arith, few, ap (times x) all, times_joined x front rest)
      | inr cells ↦ absurd (no_cell source (lexical_after a) named (cells_behind x front rest (subst (HasCells x) all cells)))
    ])))

-- ---- the export declares nothing, asks for nothing, and does nothing

listed_vars : {listed : Forest} → AreListed listed → var_names listed ≡ []
listed_vars none_listed = refl
listed_vars (one_listed exported n m x rest are) = listed_vars are

pub passed_vars : {passed : Forest} → ArePassed passed → var_names passed ≡ []
passed_vars none_passed = refl
passed_vars (one_passed imported exported n rest are) = passed_vars are

left_vars : {listed r s : Forest} → AreListed listed → WithoutExport listed r s → var_names r ≡ var_names s
left_vars are (export_leaves n m rest) = ap (λ l. (l ++ []) ++ var_names rest) (listed_vars are)
left_vars are (leaves_behind k n below r s out) = ap (λ l. vars_of k below (var_names below) ++ l) (left_vars are out)

left_lexical : {listed r s : Forest} → WithoutExport listed r s → lexical r ≡ lexical s
left_lexical (export_leaves n m rest) = refl
left_lexical (leaves_behind k n below r s out) = ap (λ l. item_decls k below (lexical below) ++ l) (left_lexical out)

pub left_decls : {listed r s : Forest} → AreListed listed → WithoutExport listed r s → module_decls r ≡ module_decls s
left_decls are out = ap₂ (λ vs ls. decl this_name ready ∷ (all_so ready vs ++ ls)) (left_vars are out) (left_lexical out)

left_stars : {listed r s : Forest} → WithoutExport listed r s → stars r ≡ stars s
left_stars (export_leaves n m rest) = refl
left_stars (leaves_behind k n below r s out) = ap (λ l. star_of k ++ l) (left_stars out)

left_requests : {listed r s : Forest} → WithoutExport listed r s → requests r ≡ requests s
left_requests (export_leaves n m rest) = refl
left_requests (leaves_behind k n below r s out) = ap (λ l. requests_of k ++ l) (left_requests out)

module _ (st : Names) (plain : AllPlain st) where
  left_near : {listed r s : Forest} {us : Purposes} → InPlace whole items r → WithoutExport listed r s → Near us items st r s
  left_near place (export_leaves n m rest) = leaves idle_export (fit whole items st rest (fits_clear whole items st rest plain place.1))
  left_near place (leaves_behind k n below r s out) = node_stays items st k n below (fits_clear whole items st (node k n below nothing) plain (place.0, tt)).0 (left_near place.1 out)

-- ---- what comes in front of the import

unfoldable pub between : {names r s z : Forest} → PassesIn names r s z → Forest
between {names = names} (passes_here source n m i listed k below r s on out) = node k i below (node (Kind.ImportDeclaration source) n (node Kind.Specifiers m names nothing) s)
between (passes_behind k n below r s z h) = node k n below (between h)

new_put_in : {source : Text} {k : Kind} {below : Forest} → IsNew source k below → (i : Note) (rest : Forest) → PutIn rest (node k i below rest)
new_put_in (new_names passed j are) i rest = names_put_in (passed_vars are)
new_put_in (new_namespace exported) i rest = namespace_put_in

put_in : {names r s z : Forest} (h : PassesIn names r s z) → PutIn s (between h)
unfolding between
put_in {names = names} (passes_here source n m i listed k below r s on out) = new_put_in (parts on).new i (node (Kind.ImportDeclaration source) n (node Kind.Specifiers m names nothing) s)
put_in (passes_behind k n below r s z h) = put_in_behind (put_in h)

between_entries : {names r s z : Forest} (h : PassesIn names r s z) → entries z ≡ entries (between h)
unfolding between
between_entries (passes_here source n m i listed k below r s on out) = refl
between_entries (passes_behind k n below r s z h) = ap (λ l. entries_of k below ++ l) (between_entries h)

pub new_requests : {source : Text} {k : Kind} {below : Forest} → IsNew source k below → requests_of k ≡ source ∷ []
new_requests (new_names passed j are) = refl
new_requests (new_namespace exported) = refl

pub passed_requests : {names r s z : Forest} → PassesIn names r s z → requests r ≡ requests z
passed_requests (passes_here source n m i listed k below r s on out) = ap (λ l. source ∷ l) (left_requests out) ∙ sym (ap (λ l. l ++ requests s) (new_requests (parts on).new))
passed_requests (passes_behind k n below r s z h) = ap (λ l. requests_of k ++ l) (passed_requests h)

itself : (x : Text) → bytes_eq x x ≡ true
itself x = (bytes_eq-Decides x x).1 refl

between_requests : {names r s z : Forest} (h : PassesIn names r s z) → distinct (requests s) ≡ distinct (requests (between h))
unfolding between
between_requests (passes_here source n m i listed k below r s on out) =
    sym (ap (λ l. distinct (l ++ (source ∷ requests s))) (new_requests (parts on).new) ∙ distinct_again source (source ∷ []) (requests s) (ap (λ b. b || false) (itself source)))
between_requests (passes_behind k n below r s z h) = distinct_behind (requests_of k) (requests s) (requests (between h)) (between_requests h)

-- ---- the module

pub between_refines : (n m : Note) {names r s z : Forest} (h : PassesIn names r s z) → IsSensibleModule (module_of n m r) → Refined (module_of n m r) (module_of n m (between h))
between_refines n m {names = names} {r = r} {s = s} h sensible =
    let listed = export_out h in
    let i = import_in h in
    let ds = module_decls r in
    let st = names_after no_names_yet ds in
    let plain : AllPlain st = λ x. after_plain ds no_names_yet x tt in
    let same = left_decls listed.listed_are listed.out in
    let apart = entries_apart n m r sensible (exports_apart n m r sensible.sensible.well_formed) in
    let bound = names_bound i.source names i.note i.list_note i.around i.flat ds (same ∙ ap module_decls (sym i.there)) sensible.clear.0 in
    let passed = subst (near.PassedOn ds (entries r)) (between_entries h) (row_passes h ds bound apart) in
    reexported_refines n m n m (reexported_module (subst (λ es. Decls no_names_yet ds es st) same (same_decls no_names_yet ds)) (left_stars listed.out) (left_near st plain sensible.in_place.0.1.0.1 listed.out) (put_in h) passed
    (exports_plain st (entries (between h)) plain) (ap distinct (left_requests listed.out) ∙ between_requests h))
