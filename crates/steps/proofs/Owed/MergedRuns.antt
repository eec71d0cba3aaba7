-- A core module does the same where two of its imports are one.
use Rattle.std.proofs.Common.{◌≡◌, ◌∙◌, ◌⊎◌, inl, inr, ◌≤◌, ◌+◌, List, [], ◌∷◌, ◌++◌, Bool, true, false, true≢false, ◌&&◌, ◌||◌, if◌then◌else◌, bytes_eq, append-nil, arith, refl, sym, ap, ap₂, subst}
use Rattle.std.specs.List.{AllByRecursion}
use Rattle.std.proofs.lemmas.List.{append_assoc}
use Rattle.std.proofs.lemmas.Slice.Eq.{bytes_eq-Decides}
use Rattle.js_syntax.specs.declared.node_kind.NodeKind.{NodeKind as Kind}
use Rattle.js_syntax.specs.Facts.{is_core}
use Rattle.js_syntax.specs.Node.{Forest, Note, nothing, node}
use Rattle.js_meaning.specs.Value.{Text}
use Rattle.js_meaning.specs.Scope.{Way, waiting, ready, linked, left_out, Decl, decl, all_so, specifier_decls, import_decls, item_decls, lexical, vars_of, var_names, module_decls}
use Rattle.js_meaning.specs.Module.{requests_of, requests, without as others, distinct, entries_of, entries, star_of, stars}
use Rattle.js_meaning.specs.Kept.{Refined}
use Rattle.js_meaning_near.specs.Names.{Names, no_names as no_names_yet, HasCell, AllPlain}
use Rattle.js_meaning_near.specs.Near.{items, Near, near_import, leaves, idle_import, module_of}
use Rattle.js_meaning_near.specs.Purpose.{Purposes, purposes_behind}
use Rattle.js_meaning_near.specs.Fit.{names_after, whole}
use Rattle.js_meaning_near.specs.Avoid.{CellIf, HasCells, InPlace}
use Rattle.js_meaning_near.specs.Reordered as near
use Rattle.js_meaning_near.specs.Reordered.{IsLinked, Reordered, reordered_module}
use Rattle.js_meaning_near.proofs.Avoid.{after_plain, fits_clear}
use Rattle.js_meaning_near.proofs.Fit.{same_decls, fit}
use Rattle.js_meaning_near.proofs.Once.{node_stays}
use Rattle.js_meaning_near.proofs.Reordered.{reordered_refines}
use Rattle.steps.specs.Names.{is_among}
use Rattle.js_syntax.proofs.Truth.{both}
use Rattle.steps.specs.Steps.{all_core}
use Rattle.steps.specs.Fit.Clear.{times}
use Rattle.steps.specs.Fit.Sensible.{IsSensibleModule}
use Rattle.steps.proofs.Among.{among_joined}
use Rattle.steps.proofs.Fit.Held.{core_here, core_below, core_behind}
use Rattle.steps.proofs.KeepRuns.Modules.{exports_plain}
use Rattle.steps.specs.Allowed.MergedImports.{as_named, names_merged, WithoutImport, import_leaves, leaves_behind, MergesIn, merges_here, merges_behind}
use Rattle.steps.proofs.Owed.RepeatedRuns.{distinct_again}
use Rattle.steps.proofs.Owed.Shuffled.{Shuffled, as_before, further_on, two_change, one_by_one, behind_all, back}
use Rattle.steps.proofs.Owed.MergedRows.{AreNames, no_names, a_name, may, merged_are, Reads, reordered}

-- ---- what imports have nothing of

abbrev pub Nothing : {X : Type 0} → X → Type 0
Nothing x = ⊥

pub same_order : {X : Type 0} {xs ys : List X} → Shuffled Nothing xs ys → xs ≡ ys
same_order as_before = refl
same_order (further_on {x = x} h) = ap (λ l. x ∷ l) (same_order h)
same_order (two_change (inl h)) = absurd h
same_order (two_change (inr h)) = absurd h
same_order (one_by_one h g) = same_order h ∙ same_order g

pub no_variables : {t : Forest} → AreNames t → var_names t ≡ []
no_variables no_names = refl
no_variables (a_name (Kind.ImportSpecifier imported) n m x rest h names) = no_variables names
no_variables (a_name Kind.ImportDefaultSpecifier n m x rest h names) = no_variables names
no_variables (a_name Kind.ImportNamespaceSpecifier n m x rest h names) = no_variables names
no_variables (a_name k n m x rest h names) = absurd cc

reads_variables : Reads Nothing var_names (λ source t. [])
reads_variables = record {
  one_first = λ k n below rest. ap (λ l. l ++ var_names rest) (sym (append-nil (vars_of k below (var_names below))));
  of_import = λ source n m all names. append-nil (var_names all ++ []) ∙ append-nil (var_names all) ∙ no_variables names;
  no_names = λ source. refl;
  name_first = λ source k n below rest. refl;
  default_same = λ source k n below h. refl;
  each = λ source all names. tt;
}

reads_entries : Reads Nothing entries (λ source t. [])
reads_entries = record {
  one_first = λ k n below rest. ap (λ l. l ++ entries rest) (sym (append-nil (entries_of k below)));
  of_import = λ source n m all names. refl;
  no_names = λ source. refl;
  name_first = λ source k n below rest. refl;
  default_same = λ source k n below h. refl;
  each = λ source all names. tt;
}

reads_stars : Reads Nothing stars (λ source t. [])
reads_stars = record {
  one_first = λ k n below rest. ap (λ l. l ++ stars rest) (sym (append-nil (star_of k)));
  of_import = λ source n m all names. refl;
  no_names = λ source. refl;
  name_first = λ source k n below rest. refl;
  default_same = λ source k n below h. refl;
  each = λ source all names. tt;
}

-- ---- what they declare

abbrev Links : Decl → Type 0
Links (decl x way) = IsLinked way

default_links : (source : Text) (k : Kind) (below : Forest) (inner : List Decl) → specifier_decls source (as_named k) below inner ≡ specifier_decls source k below inner
default_links source Kind.ImportDefaultSpecifier below inner = refl
default_links source k below inner = refl

all_link : (source : Text) {t : Forest} → AreNames t → AllByRecursion Links (import_decls source t)
all_link source no_names = tt
all_link source (a_name (Kind.ImportSpecifier imported) n m x rest h names) = (tt, all_link source names)
all_link source (a_name Kind.ImportDefaultSpecifier n m x rest h names) = (tt, all_link source names)
all_link source (a_name Kind.ImportNamespaceSpecifier n m x rest h names) = (tt, all_link source names)
all_link source (a_name k n m x rest h names) = absurd cc

reads_declarations : Reads Links lexical import_decls
reads_declarations = record {
  one_first = λ k n below rest. ap (λ l. l ++ lexical rest) (sym (append-nil (item_decls k below (lexical below))));
  of_import = λ source n m all names. append-nil (import_decls source all ++ []) ∙ append-nil (import_decls source all);
  no_names = λ source. refl;
  name_first = λ source k n below rest. ap (λ l. l ++ import_decls source rest) (sym (append-nil (specifier_decls source k below (import_decls source below))));
  default_same = λ source k n below h. ap (λ l. l ++ []) (default_links source k below (import_decls source below));
  each = λ source all names. all_link source names;
}

-- ---- declarations in another order, where what is imported is declared once

abbrev pub Once : List Decl → Type 0
Once ds = (x : Text) → (times x ds ≤ 1) ⊎ HasCells x ds

times_same : (x : Text) {ds es : List Decl} → Shuffled Links ds es → times x ds ≡ times x es
times_same x as_before = refl
times_same x (further_on {x = decl y way} h) = ap (λ n. (if bytes_eq y x then 1 else 0) + n) (times_same x h)
times_same x (two_change {x = decl y v} {y = decl z w} {xs = ds} h) = Prim.omega arith
times_same x (one_by_one h g) = times_same x h ∙ times_same x g

cells_same : (x : Text) {ds es : List Decl} → Shuffled Links ds es → HasCells x ds → HasCells x es
cells_same x as_before c = c
cells_same x (further_on {x = decl y way} h) c = (c.0, cells_same x h c.1)
cells_same x (two_change {x = decl y v} {y = decl z w} h) c = (c.1.0, (c.0, c.1.1))
cells_same x (one_by_one h g) c = cells_same x g (cells_same x h c)

once_same : {ds es : List Decl} → Shuffled Links ds es → Once ds → Once es
once_same {ds = ds} {es = es} h once x = elim (once x) [
  | inl few ↦ inl (subst (λ n. n ≤ 1) (times_same x h) few)
  | inr cells ↦ inr (cells_same x h cells)
]

once_behind : (d : Decl) (ds : List Decl) → Once (d ∷ ds) → Once ds
once_behind (decl y way) ds once x = elim (once x) [
  | inl few ↦ inl (Prim.omega (arith, few))
  | inr cells ↦ inr cells.1
]

-- an import's name isn't another's

no_cell : (way : Way) → IsLinked way → HasCell way → ⊥
no_cell (linked source name) l c = c
no_cell (waiting constant) l c = l
no_cell ready l c = l
no_cell left_out l c = l

has_cell : (b : Bool) (way : Way) → b ≡ true → CellIf b way → HasCell way
has_cell true way e c = c
has_cell false way e c = absurd (true≢false (sym e))

itself : (x : Text) → bytes_eq x x ≡ true
itself x = (bytes_eq-Decides x x).1 refl

apart : (x y : Text) (v w : Way) (ds : List Decl) → IsLinked v ⊎ IsLinked w → Once (decl x v ∷ decl y w ∷ ds) → bytes_eq x y ≡ false
apart x y v w ds links once = by (bytes_eq x y) refl
  where
    both_cells : IsLinked v ⊎ IsLinked w → HasCell v → HasCell w → ⊥
    both_cells (inl l) c d = no_cell v l c
    both_cells (inr l) c d = no_cell w l d

    clash : bytes_eq y x ≡ true → (times x (decl x v ∷ decl y w ∷ ds) ≤ 1) ⊎ HasCells x (decl x v ∷ decl y w ∷ ds) → ⊥
    clash e (inl few) =
        let two : times x (decl x v ∷ decl y w ∷ ds) ≡ 1 + (1 + times x ds) = ap₂ (λ b c. (if b then 1 else 0) + ((if c then 1 else 0) + times x ds)) (itself x) e in
        absurd (Prim.omega (arith, few, two))
    clash e (inr cells) = both_cells links (has_cell (bytes_eq x x) v (itself x) cells.0) (has_cell (bytes_eq y x) w e cells.1.0)

    by : (b : Bool) → bytes_eq x y ≡ b → bytes_eq x y ≡ false
    by true e = absurd (clash ((bytes_eq-Decides y x).1 (sym ((bytes_eq-Decides x y).0 e))) (once x))
    by false e = e

in_order : {ds es : List Decl} → Shuffled Links ds es → Once ds → Reordered ds es
in_order as_before once = near.as_before
in_order (further_on {x = d} {xs = ds} h) once = near.further_on (in_order h (once_behind d ds once))
in_order (two_change {x = decl x v} {y = decl y w} {xs = ds} links) once = near.two_change (apart x y v w ds links once) links
in_order (one_by_one h g) once = near.one_by_one (in_order h once) (in_order g (once_same h once))

declared_shuffled : {r s : Forest} → MergesIn r s → Shuffled Links (module_decls r) (module_decls s)
declared_shuffled {r = r} {s = s} h =
    further_on (subst (λ vs. Shuffled Links (all_so ready (var_names r) ++ lexical r) (all_so ready vs ++ lexical s)) (sym (same_order (reordered reads_variables h)))
    (behind_all Links (all_so ready (var_names r)) (back Links (reordered reads_declarations h))))

-- ---- what they ask for

pub distinct_behind : (zs xs ys : List Text) → distinct xs ≡ distinct ys → distinct (zs ++ xs) ≡ distinct (zs ++ ys)
distinct_behind [] xs ys h = h
distinct_behind (z ∷ zs) xs ys h = ap (λ l. z ∷ others z l) (distinct_behind zs xs ys h)

asked_more : (zs ys : List Text) (source : Text) → is_among zs source ≡ true → is_among (zs ++ ys) source ≡ true
asked_more zs ys source h = among_joined zs ys source ∙ ap (λ b. b || is_among ys source) h

left_requests : {source : Text} {names r s : Forest} → WithoutImport source names r s → (zs : List Text) → is_among zs source ≡ true → distinct (zs ++ requests r) ≡ distinct (zs ++ requests s)
left_requests {source = source} (import_leaves n m rest) zs h = distinct_again source zs (requests rest) h
left_requests {source = source} (leaves_behind k n below r s out) zs h =
    ap distinct (sym (append_assoc zs (requests_of k) (requests r)))
    ∙ left_requests out (zs ++ requests_of k) (asked_more zs (requests_of k) source h)
    ∙ ap distinct (append_assoc zs (requests_of k) (requests s))

pub same_requests : {r s : Forest} → MergesIn r s → distinct (requests r) ≡ distinct (requests s)
same_requests (merges_here source n m names later r s h out) = left_requests out (source ∷ []) (ap (λ b. b || false) (itself source))
same_requests (merges_behind k n below r s h) = distinct_behind (requests_of k) (requests r) (requests s) (same_requests h)

-- ---- the rows are near

module _ (st : Names) (plain : AllPlain st) where
  node_same : {us : Purposes} {r s : Forest} (k : Kind) (n : Note) (below : Forest) → InPlace whole items (node k n below nothing) → Near (purposes_behind us) items st r s → Near us items st (node k n below r) (node k n below s)
  node_same k n below place rest = node_stays items st k n below (fits_clear whole items st (node k n below nothing) plain place).0 rest

  left_near : {source : Text} {names r s : Forest} {us : Purposes} → InPlace whole items r → WithoutImport source names r s → Near us items st r s
  left_near place (import_leaves n m rest) = leaves idle_import (fit whole items st rest (fits_clear whole items st rest plain place.1))
  left_near place (leaves_behind k n below r s out) = node_same k n below (place.0, tt) (left_near place.1 out)

  rows_near : {r s : Forest} {us : Purposes} → InPlace whole items r → MergesIn r s → Near us items st r s
  rows_near place (merges_here source n m names later r s h out) = near_import (left_near place.1 out)
  rows_near place (merges_behind k n below r s h) = node_same k n below (place.0, tt) (rows_near place.1 h)

-- ---- the module

pub merged_refines : (n m : Note) (r s : Forest) → MergesIn r s → InPlace whole items r → Once (module_decls r) → Refined (module_of n m r) (module_of n m s)
merged_refines n m r s h place once =
    let st = names_after no_names_yet (module_decls r) in
    let plain : AllPlain st = λ x. after_plain (module_decls r) no_names_yet x tt in
    reordered_refines n m n m (reordered_module (same_decls no_names_yet (module_decls r)) (in_order (declared_shuffled h) once) (sym (same_order (reordered reads_entries h)))
    (exports_plain st (entries r) plain) (sym (same_order (reordered reads_stars h))) (same_requests h) (rows_near st plain place h))

pub module_merged : (n m : Note) (r s : Forest) → MergesIn r s → IsSensibleModule (module_of n m r) → Refined (module_of n m r) (module_of n m s)
module_merged n m r s h sensible = merged_refines n m r s h sensible.in_place.0.1.0.1 sensible.clear.0

-- ---- it stays core

names_core : {t : Forest} → AreNames t → all_core t ≡ true
names_core no_names = refl
names_core (a_name (Kind.ImportSpecifier imported) n m x rest h names) = names_core names
names_core (a_name Kind.ImportDefaultSpecifier n m x rest h names) = names_core names
names_core (a_name Kind.ImportNamespaceSpecifier n m x rest h names) = names_core names
names_core (a_name k n m x rest h names) = absurd (true≢false (sym h))

left_core : {source : Text} {names r s : Forest} → WithoutImport source names r s → all_core r ≡ true → all_core s ≡ true
left_core {source = source} {names = names} (import_leaves n m rest) core = core_behind (Kind.ImportDeclaration source) n (node Kind.Specifiers m names nothing) rest core
left_core (leaves_behind k n below r s out) core =
    both (is_core k) (all_core below && all_core s) (core_here k n below r core) (both (all_core below) (all_core s) (core_below k n below r core) (left_core out (core_behind k n below r core)))

pub row_core : {r s : Forest} → MergesIn r s → all_core r ≡ true → all_core s ≡ true
row_core (merges_here source n m names later r s h out) core =
    let known = may names later h in
    let all = names_merged names later in
    both (all_core all && true) (all_core s) (both (all_core all) true (names_core (merged_are known.names_are known.later_are)) refl)
    (left_core out (core_behind (Kind.ImportDeclaration source) n (node Kind.Specifiers m names nothing) r core))
row_core (merges_behind k n below r s h) core =
    both (is_core k) (all_core below && all_core s) (core_here k n below r core) (both (all_core below) (all_core s) (core_below k n below r core) (row_core h (core_behind k n below r core)))
