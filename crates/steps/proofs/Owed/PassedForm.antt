-- No rule of form is broken where an import and an export are an export from the other module: the program sheds both, and what comes in breaks
-- none, as it exports what the export did.
use Rattle.std.proofs.Common.{◌≡◌, ◌∙◌, ℕ, suc, ◌+◌, List, [], ◌∷◌, ◌++◌, Bool, true, false, true≢false, ◌||◌, bytes_eq, append-nil, Some, None, refl, sym, ap, subst}
use Rattle.js_tree.specs.Count.{one_each, node_count}
use Rattle.js_syntax.specs.Class.{root}
use Rattle.js_syntax.specs.declared.node_kind.NodeKind.{NodeKind as Kind}
use Rattle.js_syntax.specs.declared.node_kind.NodeKind.TheVariants.{Program as program, Statements as statements, Specifiers as specifiers, ExportNamedDeclaration as export_named_declaration}
use Rattle.js_syntax.specs.declared.scalar.SourceType.TheVariants as source_type
use Rattle.js_syntax.specs.Node.{Forest, Note, nothing, node, absent}
use Rattle.js_meaning_near.specs.Near.{module_of}
use Rattle.form_rules.specs.declared.sought.Sort.{Sort}
use Rattle.form_rules.specs.declared.sought.Sort.TheVariants.{Lexical as lexical}
use Rattle.form_rules.specs.declared.sought.Sought.TheVariants.{Nothing as none_sought, Scope as scope}
use Rattle.form_rules.specs.Break.{least, unless}
use Rattle.form_rules.specs.Context as context
use Rattle.form_rules.specs.Context.{Context, is_module, below_it, inside}
use Rattle.form_rules.specs.Scope.{Declared, declared, later, clash, both_parameters, variable_of_catch}
use Rattle.form_rules.specs.Rules.{Exported, is_exported, each_breaks, declared_places, exports_of, text_of, named_by, exported_among, repeated_exports, locals_among, is_declared, undeclared, broken_at}
use Rattle.form_rules.specs.Form.{broken_in, broken, IsWellFormed}
use Rattle.json_shape.specs.Shape.{Fits}
use Rattle.scope_laws.specs.Place.{Around, first, behind, behind_none, under, plug}
use Rattle.scope_laws.specs.Lists.{without}
use Rattle.steps.specs.KeepForm.Sheds.{entered, outermost}
use Rattle.steps.specs.Allowed.PassedExports.{Passes, passes_none, passes_one, PassedOn, names_passed_on, namespace_passed_on, WithoutExport, export_leaves, leaves_behind, PassesIn, passes_here, passes_behind, PassedExports, exports_pass}
use Rattle.steps.proofs.KeepForm.Exports.{FewerExports, locals_by_fewer, locals_fewer, none_undeclared}
use Rattle.steps.proofs.KeepForm.Fewer.{none, beside, none_later}
use Rattle.steps.proofs.KeepForm.Fitting.{fits_laid_out}
use Rattle.steps.proofs.KeepForm.Form.{none_broken, stays_well_formed}
use Rattle.steps.proofs.KeepForm.Rows.{itself}
use Rattle.steps.proofs.KeepForm.Rules.{first_empty, second_empty, both_empty, each_kept, no_places, no_names}
use Rattle.steps.proofs.Owed.AlikeTables.{Any, all_any}
use Rattle.steps.proofs.Owed.Exported.{Distinct, distinct_shuffled, names_of, shown_by, shown, among_shown, shown_apart, none_shown_twice}
use Rattle.steps.proofs.Owed.MergedForm.{unplaced, anywhere, one_first, unplaced_fewer, placed_fewer, declared_unplaced, moved, one_moved}
use Rattle.steps.proofs.Owed.PassedFits.{left_fits}
use Rattle.steps.proofs.Owed.PassedPlaces.{a_tree, export_in, export_out, import_in}
use Rattle.steps.proofs.Owed.PassedRows.{AreListed, ArePassed, none_passed, one_passed, IsNew, new_names, new_namespace, passed_ones, parts}
use Rattle.steps.proofs.Owed.PassedSheds.{listed_declares, export_sheds, import_sheds}
use Rattle.steps.proofs.Owed.RepeatedRuns.{is_flat}
use Rattle.steps.proofs.Owed.Shuffled.{Shuffled, as_before, further_on, two_change, one_by_one, by_equal, behind_all, all_over}

-- ---- what is exported

passed_declares : {passed : Forest} → ArePassed passed → (p : ℕ) → declared none_sought p passed ≡ []
passed_declares none_passed p = refl
passed_declares (one_passed imported exported n rest are) p = passed_declares are _

passed_named : {names listed passed : Forest} → Passes names listed passed → (p q : ℕ) → names_of (named_by p listed) ≡ names_of (named_by q passed)
passed_named passes_none p q = refl
passed_named (passes_one exported imported n m i x rest passed binds more) p q = ap (λ l. text_of exported ∷ l) (passed_named more p q)

-- by the names that the export lists
listed_shown : {listed : Forest} → AreListed listed → (m : Note) → shown_by (export_named_declaration None) (absent (node specifiers m listed nothing)) ≡ names_of (named_by 0 listed)
listed_shown {listed = listed} are m = ap (λ ds. names_of (exports_of 0 (ds ++ []) ++ named_by 0 listed)) (listed_declares are none_sought (0 + one_each specifiers))

new_shown : {source : List ℕ} {names listed : Forest} {k : Kind} {below : Forest} → PassedOn source names listed k below → shown_by k below ≡ names_of (named_by 0 listed)
new_shown (names_passed_on names listed passed j may passes) =
    ap (λ ds. names_of (exports_of 0 (ds ++ []) ++ named_by 0 passed)) (passed_declares (passed_ones passes) (0 + one_each specifiers)) ∙ sym (passed_named passes 0 0)
new_shown (namespace_passed_on exported n m i j x) = refl

left_shown : {listed r s : Forest} → AreListed listed → WithoutExport listed r s → Shuffled Any (shown r) (names_of (named_by 0 listed) ++ shown s)
left_shown {listed = listed} are (export_leaves n m rest) = by_equal Any (shown (node (export_named_declaration None) n (absent (node specifiers m listed nothing)) rest)) (names_of (named_by 0 listed) ++ shown rest) (ap (λ l. l ++ shown rest) (listed_shown are m))
left_shown {listed = listed} are (leaves_behind k n below r s out) =
    let own = shown_by k below in
    one_by_one (behind_all Any own (left_shown are out)) (all_over Any own (all_any own) (names_of (named_by 0 listed)) (shown s))

row_shown : {names r s z : Forest} → PassesIn names r s z → Shuffled Any (shown r) (shown z)
row_shown (passes_here source n m i listed k below r s on out) =
    one_by_one (left_shown (parts on).listed_are out) (by_equal Any (names_of (named_by 0 listed) ++ shown s) (shown (node k i below s)) (ap (λ l. l ++ shown s) (sym (new_shown on))))
row_shown (passes_behind k n below r s z h) = behind_all Any (shown_by k below) (row_shown h)

-- so the same names are
abbrev is_shown : List ℕ → List (List ℕ) → Bool
is_shown x [] = false
is_shown x (y ∷ ys) = bytes_eq y x || is_shown x ys

shown_so : (x : List ℕ) (es : List Exported) → is_exported x es ≡ is_shown x (names_of es)
shown_so x [] = refl
shown_so x (e ∷ es) = ap (λ b. bytes_eq e.name x || b) (shown_so x es)

either_first : (a b c : Bool) → (a || (b || c)) ≡ (b || (a || c))
either_first true true c = refl
either_first true false c = refl
either_first false b c = refl

shown_shuffled : (x : List ℕ) {xs ys : List (List ℕ)} → Shuffled Any xs ys → is_shown x xs ≡ is_shown x ys
shown_shuffled x as_before = refl
shown_shuffled x (further_on {x = y} h) = ap (λ b. bytes_eq y x || b) (shown_shuffled x h)
shown_shuffled x (two_change {x = y} {y = z} {xs = xs} h) = either_first (bytes_eq y x) (bytes_eq z x) (is_shown x xs)
shown_shuffled x (one_by_one h g) = shown_shuffled x h ∙ shown_shuffled x g

pub same_names_exported : {names r s z : Forest} → PassesIn names r s z → (x : List ℕ) (p q : ℕ) → is_exported x (exported_among p r) ≡ is_exported x (exported_among q z)
same_names_exported {r = r} {z = z} h x p q =
    shown_so x (exported_among p r) ∙ ap (is_shown x) (among_shown p r) ∙ shown_shuffled x (row_shown h) ∙ ap (is_shown x) (sym (among_shown q z)) ∙ sym (shown_so x (exported_among q z))

-- ---- what comes in declares no name, exports none of the module, and breaks no rule

new_declares : {source : List ℕ} {k : Kind} {below : Forest} → IsNew source k below → (f : Sort) (n : Note) → declared (scope f) 0 (node k n below nothing) ≡ []
new_declares (new_names passed j are) f n = ap (λ l. (l ++ []) ++ []) (passed_declares are _)
new_declares (new_namespace exported) f n = refl

module _ (d : Context) where
  passed_unbroken : {passed : Forest} → ArePassed passed → (at p : ℕ) → broken_in (λ i. below_it d) at p passed ≡ []
  passed_unbroken none_passed at p = refl
  passed_unbroken (one_passed imported exported n rest are) at p = passed_unbroken are (suc at) _

  in_module : d.source ≡ source_type.Module → (p : ℕ) → unless (is_module d.source) p 7 ≡ []
  in_module is p = ap (λ t. unless (is_module t) p 7) is

  new_unbroken : {source : List ℕ} {k : Kind} {below : Forest} → IsNew source k below → d.source ≡ source_type.Module → (p : ℕ) → broken_at (below_it d) k p below ++ broken_in (inside (below_it d) k below) 0 (p + one_each k) below ≡ []
  new_unbroken {source = source} (new_names passed j are) is p =
      both_empty _ _ (both_empty _ _ (both_empty _ _ (both_empty _ _ (both_empty _ _ (both_empty _ _ (in_module is p) refl) refl) refl) refl) refl)
      (both_empty _ _ (passed_unbroken are 0 (p + one_each (export_named_declaration (Some source)) + one_each specifiers)) refl)
  new_unbroken (new_namespace exported) is p = both_empty _ _ (both_empty _ _ (both_empty _ _ (both_empty _ _ (both_empty _ _ (both_empty _ _ (in_module is p) refl) refl) refl) refl) refl) refl

module _ {source : List ℕ} {k : Kind} {below : Forest} (new : IsNew source k below) (n : Note) where
  abbrev with_new : Around → Forest
  with_new a = plug a (Some (a_tree k n below))

  same_declared : (f : Sort) (a : Around) → is_flat a ≡ true → unplaced (declared (scope f) 0 (with_new a)) ≡ unplaced (declared (scope f) 0 (without a))
  same_declared f (first rest) flat = one_first (scope f) k n below rest ∙ ap (λ ds. unplaced ds ++ unplaced (declared (scope f) 0 rest)) (new_declares new f n)
  same_declared f (behind j i b a) flat =
      one_first (scope f) j i b (with_new a) ∙ ap (λ ds. unplaced (declared (scope f) 0 (node j i b nothing)) ++ ds) (same_declared f a flat) ∙ sym (one_first (scope f) j i b (without a))
  same_declared f (behind_none a) flat = same_declared f a flat
  same_declared f (under j i a rest) flat = absurd (true≢false (sym flat))

  new_locals : (p : ℕ) (rest : Forest) → locals_among p (node k n below rest) ≡ locals_among (p + node_count (node k n below nothing)) rest
  new_locals p rest = by new
    where
      by : {j : Kind} {b : Forest} → IsNew source j b → locals_among p (node j n b rest) ≡ locals_among (p + node_count (node j n b nothing)) rest
      by (new_names passed j are) = refl
      by (new_namespace exported) = refl

  same_locals : (a : Around) → is_flat a ≡ true → (p q : ℕ) → FewerExports (locals_among p (with_new a)) (locals_among q (without a))
  same_locals (first rest) flat p q = subst (λ l. FewerExports l (locals_among q rest)) (sym (new_locals p rest)) (locals_fewer _ q (itself outermost rest))
  same_locals (behind j i b a) flat p q = beside (locals_by_fewer outermost j p q b b (itself (entered outermost j b) b)) (same_locals a flat _ _)
  same_locals (behind_none a) flat p q = same_locals a flat p q
  same_locals (under j i a rest) flat p q = absurd (true≢false (sym flat))

  row_kept : (d : Context) → d.source ≡ source_type.Module → (a : Around) → is_flat a ≡ true → (i j p q : ℕ) → broken_in (λ i. below_it d) i p (without a) ≡ [] → broken_in (λ i. below_it d) j q (with_new a) ≡ []
  row_kept d is (first rest) flat i j p q h =
      both_empty (broken_at (below_it d) k q below ++ broken_in (inside (below_it d) k below) 0 (q + one_each k) below) (broken_in (λ i. below_it d) (suc j) (q + node_count (node k n below nothing)) rest) (new_unbroken d new is q)
      (moved d i (suc j) p (q + node_count (node k n below nothing)) rest h)
  row_kept d is (behind e m b a) flat i j p q h =
      both_empty (broken_at (below_it d) e q b ++ broken_in (inside (below_it d) e b) 0 (q + one_each e) b) (broken_in (λ i. below_it d) (suc j) (q + node_count (node e m b nothing)) (with_new a))
      (one_moved d i j p q e m b (first_empty _ _ h)) (row_kept d is a flat (suc i) (suc j) _ _ (second_empty _ _ h))
  row_kept d is (behind_none a) flat i j p q h = row_kept d is a flat (suc i) (suc j) p q h
  row_kept d is (under e m a rest) flat i j p q h = absurd (true≢false (sym flat))

-- ---- a module, in which code is strict whatever stands in front

module _ (n m : Note) (w z : Forest) (same : unplaced (declared (scope lexical) 0 z) ≡ unplaced (declared (scope lexical) 0 w)) (locals : (p q : ℕ) → FewerExports (locals_among p z) (locals_among q w))
    (apart : Distinct (shown z)) where
  abbrev list : Forest → Forest
  list t = node statements m t nothing

  abbrev at_the_top : ℕ → Forest → List Declared
  at_the_top p t = declared (scope lexical) (suc p) (list t)

  abbrev top : Context
  top = context.outermost source_type.Module

  top_declares : (p : ℕ) (t : Forest) → unplaced (at_the_top p t) ≡ unplaced (declared (scope lexical) 0 t)
  top_declares p t = ap unplaced (append-nil (declared (scope lexical) (suc p + 0) t)) ∙ anywhere (scope lexical) (suc p + 0) 0 t

  same_top : (p q : ℕ) → unplaced (at_the_top p w) ≡ unplaced (at_the_top q z)
  same_top p q = top_declares p w ∙ sym same ∙ sym (top_declares q z)

  each_later : (rule : ℕ) (test : Sort → Sort → Bool) → (p q : ℕ) → each_breaks rule (declared_places (later test (at_the_top p w))) ≡ [] → each_breaks rule (declared_places (later test (at_the_top q z))) ≡ []
  each_later rule test p q e =
      let old = no_names (later test (at_the_top p w)) (no_places rule (declared_places (later test (at_the_top p w))) e) in
      let bare = subst (λ l. later test l ≡ []) (same_top p q) (none_later test none (unplaced_fewer (at_the_top p w)) old) in
      ap (λ l. each_breaks rule (declared_places l)) (none_later test none (placed_fewer (at_the_top q z)) bare)

  still_declared : (x : List ℕ) (p q : ℕ) → is_declared x (at_the_top p w) ≡ is_declared x (at_the_top q z)
  still_declared x p q = sym (declared_unplaced x (at_the_top p w)) ∙ ap (is_declared x) (same_top p q) ∙ declared_unplaced x (at_the_top q z)

  exports_kept : (p q : ℕ) → each_breaks 7 (repeated_exports [] (exported_among (suc p) w)) ++ each_breaks 7 (undeclared (at_the_top p w) (locals_among (suc p) w)) ≡ []
      → each_breaks 7 (repeated_exports [] (exported_among (suc q) z)) ++ each_breaks 7 (undeclared (at_the_top q z) (locals_among (suc q) z)) ≡ []
  exports_kept p q e =
      let old = second_empty (each_breaks 7 (repeated_exports [] (exported_among (suc p) w))) (each_breaks 7 (undeclared (at_the_top p w) (locals_among (suc p) w))) e in
      both_empty (each_breaks 7 (repeated_exports [] (exported_among (suc q) z))) (each_breaks 7 (undeclared (at_the_top q z) (locals_among (suc q) z)))
      (ap (each_breaks 7) (none_shown_twice (suc q) z apart))
      (ap (each_breaks 7) (none_undeclared (at_the_top q z) (at_the_top p w) (locals (suc q) (suc p)) (λ x g d. sym (still_declared x p q) ∙ d) (no_places 7 (undeclared (at_the_top p w) (locals_among (suc p) w)) old)))

  module_kept : (p q : ℕ) → broken_at top (program source_type.Module) p (list w) ≡ [] → broken_at top (program source_type.Module) q (list z) ≡ []
  module_kept p q =
      each_kept _ _ _ _ (each_kept _ _ _ _ (each_kept _ _ _ _ (each_kept _ _ _ _ (each_kept _ _ _ _ (each_kept _ _ _ _ (each_kept _ _ _ _ (each_kept _ _ _ _ (each_kept _ _ _ _ (each_kept _ _ _ _ (each_kept _ _ _ _
      (each_later 1 clash p q) (each_later 2 both_parameters p q)) (λ e. e)) (λ e. e)) (λ e. e)) (λ e. e)) (exports_kept p q)) (λ e. e)) (each_later 9 variable_of_catch p q)) (λ e. e)) (λ e. e)) (λ e. e)

  abbrev inner : Context
  inner = inside top (program source_type.Module) (list w) 0

  form_kept : (broken_in (λ i. below_it inner) 0 1 w ≡ [] → broken_in (λ i. below_it inner) 0 1 z ≡ []) → IsWellFormed (module_of n m w) → IsWellFormed (module_of n m z)
  form_kept rows whole =
      let all : broken (module_of n m w) ≡ [] = none_broken (broken (module_of n m w)) whole in
      let front = first_empty (broken_at top (program source_type.Module) 0 (list w) ++ broken_in (inside top (program source_type.Module) (list w)) 0 1 (list w)) [] all in
      let own = first_empty (broken_at top (program source_type.Module) 0 (list w)) (broken_in (inside top (program source_type.Module) (list w)) 0 1 (list w)) front in
      let below = second_empty (broken_at top (program source_type.Module) 0 (list w)) (broken_in (inside top (program source_type.Module) (list w)) 0 1 (list w)) front in
      ap least
      (both_empty (broken_at top (program source_type.Module) 0 (list z) ++ broken_in (inside top (program source_type.Module) (list z)) 0 1 (list z)) []
      (both_empty (broken_at top (program source_type.Module) 0 (list z)) (broken_in (inside top (program source_type.Module) (list z)) 0 1 (list z)) (module_kept 0 0 own)
      (both_empty (broken_in (λ i. below_it inner) 0 1 z) [] (rows (first_empty (broken_in (λ i. below_it inner) 0 1 w) [] below)) refl))
      refl)

-- the old module exports no name twice
pub exports_apart : (n m : Note) (r : Forest) → IsWellFormed (module_of n m r) → Distinct (shown r)
exports_apart n m r whole =
    let t = module_of n m r in
    let list = node statements m r nothing in
    let top = context.outermost source_type.Module in
    let all : broken t ≡ [] = none_broken (broken t) whole in
    let front = first_empty (broken_at top (program source_type.Module) 0 list ++ broken_in (inside top (program source_type.Module) list) 0 1 list) [] all in
    let own = first_empty (broken_at top (program source_type.Module) 0 list) (broken_in (inside top (program source_type.Module) list) 0 1 list) front in
    let seven = second_empty _ _ (first_empty _ _ (first_empty _ _ (first_empty _ _ (first_empty _ _ (first_empty _ _ own))))) in
    shown_apart 1 r (no_places 7 (repeated_exports [] (exported_among 1 r)) (first_empty _ _ seven))

pub passed_well_formed : (t u : Forest) → PassedExports t u → Fits root t → IsWellFormed t → IsWellFormed u
passed_well_formed _ _ (exports_pass n m names r s z passes free unevaluated) fits whole =
    let listed = export_out passes in
    let i = import_in passes in
    let e = export_in listed.out in
    let laid = fits_laid_out (module_of n m r) fits in
    let left = stays_well_formed (module_of n m r) (module_of n m s) (export_sheds n m e listed.listed_are laid) whole in
    let gone = stays_well_formed (module_of n m s) (module_of n m (without i.around)) (import_sheds n m i free (fits_laid_out (module_of n m s) (left_fits n m listed.out fits))) left in
    let now = plug i.around (Some (a_tree i.kind i.new_note i.below)) in
    let apart = subst (λ t. Distinct (shown t)) (sym i.comes) (distinct_shuffled (row_shown passes) (exports_apart n m r whole)) in
    subst (λ t. IsWellFormed (module_of n m t)) i.comes
    (form_kept n m (without i.around) now (same_declared i.new i.new_note lexical i.around i.flat) (same_locals i.new i.new_note i.around i.flat) apart
    (row_kept i.new i.new_note (inside (context.outermost source_type.Module) (program source_type.Module) (node statements m (without i.around) nothing) 0) refl i.around i.flat 0 0 1 1) gone)
