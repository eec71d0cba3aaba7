-- A module that passes on what it imports does the same as with the import and the export.
use Rattle.std.proofs.Common.{◌≡◌, ◌∙◌, List, [], ◌∷◌, ◌++◌, Option, Some, None, refl, sym, ap, ap₂, subst, true≢false}
use mathlib.Core.Path.{fun_ext}
use Rattle.std.specs.Prelude.{Bool, true, false, ◌||◌, if◌then◌else◌}
use Rattle.std.specs.Str.{bytes_eq}
use Rattle.js_syntax.specs.Node.{Note, Forest}
use Rattle.js_meaning.specs.Value.{Text, Slot, imported, bound, Env, this_name}
use Rattle.js_meaning.specs.State.{M, Export, export, bind, seq, set_exports}
use Rattle.js_meaning.specs.Scope.{Way, waiting, ready, linked, left_out, Decl, decl, all_so, look, with_slot, declare, start, start_item, item_decls, lexical, vars_of, var_names, module_decls}
use Rattle.js_meaning.specs.Host.{Enter}
use Rattle.js_meaning.specs.Module.{Entry, entry_local, entry_import, entries, star_of, stars, requests, distinct, load_all, exported_name, sorted, insert, if_bound, resolve_entries}
use Rattle.js_meaning.specs.Node.{run as run_under, may, each}
use Rattle.js_meaning.specs.Meaning.{eval}
use Rattle.js_meaning.specs.Run.{finish, finally, module_does}
use Rattle.js_meaning.specs.Kept.{Refined}
use Rattle.js_meaning_near.specs.Near.{meaning, module_of}
use Rattle.js_meaning_near.specs.Avoid.{declares}
use Rattle.js_meaning_near.specs.Reexported.{Imports, imports_here, imports_further_on, entry_name, PassedOn, as_before, further_on, passed_on, two_change, one_by_one, ReexportedModule, reexported_module, PutIn, names_put_in, namespace_put_in, put_in_behind}
use Rattle.js_meaning_near.proofs.Relations.{Enters, Acts}
use Rattle.js_meaning_near.proofs.Paid.{Lends}
use Rattle.js_meaning_near.proofs.Gifts.{nothing_seq}
use Rattle.js_meaning_near.proofs.Scopes.{no_envs, declare_acts}
use Rattle.js_meaning_near.proofs.Contexts.{module_by, modules_by, acts_refine}
use Rattle.js_meaning_near.proofs.Avoid.{itself}
use Rattle.js_meaning_near.proofs.ExportOrder.{either_order}

-- ---- what an environment binds that declarations make

-- names that an import alone binds have what it imports
abbrev Found : List Decl → Env → Type 0
Found ds env = (x source name : Text) → Imports ds x source name → look env x ≡ Some (imported source name)

-- other names are found as before
abbrev Stays : List Decl → Env → Env → Type 0
Stays ds e env = (x : Text) → declares ds x ≡ false → look env x ≡ look e x

neither_first : (b c : Bool) → (b || c) ≡ false → b ≡ false
neither_first true c e = e
neither_first false c e = refl

neither_second : (b c : Bool) → (b || c) ≡ false → c ≡ false
neither_second true c e = absurd (true≢false e)
neither_second false c e = e

looked_past : (x y : Text) (slot : Slot) (e : Env) → bytes_eq y x ≡ false → look (bound y slot ∷ e) x ≡ look e x
looked_past x y slot e apart = ap (λ b. if b then Some slot else look e x) apart

looked_at : (x : Text) (slot : Slot) (e : Env) → look (bound x slot ∷ e) x ≡ Some slot
looked_at x slot e = ap (λ b. if b then Some slot else look e x) (itself x)

none_declared : (x source name : Text) → Imports [] x source name → ⊥
none_declared x source name h = elim h [ ]

stays_behind : (y : Text) (way : Way) (ds : List Decl) (e env : Env) (slot : Slot) → Stays ds (bound y slot ∷ e) env → Stays (decl y way ∷ ds) e env
stays_behind y way ds e env slot h x apart = h x (neither_second (bytes_eq y x) (declares ds x) apart) ∙ looked_past x y slot e (neither_first (bytes_eq y x) (declares ds x) apart)

found_behind : (y : Text) (way : Way) (ds : List Decl) (env : Env) → ((source name : Text) → way ≡ linked source name → declares ds y ≡ false → look env y ≡ Some (imported source name)) → Found ds env → Found (decl y way ∷ ds) env
found_behind y way ds env here h x source name (imports_here lacks) = here source name refl lacks
found_behind y way ds env here h x source name (imports_further_on i) = h x source name i

declare_finds : (ds : List Decl) (e : Env) {j k : Env → M} → ((env : Env) → Found ds env → Stays ds e env → j env ≡ k env) → declare ds e j ≡ declare ds e k
unfolding declare
declare_finds [] e h = h e (λ x source name i. absurd (none_declared x source name i)) (λ x i. refl)
declare_finds (decl y (linked source name) ∷ ds) e h =
    declare_finds ds (bound y (imported source name) ∷ e) (λ env f g. h env
    (found_behind y (linked source name) ds env (λ s n same lacks. g y lacks ∙ looked_at y (imported source name) e ∙ ap (λ w. slot_of w) same) f)
    (stays_behind y (linked source name) ds e env (imported source name) g))
  where
    slot_of : Way → Option Slot
    slot_of (linked s n) = Some (imported s n)
    slot_of w = None
declare_finds (decl y (waiting b) ∷ ds) e h = ap (λ f. with_slot (waiting b) f) (fun_ext (λ slot. declare_finds ds (bound y slot ∷ e) (λ env f g. h env (found_behind y (waiting b) ds env (λ s n same lacks. absurd (no_link same)) f) (stays_behind y (waiting b) ds e env slot g))))
  where
    no_link : {s n : Text} → waiting b ≡ linked s n → ⊥
    no_link same = cc same
declare_finds (decl y ready ∷ ds) e h = ap (λ f. with_slot ready f) (fun_ext (λ slot. declare_finds ds (bound y slot ∷ e) (λ env f g. h env (found_behind y ready ds env (λ s n same lacks. absurd (no_link same)) f) (stays_behind y ready ds e env slot g))))
  where
    no_link : {s n : Text} → ready ≡ linked s n → ⊥
    no_link same = cc same
declare_finds (decl y left_out ∷ ds) e h = ap (λ f. with_slot left_out f) (fun_ext (λ slot. declare_finds ds (bound y slot ∷ e) (λ env f g. h env (found_behind y left_out ds env (λ s n same lacks. absurd (no_link same)) f) (stays_behind y left_out ds e env slot g))))
  where
    no_link : {s n : Text} → left_out ≡ linked s n → ⊥
    no_link same = cc same

-- ---- entries that are passed on

-- what is done with exports goes by their names
abbrev Sorts : (List Export → M) → Type 0
Sorts k = (es fs : List Export) → sorted es ≡ sorted fs → k es ≡ k fs

sorts_more : {k : List Export → M} (e : Export) → Sorts k → Sorts (λ es. k (e ∷ es))
sorts_more e h es fs same = h (e ∷ es) (e ∷ fs) (ap (λ l. insert e l) same)

-- an entry that is resolved
abbrev with_entry : Entry → Env → (Export → M) → M
with_entry (entry_local x y) env k = if_bound (look env y) (λ slot. k (export x slot))
with_entry (entry_import x source name) env k = k (export x (imported source name))

entry_first : (d : Entry) (es : List Entry) (env : Env) (k : List Export → M) → resolve_entries (d ∷ es) env k ≡ with_entry d env (λ e. resolve_entries es env (λ fs. k (e ∷ fs)))
unfolding resolve_entries
entry_first (entry_local x y) es env k = refl
entry_first (entry_import x source name) es env k = refl

with_entry_same : (d : Entry) (env : Env) {j k : Export → M} → ((e : Export) → j e ≡ k e) → with_entry d env j ≡ with_entry d env k
with_entry_same d env h = ap (λ f. with_entry d env f) (fun_ext h)

either_entry : (d e : Entry) (env : Env) {j k : Export → Export → M}
    → ((u v : Export) → exported_name u ≡ entry_name d → exported_name v ≡ entry_name e → j u v ≡ k v u)
    → with_entry d env (λ u. with_entry e env (λ v. j u v)) ≡ with_entry e env (λ v. with_entry d env (λ u. k v u))
either_entry (entry_local x y) (entry_local z n) env {j = j} {k = k} h = by (look env y) (look env n)
  where
    by : (o p : Option Slot) → if_bound o (λ s. if_bound p (λ t. j (export x s) (export z t))) ≡ if_bound p (λ t. if_bound o (λ s. k (export z t) (export x s)))
    by None None = refl
    by None (Some t) = refl
    by (Some s) None = refl
    by (Some s) (Some t) = h (export x s) (export z t) refl refl
either_entry (entry_local x y) (entry_import z source name) env h = ap (λ f. if_bound (look env y) f) (fun_ext (λ s. h (export x s) (export z (imported source name)) refl refl))
either_entry (entry_import x source name) (entry_local z n) env h = ap (λ f. if_bound (look env n) f) (fun_ext (λ t. h (export x (imported source name)) (export z t) refl refl))
either_entry (entry_import x source name) (entry_import z other also) env h = h (export x (imported source name)) (export z (imported other also)) refl refl

resolved_alike : {ds : List Decl} {es fs : List Entry} (env : Env) {k : List Export → M} → Found ds env → Sorts k → PassedOn ds es fs → resolve_entries es env k ≡ resolve_entries fs env k
resolved_alike env f h as_before = refl
resolved_alike env {k = k} f h (further_on {e = d} {es = es} {fs = fs} p) =
    entry_first d es env k ∙ with_entry_same d env (λ e. resolved_alike env f (sorts_more e h) p) ∙ sym (entry_first d fs env k)
resolved_alike env {k = k} f h (passed_on {x = x} {y = y} {source = source} {name = name} {es = es} i) =
    entry_first (entry_local x y) es env k ∙ ap (λ o. if_bound o (λ slot. resolve_entries es env (λ fs. k (export x slot ∷ fs)))) (f y source name i) ∙ sym (entry_first (entry_import x source name) es env k)
resolved_alike env {k = k} f h (two_change {d = d} {e = e} {es = es} apart) =
    entry_first d (e ∷ es) env k ∙ with_entry_same d env (λ u. entry_first e es env (λ fs. k (u ∷ fs)))
    ∙ either_entry d e env (λ u v p q. ap (λ g. resolve_entries es env g) (fun_ext (λ fs. h (u ∷ v ∷ fs) (v ∷ u ∷ fs) (either_order u v (sorted fs) (ap₂ (λ x y. bytes_eq x y) p q ∙ apart)))))
    ∙ sym (entry_first e (d ∷ es) env k ∙ with_entry_same e env (λ v. entry_first d es env (λ fs. k (v ∷ fs))))
resolved_alike env f h (one_by_one p q) = resolved_alike env f h p ∙ resolved_alike env f h q

-- ---- an export of what another module exports does nothing where it stands

same_start : {r s : Forest} (env : Env) (m : M) → PutIn r s → start r env m ≡ start s env m
unfolding start
same_start env m (names_put_in none) = refl
same_start env m namespace_put_in = refl
same_start env m (put_in_behind {k = k} {a = a} p) = ap (λ i. start_item k a (start a env) env i) (same_start env m p)

same_each : {r s : Forest} (E : Enter) (env : Env) → PutIn r s → each (run_under []) (eval E r) env ≡ each (run_under []) (eval E s) env
unfolding eval each may
same_each {r = r} E env (names_put_in none) = sym (nothing_seq (each (run_under []) (eval E r) env))
same_each {r = r} E env namespace_put_in = sym (nothing_seq (each (run_under []) (eval E r) env))
same_each E env (put_in_behind {k = k} {a = a} p) = ap (λ i. seq (meaning E k a (run_under []) env) i) (same_each E env p)

same_stars : {r s : Forest} → PutIn r s → stars r ≡ stars s
same_stars (names_put_in none) = refl
same_stars namespace_put_in = refl
same_stars (put_in_behind {k = k} p) = ap (λ l. star_of k ++ l) (same_stars p)

same_lexical : {r s : Forest} → PutIn r s → lexical r ≡ lexical s
same_lexical (names_put_in none) = refl
same_lexical namespace_put_in = refl
same_lexical (put_in_behind {k = k} {a = a} p) = ap (λ l. item_decls k a (lexical a) ++ l) (same_lexical p)

same_vars : {r s : Forest} → PutIn r s → var_names r ≡ var_names s
same_vars {r = r} (names_put_in none) = ap (λ l. (l ++ []) ++ var_names r) (sym none)
same_vars namespace_put_in = refl
same_vars (put_in_behind {k = k} {a = a} p) = ap (λ l. vars_of k a (var_names a) ++ l) (same_vars p)

-- ---- modules

module_put_in : {r s : Forest} (E : Enter) → PutIn r s → module_by E (module_decls r) (entries s) (stars r) (distinct (requests s)) r ≡ module_does E s
unfolding module_does
module_put_in {r = r} {s = s} E p =
    ap (λ ds. module_by E ds (entries s) (stars r) (distinct (requests s)) r) (ap₂ (λ vs ls. decl this_name ready ∷ (all_so ready vs ++ ls)) (same_vars p) (same_lexical p))
    ∙ ap (λ ss. module_by E (module_decls s) (entries s) ss (distinct (requests s)) r) (same_stars p)
    ∙ ap (λ k. bind (bind (declare (module_decls s) [] k) (finish E)) finally)
    (fun_ext (λ env. ap (λ m. resolve_entries (entries s) env (λ exports. set_exports (sorted exports) (stars s) m))
    (same_start env _ p ∙ ap (λ m. start s env (seq (load_all E (distinct (requests s))) m)) (same_each E env p))))

with_entries : {es : List Entry} (E : Enter) (a : Forest) → PassedOn (module_decls a) (entries a) es → module_does E a ≡ module_by E (module_decls a) es (stars a) (distinct (requests a)) a
unfolding module_does
with_entries E a p =
    ap (λ m. bind (bind m (finish E)) finally)
    (declare_finds (module_decls a) [] (λ env f g. resolved_alike env f (λ es fs same. ap (λ l. set_exports l (stars a) (start a env (seq (load_all E (distinct (requests a))) (each (run_under []) (eval E a) env)))) same) p))

passing_acts : {a c : Forest} (E : Enter) → Enters E → Lends E → ReexportedModule a c → Acts [] (module_does E a) (module_does E c)
passing_acts {a = a} {c = c} E h l (reexported_module {b = b} d s near put p y q) =
    subst (λ m. Acts [] m (module_does E c)) (sym (with_entries E a p))
    (subst (λ m. Acts [] (module_by E (module_decls a) (entries c) (stars a) (distinct (requests a)) a) m) (module_put_in E put)
    (subst (λ ss. Acts [] (module_by E (module_decls a) (entries c) (stars a) (distinct (requests a)) a) (module_by E (module_decls b) (entries c) ss (distinct (requests c)) b)) s
    (subst (λ rs. Acts [] (module_by E (module_decls a) (entries c) (stars a) (distinct (requests a)) a) (module_by E (module_decls b) (entries c) (stars a) rs b)) q
    (modules_by (entries c) (stars a) (distinct (requests a)) E h l (record { declared = declare_acts d no_envs }) y near))))

pub reexported_refines : {a b : Forest} (n m i j : Note) → ReexportedModule a b → Refined (module_of n m a) (module_of i j b)
reexported_refines {a = a} {b = b} n m i j c = acts_refine a b n m i j (λ E h l. passing_acts E h l c)
