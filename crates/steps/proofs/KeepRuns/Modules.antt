-- A step of a module refines.
use Rattle.std.proofs.Common.{◌≡◌, inl, List, [], ◌∷◌, ◌++◌, Bool, true, false, true≢false, refl, sym, ap₂, subst}
use Rattle.std.proofs.lemmas.List.{append-nil}
use Rattle.js_syntax.specs.declared.node_kind.NodeKind.{NodeKind as Kind}
use Rattle.js_syntax.specs.declared.scalar.SourceType.TheVariants as source_type
use Rattle.js_syntax.specs.Node.{Forest, nothing, node, absent, Note, alone}
use Rattle.js_syntax.specs.Facts.{is_core}
use Rattle.js_meaning.specs.Value.{Text, this_name}
use Rattle.js_meaning.specs.Scope.{Decl, decl, ready, all_so, var_names, lexical, module_decls}
use Rattle.js_meaning.specs.Module.{Entry, entry_local, entry_import, entries, names_in}
use Rattle.js_meaning.specs.Kept.{Refined}
use Rattle.js_meaning_near.specs.Names.{Status, undeclared, loose, owing, live, dead, unread, known, Names, no_names, Usable, Plainly, AllPlain, PlainBut}
use Rattle.js_meaning_near.specs.Near as near
use Rattle.js_meaning_near.specs.Purpose.{for_values}
use Rattle.js_meaning_near.specs.Near.{fields, ExportsOk, NearModule, near_module, module_of}
use Rattle.js_meaning_near.specs.Fit.{Part, whole, others, IfCore}
use Rattle.js_meaning_near.specs.Avoid.{Dropped, dropped_later, InPlace, NodeInPlace, ExportsAvoid}
use Rattle.js_meaning_near.proofs.Avoid.{fewer_itself, dropped_first, dropped_second}
use Rattle.js_meaning_near.proofs.Contexts.{near_refines}
use Rattle.steps.specs.Steps.{Around, entered, outermost, Step, leaves, empties, unbinds, states, inside, behind_node, behind_absent}
use Rattle.steps.specs.KeepRuns.Formed.{holds_well, is_formed}
use Rattle.steps.specs.KeepRuns.Drop.{Drop, no_drop, of_block, of_function, dropped}
use Rattle.steps.specs.KeepRuns.Tidy.{ClearModule, TidyAt, Tidy}
use Rattle.steps.proofs.KeepRuns.Silent.{Declare}
use Rattle.steps.proofs.KeepRuns.Calm.{form_holds, form_below}
use Rattle.steps.proofs.KeepRuns.Unbound.{unbound_place}
use Rattle.steps.proofs.KeepRuns.Lists.{LexicalChange, VarsChange, less_dropped, vars_step, lexical_step}
use Rattle.steps.proofs.KeepRuns.Names.{declare_within, Crossed, crossed_plain, crossed_block, crossed_function}
use Rattle.steps.proofs.KeepRuns.Scopes.{DeclsChange}
use Rattle.steps.proofs.KeepRuns.Refine.{near_step}
use Rattle.steps.proofs.KeepRuns.Exports.{step_entries, step_stars, step_requests}

pub module_lists : (d : Drop) (xs ys : List Text) (ds es : List Decl) → VarsChange d xs ys → LexicalChange d ds es → DeclsChange d (decl this_name ready ∷ (all_so ready xs ++ ds)) (decl this_name ready ∷ (all_so ready ys ++ es))
module_lists no_drop xs ys ds es v l = ap₂ (λ m n. decl this_name ready ∷ (all_so ready m ++ n)) v l
module_lists (of_block x) xs ys ds es v l = subst (λ m. Dropped x (decl this_name ready ∷ (all_so ready xs ++ ds)) (decl this_name ready ∷ (all_so ready m ++ es))) v (dropped_later (dropped_second (fewer_itself x (all_so ready xs)) l))
module_lists (of_function x) xs ys ds es v l = subst (λ m. Dropped x (decl this_name ready ∷ (all_so ready xs ++ ds)) (decl this_name ready ∷ (all_so ready ys ++ m))) l (dropped_later (dropped_first (less_dropped ready v) (fewer_itself x ds)))

-- exports

usable : (s : Status) → Plainly s → Usable s
usable undeclared y = tt
usable loose y = tt
usable owing y = tt
usable live y = tt
usable dead y = y
usable unread y = y
usable (known p) y = tt

pub exports_plain : (st : Names) (es : List Entry) → AllPlain st → ExportsOk st es
exports_plain st [] g = tt
exports_plain st (entry_local x y ∷ es) g = (usable (st y) (g y), exports_plain st es g)
exports_plain st (entry_import x source name ∷ es) g = exports_plain st es g

exports_avoiding : (x : Text) (st : Names) (es : List Entry) → PlainBut x st → ExportsAvoid x es → ExportsOk st es
exports_avoiding x st [] g y = tt
exports_avoiding x st (entry_local z y ∷ es) g e = (usable (st y) (g y e.0), exports_avoiding x st es g e.1)
exports_avoiding x st (entry_import z source name ∷ es) g e = exports_avoiding x st es g e

-- the names of a module

record Opened (d : Drop) (a b : Forest) : Type 0 where
  pub crossed : Crossed d no_names (module_decls a) (module_decls b) whole near.items b
  pub exports : ExportsOk crossed.within (entries b)

abbrev ClearIf : Drop → Forest → Type 0
ClearIf no_drop b = Unit {0}
ClearIf (of_block x) b = ClearModule x b
ClearIf (of_function x) b = ClearModule x b

opened : (d : Drop) (a b : Forest) → DeclsChange d (module_decls a) (module_decls b) → InPlace whole near.items b → ClearIf d b → Opened d a b
opened no_drop a b c i t = let z = crossed_plain no_names (module_decls a) (module_decls b) whole near.items b (λ x. tt) c i in record { crossed = z; exports = exports_plain z.within (entries b) z.stays.0 }
opened (of_block x) a b c i t = let z = crossed_block x no_names (module_decls a) (module_decls b) whole near.items b (λ x. tt) c t.1 in record { crossed = z; exports = exports_avoiding x z.within (entries b) z.stays.plain t.0 }
opened (of_function x) a b c i t = let z = crossed_function x no_names (module_decls a) (module_decls b) whole near.items b (λ x. tt) c t.1 in record { crossed = z; exports = exports_avoiding x z.within (entries b) z.stays.plain t.0 }

-- around the list of its items, and around these
abbrev pub in_program : Note → Forest → Around
in_program m a = entered outermost (Kind.Program source_type.Module) (alone Kind.Statements m a)

abbrev pub top : Note → Forest → Around
top m a = entered (in_program m a) Kind.Statements a

top_names : (m : Note) (a : Forest) → names_in (module_decls (alone Kind.Statements m a)) ≡ names_in (module_decls a)
top_names m a = ap₂ (λ xs ds. names_in (decl this_name ready ∷ (all_so ready xs ++ ds))) (append-nil (var_names a)) (append-nil (lexical a))

no_names_yet : Declare no_names []
no_names_yet x e = absurd (true≢false (sym e))

step_near : (m : Note) (a b : Forest) (s : Step (top m a) a b) → holds_well Kind.Statements a ≡ true → is_formed a ≡ true → InPlace whole near.items b → ClearIf (dropped s) b → Tidy s → NearModule a b
step_near m a b s h f i c t =
    let v = vars_step s Kind.Statements h (inl refl) f in
    let l = lexical_step s Kind.Statements h refl (inl refl) f in
    let o : Opened (dropped s) a b = opened (dropped s) a b (module_lists (dropped s) (var_names a) (var_names b) (lexical a) (lexical b) v l) i c in
    let e : entries a ≡ entries b = step_entries s refl f in
    near_module o.crossed.decls e (subst (ExportsOk o.crossed.within) (sym e) o.exports) (step_stars s) (step_requests s)
    (near_step whole s for_values Kind.Statements near.items o.crossed.within h f (λ e. refl) tt (declare_within (names_in (module_decls (alone Kind.Statements m a))) [] o.crossed.decls (top_names m a) no_names_yet) o.crossed.stays t)

-- cases stay in switches

place_map : {F G : Part → near.Row → Type 0} (p : near.Row) (k : Kind) (core : Bool) → ((q : Part) (r : near.Row) → F q r → G q r) → IfCore core (NodeInPlace p k F) → IfCore core (NodeInPlace p k G)
place_map p k false g i = tt
place_map p (Kind.Function f pure) true g i = g others fields i
place_map p k true g i = (i.0, g whole (near.row_below k) i.1)

others_of_whole : (p : near.Row) (r : Forest) → InPlace whole p r → InPlace others p r
others_of_whole p nothing i = tt
others_of_whole p (absent r) i = i
others_of_whole p (node k n a r) i = i.1

pub place_step : {w : Around} {t u : Forest} (q : Part) (p : near.Row) → Step w t u → InPlace q p t → InPlace q p u
place_step whole p (leaves g) i = i.1
place_step whole p (empties h) i = ((tt, tt), i.1)
place_step whole p (unbinds g u h) i = ((i.0.0, unbound_place _ h i.0.1), i.1)
place_step whole p (states g u h) i = ((tt, i.0.1.0.1.0.1.1), i.1)
place_step whole p (inside {k = k} s) i = (place_map p k (is_core k) (λ q r j. place_step q r s j) i.0, i.1)
place_step whole p (behind_node s) i = (i.0, place_step whole p s i.1)
place_step whole p (behind_absent s) i = place_step whole p s i
place_step others p (leaves {r = r} g) i = others_of_whole p r i
place_step others p (empties h) i = i
place_step others p (unbinds g u h) i = i
place_step others p (states g u h) i = i
place_step others p (inside s) i = i
place_step others p (behind_node s) i = place_step whole p s i
place_step others p (behind_absent s) i = place_step whole p s i

-- a step of a whole module

clear_if : (d : Drop) (m : Note) (b : Forest) → TidyAt (Kind.Program source_type.Module) (alone Kind.Statements m b) d → ClearIf d b
clear_if no_drop m b t = tt
clear_if (of_block x) m b t = t
clear_if (of_function x) m b t = t

-- such a step lies in the module's list
pub data InItems (n m : Note) (a : Forest) : (u : Forest) → Step outermost (module_of n m a) u → Type 0 where
  in_items : {b : Forest} (s : Step (top m a) a b) → InItems n m a (module_of n m b) (inside (inside s))

pub in_its_items : (n m : Note) (a u : Forest) (s : Step outermost (module_of n m a) u) → InItems n m a u s
in_its_items n m a _ (inside (inside s)) = in_items s
in_its_items n m a _ (inside (leaves g)) = elim g [ ]
in_its_items n m a _ (inside (behind_node s)) = elim s [ ]
in_its_items n m a _ (leaves g) = elim g [ ]
in_its_items n m a _ (behind_node s) = elim s [ ]

items_refine : (n m : Note) (a u : Forest) (s : Step outermost (module_of n m a) u) → InItems n m a u s
    → is_formed (module_of n m a) ≡ true → InPlace whole fields (module_of n m a) → Tidy s → Refined (module_of n m a) u
items_refine n m a _ _ (in_items {b = b} s) f i t =
    let g : is_formed (alone Kind.Statements m a) ≡ true = form_below (Kind.Program source_type.Module) (alone Kind.Statements m a) nothing f in
    near_refines n m n m (step_near m a b s (form_holds Kind.Statements a nothing g) (form_below Kind.Statements a nothing g)
    (place_step whole near.items s i.0.1.0.1) (clear_if (dropped s) m b t.0) t.1.1)

pub module_step : (n m : Note) (a u : Forest) (s : Step outermost (module_of n m a) u) → is_formed (module_of n m a) ≡ true → InPlace whole fields (module_of n m a) → Tidy s → Refined (module_of n m a) u
module_step n m a u s f i t = items_refine n m a u s (in_its_items n m a u s) f i t
