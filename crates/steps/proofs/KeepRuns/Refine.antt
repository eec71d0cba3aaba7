-- A step leaves a row that is near.
use Rattle.std.proofs.Common.{◌≡◌, ◌∙◌, inr, List, [], ◌++◌, Bool, true, false, true≢false, refl, sym, ap, subst}
use Rattle.js_syntax.specs.declared.node_kind.NodeKind.{NodeKind as Kind}
use Rattle.js_syntax.specs.Node.{Forest, nothing, node, Note, alone}
use Rattle.js_syntax.specs.Facts.{is_core}
use Rattle.js_syntax.specs.declared.kind.FunctionKind.TheVariants as function_kind
use Rattle.js_meaning.specs.Value.{Text}
use Rattle.js_meaning.specs.Scope.{Decl, waiting, all_so, named_so, first_of, first_name, bound_names, lexical, function_decls}
use Rattle.js_meaning.specs.Module.{names_in}
use Rattle.js_meaning_near.specs.Purpose.{Purpose, Purposes, purpose_here, purposes_behind, wanted_below}
use Rattle.js_meaning_near.specs.Names.{Names, Lone, FillableIf, Decls, no_decls, Copied, declared}
use Rattle.js_meaning_near.specs.Near as near
use Rattle.js_meaning_near.specs.Near.{fields, Idle, idle_empty, idle_function, idle_declarator, idle_bare_declarator, idle_declaration, all_idle, one_idle, statement_emptied, Near, near_absent, near_node, near_closure, near_hoisted, near_uncovered, near_import, changed, near_code}
use Rattle.js_meaning_near.specs.Fit.{names_after, Part, whole, others, part_of, purposes_of, NodeFits, Fits}
use Rattle.js_meaning_near.specs.Avoid.{declares}
use Rattle.js_meaning_near.proofs.Avoid.{after_plain}
use Rattle.js_meaning_near.proofs.Fit.{decls_to, same_copied, fit}
use Rattle.js_meaning_near.proofs.Once.{node_stays}
use Rattle.steps.specs.Names.{is_among, names_declared}
use Rattle.steps.specs.Steps as steps
use Rattle.steps.specs.Steps.{items, of_item, declarators, other, row_below, Around, entered, Initialiser, no_initialiser, silent_initialiser, Goes, empty_statement, unused_function, unused_declarator, unused_declaration, Step, leaves, empties, unbinds, states, inside, behind_node, behind_absent}
use Rattle.steps.specs.KeepRuns.Formed.{may_hold, holds_well, still, is_formed}
use Rattle.steps.specs.KeepRuns.Drop.{Drop, no_drop, of_block, of_function, declared_so, out_of_block, outside, drop_of, dropped}
use Rattle.steps.specs.KeepRuns.Tidy.{TidyAt, Tidy}
use Rattle.steps.proofs.KeepRuns.Silent.{Declare, silent}
use Rattle.steps.proofs.KeepRuns.Calm.{items_other, is_list, leaves_list, leaves_no_other, entered_row, still_stays, first_stays, form_holds, form_heads, form_below, form_behind}
use Rattle.steps.proofs.KeepRuns.Lists.{LexicalChange, lexical_step, lexical_same, not_block, NotBlock}
use Rattle.steps.proofs.KeepRuns.Names.{names_all_so, declare_within, Stays, stays_fits, stays_lone, stays_behind, stays_absent, stays_others, stays_others_absent, Crossed, inner_free, inner_front, declare_code, through}
use Rattle.steps.proofs.KeepRuns.Scopes.{if_core, function_change, Entered, enter_code, enter_block, outer, IsBlock, is_block, is_cases, is_for, is_catch, InTidy, stays_below, for_first, object_keys}
use Rattle.js_syntax.proofs.Truth.{first_of_both, second_of_both}

-- how the rows of steps and of nearness agree: what may leave stands in a list

abbrev pub Agree : (r : steps.Row) (p : near.Row) → Type 0
Agree r p = is_list r ≡ true → p ≡ near.items

below_list : (r : steps.Row) (k : Kind) (a : Forest) → is_list (row_below r k a) ≡ true → near.row_below k ≡ near.items
below_list r Kind.Statements a e = refl
below_list r Kind.Declarators a e = refl
below_list items (Kind.VariableDeclaration how) a e = absurd (cc)
below_list (of_item h) (Kind.VariableDeclaration how) a e = absurd (cc)
below_list (declarators h) (Kind.VariableDeclaration how) a e = absurd (cc)
below_list other (Kind.VariableDeclaration how) a e = absurd (cc)
below_list r k a e = absurd (cc)

agree_below : (w : Around) (k : Kind) (a : Forest) → Agree (entered w k a).row (near.row_below k)
agree_below w k a e = below_list w.row k a (ap is_list (sym (entered_row w k a)) ∙ e)

agree_other : (r : steps.Row) (p : near.Row) → r ≡ other → Agree r p
agree_other r p e f = absurd (true≢false (sym f ∙ ap is_list e))

-- what leaves a list

idle_declared : {st : Names} {names : List Text} {x : Text} {m : Note} {v : Forest} → Declare st names → Lone (st x) → Initialiser names v → Idle st Kind.VariableDeclarator (node (Kind.BindingName x) m nothing v)
idle_declared d l no_initialiser = idle_bare_declarator l
idle_declared {names = names} d l (silent_initialiser {k = k} {n = n} {a = a} i) = idle_declarator l (silent names k n a d i.silent)

leaves_idle : {w : Around} {st : Names} {k : Kind} {a : Forest} (p : near.Row) (r : Forest) (h : Goes w k a) → Declare st w.names → Stays (drop_of h) whole st p r → Idle st k a
leaves_idle p r (empty_statement h) d g = idle_empty
leaves_idle p r (unused_function h u) d g = idle_function g.lone
leaves_idle {st = st} p r (unused_declarator {how = how} {x = x} h u v) d g = idle_declared d (stays_lone how x whole st p r g) v
leaves_idle {st = st} p r (unused_declaration {how = how} {x = x} h u v) d g = idle_declaration (one_idle (idle_declared d (stays_lone how x whole st p r g) v) all_idle)

leave : {us : Purposes} {w : Around} {p : near.Row} {st : Names} {k : Kind} {n : Note} {a r : Forest} (h : Goes w k a) → Agree w.row p → Declare st w.names → Stays (drop_of h) whole st p r
    → Near us p st r r → Near us p st (node k n a r) r
leave {us = us} {p = p} {st = st} {k = k} {n = n} {a = a} {r = r} h i d g o = subst (λ p. Near us p st r r → Near us p st (node k n a r) r) (sym (i (leaves_list h))) (near.leaves (leaves_idle p r h d g)) o

-- behind the first field of a function, where that holds still

abbrev pub OthersOk : Part → steps.Row → Forest → Type 0
OthersOk whole r t = Unit {0}
OthersOk others r t = (r ≡ other) × (still (first_of t) ≡ true)

-- a step inside of a node

abbrev Below : (u : Purpose) (w : Around) (k : Kind) {a b : Forest} → Step (entered w k a) a b → Type 0
Below u w k {a} {b} s = (q : Part) (p : near.Row) (st : Names) → Agree (entered w k a).row p → OthersOk q (entered w k a).row a → Declare st (entered w k a).names → Stays (dropped s) q st p b → Near (purposes_of q (wanted_below u k)) p st (part_of q a) (part_of q b)

names_through : (w : Around) {a b : Forest} (k : Kind) (s : Step (entered w k a) a b) (ds es : List Decl) → LexicalChange (dropped s) ds es → ((x : Text) → is_among (entered w k a).inner x ≡ false → is_among (names_in ds) x ≡ false) → (x : Text) → dropped s ≡ of_function x → declares es x ≡ false
names_through w k s ds es c f x e = through ds es (dropped s) x c e (f x (inner_free s x e))

in_for : (d : Drop) → NotBlock d → InTidy Kind.ForStatement d
in_for no_drop n = tt
in_for (of_block x) n = n
in_for (of_function x) n = tt

in_catch : (d : Drop) → NotBlock d → InTidy Kind.CatchClause d
in_catch no_drop n = tt
in_catch (of_block x) n = n
in_catch (of_function x) n = tt

near_block : (w : Around) (n : Note) {a b : Forest} (r : Forest) (k : Kind) (s : Step (entered w k a) a b) (p : near.Row) (st : Names) → IsBlock k → InTidy k (dropped s) → LexicalChange (dropped s) (declared k a) (declared k b) → names_declared k a ≡ names_in (declared k a)
    → (entered w k a).names ≡ names_declared k a ++ w.names → (entered w k a).inner ≡ names_declared k a ++ w.inner → Declare st w.names → Stays (out_of_block (dropped s)) whole st p (node k n b r) → TidyAt k b (dropped s) → Crossed (dropped s) st (declared k a) (declared k b) whole fields b
near_block w n {a} {b} r k s p st o i c y z x d g t =
    enter_block (dropped s) st (declared k a) (declared k b) b c (outer k (dropped s) st p n b r o i g t (names_through w k s (declared k a) (declared k b) c (λ v e. ap (λ l. is_among l v) (sym y) ∙ (inner_front (names_declared k a) w.inner v (ap (λ l. is_among l v) (sym x) ∙ e)).0)))

near_inside : {us : Purposes} (w : Around) {n : Note} {a b r : Forest} (k : Kind) (s : Step (entered w k a) a b) (above : Kind) (p : near.Row) (st : Names) → is_core k ≡ true → may_hold above k ≡ true → is_formed (node k n a r) ≡ true → Declare st w.names
    → Stays (outside k (dropped s)) whole st p (node k n b r) → TidyAt k b (dropped s) → Below (purpose_here us (near.is_row r)) w k s → Near us p st (node k n a r) (node k n b r)
near_inside w (Kind.Program source) s above p st c m f d g t h = absurd (true≢false (sym m))
near_inside w {n} {a} {b} {r} (Kind.Function function_kind.Declaration pure) s above p st c m f d g t h =
    let k : Kind = Kind.Function function_kind.Declaration pure in
    let fits : Fits whole p st (node k n b r) = stays_fits no_drop whole st p (node k n b r) g in
    let still_first : still (first_of a) ≡ true = first_of_both (still (first_of a)) _ (form_heads k a r f) in
    let front = first_stays s refl still_first in
    let name : first_name a ≡ first_name b = front.name in
    let e : Entered (dropped s) function_kind.Declaration st (function_decls function_kind.Declaration a) (function_decls function_kind.Declaration b) b =
    enter_code (dropped s) function_kind.Declaration pure st (function_decls function_kind.Declaration a) b (function_change function_kind.Declaration pure s refl (form_holds k a r f) (form_heads k a r f) (form_below k a r f)) g.0 g.1.0 t in
    near_hoisted name (subst (FillableIf st) (sym name) fits.0.0.0)
    (near_code e.crossed.decls e.receiver front.rows (h others fields e.crossed.within (agree_other _ fields refl) (refl, still_first) (declare_code [] w.names e.crossed.decls d) e.crossed.stays))
    (fit whole p st r fits.1)
near_inside w {n} {a} {b} {r} (Kind.Function function_kind.Arrow pure) s above p st c m f d g t h =
    let k : Kind = Kind.Function function_kind.Arrow pure in
    let fits : Fits whole p st (node k n b r) = stays_fits no_drop whole st p (node k n b r) g in
    let still_first : still (first_of a) ≡ true = first_of_both (still (first_of a)) _ (form_heads k a r f) in
    let e : Entered (dropped s) function_kind.Arrow st (function_decls function_kind.Arrow a) (function_decls function_kind.Arrow b) b =
    enter_code (dropped s) function_kind.Arrow pure st (function_decls function_kind.Arrow a) b (function_change function_kind.Arrow pure s refl (form_holds k a r f) (form_heads k a r f) (form_below k a r f)) g.0 g.1.0 t in
    near_closure tt refl no_decls tt
    (near_code e.crossed.decls e.receiver (first_stays s refl still_first).rows (h others fields e.crossed.within (agree_other _ fields refl) (refl, still_first) (declare_code [] w.names e.crossed.decls d) e.crossed.stays))
    (fit whole p st r fits.1)
near_inside w {n} {a} {b} {r} (Kind.Function function_kind.Expression pure) s above p st c m f d g t h =
    let k : Kind = Kind.Function function_kind.Expression pure in
    let fits : Fits whole p st (node k n b r) = stays_fits no_drop whole st p (node k n b r) g in
    let still_first : still (first_of a) ≡ true = first_of_both (still (first_of a)) _ (form_heads k a r f) in
    let front = first_stays s refl still_first in
    let name : first_name a ≡ first_name b = front.name in
    let own : List Decl = named_so (waiting true) (first_name a) in
    let around : Names = names_after st own in
    let ds : Decls st own (named_so (waiting true) (first_name b)) around = decls_to st (ap (named_so (waiting true)) name) in
    let e : Entered (dropped s) function_kind.Expression around (function_decls function_kind.Expression a) (function_decls function_kind.Expression b) b =
    enter_code (dropped s) function_kind.Expression pure around (function_decls function_kind.Expression a) b (function_change function_kind.Expression pure s refl (form_holds k a r f) (form_heads k a r f) (form_below k a r f)) (λ x. after_plain own st x (g.0 x)) g.1.0 t in
    near_closure tt name ds (subst (λ o. FillableIf (names_after st (named_so (waiting true) o)) o) (sym name) fits.0.0.0)
    (near_code e.crossed.decls e.receiver front.rows (h others fields e.crossed.within (agree_other _ fields refl) (refl, still_first) (declare_code (names_in own) w.names e.crossed.decls (declare_within (names_in own) w.names ds refl d)) e.crossed.stays))
    (fit whole p st r fits.1)
near_inside w {n} {a} {b} {r} Kind.BlockStatement s above p st c m f d g t h =
    let k : Kind = Kind.BlockStatement in
    let fits : Fits whole p st (node k n b r) = stays_fits (out_of_block (dropped s)) whole st p (node k n b r) g in
    let l = lexical_step s k (form_holds k a r f) refl (inr refl) (form_below k a r f) in
    let z : Crossed (dropped s) st (lexical a) (lexical b) whole fields b = near_block w n r k s p st is_block tt l refl refl refl d g t in
    near_node tt z.decls tt (h whole fields z.within (agree_other _ fields refl) tt (declare_within (names_declared k a) w.names z.decls refl d) z.stays) (fit whole p st r fits.1)
near_inside w {n} {a} {b} {r} Kind.Cases s above p st c m f d g t h =
    let k : Kind = Kind.Cases in
    let fits : Fits whole p st (node k n b r) = stays_fits (out_of_block (dropped s)) whole st p (node k n b r) g in
    let l = lexical_step s k (form_holds k a r f) refl (inr refl) (form_below k a r f) in
    let z : Crossed (dropped s) st (lexical a) (lexical b) whole fields b = near_block w n r k s p st is_cases tt l refl refl refl d g t in
    near_node fits.0.0 z.decls tt (h whole fields z.within (agree_other _ fields refl) tt (declare_within (names_declared k a) w.names z.decls refl d) z.stays) (fit whole p st r fits.1)
near_inside w {n} {a} {b} {r} Kind.ForStatement s above p st c m f d g t h =
    let k : Kind = Kind.ForStatement in
    let fits : Fits whole p st (node k n b r) = stays_fits (out_of_block (dropped s)) whole st p (node k n b r) g in
    let y : NotBlock (dropped s) = not_block s k (form_holds k a r f) refl refl (form_below k a r f) in
    let e : lexical (first_of a) ≡ lexical (first_of b) = for_first s refl (form_heads k a r f) (form_below k a r f) in
    let z : Crossed (dropped s) st (lexical (first_of a)) (lexical (first_of b)) whole fields b = near_block w n r k s p st is_for (in_for (dropped s) y) (lexical_same _ _ (dropped s) y e) refl refl refl d g t in
    near_node tt z.decls (subst (Copied z.within (lexical (first_of a))) e (same_copied z.within (lexical (first_of a)))) (h whole fields z.within (agree_other _ fields refl) tt (declare_within (names_declared k a) w.names z.decls refl d) z.stays) (fit whole p st r fits.1)
near_inside w {n} {a} {b} {r} Kind.CatchClause s above p st c m f d g t h =
    let k : Kind = Kind.CatchClause in
    let fits : Fits whole p st (node k n b r) = stays_fits (out_of_block (dropped s)) whole st p (node k n b r) g in
    let y : NotBlock (dropped s) = not_block s k (form_holds k a r f) refl refl (form_below k a r f) in
    let e : first_of a ≡ first_of b = (first_stays s refl (form_heads k a r f)).first in
    let i = sym (names_all_so (waiting false) (bound_names (first_of a))) in
    let z : Crossed (dropped s) st (declared k a) (declared k b) whole fields b = near_block w n r k s p st is_catch (in_catch (dropped s) y) (lexical_same _ _ (dropped s) y (ap (λ x. all_so (waiting false) (bound_names x)) e)) i refl refl d g t in
    near_node tt z.decls tt (h whole fields z.within (agree_other _ fields refl) tt (declare_within (names_declared k a) w.names z.decls i d) z.stays) (fit whole p st r fits.1)
near_inside w {n} {a} {b} {r} Kind.ObjectExpression s above p st c m f d g t h =
    let k : Kind = Kind.ObjectExpression in
    let fits : Fits whole p st (node k n b r) = stays_fits (dropped s) whole st p (node k n b r) g in
    near_node tt no_decls (object_keys s refl (form_holds k a r f) (form_heads k a r f) (form_below k a r f)) (h whole fields st (agree_below w k a) tt d (stays_below k (dropped s) st p n b r tt c g)) (fit whole p st r fits.1)
near_inside w {n} {a} {b} {r} k s above p st c m f d g t h =
    let fits : Fits whole p st (node k n b r) = stays_fits (outside k (dropped s)) whole st p (node k n b r) g in
    near_node (if_core {A = NodeFits p st k b (λ q r t. Fits q r t b)} (is_core k) c fits.0).0 no_decls tt (h whole (near.row_below k) st (agree_below w k a) tt d (stays_below k (dropped s) st p n b r tt c g)) (fit whole p st r fits.1)

inside_core : {us : Purposes} (w : Around) {n : Note} {a b r : Forest} (k : Kind) (s : Step (entered w k a) a b) (above : Kind) (p : near.Row) (st : Names) (core : Bool) → is_core k ≡ core → may_hold above k ≡ true → is_formed (node k n a r) ≡ true → Declare st w.names
    → Stays (outside k (dropped s)) whole st p (node k n b r) → TidyAt k b (dropped s) → Below (purpose_here us (near.is_row r)) w k s → Near us p st (node k n a r) (node k n b r)
inside_core w k s above p st true c m f d g t h = near_inside w k s above p st c m f d g t h
inside_core w {n} {a} {b} {r} k s above p st false c m f d g t h = near_uncovered c (fit whole p st r (stays_fits (outside k (dropped s)) whole st p (node k n b r) g).1)

pub near_step : {w : Around} {t u : Forest} (q : Part) (s : Step w t u) (us : Purposes) (above : Kind) (p : near.Row) (st : Names) → holds_well above t ≡ true → is_formed t ≡ true → Agree w.row p → OthersOk q w.row t → Declare st w.names → Stays (dropped s) q st p u → Tidy s
    → Near (purposes_of q us) p st (part_of q t) (part_of q u)
near_step whole (leaves {r = r} h) us above p st m f i o d g t = leave h i d g (fit whole p st r (stays_fits (drop_of h) whole st p r g))
near_step whole (empties {w = w} {k = k} {m = n} {l = l} {a = a} {r = r} h) us above p st m f i o d g t =
    changed (statement_emptied (silent w.names k l a d h.silent)) (fit whole p st r (stays_fits no_drop whole st p (node Kind.EmptyStatement n nothing r) g).1)
near_step whole (unbinds {source = source} {x = x} {n = n} {b = b} {r = r} j u h) us above p st m f i o d g t = near_import (fit whole p st r (stays_fits (of_block x) whole st p (node (Kind.ImportDeclaration source) n b r) g).1)
near_step whole (states {how = how} {x = x} {k = k} {n = n} {m = m} {l = l} {j = j} {i = y} {o = z} {a = b} {r = r} h u v) us above p st e f i o d g t =
    let fits = stays_fits (declared_so how x) whole st p (node Kind.ExpressionStatement z (alone k y b) r) g in
    let lone = stays_lone how x whole st p (node Kind.ExpressionStatement z (alone k y b) r) g in
    let old = node (Kind.VariableDeclaration how) n (alone Kind.Declarators m (alone Kind.VariableDeclarator l (node (Kind.BindingName x) j nothing (alone k y b)))) r in
    subst (λ p. Fits whole p st r → Near us p st old (node Kind.ExpressionStatement z (alone k y b) r)) (sym (i (ap is_list h))) (λ rest. near.value_stays lone (fit whole fields st (alone k y b) fits.0.1) (fit whole near.items st r rest)) fits.1
near_step whole (inside {w = w} {k = k} {a = a} {r = r} s) us above p st m f i o d g t =
    inside_core w k s above p st (is_core k) refl (first_of_both (may_hold above k) (holds_well above r) m) f d g t.0 (λ q p st i o d g. near_step q s (wanted_below (purpose_here us (near.is_row r)) k) k p st (form_holds k a r f) (form_below k a r f) i o d g t.1)
near_step whole (behind_node {k = k} {n = n} {a = a} {r = r} {s = z} s) us above p st m f i o d g t =
    node_stays p st k n a (stays_fits (dropped s) whole st p (node k n a z) g).0 (near_step whole s (purposes_behind us) above p st (second_of_both (may_hold above k) (holds_well above r) m) (form_behind k a r f) i tt d (stays_behind (dropped s) st p k n a z g) t)
near_step whole (behind_absent {s = z} s) us above p st m f i o d g t = near_absent (near_step whole s (purposes_behind us) above p st m f i tt d (stays_absent (dropped s) st p z g) t)
near_step others (leaves h) us above p st m f i o d g t = absurd (leaves_no_other h o.0)
near_step others (empties h) us above p st m f i o d g t = absurd (true≢false (sym o.1))
near_step others (unbinds j u h) us above p st m f i o d g t = absurd (items_other j o.0)
near_step others (states j u h) us above p st m f i o d g t = absurd (items_other j o.0)
near_step others (inside {n = n} s) us above p st m f i o d g t = absurd (still_stays (inside {n = n} {r = nothing} s) o.0 o.1)
near_step others (behind_node {k = k} {n = n} {a = a} {r = r} {s = z} s) us above p st m f i o d g t =
    near_step whole s (purposes_behind us) above p st (second_of_both (may_hold above k) (holds_well above r) m) (form_behind k a r f) i tt d (stays_others (dropped s) st p k n a z g) t
near_step others (behind_absent {s = z} s) us above p st m f i o d g t = near_step whole s (purposes_behind us) above p st m f i tt d (stays_others_absent (dropped s) st p z g) t
