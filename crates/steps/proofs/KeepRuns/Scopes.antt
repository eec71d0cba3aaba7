-- What a step changes in the declarations of a scope, and what is known of its names inside.
use Rattle.std.proofs.Common.{◌≡◌, ◌∙◌, inr, List, ◌∷◌, ◌++◌, Bool, true, false, true≢false, ◌&&◌, bytes_eq, refl, sym, ap, ap₂, subst}
use Rattle.js_syntax.specs.declared.node_kind.NodeKind.{NodeKind as Kind}
use Rattle.js_syntax.specs.Node.{Forest, nothing, node, absent, Note, alone, nowhere, below_of}
use Rattle.js_syntax.specs.Facts.{is_core}
use Rattle.js_syntax.specs.declared.kind.FunctionKind.{FunctionKind}
use Rattle.js_syntax.specs.declared.kind.FunctionKind.TheVariants as function_kind
use Rattle.js_meaning.specs.Value.{Text, this_name}
use Rattle.js_meaning.specs.Scope.{Decl, ready, all_so, first_of, behind, bound_names, var_names, lexical, receiver_decls, function_decls}
use Rattle.js_meaning_near.specs.Names.{Status, undeclared, loose, owing, live, dead, unread, known, Names, Fillable, Lone, Plainly, AllPlain, PlainBut, declared}
use Rattle.js_meaning_near.specs.Near.{Row, fields, row_below, ReceiverOk, keys, key_of}
use Rattle.js_meaning_near.specs.Fit.{whole, others, IfCore}
use Rattle.js_meaning_near.specs.Avoid.{declares, Dropped, NodeInPlace, InPlace, NodeAvoids, Avoids, Unless}
use Rattle.js_meaning_near.proofs.Avoid.{fewer_itself, dropped_first, dropped_second}
use Rattle.steps.specs.Steps.{other, Around, Step, leaves, empties, unbinds, states, inside, behind_node, behind_absent}
use Rattle.steps.specs.KeepRuns.Formed.{may_hold, holds_well, still, calm, heads, is_formed}
use Rattle.steps.specs.KeepRuns.Drop.{Drop, no_drop, of_block, of_function, out_of_block, dropped}
use Rattle.steps.specs.KeepRuns.Tidy.{Clear, TidyAt}
use Rattle.steps.proofs.KeepRuns.Calm.{items_other, leaves_no_other, first_stays, form_below, form_behind, Alike, alike_nothing, alike_absent, alike_same, alike_node, alike_function, calm_step, same_lexical}
use Rattle.steps.proofs.KeepRuns.Lists.{LexicalChange, VarsChange, vars_step, lexical_step, less_dropped}
use Rattle.steps.proofs.KeepRuns.Names.{Stays, StaysBut, Crossed, crossed_plain, crossed_block, crossed_function, crossed_through}
use Rattle.js_syntax.proofs.Truth.{first_of_both, second_of_both, both}

pub if_core : {A : Type 0} (b : Bool) → b ≡ true → IfCore b A → A
if_core true e h = h
if_core false e h = absurd (true≢false (sym e))

pub formed_behind : (a : Forest) → is_formed a ≡ true → is_formed (behind a) ≡ true
formed_behind nothing e = refl
formed_behind (absent r) e = e
formed_behind (node k n a r) e = form_behind k a r e

pub holds_behind : (k : Kind) (a : Forest) → holds_well k a ≡ true → holds_well k (behind a) ≡ true
holds_behind k nothing e = refl
holds_behind k (absent r) e = e
holds_behind k (node l n a r) e = second_of_both (may_hold k l) (holds_well k r) e

-- the declarations of a function

abbrev pub DeclsChange : Drop → List Decl → List Decl → Type 0
DeclsChange no_drop ds es = ds ≡ es
DeclsChange (of_block x) ds es = Dropped x ds es
DeclsChange (of_function x) ds es = Dropped x ds es

code_lists : (d : Drop) (rs ps : List Decl) (xs ys : List Text) (ds es : List Decl) → VarsChange d xs ys → LexicalChange d ds es → DeclsChange d (rs ++ all_so ready xs ++ ps ++ ds) (rs ++ all_so ready ys ++ ps ++ es)
code_lists no_drop rs ps xs ys ds es v l = ap₂ (λ m n. rs ++ all_so ready m ++ ps ++ n) v l
code_lists (of_block x) rs ps xs ys ds es v l =
    subst (λ m. Dropped x (rs ++ all_so ready xs ++ ps ++ ds) (rs ++ all_so ready m ++ ps ++ es)) v (dropped_second (fewer_itself x (rs ++ all_so ready xs ++ ps)) l)
code_lists (of_function x) rs ps xs ys ds es v l =
    subst (λ m. Dropped x (rs ++ all_so ready xs ++ ps ++ ds) (rs ++ all_so ready ys ++ ps ++ m)) l (dropped_first (dropped_first (dropped_second (fewer_itself x rs) (less_dropped ready v)) (fewer_itself x ps)) (fewer_itself x ds))

-- a step within a function lies in its body
pub record BodyChange (d : Drop) (a b : Forest) : Type 0 where
  pub parameters : first_of (behind a) ≡ first_of (behind b)
  pub vars : VarsChange d (var_names (behind (behind a))) (var_names (behind (behind b)))
  pub lexical : LexicalChange d (lexical (behind (behind a))) (lexical (behind (behind b)))

pub body_change : {w : Around} {a b : Forest} (f : FunctionKind) (pure : Bool) (s : Step w a b) → w.row ≡ other → holds_well (Kind.Function f pure) a ≡ true → heads (Kind.Function f pure) a ≡ true → is_formed a ≡ true → BodyChange (dropped s) a b
body_change {w} {a} {b} f pure s g m h e =
    let k : Kind = Kind.Function f pure in
    let i = first_stays s g (first_of_both (still (first_of a)) _ h) in
    let j = first_stays i.step g (second_of_both (still (first_of a)) _ h) in
    let d : dropped j.step ≡ dropped s = j.drops ∙ i.drops in
    let l = holds_behind k (behind a) (holds_behind k a m) in
    let c = formed_behind (behind a) (formed_behind a e) in
    record {
      parameters = j.first;
      vars = subst (λ d. VarsChange d (var_names (behind (behind a))) (var_names (behind (behind b)))) d (vars_step j.step k l (inr g) c);
      lexical = subst (λ d. LexicalChange d (lexical (behind (behind a))) (lexical (behind (behind b)))) d (lexical_step j.step k l refl (inr g) c);
    }

pub function_change : {w : Around} {a b : Forest} (f : FunctionKind) (pure : Bool) (s : Step w a b) → w.row ≡ other → holds_well (Kind.Function f pure) a ≡ true → heads (Kind.Function f pure) a ≡ true → is_formed a ≡ true → DeclsChange (dropped s) (function_decls f a) (function_decls f b)
function_change {a = a} {b = b} f pure s g m h e =
    let c = body_change f pure s g m h e in
    subst (λ p. DeclsChange (dropped s) (function_decls f a) (receiver_decls f ++ all_so ready (var_names (behind (behind b))) ++ all_so ready (bound_names p) ++ lexical (behind (behind b)))) c.parameters
    (code_lists (dropped s) (receiver_decls f) (all_so ready (bound_names (first_of (behind a)))) _ _ _ _ c.vars c.lexical)

fillable : (s : Status) → Plainly s → Fillable s
fillable undeclared y = tt
fillable loose y = tt
fillable owing y = tt
fillable live y = tt
fillable dead y = y
fillable unread y = tt
fillable (known p) y = y

pub record Entered (d : Drop) (f : FunctionKind) (st : Names) (ds es : List Decl) (b : Forest) : Type 0 where
  pub crossed : Crossed d st ds es others fields b
  pub receiver : ReceiverOk f crossed.within

this_plain : {x : Text} (f : FunctionKind) (st : Names) → PlainBut x st → bytes_eq this_name x ≡ false → ReceiverOk f st
this_plain function_kind.Arrow st g e = tt
this_plain function_kind.Declaration st g e = fillable (st this_name) (g this_name e)
this_plain function_kind.Expression st g e = fillable (st this_name) (g this_name e)

this_all : (f : FunctionKind) (st : Names) → AllPlain st → ReceiverOk f st
this_all function_kind.Arrow st g = tt
this_all function_kind.Declaration st g = fillable (st this_name) (g this_name)
this_all function_kind.Expression st g = fillable (st this_name) (g this_name)

pub enter_code : (d : Drop) (f : FunctionKind) (pure : Bool) (st : Names) (ds : List Decl) (b : Forest) → DeclsChange d ds (function_decls f b) → AllPlain st → InPlace others fields b → TidyAt (Kind.Function f pure) b d → Entered d f st ds (function_decls f b) b
enter_code no_drop f pure st ds b c g i t = let z = crossed_plain st ds _ others fields b g c i in record { crossed = z; receiver = this_all f z.within z.stays.0 }
enter_code (of_block x) f pure st ds b c g i t = let z = crossed_block x st ds _ others fields b g c t.1 in record { crossed = z; receiver = this_plain f z.within z.stays.plain t.0 }
enter_code (of_function x) f pure st ds b c g i t = let z = crossed_function x st ds _ others fields b g c t.1 in record { crossed = z; receiver = this_plain f z.within z.stays.plain t.0 }

-- the declarations of a block

abbrev pub Outer : Drop → Names → List Decl → Forest → Type 0
Outer no_drop st es b = AllPlain st × InPlace whole fields b
Outer (of_block x) st es b = AllPlain st × Clear x es whole fields b
Outer (of_function x) st es b = PlainBut x st × Lone (st x) × (c : Bool) × (c ≡ false → Fillable (st x)) × (declares es x ≡ false) × Avoids c x whole fields b

pub enter_block : (d : Drop) (st : Names) (ds es : List Decl) (b : Forest) → LexicalChange d ds es → Outer d st es b → Crossed d st ds es whole fields b
enter_block no_drop st ds es b c o = crossed_plain st ds es whole fields b o.0 c o.1
enter_block (of_block x) st ds es b c o = crossed_block x st ds es whole fields b o.0 c o.1
enter_block (of_function x) st ds es b c o = crossed_through x st ds es fields b o.0 o.1 o.2 o.3 c (ap (λ l. declares l x) c ∙ o.4) o.5

shown : (H : Type 0) {S : Type 0} (b : Bool) → b ≡ false → Unless b H S → S
shown H true e h = absurd (true≢false e)
shown H false e h = h

-- of the kinds that open a block
pub data IsBlock : Kind → Type 0 where
  is_block : IsBlock Kind.BlockStatement
  is_cases : IsBlock Kind.Cases
  is_for : IsBlock Kind.ForStatement
  is_catch : IsBlock Kind.CatchClause

outer_through : (k : Kind) (x : Text) (st : Names) (p : Row) (n : Note) (b r : Forest) → IsBlock k → StaysBut x whole st p (node k n b r) → declares (declared k b) x ≡ false → Outer (of_function x) st (declared k b) b
outer_through k x st p n b r is_block h e = (h.plain, h.lone, h.bindings, h.fill, e, shown _ _ e h.avoids.0.2)
outer_through k x st p n b r is_cases h e = (h.plain, h.lone, h.bindings, h.fill, e, shown _ _ e h.avoids.0.2)
outer_through k x st p n b r is_for h e = (h.plain, h.lone, h.bindings, h.fill, e, shown _ _ e h.avoids.0.2)
outer_through k x st p n b r is_catch h e = (h.plain, h.lone, h.bindings, h.fill, e, shown _ _ e h.avoids.0.2)

outer_plain : (k : Kind) (st : Names) (p : Row) (n : Note) (b r : Forest) → IsBlock k → Stays no_drop whole st p (node k n b r) → Outer no_drop st (declared k b) b
outer_plain k st p n b r is_block h = (h.0, h.1.0.1)
outer_plain k st p n b r is_cases h = (h.0, h.1.0.1)
outer_plain k st p n b r is_for h = (h.0, h.1.0.1)
outer_plain k st p n b r is_catch h = (h.0, h.1.0.1)

abbrev pub InTidy : Kind → Drop → Type 0
InTidy Kind.ForStatement (of_block x) = ⊥
InTidy Kind.CatchClause (of_block x) = ⊥
InTidy k d = Unit {0}

outer_here : (k : Kind) (x : Text) (st : Names) (p : Row) (n : Note) (b r : Forest) → IsBlock k → InTidy k (of_block x) → AllPlain st → TidyAt k b (of_block x) → Outer (of_block x) st (declared k b) b
outer_here k x st p n b r is_block i g t = (g, t)
outer_here k x st p n b r is_cases i g t = (g, t)
outer_here k x st p n b r is_for i g t = absurd i
outer_here k x st p n b r is_catch i g t = absurd i

pub outer : (k : Kind) (d : Drop) (st : Names) (p : Row) (n : Note) (b r : Forest) → IsBlock k → InTidy k d → Stays (out_of_block d) whole st p (node k n b r) → TidyAt k b d → ((x : Text) → d ≡ of_function x → declares (declared k b) x ≡ false) → Outer d st (declared k b) b
outer k no_drop st p n b r o i h t f = outer_plain k st p n b r o h
outer k (of_block x) st p n b r o i h t f = outer_here k x st p n b r o i h.0 t
outer k (of_function x) st p n b r o i h t f = outer_through k x st p n b r o h (f x refl)

-- below any other node that isn't a function the names are those around it
abbrev pub IsOrdinary : Kind → Type 0
IsOrdinary (Kind.Function f pure) = ⊥
IsOrdinary Kind.BlockStatement = ⊥
IsOrdinary Kind.Cases = ⊥
IsOrdinary Kind.ForStatement = ⊥
IsOrdinary Kind.CatchClause = ⊥
IsOrdinary k = Unit {0}

pub plain_below : (k : Kind) (p : Row) (n : Note) (b r : Forest) → IsOrdinary k → is_core k ≡ true → InPlace whole p (node k n b r) → InPlace whole (row_below k) b
plain_below (Kind.Function f pure) p n b r o e i = absurd o
plain_below Kind.BlockStatement p n b r o e i = absurd o
plain_below Kind.Cases p n b r o e i = absurd o
plain_below Kind.ForStatement p n b r o e i = absurd o
plain_below Kind.CatchClause p n b r o e i = absurd o
plain_below k p n b r o e i = (if_core {A = NodeInPlace p k (λ q r. InPlace q r b)} (is_core k) e i.0).1

pub avoids_below : (k : Kind) (c : Bool) (x : Text) (p : Row) (n : Note) (b r : Forest) → IsOrdinary k → is_core k ≡ true → Avoids c x whole p (node k n b r) → Avoids c x whole (row_below k) b
avoids_below (Kind.Function f pure) c x p n b r o e i = absurd o
avoids_below Kind.BlockStatement c x p n b r o e i = absurd o
avoids_below Kind.Cases c x p n b r o e i = absurd o
avoids_below Kind.ForStatement c x p n b r o e i = absurd o
avoids_below Kind.CatchClause c x p n b r o e i = absurd o
avoids_below k c x p n b r o e i = (if_core {A = NodeAvoids c x p k b (λ q r. InPlace q r b) (λ q r. Avoids c x q r b)} (is_core k) e i.0).2

pub stays_below : (k : Kind) (d : Drop) (st : Names) (p : Row) (n : Note) (b r : Forest) → IsOrdinary k → is_core k ≡ true → Stays d whole st p (node k n b r) → Stays d whole st (row_below k) b
stays_below k no_drop st p n b r o e h = (h.0, plain_below k p n b r o e h.1)
stays_below k (of_block x) st p n b r o e h = record { plain = h.plain; lone = h.lone; bindings = h.bindings; fill = h.fill; avoids = avoids_below k h.bindings x p n b r o e h.avoids }
stays_below k (of_function x) st p n b r o e h = record { plain = h.plain; lone = h.lone; bindings = h.bindings; fill = h.fill; avoids = avoids_below k h.bindings x p n b r o e h.avoids }

-- heads of `for`, and keys of object literals

formed_alone : (k : Kind) (a r : Forest) → is_formed (node k nowhere a r) ≡ true → is_formed (alone k nowhere a) ≡ true
formed_alone k a r e =
    both (holds_well k a && heads k a) (is_formed a && true) (first_of_both (holds_well k a && heads k a) (is_formed a && is_formed r) e) (both (is_formed a) true (form_below k a r e) refl)

pub for_first : {w : Around} {a b : Forest} → Step w a b → w.row ≡ other → calm (first_of a) ≡ true → is_formed a ≡ true → lexical (first_of a) ≡ lexical (first_of b)
for_first (leaves h) g c e = absurd (leaves_no_other h g)
for_first (empties h) g c e = refl
for_first (unbinds i u h) g c e = absurd (items_other i g)
for_first (states i u h) g c e = absurd (items_other i g)
for_first (inside {k = k} {n = n} {a = a} {r = r} s) g c e = same_lexical (calm_step (inside {n = n} {r = nothing} s) g c (formed_alone k a r e)).alike
for_first (behind_node s) g c e = refl
for_first (behind_absent s) g c e = refl

same_keys : {t u : Forest} → Alike t u → keys t ≡ keys u
same_keys alike_nothing = refl
same_keys (alike_absent h) = refl
same_keys (alike_same {k = k} g) = ap (λ l. key_of k ∷ l) (same_keys g)
same_keys (alike_node {k = k} i h g) = ap (λ l. key_of k ∷ l) (same_keys g)
same_keys (alike_function {f = f} {pure = pure} e g) = ap (λ l. key_of (Kind.Function f pure) ∷ l) (same_keys g)

keys_below : {t u : Forest} → Alike t u → holds_well Kind.ObjectExpression t ≡ true → keys (below_of t) ≡ keys (below_of u)
keys_below alike_nothing c = refl
keys_below (alike_absent h) c = refl
keys_below (alike_same g) c = refl
keys_below (alike_node i h g) c = same_keys h
keys_below (alike_function e g) c = absurd (true≢false (sym c))

pub object_keys : {w : Around} {a b : Forest} → Step w a b → w.row ≡ other → holds_well Kind.ObjectExpression a ≡ true → calm a ≡ true → is_formed a ≡ true → keys (below_of a) ≡ keys (below_of b)
object_keys s g h c e = keys_below (calm_step s g c e).alike h
