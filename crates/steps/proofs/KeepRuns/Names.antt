-- From the names of a scope to what is known of them inside.
use Rattle.std.proofs.Common.{◌≡◌, ◌∙◌, ◌⊎◌, inl, inr, List, [], ◌∷◌, ◌++◌, Bool, true, false, true≢false, not, ◌||◌, if◌then◌else◌, bytes_eq, refl, sym, ap, subst}
use Rattle.std.proofs.lemmas.Slice.Eq.{bytes_eq-Decides}
use Rattle.js_syntax.specs.declared.node_kind.NodeKind.{NodeKind as Kind}
use Rattle.js_syntax.specs.Node.{Forest, node, absent, Note}
use Rattle.js_syntax.specs.declared.kind.VariableKind.{VariableKind}
use Rattle.js_syntax.specs.declared.kind.VariableKind.TheVariants as variable
use Rattle.js_meaning.specs.Value.{Text}
use Rattle.js_meaning.specs.Scope.{Way, Decl, decl, all_so}
use Rattle.js_meaning.specs.Module.{names_in}
use Rattle.js_meaning_near.specs.Names.{Status, live, dead, unread, known, Names, with_name, Fillable, Lone, Declared, Decls, no_decls, in_both, in_both_known, in_both_unread, in_old_again, in_old, AllPlain, PlainBut}
use Rattle.js_meaning_near.specs.Near.{Row}
use Rattle.js_meaning_near.specs.Fit.{names_after, Part, whole, others, Fits}
use Rattle.js_meaning_near.specs.Avoid.{declares, Dropped, Dropping, InPlace, Avoids}
use Rattle.js_meaning_near.proofs.Avoid.{after_plain, dropped_decls, fits_clear, fits_avoiding}
use Rattle.js_meaning_near.proofs.Fit.{decls_to}
use Rattle.steps.specs.Names.{is_among, names_declared, refers}
use Rattle.steps.specs.Steps.{Around, in_block, entered, is_used, Goes, empty_statement, unused_function, unused_declarator, unused_declaration, Step, leaves, empties, unbinds, states, inside, behind_node, behind_absent}
use Rattle.steps.proofs.Among.{among_joined}
use Rattle.steps.specs.KeepRuns.Drop.{Drop, no_drop, of_block, of_function, declared_so, out_of_block, outside, drop_of, dropped}
use Rattle.steps.specs.KeepRuns.Tidy.{Clear}
use Rattle.steps.proofs.KeepRuns.Silent.{Declare}
use Rattle.steps.proofs.KeepRuns.Lists.{LexicalChange}
use Rattle.js_syntax.proofs.Truth.{not_false, first_of_neither, second_of_neither, neither}

pub declares_among : (ds : List Decl) (x : Text) → declares ds x ≡ is_among (names_in ds) x
declares_among [] x = refl
declares_among (decl y way ∷ ds) x = ap (λ (b : Bool). bytes_eq y x || b) (declares_among ds x)

pub names_all_so : (way : Way) (xs : List Text) → names_in (all_so way xs) ≡ xs
names_all_so way [] = refl
names_all_so way (x ∷ xs) = ap (λ l. x ∷ l) (names_all_so way xs)

-- what stays: a row whose names are all plain, but for the one whose declaration goes

pub record StaysBut (x : Text) (q : Part) (st : Names) (p : Row) (r : Forest) : Type 0 where
  pub plain : PlainBut x st
  pub lone : Lone (st x)
  pub bindings : Bool
  pub fill : bindings ≡ false → Fillable (st x)
  pub avoids : Avoids bindings x q p r

abbrev pub Stays : Drop → Part → Names → Row → Forest → Type 0
Stays no_drop q st p r = AllPlain st × InPlace q p r
Stays (of_block x) q st p r = StaysBut x q st p r
Stays (of_function x) q st p r = StaysBut x q st p r

but_fits : {x : Text} {q : Part} {st : Names} {p : Row} {r : Forest} → StaysBut x q st p r → Fits q p st r
but_fits {x} {q} {st} {p} {r} h = fits_avoiding h.bindings x q p st r h.plain h.fill h.avoids

pub stays_fits : (d : Drop) (q : Part) (st : Names) (p : Row) (r : Forest) → Stays d q st p r → Fits q p st r
stays_fits no_drop q st p r h = fits_clear q p st r h.0 h.1
stays_fits (of_block x) q st p r h = but_fits h
stays_fits (of_function x) q st p r h = but_fits h

pub stays_lone : (how : VariableKind) (x : Text) (q : Part) (st : Names) (p : Row) (r : Forest) → Stays (declared_so how x) q st p r → Lone (st x)
stays_lone variable.Var x q st p r h = h.lone
stays_lone variable.Let x q st p r h = h.lone
stays_lone variable.Const x q st p r h = h.lone

but_behind : {x : Text} {st : Names} {p : Row} (k : Kind) (n : Note) (a r : Forest) → StaysBut x whole st p (node k n a r) → StaysBut x whole st p r
but_behind k n a r h = record { plain = h.plain; lone = h.lone; bindings = h.bindings; fill = h.fill; avoids = h.avoids.1 }

pub stays_behind : (d : Drop) (st : Names) (p : Row) (k : Kind) (n : Note) (a r : Forest) → Stays d whole st p (node k n a r) → Stays d whole st p r
stays_behind no_drop st p k n a r h = (h.0, h.1.1)
stays_behind (of_block x) st p k n a r h = but_behind k n a r h
stays_behind (of_function x) st p k n a r h = but_behind k n a r h

but_absent : {x : Text} {st : Names} {p : Row} (r : Forest) → StaysBut x whole st p (absent r) → StaysBut x whole st p r
but_absent r h = record { plain = h.plain; lone = h.lone; bindings = h.bindings; fill = h.fill; avoids = h.avoids }

pub stays_absent : (d : Drop) (st : Names) (p : Row) (r : Forest) → Stays d whole st p (absent r) → Stays d whole st p r
stays_absent no_drop st p r h = h
stays_absent (of_block x) st p r h = but_absent r h
stays_absent (of_function x) st p r h = but_absent r h

others_node : {x : Text} {st : Names} {p : Row} (k : Kind) (n : Note) (a r : Forest) → StaysBut x others st p (node k n a r) → StaysBut x whole st p r
others_node k n a r h = record { plain = h.plain; lone = h.lone; bindings = h.bindings; fill = h.fill; avoids = h.avoids }

pub stays_others : (d : Drop) (st : Names) (p : Row) (k : Kind) (n : Note) (a r : Forest) → Stays d others st p (node k n a r) → Stays d whole st p r
stays_others no_drop st p k n a r h = h
stays_others (of_block x) st p k n a r h = others_node k n a r h
stays_others (of_function x) st p k n a r h = others_node k n a r h

others_absent : {x : Text} {st : Names} {p : Row} (r : Forest) → StaysBut x others st p (absent r) → StaysBut x whole st p r
others_absent r h = record { plain = h.plain; lone = h.lone; bindings = h.bindings; fill = h.fill; avoids = h.avoids }

pub stays_others_absent : (d : Drop) (st : Names) (p : Row) (r : Forest) → Stays d others st p (absent r) → Stays d whole st p r
stays_others_absent no_drop st p r h = h
stays_others_absent (of_block x) st p r h = others_absent r h
stays_others_absent (of_function x) st p r h = others_absent r h

-- declared names stay declared

declared_if : (b : Bool) (s z : Status) → Declared s → Declared z → Declared (if b then s else z)
declared_if true s z h g = h
declared_if false s z h g = g

declared_here : (b : Bool) (s z : Status) → Declared s → (b ≡ true) ⊎ Declared z → Declared (if b then s else z)
declared_here true s z h g = h
declared_here false s z h (inl e) = absurd (true≢false (sym e))
declared_here false s z h (inr g) = g

first_or : (b c : Bool) → (b || c) ≡ true → (b ≡ true) ⊎ (c ≡ true)
first_or true c e = inl refl
first_or false c e = inr e

same_name : (x y : Text) → bytes_eq x y ≡ true → x ≡ y
same_name x y e = (bytes_eq-Decides x y).0 e

on : (y : Text) (x : Text) (s : Status) (st : Names) (ds : List Decl) → Declared s → ((bytes_eq x y || declares ds y) ≡ true) ⊎ Declared (st y) → (declares ds y ≡ true) ⊎ Declared (with_name st x s y)
on y x s st ds h (inr g) = inr (declared_if (bytes_eq x y) s (st y) h g)
on y x s st ds h (inl e) = go (first_or (bytes_eq x y) (declares ds y) e)
  where
    go : (bytes_eq x y ≡ true) ⊎ (declares ds y ≡ true) → (declares ds y ≡ true) ⊎ Declared (with_name st x s y)
    go (inl e) = inr (declared_here (bytes_eq x y) s (st y) h (inl e))
    go (inr e) = inl e

again : (y x : Text) (st : Names) (ds : List Decl) → st x ≡ unread → ((bytes_eq x y || declares ds y) ≡ true) ⊎ Declared (st y) → (declares ds y ≡ true) ⊎ Declared (st y)
again y x st ds u (inr g) = inr g
again y x st ds u (inl e) = go (first_or (bytes_eq x y) (declares ds y) e)
  where
    go : (bytes_eq x y ≡ true) ⊎ (declares ds y ≡ true) → (declares ds y ≡ true) ⊎ Declared (st y)
    go (inl e) = inr (subst (λ z. Declared (st z)) (same_name x y e) (subst Declared (sym u) tt))
    go (inr e) = inl e

pub decls_declare : {st t : Names} {ds es : List Decl} → Decls st ds es t → (y : Text) → (declares ds y ≡ true) ⊎ Declared (st y) → Declared (t y)
decls_declare no_decls y (inl e) = absurd (true≢false (sym e))
decls_declare no_decls y (inr h) = h
decls_declare (in_both {st = st} {x = x} {ds = ds} d) y h = decls_declare d y (on y x live st ds tt h)
decls_declare (in_both_known {st = st} {x = x} {ds = ds} p q d) y h = decls_declare d y (on y x (known p) st ds tt h)
decls_declare (in_both_unread {st = st} {x = x} {ds = ds} c d) y h = decls_declare d y (on y x unread st ds tt h)
decls_declare (in_old_again {st = st} {x = x} {ds = ds} u d) y h = decls_declare d y (again y x st ds u h)
decls_declare (in_old {st = st} {x = x} {ds = ds} d) y h = decls_declare d y (on y x dead st ds tt h)

pub declare_within : {st t : Names} {ds es : List Decl} (new old : List Text) → Decls st ds es t → new ≡ names_in ds → Declare st old → Declare t (new ++ old)
declare_within {st} {t} {ds} new old d e h y i = go (first_or (is_among new y) (is_among old y) (sym (among_joined new old y) ∙ i))
  where
    go : (is_among new y ≡ true) ⊎ (is_among old y ≡ true) → Declared (t y)
    go (inl i) = decls_declare d y (inl (declares_among ds y ∙ ap (λ l. is_among l y) (sym e) ∙ i))
    go (inr i) = decls_declare d y (inr (h y i))

-- the names inside of a scope

pub record Crossed (d : Drop) (st : Names) (ds es : List Decl) (q : Part) (p : Row) (b : Forest) : Type 0 where
  pub within : Names
  pub decls : Decls st ds es within
  pub stays : Stays d q within p b

pub crossed_plain : (st : Names) (ds es : List Decl) (q : Part) (p : Row) (b : Forest) → AllPlain st → ds ≡ es → InPlace q p b → Crossed no_drop st ds es q p b
crossed_plain st ds es q p b g e i = record { within = names_after st ds; decls = decls_to st e; stays = ((λ x. after_plain ds st x (g x)), i) }

fill_unread : (s : Status) → s ≡ unread → Fillable s
fill_unread s e = subst Fillable (sym e) tt

dropped_but : {x : Text} {st : Names} {ds es : List Decl} {q : Part} {p : Row} {b : Forest} (t : Dropping x st ds es) → AllPlain st → Avoids (not (declares es x)) x q p b → StaysBut x q t.within p b
dropped_but {x} {st} {ds} {es} t g a = record {
  plain = λ y e. t.plain y e (g y);
  lone = t.lone;
  bindings = not (declares es x);
  fill = λ e. fill_unread (t.within x) (t.still (not_false (declares es x) e));
  avoids = a;
}

pub crossed_block : (x : Text) (st : Names) (ds es : List Decl) (q : Part) (p : Row) (b : Forest) → AllPlain st → Dropped x ds es → Clear x es q p b → Crossed (of_block x) st ds es q p b
crossed_block x st ds es q p b g d c = let t = dropped_decls x st d c.0 in record { within = t.within; decls = t.decls; stays = dropped_but t g c.1 }

pub crossed_function : (x : Text) (st : Names) (ds es : List Decl) (q : Part) (p : Row) (b : Forest) → AllPlain st → Dropped x ds es → Clear x es q p b → Crossed (of_function x) st ds es q p b
crossed_function x st ds es q p b g d c = let t = dropped_decls x st d c.0 in record { within = t.within; decls = t.decls; stays = dropped_but t g c.1 }

-- a name of a scope further out, which this one doesn't declare

after_other : (ds : List Decl) (st : Names) (x : Text) → declares ds x ≡ false → names_after st ds x ≡ st x
after_other [] st x e = refl
after_other (decl y way ∷ ds) st x e = after_other ds (with_name st y live) x (second_of_neither (bytes_eq y x) (declares ds x) e) ∙ ap (λ b. if b then live else st x) (first_of_neither (bytes_eq y x) (declares ds x) e)

pub crossed_through : (x : Text) (st : Names) (ds es : List Decl) (p : Row) (b : Forest) → PlainBut x st → Lone (st x) → (c : Bool) → (c ≡ false → Fillable (st x)) → ds ≡ es → declares ds x ≡ false → Avoids c x whole p b → Crossed (of_function x) st ds es whole p b
crossed_through x st ds es p b g l c f e n a = record {
  within = names_after st ds;
  decls = decls_to st e;
  stays = record {
    plain = λ y i. after_plain ds st y (g y i);
    lone = subst Lone (sym (after_other ds st x n)) l;
    bindings = c;
    fill = λ i. subst Fillable (sym (after_other ds st x n)) (f i);
    avoids = a;
  };
}

pub inner_front : (new old : List Text) (x : Text) → is_among (new ++ old) x ≡ false → (is_among new x ≡ false) × (is_among old x ≡ false)
inner_front new old x e = let i = sym (among_joined new old x) ∙ e in (first_of_neither _ (is_among old x) i, second_of_neither (is_among new x) _ i)

-- a declaration that goes is used neither where it stands nor further out

abbrev pub Unused : Around → Drop → Type 0
Unused w no_drop = Unit {0}
Unused w (of_block x) = is_used w variable.Let x ≡ false
Unused w (of_function x) = is_used w variable.Var x ≡ false

unused_so : (w : Around) (how : VariableKind) (x : Text) → is_used w how x ≡ false → Unused w (declared_so how x)
unused_so w variable.Var x u = u
unused_so w variable.Let x u = u
unused_so w variable.Const x u = u

unused_out : (w : Around) (k : Kind) (a : Forest) (d : Drop) → Unused (in_block w k a) d → Unused w (out_of_block d)
unused_out w k a no_drop u = tt
unused_out w k a (of_block x) u = tt
unused_out w k a (of_function x) u =
    neither (refers x w.variables) _ (first_of_neither _ (is_among (in_block w k a).inner x) u) (inner_front (names_declared k a) w.inner x (second_of_neither (refers x w.variables) _ u)).1

unused_outside : (w : Around) (k : Kind) (a : Forest) (d : Drop) → Unused (entered w k a) d → Unused w (outside k d)
unused_outside w (Kind.Program source) a d u = tt
unused_outside w (Kind.Function f pure) a d u = tt
unused_outside w Kind.BlockStatement a d u = unused_out w Kind.BlockStatement a d u
unused_outside w Kind.Cases a d u = unused_out w Kind.Cases a d u
unused_outside w Kind.ForStatement a d u = unused_out w Kind.ForStatement a d u
unused_outside w Kind.CatchClause a d u = unused_out w Kind.CatchClause a d u
unused_outside w k a no_drop u = u
unused_outside w k a (of_block x) u = u
unused_outside w k a (of_function x) u = u

leaves_unused : {w : Around} {k : Kind} {a : Forest} (g : Goes w k a) → Unused w (drop_of g)
leaves_unused (empty_statement h) = tt
leaves_unused (unused_function h u) = u
leaves_unused {w} (unused_declarator {how = how} {x = x} h u i) = unused_so w how x u
leaves_unused {w} (unused_declaration {how = how} {x = x} h u i) = unused_so w how x u

step_unused : {w : Around} {t u : Forest} (s : Step w t u) → Unused w (dropped s)
step_unused (leaves g) = leaves_unused g
step_unused (empties h) = tt
step_unused (unbinds i u h) = u
step_unused {w} (states {how = how} {x = x} i u h) = unused_so w how x u
step_unused (inside {w = w} {k = k} {a = a} s) = unused_outside w k a (dropped s) (step_unused s)
step_unused (behind_node s) = step_unused s
step_unused (behind_absent s) = step_unused s

-- so nothing in its scope refers to it, and no `var` passes through, or no scope in between declares its name

pub block_free : {w : Around} {t u : Forest} (s : Step w t u) (x : Text) → dropped s ≡ of_block x → refers x w.block ≡ false
block_free {w} s x e = first_of_neither _ (is_among w.passing x) (subst (Unused w) e (step_unused s))

pub passing_free : {w : Around} {t u : Forest} (s : Step w t u) (x : Text) → dropped s ≡ of_block x → is_among w.passing x ≡ false
passing_free {w} s x e = second_of_neither (refers x w.block) _ (subst (Unused w) e (step_unused s))

pub variables_free : {w : Around} {t u : Forest} (s : Step w t u) (x : Text) → dropped s ≡ of_function x → refers x w.variables ≡ false
variables_free {w} s x e = first_of_neither _ (is_among w.inner x) (subst (Unused w) e (step_unused s))

pub inner_free : {w : Around} {t u : Forest} (s : Step w t u) (x : Text) → dropped s ≡ of_function x → is_among w.inner x ≡ false
inner_free {w} s x e = second_of_neither (refers x w.variables) _ (subst (Unused w) e (step_unused s))

left_among : (xs ys : List Text) (y : Text) → is_among xs y ≡ true → is_among (xs ++ ys) y ≡ true
left_among xs ys y e = among_joined xs ys y ∙ ap (λ (b : Bool). b || is_among ys y) e

or_true : (b : Bool) → (b || true) ≡ true
or_true true = refl
or_true false = refl

right_among : (xs ys : List Text) (y : Text) → is_among ys y ≡ true → is_among (xs ++ ys) y ≡ true
right_among xs ys y e = among_joined xs ys y ∙ ap (λ (b : Bool). is_among xs y || b) e ∙ or_true (is_among xs y)

-- of a function, its own name lies around its other names
pub declare_code : {st t : Names} {ds es : List Decl} (own old : List Text) → Decls st ds es t → Declare st (own ++ old) → Declare t ((own ++ names_in ds) ++ old)
declare_code {st} {t} {ds} own old d h y i = go (first_or (is_among (own ++ names_in ds) y) (is_among old y) (sym (among_joined (own ++ names_in ds) old y) ∙ i))
  where
    new : (is_among own y ≡ true) ⊎ (is_among (names_in ds) y ≡ true) → Declared (t y)
    new (inl i) = decls_declare d y (inr (h y (left_among own old y i)))
    new (inr i) = decls_declare d y (inl (declares_among ds y ∙ i))

    go : (is_among (own ++ names_in ds) y ≡ true) ⊎ (is_among old y ≡ true) → Declared (t y)
    go (inl i) = new (first_or (is_among own y) (is_among (names_in ds) y) (sym (among_joined own (names_in ds) y) ∙ i))
    go (inr i) = decls_declare d y (inr (h y (right_among own old y i)))

pub through : (ds es : List Decl) (d : Drop) (x : Text) → LexicalChange d ds es → d ≡ of_function x → is_among (names_in ds) x ≡ false → declares es x ≡ false
through ds es d x c e n = ap (λ l. declares l x) (sym (subst (λ d. LexicalChange d ds es) e c)) ∙ declares_among ds x ∙ n
