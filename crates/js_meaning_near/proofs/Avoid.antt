-- From declarations and mentions of a name to statuses and rows that stay.
use Rattle.std.proofs.Common.{◌≡◌, List, [], ◌∷◌, ◌++◌, Option, Some, None, refl, sym, ap, ◌∙◌, subst}
use Rattle.std.proofs.lemmas.Slice.Eq.{bytes_eq-Decides}
use Rattle.std.specs.Prelude.{Bool, true, false, not, ◌||◌, if◌then◌else◌}
use Rattle.std.specs.Str.{bytes_eq}
use Rattle.js_syntax.specs.declared.node_kind.NodeKind.{NodeKind as Kind}
use Rattle.js_syntax.specs.declared.kind.FunctionKind.{FunctionKind}
use Rattle.js_syntax.specs.declared.kind.FunctionKind.TheVariants as function_kind
use Rattle.js_syntax.specs.Facts.{is_core}
use Rattle.js_syntax.specs.Node.{Forest, nothing, node, absent}
use Rattle.js_meaning.specs.Value.{Text, this_name}
use Rattle.js_meaning.specs.Scope.{Way, waiting, Decl, decl, named_so, first_name, own_name, function_decls, module_decls, default_name}
use Rattle.js_meaning.specs.Module.{Entry, entry_local, entry_import, entries, stars, requests}
use Rattle.js_meaning_near.specs.Purpose.{for_values}
use Rattle.js_meaning_near.specs.Names.{Status, no_names, undeclared, loose, owing, live, dead, unread, known, Names, with_name, Usable, Writable, Fillable, FillableIf, Lone, no_decls, in_both, in_both_unread, in_old_again, in_old, declared, names_below, Plainly, AllPlain, PlainBut}
use Rattle.js_meaning_near.specs.Near.{Row, fields, items, row_below, Okay, ReceiverOk, Near, ExportsOk, NearModule, near_module}
use Rattle.js_meaning_near.specs.Fit.{names_after, around_code, within_code, FunctionOk, Part, whole, others, NodeFits, IfCore, Fits}
use Rattle.js_meaning_near.specs.Avoid.{declares, Dropping, Fewer, fewer_end, fewer_same, fewer_gone, Dropped, dropped_here, dropped_later, CellIf, HasCells, ExportsAvoid, CasesOk, NotFunction, NodeInPlace, InPlace, IsOther, IsOtherIf, Binding, NameAvoids, HoistedAvoids, code_declares, Unless, NodeAvoids, Avoids}
use Rattle.js_meaning_near.proofs.Nodes.{true_false}
use Rattle.js_meaning_near.proofs.Fit.{decls_to}

same_text : (x y : Text) → bytes_eq x y ≡ true → x ≡ y
same_text x y e = (bytes_eq-Decides x y).0 e

pub itself : (x : Text) → bytes_eq x x ≡ true
itself x = (bytes_eq-Decides x x).1 refl

pub usable_plain : (s : Status) → Plainly s → Usable s
usable_plain undeclared y = tt
usable_plain loose y = tt
usable_plain owing y = tt
usable_plain live y = tt
usable_plain dead y = y
usable_plain unread y = y
usable_plain (known p) y = tt

pub writable_plain : (s : Status) → Plainly s → Writable s
writable_plain undeclared y = tt
writable_plain loose y = tt
writable_plain owing y = tt
writable_plain live y = tt
writable_plain dead y = y
writable_plain unread y = y
writable_plain (known p) y = y

pub fillable_plain : (s : Status) → Plainly s → Fillable s
fillable_plain undeclared y = tt
fillable_plain loose y = tt
fillable_plain owing y = tt
fillable_plain live y = tt
fillable_plain dead y = y
fillable_plain unread y = tt
fillable_plain (known p) y = y

-- what names are after declarations

plain_if : (b : Bool) (s : Status) → Plainly s → Plainly (if b then live else s)
plain_if true s y = tt
plain_if false s y = y

pub after_plain : (ds : List Decl) (st : Names) (y : Text) → Plainly (st y) → Plainly (names_after st ds y)
after_plain [] st y z = z
after_plain (decl x way ∷ ds) st y z = after_plain ds (with_name st x live) y (plain_if (bytes_eq x y) (st y) z)

pub false_true : false ≡ true → ⊥
false_true e = cc

after_declared : (ds : List Decl) (st : Names) (x : Text) → declares ds x ≡ true → Plainly (names_after st ds x)
after_declared [] st x e = absurd (false_true e)
after_declared (decl y way ∷ ds) st x e = go (bytes_eq y x) refl (after_declared ds (with_name st y live) x) e
  where
    go : (b : Bool) → bytes_eq y x ≡ b → (declares ds x ≡ true → Plainly (names_after (with_name st y live) ds x)) → (b || declares ds x) ≡ true → Plainly (names_after (with_name st y live) ds x)
    go true p h e = after_plain ds (with_name st y live) x (subst (λ b. Plainly (if b then live else st x)) (sym p) tt)
    go false p h e = h e

pub after_other : (ds : List Decl) (st : Names) (x : Text) → declares ds x ≡ false → names_after st ds x ≡ st x
after_other [] st x e = refl
after_other (decl y way ∷ ds) st x e = go (bytes_eq y x) refl (after_other ds (with_name st y live) x) e
  where
    go : (b : Bool) → bytes_eq y x ≡ b → (declares ds x ≡ false → names_after (with_name st y live) ds x ≡ with_name st y live x) → (b || declares ds x) ≡ false → names_after (with_name st y live) ds x ≡ st x
    go true p h e = absurd (false_true (sym e))
    go false p h e = h e ∙ ap (λ b. if b then live else st x) p

pub after_both : (ds es : List Decl) (st : Names) → names_after (names_after st ds) es ≡ names_after st (ds ++ es)
after_both [] es st = refl
after_both (decl y way ∷ ds) es st = after_both ds es (with_name st y live)

-- all names are plain where the one that isn't is declared again
after_all : (x : Text) (ds : List Decl) (st : Names) → PlainBut x st → declares ds x ≡ true → AllPlain (names_after st ds)
after_all x ds st h e y = go (bytes_eq y x) refl
  where
    go : (b : Bool) → bytes_eq y x ≡ b → Plainly (names_after st ds y)
    go true p = subst (λ z. Plainly (names_after st ds z)) (sym (same_text y x p)) (after_declared ds st x e)
    go false p = after_plain ds st y (h y p)

-- a name of which declarations are gone

with_other : (st : Names) (x y : Text) (s : Status) → bytes_eq x y ≡ false → with_name st x s y ≡ st y
with_other st x y s e = ap (λ b. if b then s else st y) e

pub with_same : (st : Names) (x y : Text) (s : Status) → bytes_eq x y ≡ true → with_name st x s y ≡ s
with_same st x y s e = ap (λ b. if b then s else st y) e

-- the names before a declaration of x that isn't plain
pub plain_with : (st : Names) (x y z : Text) (s : Status) → bytes_eq y x ≡ true → bytes_eq z x ≡ false → Plainly (st z) → Plainly (with_name st y s z)
plain_with st x y z s e f h = go (bytes_eq y z) refl
  where
    go : (b : Bool) → bytes_eq y z ≡ b → Plainly (with_name st y s z)
    go true p = absurd (false_true (sym f ∙ subst (λ t. bytes_eq t x ≡ true) (same_text y z p) e))
    go false p = subst Plainly (sym (with_other st y z s p)) h

record DroppingOn (x : Text) (st : Names) (ds es : List Decl) : Type 0 where
  pub dropping : Dropping x st ds es
  pub again : st x ≡ unread → dropping.within x ≡ unread

or_false : (b c : Bool) → b ≡ false → (b || c) ≡ true → c ≡ true
or_false true c e f = absurd (false_true (sym e))
or_false false c e f = f

dead_unread : {s : Status} → s ≡ dead → s ≡ unread → ⊥
dead_unread e f = cc

same_gone : {st : Names} {ds es : List Decl} (x y : Text) (way : Way) → bytes_eq y x ≡ true → CellIf (bytes_eq y x) way → DroppingOn x (with_name st y unread) ds es → DroppingOn x st (decl y way ∷ ds) (decl y way ∷ es)
same_gone {st = st} {ds = ds} {es = es} x y way p c d =
    let e : with_name st y unread x ≡ unread = with_same st y x unread p in
    record {
      dropping = record {
        within = d.dropping.within;
        decls = in_both_unread (subst (λ b. CellIf b way) p c) d.dropping.decls;
        plain = λ z f h. d.dropping.plain z f (plain_with st x y z unread p f h);
        lone = d.dropping.lone;
        still = λ h. d.again e;
      };
      again = λ h. d.again e;
    }

other_gone : {st : Names} {ds es : List Decl} (x y : Text) (way : Way) → bytes_eq y x ≡ false → DroppingOn x (with_name st y live) ds es → DroppingOn x st (decl y way ∷ ds) (decl y way ∷ es)
other_gone {st = st} {ds = ds} {es = es} x y way p d = record {
  dropping = record {
    within = d.dropping.within;
    decls = in_both d.dropping.decls;
    plain = λ z f h. d.dropping.plain z f (plain_if (bytes_eq y z) (st z) h);
    lone = d.dropping.lone;
    still = λ h. d.dropping.still (or_false (bytes_eq y x) (declares es x) p h);
  };
  again = λ h. d.again (with_other st y x live p ∙ h);
}

gone_dead : {st : Names} {ds es : List Decl} (x : Text) (way : Way) → DroppingOn x (with_name st x dead) ds es → Dropping x st (decl x way ∷ ds) es
gone_dead {st = st} x way d = record {
  within = d.dropping.within;
  decls = in_old d.dropping.decls;
  plain = λ z f h. d.dropping.plain z f (plain_with st x x z dead (itself x) f h);
  lone = d.dropping.lone;
  still = d.dropping.still;
}

gone_unread : {st : Names} {ds es : List Decl} (x : Text) (way : Way) → st x ≡ unread → DroppingOn x st ds es → DroppingOn x st (decl x way ∷ ds) es
gone_unread x way e d = record {
  dropping = record {
    within = d.dropping.within;
    decls = in_old_again e d.dropping.decls;
    plain = d.dropping.plain;
    lone = d.dropping.lone;
    still = d.dropping.still;
  };
  again = d.again;
}

data IsLone : Status → Type 0 where
  is_dead : IsLone dead
  is_unread : IsLone unread

lone_is : (s : Status) → Lone s → IsLone s
lone_is dead y = is_dead
lone_is unread y = is_unread
lone_is undeclared y = absurd y
lone_is loose y = absurd y
lone_is owing y = absurd y
lone_is live y = absurd y
lone_is (known p) y = absurd y

fewer_decls : (x : Text) {ds es : List Decl} (st : Names) → Fewer x ds es → HasCells x es → Lone (st x) → DroppingOn x st ds es
fewer_decls x st fewer_end c l = record { dropping = record { within = st; decls = no_decls; plain = λ y f h. h; lone = l; still = λ e. absurd (false_true e) }; again = λ e. e }
fewer_decls x st (fewer_same {d = decl y way} {ds = ds} {es = es} f) c l = go (bytes_eq y x) refl (λ s m. fewer_decls x s f c.1 m)
  where
    go : (b : Bool) → bytes_eq y x ≡ b → ((s : Names) → Lone (s x) → DroppingOn x s ds es) → DroppingOn x st (decl y way ∷ ds) (decl y way ∷ es)
    go true p h = same_gone x y way p c.0 (h (with_name st y unread) (subst Lone (sym (with_same st y x unread p)) tt))
    go false p h = other_gone x y way p (h (with_name st y live) (subst Lone (sym (with_other st y x live p)) l))
fewer_decls x st (fewer_gone {way = way} {ds = ds} {es = es} f) c l = go (st x) refl (lone_is (st x) l) (λ s m. fewer_decls x s f c m)
  where
    go : (s : Status) → st x ≡ s → IsLone s → ((s : Names) → Lone (s x) → DroppingOn x s ds es) → DroppingOn x st (decl x way ∷ ds) es
    go _ p is_dead h = record { dropping = gone_dead x way (h (with_name st x dead) (subst Lone (sym (with_same st x x dead (itself x))) tt)); again = λ e. absurd (dead_unread p e) }
    go _ p is_unread h = gone_unread x way p (h st l)

dropped_fewer : {x : Text} {ds es : List Decl} → Dropped x ds es → Fewer x ds es
dropped_fewer (dropped_here f) = fewer_gone f
dropped_fewer (dropped_later d) = fewer_same (dropped_fewer d)

other_dropped : {st : Names} {ds es : List Decl} (x y : Text) (way : Way) → bytes_eq y x ≡ false → Dropping x (with_name st y live) ds es → Dropping x st (decl y way ∷ ds) (decl y way ∷ es)
other_dropped {st = st} {es = es} x y way p d = record {
  within = d.within;
  decls = in_both d.decls;
  plain = λ z f h. d.plain z f (plain_if (bytes_eq y z) (st z) h);
  lone = d.lone;
  still = λ h. d.still (or_false (bytes_eq y x) (declares es x) p h);
}

pub dropped_decls : (x : Text) {ds es : List Decl} (st : Names) → Dropped x ds es → HasCells x es → Dropping x st ds es
dropped_decls x st (dropped_here {way = way} f) c = gone_dead x way (fewer_decls x (with_name st x dead) f c (subst Lone (sym (with_same st x x dead (itself x))) tt))
dropped_decls x st (dropped_later {d = decl y way} {ds = ds} {es = es} d) c = go (bytes_eq y x) refl (λ s. dropped_decls x s d c.1)
  where
    go : (b : Bool) → bytes_eq y x ≡ b → ((s : Names) → Dropping x s ds es) → Dropping x st (decl y way ∷ ds) (decl y way ∷ es)
    go true p h = (same_gone x y way p c.0 (fewer_decls x (with_name st y unread) (dropped_fewer d) c.1 (subst Lone (sym (with_same st y x unread p)) tt))).dropping
    go false p h = other_dropped x y way p (h (with_name st y live))

-- rows that mention no name that isn't plain

pub below_plain : (k : Kind) (st t : Names) → AllPlain st → AllPlain t → AllPlain (names_below k st t)
below_plain Kind.BlockStatement st t g h = h
below_plain Kind.Cases st t g h = h
below_plain Kind.ForStatement st t g h = h
below_plain Kind.CatchClause st t g h = h
below_plain _ st t g h = g

okay_clear : (p : Row) (st : Names) (k : Kind) → NotFunction k → AllPlain st → CasesOk p k → Okay p st k
okay_clear p st (Kind.ReferenceName x) n g c = usable_plain (st x) (g x)
okay_clear p st Kind.ThisExpression n g c = usable_plain (st this_name) (g this_name)
okay_clear p st (Kind.BindingName x) n g c = fillable_plain (st x) (g x)
okay_clear p st (Kind.TargetName x) n g c = writable_plain (st x) (g x)
okay_clear p st Kind.ExportDefaultDeclaration n g c = fillable_plain (st default_name) (g default_name)
okay_clear p st Kind.Cases n g c = c
okay_clear p st (Kind.Function f pure) n g c = n
okay_clear p st _ n g c = tt

pub own_fillable : (st : Names) (o : Option Text) → FillableIf (names_after st (named_so (waiting true) o)) o
own_fillable st None = tt
own_fillable st (Some x) = subst Fillable (sym (with_same st x x live (itself x))) tt

fillable_if : (st : Names) (o : Option Text) → AllPlain st → FillableIf st o
fillable_if st None g = tt
fillable_if st (Some x) g = fillable_plain (st x) (g x)

pub receiver_ok : (st : Names) (f : FunctionKind) (a : Forest) → ReceiverOk f (names_after st (function_decls f a))
receiver_ok st function_kind.Arrow a = tt
receiver_ok st function_kind.Declaration a = fillable_plain _ (after_declared (function_decls function_kind.Declaration a) st this_name refl)
receiver_ok st function_kind.Expression a = fillable_plain _ (after_declared (function_decls function_kind.Expression a) st this_name refl)

hoisted_if : (st : Names) (f : FunctionKind) (a : Forest) → FillableIf st (first_name a) → FunctionOk st f a
hoisted_if st function_kind.Declaration a y = (y, receiver_ok st function_kind.Declaration a)
hoisted_if st function_kind.Expression a y = (own_fillable st (own_name function_kind.Expression a), receiver_ok (around_code st function_kind.Expression a) function_kind.Expression a)
hoisted_if st function_kind.Arrow a y = (tt, tt)

code_plain : (st : Names) (f : FunctionKind) (a : Forest) → AllPlain st → AllPlain (within_code st f a)
code_plain st f a g = λ x. after_plain (function_decls f a) (around_code st f a) x (after_plain (named_so (waiting true) (own_name f a)) st x (g x))

clear_node : (p : Row) (st : Names) (k : Kind) (a : Forest) (core : Bool) → AllPlain st → ((q : Part) (r : Row) (t : Names) → AllPlain t → InPlace q r a → Fits q r t a) → IfCore core (NodeInPlace p k (λ q r. InPlace q r a)) → IfCore core (NodeFits p st k a (λ q r t. Fits q r t a))
clear_node p st k a false g h y = tt
clear_node p st (Kind.Function f pure) a true g h y = (hoisted_if st f a (fillable_if st (first_name a) g), h others fields (within_code st f a) (code_plain st f a g) y)
clear_node p st k a true g h y = (okay_clear p st k tt g y.0, h whole (row_below k) (names_below k st (names_after st (declared k a))) (below_plain k st (names_after st (declared k a)) g (λ x. after_plain (declared k a) st x (g x))) y.1)

pub fits_clear : (q : Part) (p : Row) (st : Names) (a : Forest) → AllPlain st → InPlace q p a → Fits q p st a
fits_clear whole p st nothing g y = tt
fits_clear others p st nothing g y = tt
fits_clear others p st (absent c) g y = fits_clear whole p st c g y
fits_clear others p st (node k n a c) g y = fits_clear whole p st c g y
fits_clear whole p st (absent c) g y = fits_clear whole p st c g y
fits_clear whole p st (node k n a c) g y = (clear_node p st k a (is_core k) g (λ q r t h z. fits_clear q r t a h z) y.0, fits_clear whole p st c g y.1)

-- rows that don't mention the one name that isn't plain

pub unless : {H S : Type 0} {R : Type 0} (b : Bool) → (b ≡ true → H → R) → (b ≡ false → S → R) → Unless b H S → R
unless true f g y = f refl y
unless false f g y = g refl y

fill_avoiding : (b : Bool) (x : Text) (st : Names) (y : Text) → PlainBut x st → (b ≡ false → Fillable (st x)) → Binding b (IsOther x y) → Fillable (st y)
fill_avoiding true x st y g h e = fillable_plain (st y) (g y e)
fill_avoiding false x st y g h e = go (bytes_eq y x) refl
  where
    go : (c : Bool) → bytes_eq y x ≡ c → Fillable (st y)
    go true p = subst (λ z. Fillable (st z)) (sym (same_text y x p)) (h refl)
    go false p = fillable_plain (st y) (g y p)

okay_avoiding : (b : Bool) (x : Text) (p : Row) (st : Names) (k : Kind) → NotFunction k → PlainBut x st → (b ≡ false → Fillable (st x)) → NameAvoids b x k → CasesOk p k → Okay p st k
okay_avoiding b x p st (Kind.ReferenceName y) n g h e c = usable_plain (st y) (g y e)
okay_avoiding b x p st Kind.ThisExpression n g h e c = usable_plain (st this_name) (g this_name e)
okay_avoiding b x p st (Kind.BindingName y) n g h e c = fill_avoiding b x st y g h e
okay_avoiding b x p st (Kind.TargetName y) n g h e c = writable_plain (st y) (g y e)
okay_avoiding b x p st Kind.ExportDefaultDeclaration n g h e c = fill_avoiding b x st default_name g h e
okay_avoiding b x p st Kind.Cases n g h e c = c
okay_avoiding b x p st (Kind.Function f pure) n g h e c = n
okay_avoiding b x p st _ n g h e c = tt

pub other_if : (b : Bool) (x : Text) (st : Names) (o : Option Text) → PlainBut x st → (b ≡ false → Fillable (st x)) → Binding b (IsOtherIf x o) → FillableIf st o
other_if b x st None g h e = tt
other_if b x st (Some y) g h e = fill_avoiding b x st y g h e

function_avoiding : (b : Bool) (x : Text) (st : Names) (f : FunctionKind) (a : Forest) → PlainBut x st → (b ≡ false → Fillable (st x)) → HoistedAvoids b x f a → FunctionOk st f a
function_avoiding b x st function_kind.Declaration a g h e = (other_if b x st (first_name a) g h e, receiver_ok st function_kind.Declaration a)
function_avoiding b x st function_kind.Expression a g h e = (own_fillable st (own_name function_kind.Expression a), receiver_ok (around_code st function_kind.Expression a) function_kind.Expression a)
function_avoiding b x st function_kind.Arrow a g h e = (tt, tt)

after_but : (x : Text) (ds : List Decl) (st : Names) → PlainBut x st → PlainBut x (names_after st ds)
after_but x ds st g y e = after_plain ds st y (g y e)

-- what is asked of one's names for a row that avoids x
record Avoiding (b : Bool) (x : Text) (st : Names) : Type 0 where
  plain : PlainBut x st
  fill : b ≡ false → Fillable (st x)

avoiding_after : (b : Bool) (x : Text) (ds : List Decl) (st : Names) → declares ds x ≡ false → Avoiding b x st → Avoiding b x (names_after st ds)
avoiding_after b x ds st e g = record { plain = after_but x ds st g.plain; fill = λ f. subst Fillable (sym (after_other ds st x e)) (g.fill f) }

below_avoiding : (b : Bool) (x : Text) (k : Kind) (st t : Names) → Avoiding b x st → Avoiding b x t → Avoiding b x (names_below k st t)
below_avoiding b x Kind.BlockStatement st t g h = h
below_avoiding b x Kind.Cases st t g h = h
below_avoiding b x Kind.ForStatement st t g h = h
below_avoiding b x Kind.CatchClause st t g h = h
below_avoiding b x _ st t g h = g

-- behind a declaration of the name all names below a node are plain, if the node has declared it
pub below_all : (x : Text) (k : Kind) (a : Forest) (st : Names) → PlainBut x st → declares (declared k a) x ≡ true → AllPlain (names_below k st (names_after st (declared k a)))
below_all x Kind.BlockStatement a st g e = after_all x _ st g e
below_all x Kind.Cases a st g e = after_all x _ st g e
below_all x Kind.ForStatement a st g e = after_all x _ st g e
below_all x Kind.CatchClause a st g e = after_all x _ st g e
below_all x _ a st g e = absurd (false_true e)

pub code_all : (x : Text) (f : FunctionKind) (a : Forest) (st : Names) → PlainBut x st → declares (code_declares f a) x ≡ true → AllPlain (within_code st f a)
code_all x f a st g e = subst AllPlain (sym (after_both (named_so (waiting true) (own_name f a)) (function_decls f a) st)) (after_all x (code_declares f a) st g e)

code_avoiding : (b : Bool) (x : Text) (f : FunctionKind) (a : Forest) (st : Names) → Avoiding b x st → declares (code_declares f a) x ≡ false → Avoiding b x (within_code st f a)
code_avoiding b x f a st g e = subst (Avoiding b x) (sym (after_both (named_so (waiting true) (own_name f a)) (function_decls f a) st)) (avoiding_after b x (code_declares f a) st e g)

avoiding_node : (b : Bool) (x : Text) (p : Row) (st : Names) (k : Kind) (a : Forest) (core : Bool) → Avoiding b x st
    → ((q : Part) (r : Row) (t : Names) → AllPlain t → InPlace q r a → Fits q r t a) → ((q : Part) (r : Row) (t : Names) → Avoiding b x t → Avoids b x q r a → Fits q r t a)
    → IfCore core (NodeAvoids b x p k a (λ q r. InPlace q r a) (λ q r. Avoids b x q r a)) → IfCore core (NodeFits p st k a (λ q r t. Fits q r t a))
avoiding_node b x p st k a false g clear rest y = tt
avoiding_node b x p st (Kind.Function f pure) a true g clear rest y =
    (function_avoiding b x st f a g.plain g.fill y.0, unless (declares (code_declares f a) x) (λ e z. clear others fields (within_code st f a) (code_all x f a st g.plain e) z) (λ e z. rest others fields (within_code st f a) (code_avoiding b x f a st g e) z) y.1)
avoiding_node b x p st k a true g clear rest y =
    (okay_avoiding b x p st k tt g.plain g.fill y.0 y.1, unless (declares (declared k a) x) (λ e z. clear whole (row_below k) (names_below k st (names_after st (declared k a))) (below_all x k a st g.plain e) z) (λ e z. rest whole (row_below k) (names_below k st (names_after st (declared k a))) (below_avoiding b x k st (names_after st (declared k a)) g (avoiding_after b x (declared k a) st e g)) z) y.2)

avoiding_fits : (b : Bool) (x : Text) (q : Part) (p : Row) (st : Names) (a : Forest) → Avoiding b x st → Avoids b x q p a → Fits q p st a
avoiding_fits b x whole p st nothing g y = tt
avoiding_fits b x others p st nothing g y = tt
avoiding_fits b x others p st (absent c) g y = avoiding_fits b x whole p st c g y
avoiding_fits b x others p st (node k n a c) g y = avoiding_fits b x whole p st c g y
avoiding_fits b x whole p st (absent c) g y = avoiding_fits b x whole p st c g y
avoiding_fits b x whole p st (node k n a c) g y = (avoiding_node b x p st k a (is_core k) g (λ q r t h z. fits_clear q r t a h z) (λ q r t h z. avoiding_fits b x q r t a h z) y.0, avoiding_fits b x whole p st c g y.1)

pub fits_avoiding : (b : Bool) (x : Text) (q : Part) (p : Row) (st : Names) (a : Forest) → PlainBut x st → (b ≡ false → Fillable (st x)) → Avoids b x q p a → Fits q p st a
fits_avoiding b x q p st a g h y = avoiding_fits b x q p st a (record { plain = g; fill = h }) y

-- exports

pub exports_plain : (st : Names) (es : List Entry) → AllPlain st → ExportsOk st es
exports_plain st [] g = tt
exports_plain st (entry_local x y ∷ es) g = (usable_plain (st y) (g y), exports_plain st es g)
exports_plain st (entry_import x source name ∷ es) g = exports_plain st es g

pub exports_avoiding : (x : Text) (st : Names) (es : List Entry) → PlainBut x st → ExportsAvoid x es → ExportsOk st es
exports_avoiding x st [] g y = tt
exports_avoiding x st (entry_local z y ∷ es) g e = (usable_plain (st y) (g y e.0), exports_avoiding x st es g e.1)
exports_avoiding x st (entry_import z source name ∷ es) g e = exports_avoiding x st es g e

-- modules

nothing_declared : AllPlain no_names
nothing_declared x = tt

-- a module that declares the same
pub same_module : (a b : Forest) → module_decls a ≡ module_decls b → entries a ≡ entries b → stars a ≡ stars b → requests a ≡ requests b → ((st : Names) → AllPlain st → Near for_values items st a b) → NearModule a b
same_module a b d e s q n =
    let st : Names = names_after no_names (module_decls a) in
    let g : AllPlain st = λ x. after_plain (module_decls a) no_names x tt in
    near_module (decls_to no_names d) e (exports_plain st (entries a) g) s q (n st g)

-- a module that declares a name less often, which nothing exports
pub dropped_module : (x : Text) (a b : Forest) → Dropped x (module_decls a) (module_decls b) → HasCells x (module_decls b) → entries a ≡ entries b → ExportsAvoid x (entries a) → stars a ≡ stars b → requests a ≡ requests b
    → ((st : Names) → PlainBut x st → Lone (st x) → (declares (module_decls b) x ≡ true → st x ≡ unread) → Near for_values items st a b) → NearModule a b
dropped_module x a b d c e y s q n =
    let t : Dropping x no_names (module_decls a) (module_decls b) = dropped_decls x no_names d c in
    let g : PlainBut x t.within = λ z f. t.plain z f tt in
    near_module t.decls e (exports_avoiding x t.within (entries a) g y) s q (n t.within g t.lone t.still)

-- where bindings of the name may stay, they have something to initialise
pub filled_if_declared : (s : Status) (declared : Bool) → (declared ≡ true → s ≡ unread) → not declared ≡ false → Fillable s
filled_if_declared s true e h = subst Fillable (sym (e refl)) tt
filled_if_declared s false e h = absurd (true_false h)

-- lists of declarations side by side

pub fewer_itself : (x : Text) (ds : List Decl) → Fewer x ds ds
fewer_itself x [] = fewer_end
fewer_itself x (d ∷ ds) = fewer_same (fewer_itself x ds)

pub fewer_both : {x : Text} {ds es fs gs : List Decl} → Fewer x ds es → Fewer x fs gs → Fewer x (ds ++ fs) (es ++ gs)
fewer_both fewer_end g = g
fewer_both (fewer_same f) g = fewer_same (fewer_both f g)
fewer_both (fewer_gone f) g = fewer_gone (fewer_both f g)

pub dropped_first : {x : Text} {ds es fs gs : List Decl} → Dropped x ds es → Fewer x fs gs → Dropped x (ds ++ fs) (es ++ gs)
dropped_first (dropped_here f) g = dropped_here (fewer_both f g)
dropped_first (dropped_later d) g = dropped_later (dropped_first d g)

pub dropped_second : {x : Text} {ds es fs gs : List Decl} → Fewer x ds es → Dropped x fs gs → Dropped x (ds ++ fs) (es ++ gs)
dropped_second fewer_end d = d
dropped_second (fewer_same f) d = dropped_later (dropped_second f d)
dropped_second (fewer_gone f) d = dropped_here (fewer_both f (dropped_fewer d))
