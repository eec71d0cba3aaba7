-- Where a statement of a call leaves its list: all that lies around it stays.
use Rattle.std.proofs.Common.{◌≡◌, ◌+◌, suc, ◌∙◌, ◌++◌, Bool, true, false, true≢false, Some, refl, sym, ap}
use Rattle.js_syntax.specs.declared.node_kind.NodeKind.{NodeKind as Kind}
use Rattle.js_syntax.specs.declared.kind.FunctionKind.{FunctionKind}
use Rattle.js_syntax.specs.declared.kind.FunctionKind.TheVariants as function_kind
use Rattle.js_syntax.specs.Facts.{is_core}
use Rattle.js_syntax.specs.Node.{Note, Forest, Tree, nothing, node, absent}
use Rattle.js_meaning.specs.Value.{Text}
use Rattle.js_meaning.specs.Scope.{waiting, named_so, first_name, first_of, lexical, own_name, function_decls, module_decls}
use Rattle.js_meaning.specs.Module.{entries, stars, requests}
use Rattle.js_meaning.specs.Kept.{Kept, Recovered}
use Rattle.js_meaning_near.specs.Names.{Fact, silent_function, OfCalls, Names, declared}
use Rattle.js_meaning_near.specs.Near.{Row, fields, items, row_below, module_of, is_row, is_passage, Okay, near_silent, near_code}
use Rattle.js_meaning_near.specs.Purpose.{Purposes, purpose_here, purposes_behind, for_values, wanted_below}
use Rattle.js_meaning_near.specs.Fit.{Part, whole, others, within_code, Fits, NodeFits, IfCore, FunctionOk}
use Rattle.js_meaning_near.specs.Avoid.{declares, code_declares, NotFunction, CasesOk, HoistedAvoids, Unless, InPlace}
use Rattle.js_meaning_near.specs.Known.{Knows, DeclaredOnce, NodeSteady, Steady}
use Rattle.js_meaning_near.specs.Once.{NodeStays, SameFirst, same_node_first, same_absent_first}
use Rattle.js_meaning_near.specs.Rewritten.{Rewritten, no_more, at_place, behind_node, in_node, in_code as rewritten_code, behind_absent as rewritten_absent, behind_name, behind_no_name}
use Rattle.js_meaning_near.specs.Gone.{Bystander, stays, is_function, Bystanders, no_bystander, bystander, behind_absent, Gone, leaves_list, gone_behind, gone_behind_none, gone_below, GoneBehind, gone_behind_first, gone_behind_no_first, GoneInCode, gone_in_code}
use Rattle.js_meaning_near.proofs.Gone.{gone_rewritten, gone_recovers, rewritten_recovers, owing_place, silent_place, owing_while, owing_do, owing_for, silent_while, silent_do, silent_for, steady_bystanders}
use Rattle.js_meaning_near.proofs.Rewritten.{declared_kept, decls_stay, name_kept, code_stays}
use Rattle.js_meaning_near.proofs.Known.{knows_below, knows_code, loose_scope}
use Rattle.js_meaning_near.proofs.Fit.{same_decls, fit}
use Rattle.js_meaning_near.proofs.Avoid.{receiver_ok}
use Rattle.js_meaning_near.proofs.Steady.{steady_fits, steady_behind}
use Rattle.scope_laws.specs.Place.{Around, first, behind, behind_none, under, plug}
use Rattle.scope_laws.specs.Lists.{without}
use Rattle.steps.specs.Steps.{all_core}
use Rattle.steps.specs.KeepRuns.Ways.{Beside, AtCalls, of_silent, of_owed, hides_at, hides, IsCall, a_call, Within, here, through, Further, inside, in_while, in_do, in_for, in_bare_for, in_function, in_unnamed_function, in_code, in_unnamed_code}
use Rattle.steps.specs.KeepRuns.Ways as way
use Rattle.js_syntax.proofs.Truth.{first_of_both, second_of_both, first_of_neither, second_of_neither}

-- a node in a row that only reads the name
pub bystander_in : (x : Text) (p : Row) (k : Kind) (n : Note) (a r : Forest) → Steady x whole p (node k n a r) → Bystander x p k a
bystander_in x p k n a r y = stays (λ f st h. (steady_fits x f whole p st (node k n a nothing) h (y.0, tt)).0)

-- what is known of a node that only reads it, and that makes no function
record Reads (x : Text) (p : Row) (k : Kind) (a : Forest) : Type 0 where
  cases : CasesOk p k
  below : declares (declared k a) x ≡ false → Steady x whole (row_below k) a

shown_so : (H S : Type 0) (b : Bool) → b ≡ false → Unless b H S → S
shown_so H S true e y = absurd (true≢false e)
shown_so H S false e y = y

reads_at : (x : Text) (p : Row) (k : Kind) (a : Forest) (core : Bool) → core ≡ true → NotFunction k → IfCore core (NodeSteady x p k a (λ q r. InPlace q r a) (λ q r. Steady x q r a)) → Reads x p k a
reads_at x p k a false c n y = absurd (true≢false (sym c))
reads_at x p (Kind.Function f pure) a true c n y = absurd n
reads_at x p k a true c n y = record { cases = y.1; below = λ e. shown_so (InPlace whole (row_below k) a) (Steady x whole (row_below k) a) (declares (declared k a) x) e y.2 }

plain_passage : (k : Kind) → is_passage k ≡ true → NotFunction k
plain_passage (Kind.Function f pure) y = absurd (true≢false (sym y))
plain_passage k y = tt

-- what declares the name as before
hidden : (x : Text) (k : Kind) (a : Forest) → NotFunction k → hides_at x k a ≡ false → declares (declared k a) x ≡ false
hidden x (Kind.Function f pure) a n e = absurd n
hidden x k a n e = e

core_here : (k : Kind) (n : Note) (a r : Forest) → all_core (node k n a r) ≡ true → is_core k ≡ true
core_here k n a r h = first_of_both (is_core k) _ h

core_below : (k : Kind) (n : Note) (a r : Forest) → all_core (node k n a r) ≡ true → all_core a ≡ true
core_below k n a r h = first_of_both (all_core a) (all_core r) (second_of_both (is_core k) _ h)

core_behind : (k : Kind) (n : Note) (a r : Forest) → all_core (node k n a r) ≡ true → all_core r ≡ true
core_behind k n a r h = second_of_both (all_core a) (all_core r) (second_of_both (is_core k) _ h)

pub steady_beside : (x : Text) (p : Row) (a : Around) (t : Tree) → Steady x whole p (plug a (Some t)) → Beside x p a (Some t)
steady_beside x p (first rest) t y = steady_bystanders x p rest y.1
steady_beside x p (behind k n below a) t y = (bystander_in x p k n below (plug a (Some t)) y, steady_beside x p a t y.1)
steady_beside x p (behind_none a) t y = steady_beside x p a t y
steady_beside x p (under k n a rest) t y = ((y.0, tt), steady_bystanders x p rest y.1)

-- in this entry
pub gone_within : {x : Text} {t : Tree} {p : Row} {a : Around} → IsCall x t → Within t p a → all_core (plug a (Some t)) ≡ true → Beside x p a (Some t) → hides x a (Some t) ≡ false → Gone x p (plug a (Some t)) (without a)
gone_within {x = x} {a = first rest} (a_call needs none) (here e) core y h = leaves_list (none rest e) needs y
gone_within {x = x} {t = t} {p = p} {a = behind k n below a} call (way.past w) core y h = gone_behind y.0 (gone_within call w (core_behind k n below (plug a (Some t)) core) y.1 h)
gone_within call (way.past_none w) core y h = gone_behind_none (gone_within call w core y h)
gone_within {x = x} {t = t} {p = p} {a = under k n a rest} call (through s w) core y h =
    let plain = plain_passage k s in
    let reads = reads_at x p k (plug a (Some t)) (is_core k) (core_here k n (plug a (Some t)) rest core) plain y.0.0 in
    let shown = hidden x k (plug a (Some t)) plain (first_of_neither (hides_at x k (plug a (Some t))) (hides x a (Some t)) h) in
    let g = gone_within call w (core_below k n (plug a (Some t)) rest core) (steady_beside x (row_below k) a t (reads.below shown)) (second_of_neither (hides_at x k (plug a (Some t))) (hides x a (Some t)) h) in
    gone_below s reads.cases (ap (λ ds. declares ds x) (sym (declared_kept k (gone_rewritten {us = for_values} g))) ∙ shown) g y.1

-- Behind a function or a loop, of either fact.
if_core : (A : Type 0) (core : Bool) → core ≡ true → IfCore core A → A
if_core A true c y = y
if_core A false c y = absurd (true≢false (sym c))

of_calls : (f : Fact) → AtCalls f → OfCalls f
of_calls _ of_silent = tt
of_calls _ of_owed = tt

bystander_stays : {x : Text} {f : Fact} {us : Purposes} {p : Row} {k : Kind} {n : Note} {a r s : Forest} → AtCalls f → Bystander x p k a → Rewritten (Knows x f) whole (purposes_behind us) p r s → Rewritten (Knows x f) whole us p (node k n a r) (node k n a s)
bystander_stays {f = f} c (stays h) t = behind_node (λ st g. h f st g) t
bystander_stays {f = f} {a = a} c (is_function e q h) t =
    at_place (record { name = refl; bound = refl; vars = refl; imports = λ source. refl; items = refl })
    (λ st g o. near_silent (of_calls f c) g.known_so e e (q f st (of_calls f c) g) (near_code (same_decls st (function_decls function_kind.Declaration a)) (receiver_ok st function_kind.Declaration a) refl (fit others fields _ a (h f st g))) o) t

bystanders_stay : {x : Text} {f : Fact} {p : Row} {us : Purposes} {r : Forest} → AtCalls f → Bystanders x p r → Rewritten (Knows x f) whole us p r r
bystanders_stay c no_bystander = no_more
bystanders_stay c (bystander b t) = bystander_stays c b (bystanders_stay c t)
bystanders_stay c (behind_absent t) = rewritten_absent (bystanders_stay c t)

fits_okay : (p : Row) (st : Names) (k : Kind) (a : Forest) (below : Part → Row → Names → Type 0) → NotFunction k → NodeFits p st k a below → Okay p st k
fits_okay p st (Kind.Function g pure) a below n y = absurd n
fits_okay p st k a below n y = y.0

okay_at : (p : Row) (st : Names) (k : Kind) (a : Forest) → NotFunction k → is_core k ≡ true → IfCore (is_core k) (NodeFits p st k a (λ q r t. Fits q r t a)) → Okay p st k
okay_at p st k a n c y = fits_okay p st k a (λ q r t. Fits q r t a) n (if_core (NodeFits p st k a (λ q r t. Fits q r t a)) (is_core k) c y)

pass_while : {x : Text} {f : Fact} {us : Purposes} {p : Row} {n m : Note} {a b r s : Forest} → AtCalls f → Gone x fields a b → Rewritten (Knows x f) whole (purposes_behind us) p r s → Rewritten (Knows x f) whole us p (node Kind.WhileStatement n a r) (node Kind.WhileStatement m b s)
pass_while of_silent g t = silent_while g t
pass_while of_owed g t = owing_while g t

pass_do : {x : Text} {f : Fact} {us : Purposes} {p : Row} {n m : Note} {a b r s : Forest} → AtCalls f → Gone x fields a b → Rewritten (Knows x f) whole (purposes_behind us) p r s → Rewritten (Knows x f) whole us p (node Kind.DoWhileStatement n a r) (node Kind.DoWhileStatement m b s)
pass_do of_silent g t = silent_do g t
pass_do of_owed g t = owing_do g t

pass_for : {x : Text} {f : Fact} {us : Purposes} {p : Row} {n m : Note} {a b r s : Forest} → AtCalls f → declares (lexical (first_of b)) x ≡ false → GoneBehind x a b → Rewritten (Knows x f) whole (purposes_behind us) p r s
    → Rewritten (Knows x f) whole us p (node Kind.ForStatement n a r) (node Kind.ForStatement m b s)
pass_for of_silent e g t = silent_for e g t
pass_for of_owed e g t = owing_for e g t

pass_function : {x : Text} {f : Fact} {us : Purposes} {p : Row} {pure : Bool} {n m : Note} {a b r s : Forest} (g : FunctionKind) → AtCalls f → declares (code_declares g b) x ≡ false → GoneInCode x a b → ((st : Names) → Knows x f st → FunctionOk st g a) → Rewritten (Knows x f) whole (purposes_behind us) p r s
    → Rewritten (Knows x f) whole us p (node (Kind.Function g pure) n a r) (node (Kind.Function g pure) m b s)
pass_function g of_silent e c y t = silent_place g e c y t
pass_function g of_owed e c y t = owing_place g e c y t

-- what is asked of a function
function_ok : (x : Text) (f : Fact) (g : FunctionKind) (pure : Bool) (p : Row) (n : Note) (a r : Forest) → is_core (Kind.Function g pure) ≡ true → Steady x whole p (node (Kind.Function g pure) n a r) → (st : Names) → Knows x f st → FunctionOk st g a
function_ok x f g pure p n a r c y st h = (if_core (FunctionOk st g a × Fits others fields (within_code st g a) a) (is_core (Kind.Function g pure)) c (steady_fits x f whole p st (node (Kind.Function g pure) n a nothing) h (y.0, tt)).0).0

code_below : (x : Text) (g : FunctionKind) (pure : Bool) (p : Row) (n : Note) (a r : Forest) → is_core (Kind.Function g pure) ≡ true → declares (code_declares g a) x ≡ false → Steady x whole p (node (Kind.Function g pure) n a r) → Steady x others fields a
code_below x g pure p n a r c e y =
    shown_so (InPlace others fields a) (Steady x others fields a) (declares (code_declares g a) x) e
    (if_core (HoistedAvoids true x g a × Unless (declares (code_declares g a) x) (InPlace others fields a) (Steady x others fields a)) (is_core (Kind.Function g pure)) c y.0).1

-- it declares the same
own_kept : (g : FunctionKind) (a b : Forest) → first_name a ≡ first_name b → own_name g a ≡ own_name g b
own_kept function_kind.Expression a b e = e
own_kept g a b e = refl

code_kept : {C : Names → Type 0} {us : Purposes} (x : Text) (g : FunctionKind) {a b : Forest} → Rewritten C others us fields a b → declares (code_declares g a) x ≡ false → declares (code_declares g b) x ≡ false
code_kept x g {a} {b} s e =
    sym (ap (λ o. declares (named_so (waiting true) o ++ function_decls g a) x) (own_kept g a b (name_kept s)) ∙ ap (λ ds. declares (named_so (waiting true) (own_name g b) ++ ds) x) (decls_stay g s)) ∙ e

-- the code of a function, in whose body it is
gone_code : {x : Text} {i : Note} {ps b c d e : Forest} → SameFirst b c (node Kind.Parameters i ps d) (node Kind.Parameters i ps e) → Steady x whole fields (node Kind.Parameters i ps d) → Gone x fields d e → Rewritten (Knows x silent_function) others for_values fields b c
gone_code {x = x} same_node_first y g = behind_name (steady_behind x silent_function y (gone_rewritten g))
gone_code {x = x} same_absent_first y g = behind_no_name (steady_behind x silent_function y (gone_rewritten g))

parameters_stay : (x : Text) (i : Note) (ps r : Forest) → Steady x whole fields (node Kind.Parameters i ps r) → (f : Fact) (st : Names) → Knows x f st → NodeStays fields st Kind.Parameters ps
parameters_stay x i ps r y f st h = (steady_fits x f whole fields st (node Kind.Parameters i ps nothing) h (y.0, tt)).0

pub rewritten_further : {x : Text} {t : Tree} {f : Fact} {p : Row} {a : Around} (us : Purposes) → AtCalls f → IsCall x t → Further t p a → all_core (plug a (Some t)) ≡ true → Beside x p a (Some t) → hides x a (Some t) ≡ false
    → Rewritten (Knows x f) whole us p (plug a (Some t)) (without a)
rewritten_further {x = x} {t = t} {f = f} {a = behind k n below a} us c call (way.past w) core y h = bystander_stays c y.0 (rewritten_further (purposes_behind us) c call w (core_behind k n below (plug a (Some t)) core) y.1 h)
rewritten_further us c call (way.past_none w) core y h = rewritten_absent (rewritten_further (purposes_behind us) c call w core y h)
rewritten_further {x = x} {t = t} {f = f} {p = p} {a = under k n a rest} us c call (inside plain keys w) core y h =
    let shown = hidden x k (plug a (Some t)) plain (first_of_neither (hides_at x k (plug a (Some t))) (hides x a (Some t)) h) in
    let here_core = core_here k n (plug a (Some t)) rest core in
    let reads = reads_at x p k (plug a (Some t)) (is_core k) here_core plain y.0.0 in
    let s = rewritten_further (wanted_below (purpose_here us (is_row rest)) k) c call w (core_below k n (plug a (Some t)) rest core) (steady_beside x (row_below k) a t (reads.below shown)) (second_of_neither (hides_at x k (plug a (Some t))) (hides x a (Some t)) h) in
    in_node (λ st g. okay_at p st k (plug a (Some t)) plain here_core ((steady_fits x f whole p st (node k n (plug a (Some t)) nothing) g y.0).0)) keys (knows_below x f k (without a) (ap (λ ds. declares ds x) (sym (declared_kept k s)) ∙ shown)) s (bystanders_stay c y.1)
rewritten_further {x = x} {t = t} {f = f} {p = p} {a = under k n a rest} us c call (in_while w) core y h =
    let reads = reads_at x p Kind.WhileStatement (plug a (Some t)) true refl tt y.0.0 in
    pass_while c (gone_within call w (core_below Kind.WhileStatement n (plug a (Some t)) rest core) (steady_beside x fields a t (reads.below refl)) h) (bystanders_stay c y.1)
rewritten_further {x = x} {t = t} {f = f} {p = p} {a = under k n a rest} us c call (in_do w) core y h =
    let reads = reads_at x p Kind.DoWhileStatement (plug a (Some t)) true refl tt y.0.0 in
    pass_do c (gone_within call w (core_below Kind.DoWhileStatement n (plug a (Some t)) rest core) (steady_beside x fields a t (reads.below refl)) h) (bystanders_stay c y.1)
rewritten_further {x = x} {t = t} {f = f} {p = p} {a = under k n (behind l m below a) rest} us c call (in_for w) core y h =
    let all = node l m below (plug a (Some t)) in
    let shown = first_of_neither (hides_at x Kind.ForStatement all) (hides x a (Some t)) h in
    let inner = (reads_at x p Kind.ForStatement all true refl tt y.0.0).below shown in
    let g = gone_within call w (core_behind l m below (plug a (Some t)) (core_below Kind.ForStatement n all rest core)) (steady_beside x fields a t inner.1) (second_of_neither (hides_at x Kind.ForStatement all) (hides x a (Some t)) h) in
    pass_for c shown (gone_behind_first (λ f st k. (steady_fits x f whole fields st (node l m below nothing) k (inner.0, tt)).0) g) (bystanders_stay c y.1)
rewritten_further {x = x} {t = t} {f = f} {p = p} {a = under k n (behind_none a) rest} us c call (in_bare_for w) core y h =
    let all = absent (plug a (Some t)) in
    let shown = first_of_neither (hides_at x Kind.ForStatement all) (hides x a (Some t)) h in
    let inner = (reads_at x p Kind.ForStatement all true refl tt y.0.0).below shown in
    let g = gone_within call w (core_below Kind.ForStatement n all rest core) (steady_beside x fields a t inner) (second_of_neither (hides_at x Kind.ForStatement all) (hides x a (Some t)) h) in
    pass_for c shown (gone_behind_no_first g) (bystanders_stay c y.1)
rewritten_further {x = x} {t = t} {f = f} {p = p} {a = under k n (behind l m name (behind parameters i ps (under body j a nothing))) rest} us c call (in_function {f = e} {pure = pure} w) core y h =
    let inner = plug (under Kind.FunctionBody j a nothing) (Some t) in
    let all = node l m name (node Kind.Parameters i ps inner) in
    let kind = Kind.Function e pure in
    let shown = first_of_neither (hides_at x kind all) (hides x (under Kind.FunctionBody j a nothing) (Some t)) h in
    let here_core = core_here kind n all rest core in
    let steady = code_below x e pure p n all nothing here_core shown y.0 in
    let g = gone_within call w (core_behind Kind.Parameters i ps inner (core_behind l m name (node Kind.Parameters i ps inner) (core_below kind n all rest core))) (steady_beside x fields (under Kind.FunctionBody j a nothing) t steady.1) (second_of_neither (hides_at x kind all) (hides x (under Kind.FunctionBody j a nothing) (Some t)) h) in
    pass_function e c (code_kept x e (gone_code same_node_first steady g) shown) (gone_in_code same_node_first (parameters_stay x i ps inner steady) g) (function_ok x f e pure p n all nothing here_core y.0) (bystanders_stay c y.1)
rewritten_further {x = x} {t = t} {f = f} {p = p} {a = under k n (behind_none (behind parameters i ps (under body j a nothing))) rest} us c call (in_unnamed_function {f = e} {pure = pure} w) core y h =
    let inner = plug (under Kind.FunctionBody j a nothing) (Some t) in
    let all = absent (node Kind.Parameters i ps inner) in
    let kind = Kind.Function e pure in
    let shown = first_of_neither (hides_at x kind all) (hides x (under Kind.FunctionBody j a nothing) (Some t)) h in
    let here_core = core_here kind n all rest core in
    let steady = code_below x e pure p n all nothing here_core shown y.0 in
    let g = gone_within call w (core_behind Kind.Parameters i ps inner (core_below kind n all rest core)) (steady_beside x fields (under Kind.FunctionBody j a nothing) t steady.1) (second_of_neither (hides_at x kind all) (hides x (under Kind.FunctionBody j a nothing) (Some t)) h) in
    pass_function e c (code_kept x e (gone_code same_absent_first steady g) shown) (gone_in_code same_absent_first (parameters_stay x i ps inner steady) g) (function_ok x f e pure p n all nothing here_core y.0) (bystanders_stay c y.1)
rewritten_further {x = x} {t = t} {f = f} {p = p} {a = under k n (behind l m name a) rest} us c call (in_code {f = e} {pure = pure} w) core y h =
    let all = node l m name (plug a (Some t)) in
    let kind = Kind.Function e pure in
    let shown = first_of_neither (hides_at x kind all) (hides x a (Some t)) h in
    let here_core = core_here kind n all rest core in
    let s = behind_name (rewritten_further for_values c call w (core_behind l m name (plug a (Some t)) (core_below kind n all rest core)) (steady_beside x fields a t (code_below x e pure p n all nothing here_core shown y.0)) (second_of_neither (hides_at x kind all) (hides x a (Some t)) h)) in
    rewritten_code (λ st g. code_stays st e s (function_ok x f e pure p n all nothing here_core y.0 st g)) (knows_code x f e (node l m name (without a)) (code_kept x e s shown)) s (bystanders_stay c y.1)
rewritten_further {x = x} {t = t} {f = f} {p = p} {a = under k n (behind_none a) rest} us c call (in_unnamed_code {f = e} {pure = pure} w) core y h =
    let all = absent (plug a (Some t)) in
    let kind = Kind.Function e pure in
    let shown = first_of_neither (hides_at x kind all) (hides x a (Some t)) h in
    let here_core = core_here kind n all rest core in
    let s = behind_no_name (rewritten_further for_values c call w (core_below kind n all rest core) (steady_beside x fields a t (code_below x e pure p n all nothing here_core shown y.0)) (second_of_neither (hides_at x kind all) (hides x a (Some t)) h)) in
    rewritten_code (λ st g. code_stays st e s (function_ok x f e pure p n all nothing here_core y.0 st g)) (knows_code x f e (absent (without a)) (code_kept x e s shown)) s (bystanders_stay c y.1)

-- What it gives of a module, where it lies in the module itself.
pub within_recovers : (n m : Note) (x : Text) (t : Tree) (a : Around) → IsCall x t → Within t items a → all_core (plug a (Some t)) ≡ true → Beside x items a (Some t) → hides x a (Some t) ≡ false → DeclaredOnce x (module_decls (without a)) → entries (plug a (Some t)) ≡ entries (without a)
    → stars (plug a (Some t)) ≡ stars (without a) → requests (plug a (Some t)) ≡ requests (without a) → Recovered (λ bound. suc (bound + bound)) (module_of n m (plug a (Some t))) (module_of n m (without a))
within_recovers n m x t a call w core y h d e s r = gone_recovers n m x (plug a (Some t)) (without a) d (gone_within call w core y h) e s r

pub within_kept : (n m : Note) (x : Text) (t : Tree) (a : Around) → IsCall x t → Within t items a → all_core (plug a (Some t)) ≡ true → Beside x items a (Some t) → hides x a (Some t) ≡ false → DeclaredOnce x (module_decls (without a)) → entries (plug a (Some t)) ≡ entries (without a)
    → stars (plug a (Some t)) ≡ stars (without a) → requests (plug a (Some t)) ≡ requests (without a) → Kept (module_of n m (plug a (Some t))) (module_of n m (without a))
within_kept n m x t a call w core y h d e s r = loose_scope n m x silent_function (plug a (Some t)) (without a) refl d (gone_rewritten (gone_within call w core y h)) e s r

-- where it lies behind a loop, or in a function
pub further_recovers : (n m : Note) (x : Text) (t : Tree) (a : Around) → IsCall x t → Further t items a → all_core (plug a (Some t)) ≡ true → Beside x items a (Some t) → hides x a (Some t) ≡ false → DeclaredOnce x (module_decls (without a)) → entries (plug a (Some t)) ≡ entries (without a)
    → stars (plug a (Some t)) ≡ stars (without a) → requests (plug a (Some t)) ≡ requests (without a) → Recovered (λ bound. suc (bound + bound)) (module_of n m (plug a (Some t))) (module_of n m (without a))
further_recovers n m x t a call w core y h d e s r = rewritten_recovers n m x (plug a (Some t)) (without a) d (rewritten_further for_values of_owed call w core y h) e s r

pub further_kept : (n m : Note) (x : Text) (t : Tree) (a : Around) → IsCall x t → Further t items a → all_core (plug a (Some t)) ≡ true → Beside x items a (Some t) → hides x a (Some t) ≡ false → DeclaredOnce x (module_decls (without a)) → entries (plug a (Some t)) ≡ entries (without a)
    → stars (plug a (Some t)) ≡ stars (without a) → requests (plug a (Some t)) ≡ requests (without a) → Kept (module_of n m (plug a (Some t))) (module_of n m (without a))
further_kept n m x t a call w core y h d e s r = loose_scope n m x silent_function (plug a (Some t)) (without a) refl d (rewritten_further for_values of_silent call w core y h) e s r
