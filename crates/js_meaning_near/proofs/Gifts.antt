-- Where the old run has one entry more than it needs for what follows: it may make one that the new run doesn't make.
use Rattle.std.proofs.Common.{◌≡◌, ◌+◌, ◌≤◌, ℕ, zero, suc, List, [], ◌∷◌, Option, Some, None, refl, sym, ap, ◌∙◌, subst, arith}
use Rattle.std.specs.Prelude.{Bool, true, false}
use Rattle.js_syntax.specs.declared.node_kind.NodeKind.{NodeKind as Kind}
use Rattle.js_syntax.specs.declared.kind.FunctionKind.{FunctionKind}
use Rattle.js_syntax.specs.declared.kind.FunctionKind.TheVariants as function_kind
use Rattle.js_syntax.specs.Node.{Forest, nothing, node, absent}
use Rattle.js_meaning.specs.Value.{Text, Slot, local, imported, arguments_object, bound, Env, this_name, Value, plain, undefined, null, boolean, number, text, host, other, closure, object, array, error}
use Rattle.js_meaning.specs.State.{State, Completion, normal, Out, M, go_on, bind, done, stop, unknown, choose, if_normal, seq, if_gives, with_value, spend_from, spend, alloc, read, store, identity, set_exports, Export, export}
use Rattle.js_meaning.specs.Scope.{Way, waiting, ready, linked, left_out, Decl, decl, with_slot, declare, look, fill, start_function, start_default, start_item, start, first_name, name_or_default}
use Rattle.js_meaning.specs.Module.{Entry, entry_local, entry_import, entries, stars, sorted, if_bound, resolve_entries, exporting}
use Rattle.js_meaning.specs.Meaning.{take_this}
use Rattle.js_meaning.specs.Statement.{case_is}
use Rattle.js_meaning.proofs.Same.{with_more, beside, Alike as Beside, both_go as beside_go, both_stop as beside_stop, used_up, Same as Does, same_value, same_done}
use Rattle.js_meaning_near.proofs.Worlds.{World, Sub, same, later}
use Rattle.js_meaning_near.proofs.Relations.{Same, SameCompletion, same_normal, same_gives, same_gives_all, same_refers, same_breaks, same_continues, same_returns, same_throws, Owed, owed_later, Budgets, as_many, no_more, twice, Envs, States, trace, Follows, both_go, both_stop, old_stops, old_out, new_out, Acts, effects, ActsForEffect}
use Rattle.js_meaning_near.proofs.Acts.{follows_back, more_follows, prefix_on, on_follows, done_acts, unknown_acts, choose_acts, if_normal_acts, value_acts, none_left, only_old_left}
use Rattle.js_meaning_near.proofs.Scopes.{declare_acts}
use Rattle.js_meaning_near.proofs.Rows.{case_is_acts}
use Rattle.js_meaning_near.specs.Names.{Names, Decls}
use Rattle.js_meaning_near.proofs.Effects.{more_nothing, given_by, goes_from}

-- with one entry more
abbrev pub gift : M → M
gift m s = m (beside with_more s)

-- from related states the old computation does so, as what it does without that
pub record Pays (w : World) (m k : M) : Type 0 where
  pub pay : (w2 : World) → Sub w w2 → (s z : State) → States w2 s z → Follows w2 (gift m s) (k z)

pub as_gift : {w : World} {m k : M} → Pays w m k → Acts w (gift m) k
as_gift a = record { act = a.pay }

pub of_gift : {w : World} {m k : M} → Acts w (gift m) k → Pays w m k
of_gift a = record { pay = a.act }

pub pays_later : {w w2 : World} {m k : M} → Sub w w2 → Pays w m k → Pays w2 m k
pays_later g a = record { pay = λ w3 h s z r. a.pay w3 (later g h) s z r }

-- what does so without it does so with it

owed_budget : {w : World} {m n : ℕ} → Owed w → Budgets w m n → n + n ≤ m
owed_budget o (as_many f e) = absurd (f o.owed)
owed_budget o (no_more i l) = absurd (o.no_slack i)
owed_budget o (twice y l) = l

more_budget : {w : World} {m n : ℕ} → Owed w → Budgets w m n → Budgets w (suc m) n
more_budget o b = let l = owed_budget o b in twice o (omega arith)

gifted_states : {w : World} {s z : State} → Owed w → States w s z → States w (beside with_more s) z
gifted_states o r = record { budget = more_budget o r.budget; links = r.links; cells = r.cells; globals = r.globals; imports = r.imports; shown = r.shown; moves = r.moves; exports = r.exports; stars = r.stars }

pub acts_pay : {w : World} {m k : M} → Owed w → Acts w m k → Pays w m k
acts_pay o a = record { pay = λ w2 h s z r. a.act w2 h _ z (gifted_states (owed_later h o) r) }

pub unknown_pays : {w : World} {m : M} → Pays w unknown m
unfolding stop
unknown_pays {m = m} = record { pay = λ w2 h s z r. (unknown_acts {w = w2} {m = m}).act w2 (same w2) s z r }

-- one after the other: it is for the one or for the other

pub pays_first : {w : World} {m k : M} {f g : Completion → M} → Pays w m k → ((w2 : World) (c d : Completion) → Sub w w2 → SameCompletion w2 c d → Acts w2 (f c) (g d)) → Pays w (bind m f) (bind k g)
unfolding bind
pays_first {f = f} {g = g} a b = record { pay = λ w2 h s z r. on_follows f g (a.pay w2 h s z r) (λ w3 i c d e. b w3 c d (later h i) e) }

then_follows : {w : World} {o q p : Out} (j k : Completion → M) → Owed w → Follows w o p → Beside with_more o q → ((w2 : World) → Sub w w2 → (c d : Completion) → SameCompletion w2 c d → Pays w2 (j c) (k d)) → Follows w (go_on q j) (go_on p k)
then_follows j k y (both_go {es = es} {s = s} {z = z} {c = c} {d = d} {w2 = w2} h r e) (beside_go i) f = more_follows es (follows_back h ((f w2 h c d e).pay w2 (same w2) s z r))
then_follows j k y both_stop beside_stop f = both_stop
then_follows j k y both_stop (used_up u) f = new_out y
then_follows j k y (old_stops {es = es} {o = p} x) beside_stop f = old_stops (prefix_on es p k x)
then_follows j k y (old_out i x) b f = absurd (y.no_slack i)
then_follows j k y (new_out o) b f = new_out o

pub pays_then : {w : World} {m k : M} {f g : Completion → M} → Owed w → Does with_more m m → Acts w m k → ((w2 : World) (c d : Completion) → Sub w w2 → SameCompletion w2 c d → Pays w2 (f c) (g d)) → Pays w (bind m f) (bind k g)
unfolding bind
pays_then {f = f} {g = g} o u a b = record { pay = λ w2 h s z r. then_follows f g (owed_later h o) (a.act w2 h s z r) (u.at s tt) (λ w3 i c d e. b w3 c d (later h i) e) }

normal_pays : {w : World} {m k : M} → Owed w → Pays w m k → (w2 : World) (c d : Completion) → Sub w w2 → SameCompletion w2 c d → Pays w2 (if_normal m c) (if_normal k d)
normal_pays o a w2 _ _ h same_normal = pays_later h a
normal_pays o a w2 _ _ h (same_gives r q) = unknown_pays
normal_pays o a w2 _ _ h (same_gives_all r) = unknown_pays
normal_pays o a w2 _ _ h (same_refers r) = unknown_pays
normal_pays o a w2 _ _ h same_breaks = acts_pay (owed_later h o) (done_acts same_breaks)
normal_pays o a w2 _ _ h same_continues = acts_pay (owed_later h o) (done_acts same_continues)
normal_pays o a w2 _ _ h (same_returns r) = acts_pay (owed_later h o) (done_acts (same_returns r))
normal_pays o a w2 _ _ h (same_throws r) = acts_pay (owed_later h o) (done_acts (same_throws r))

-- behind a statement
pub seq_pays : {w : World} {m k n l : M} → Owed w → Does with_more m m → Acts w m k → Pays w n l → Pays w (seq m n) (seq k l)
seq_pays o u a b = pays_then o u a (normal_pays o b)

gives_pay : {w : World} {f g : Value → M} → Owed w → ((w2 : World) (v u : Value) → Sub w w2 → Same w2 v u → Pays w2 (f v) (g u)) → (w2 : World) (c d : Completion) → Sub w w2 → SameCompletion w2 c d → Pays w2 (if_gives (λ v r. f v) c) (if_gives (λ v r. g v) d)
gives_pay o b w2 _ _ h same_normal = unknown_pays
gives_pay o b w2 _ _ h (same_gives r q) = b w2 _ _ h r
gives_pay o b w2 _ _ h (same_gives_all r) = unknown_pays
gives_pay o b w2 _ _ h (same_refers r) = unknown_pays
gives_pay o b w2 _ _ h same_breaks = unknown_pays
gives_pay o b w2 _ _ h same_continues = unknown_pays
gives_pay o b w2 _ _ h (same_returns r) = unknown_pays
gives_pay o b w2 _ _ h (same_throws r) = acts_pay (owed_later h o) (done_acts (same_throws r))

-- behind a value
pub value_pays : {w : World} {m k : M} {f g : Value → M} → Owed w → Does with_more m m → Acts w m k → ((w2 : World) (v u : Value) → Sub w w2 → Same w2 v u → Pays w2 (f v) (g u)) → Pays w (with_value m f) (with_value k g)
value_pays o u a b = pays_then o u a (gives_pay o b)

-- and of one
pub value_first : {w : World} {m k : M} {f g : Value → M} → Pays w m k → ((w2 : World) (v u : Value) → Sub w w2 → Same w2 v u → Acts w2 (f v) (g u)) → Pays w (with_value m f) (with_value k g)
unfolding bind
value_first a b = record { pay = λ w2 h s z r. (value_acts (as_gift a) b).act w2 h s z r }

pub seq_first : {w : World} {m k n l : M} → Pays w m k → Acts w n l → Pays w (seq m n) (seq k l)
seq_first a b = pays_first a (if_normal_acts b)

-- where the new run has nothing in its place

pub nothing_seq : (k : M) → seq (done normal) k ≡ k
unfolding bind done
nothing_seq k = λ i s. more_nothing (k s) i

pub first_leaves : {w : World} {m n k : M} → Pays w m (done normal) → Acts w n k → Pays w (seq m n) k
first_leaves {w = w} {m = m} {n = n} {k = k} a b = subst (Pays w (seq m n)) (nothing_seq k) (seq_first a b)

pub unknown_first : {w : World} {k : M} (n : M) → Pays w (seq unknown n) k
unfolding bind stop
unknown_first {k = k} n = record { pay = λ w2 h s z r. old_stops (trace (k z), refl) }

-- and behind one that nobody takes

effects_beside : {m : M} → Does with_more m m → Does with_more (effects m) (effects m)
effects_beside u = same_value u (λ v. same_done normal)

effects_follow : {w : World} (f g : Value → M) (o q p : Out) → Owed w → Follows w (go_on o (if_gives (λ v r. done normal))) (go_on p (if_gives (λ v r. done normal))) → Beside with_more (go_on o (if_gives (λ v r. done normal))) (go_on q (if_gives (λ v r. done normal)))
    → ((w2 : World) (v u : Value) → Sub w w2 → Pays w2 (f v) (g u)) → Follows w (go_on q (if_gives (λ v r. f v))) (go_on p (if_gives (λ v r. g v)))
effects_follow {w = w} f g o q p y x u b =
    subst (λ m. Follows w m (go_on p (if_gives (λ v r. g v)))) (sym (goes_from f q))
    (subst (Follows w (go_on (go_on q (if_gives (λ v r. done normal))) (if_normal (f (given_by q))))) (sym (goes_from g p))
    (then_follows (if_normal (f (given_by q))) (if_normal (g (given_by p))) y x u (λ w2 h c d e. normal_pays (owed_later h y) (b w2 (given_by q) (given_by p) h) w2 c d (same w2) e)))

pub effects_pays : {w : World} {m k : M} {f g : Value → M} → Owed w → Does with_more m m → ActsForEffect w m k → ((w2 : World) (v u : Value) → Sub w w2 → Pays w2 (f v) (g u)) → Pays w (with_value m f) (with_value k g)
unfolding bind
effects_pays {m = m} {k = k} {f = f} {g = g} o u a b = record { pay = λ w2 h s z r. effects_follow f g (m s) (m (beside with_more s)) (k z) (owed_later h o) (a.acts.act w2 h s z r) ((effects_beside u).at s tt) (λ w3 v u i. b w3 v u (later h i)) }

-- an entry: the old run has two for it, and so one more behind it

spends_follow : {w : World} {m k : M} {s z : State} (n l : ℕ) → Owed w → Budgets w n l → States w s z → Pays w m k → Follows w (spend_from n m s) (spend_from l k z)
spends_follow zero zero o e r a = both_stop
spends_follow {k = k} {z = z} zero (suc l) o e r a = none_left (k (record z { budget = l })) e
spends_follow {m = m} {s = s} (suc n) zero o e r a = only_old_left (m (record s { budget = n })) e
spends_follow (suc zero) (suc l) o e r a = let x = owed_budget o e in absurd (omega arith)
spends_follow {w = w} {s = s} {z = z} (suc (suc n)) (suc l) o e r a =
    let x = owed_budget o e in
    a.pay w (same w) (record s { budget = n }) (record z { budget = l }) (record { budget = twice o (omega arith); links = r.links; cells = r.cells; globals = r.globals; imports = r.imports; shown = r.shown; moves = r.moves; exports = r.exports; stars = r.stars })

pub spend_pays : {w : World} {m k : M} → Owed w → Pays w m k → Acts w (spend m) (spend k)
unfolding spend
spend_pays o a = record { act = λ w2 h s z r. spends_follow s.budget z.budget (owed_later h o) r.budget r (pays_later h a) }

-- choices

gift_choose : (b : Bool) (m n : M) → gift (choose b m n) ≡ choose b (gift m) (gift n)
unfolding choose
gift_choose true m n = refl
gift_choose false m n = refl

pub choose_pays : {w : World} {p q : Bool} {a b c d : M} → p ≡ q → Pays w a c → Pays w b d → Pays w (choose p a b) (choose q c d)
choose_pays {w = w} {p = p} {q = q} {a = a} {b = b} {c = c} {d = d} e x y = of_gift (subst (λ m. Acts w m (choose q c d)) (sym (gift_choose p a b)) (choose_acts e (as_gift x) (as_gift y)))

-- what a scope declares and starts comes before what it is for

gift_slot : (way : Way) (k : Slot → M) → gift (with_slot way k) ≡ with_slot way (λ slot. gift (k slot))
unfolding alloc
gift_slot (waiting constant) k = refl
gift_slot ready k = refl
gift_slot (linked source name) k = refl
gift_slot left_out k = refl

gift_declare : (ds : List Decl) (e : Env) (k : Env → M) → gift (declare ds e k) ≡ declare ds e (λ e. gift (k e))
unfolding declare
gift_declare [] e k = refl
gift_declare (decl x way ∷ ds) e k = gift_slot way (λ slot. declare ds (bound x slot ∷ e) k) ∙ ap (with_slot way) (λ i slot. gift_declare ds (bound x slot ∷ e) k i)

pub declare_pays : {w : World} {st t : Names} {ds es : List Decl} {e f : Env} {j k : Env → M} → Decls st ds es t → Envs w st e f → ((w2 : World) (e f : Env) → Sub w w2 → Envs w2 t e f → Pays w2 (j e) (k f)) → Pays w (declare ds e j) (declare es f k)
declare_pays {w = w} {ds = ds} {es = es} {e = e} {f = f} {j = j} {k = k} d r b = of_gift (subst (λ m. Acts w m (declare es f k)) (sym (gift_declare ds e j)) (declare_acts d r (λ w2 e f h r. as_gift (b w2 e f h r))))

gift_fill : (o : Option Slot) (v : Value) (m : M) → gift (fill o v m) ≡ fill o v (gift m)
unfolding read store stop
gift_fill None v m = refl
gift_fill (Some (local c)) v m = refl
gift_fill (Some (imported source x)) v m = refl
gift_fill (Some arguments_object) v m = refl

pub gift_this : (f : FunctionKind) (v : Value) (e : Env) (m : M) → gift (take_this f v e m) ≡ take_this f v e (gift m)
gift_this function_kind.Arrow v e m = refl
gift_this function_kind.Declaration v e m = gift_fill (look e this_name) v m
gift_this function_kind.Expression v e m = gift_fill (look e this_name) v m

gift_identity : (f : ℕ → M) → gift (identity f) ≡ identity (λ i. gift (f i))
unfolding identity
gift_identity f = refl

gift_function : (o : Option Text) (a : Forest) (e : Env) (m : M) → gift (start_function o a e m) ≡ start_function o a e (gift m)
gift_function None a e m = refl
gift_function (Some x) a e m = gift_identity (λ i. fill (look e x) (closure i function_kind.Declaration a e) m) ∙ ap identity (λ j i. gift_fill (look e x) (closure i function_kind.Declaration a e) m j)

-- a part of a start that hands a gift on
abbrev HandsOn : (M → M) → Type 0
HandsOn inner = (m : M) → gift (inner m) ≡ inner (gift m)

gift_default : (a : Forest) (inner : M → M) (e : Env) (m : M) → HandsOn inner → gift (start_default a inner e m) ≡ start_default a inner e (gift m)
gift_default nothing inner e m h = h m
gift_default (absent r) inner e m h = h m
gift_default (node (Kind.Function function_kind.Declaration pure) n a r) inner e m h = gift_function (Some (name_or_default (first_name a))) a e m
gift_default (node _ n a r) inner e m h = h m

gift_item : (k : Kind) (a : Forest) (inner : M → M) (e : Env) (m : M) → HandsOn inner → gift (start_item k a inner e m) ≡ start_item k a inner e (gift m)
gift_item (Kind.Function function_kind.Declaration pure) a inner e m h = gift_function (first_name a) a e m
gift_item (Kind.ExportNamedDeclaration None) a inner e m h = h m
gift_item Kind.ExportDefaultDeclaration a inner e m h = gift_default a inner e m h
gift_item Kind.FunctionBody a inner e m h = h m
gift_item Kind.Statements a inner e m h = h m
gift_item Kind.Cases a inner e m h = h m
gift_item Kind.SwitchCase a inner e m h = h m
gift_item _ a inner e m h = refl

pub gift_start : (a : Forest) (e : Env) (m : M) → gift (start a e m) ≡ start a e (gift m)
unfolding start
gift_start nothing e m = refl
gift_start (absent r) e m = gift_start r e m
gift_start (node k n a r) e m = gift_item k a (start a e) e (start r e m) (λ m. gift_start a e m) ∙ ap (start_item k a (start a e) e) (gift_start r e m)

gift_bound : (o : Option Slot) (k : Slot → M) → gift (if_bound o k) ≡ if_bound o (λ slot. gift (k slot))
unfolding stop
gift_bound None k = refl
gift_bound (Some slot) k = refl

gift_entries : (xs : List Entry) (e : Env) (k : List Export → M) → gift (resolve_entries xs e k) ≡ resolve_entries xs e (λ es. gift (k es))
unfolding resolve_entries
gift_entries [] e k = refl
gift_entries (entry_local x y ∷ xs) e k =
    gift_bound (look e y) (λ slot. resolve_entries xs e (λ exports. k (export x slot ∷ exports)))
    ∙ ap (if_bound (look e y)) (λ i slot. gift_entries xs e (λ exports. k (export x slot ∷ exports)) i)
gift_entries (entry_import x source name ∷ xs) e k = gift_entries xs e (λ exports. k (export x (imported source name) ∷ exports))

gift_exports : (es : List Export) (xs : List Text) (m : M) → gift (set_exports es xs m) ≡ set_exports es xs (gift m)
unfolding set_exports
gift_exports es xs m = refl

pub gift_exporting : (a : Forest) (e : Env) (m : M) → gift (exporting a e m) ≡ exporting a e (gift m)
gift_exporting a e m = gift_entries (entries a) e (λ exports. set_exports (sorted exports) (stars a) m) ∙ ap (resolve_entries (entries a) e) (λ i exports. gift_exports (sorted exports) (stars a) m i)

gift_case : (v : Value) (here on otherwise : M) → gift (case_is v here on otherwise) ≡ case_is v (gift here) (gift on) (gift otherwise)
gift_case (plain (boolean true)) here on otherwise = refl
gift_case (plain (boolean false)) here on otherwise = refl
gift_case (plain undefined) here on otherwise = refl
gift_case (plain null) here on otherwise = refl
gift_case (plain (number z)) here on otherwise = refl
gift_case (plain (text s)) here on otherwise = refl
gift_case (plain (host i c)) here on otherwise = refl
gift_case (plain (other i c t)) here on otherwise = refl
gift_case (closure i k a e) here on otherwise = refl
gift_case (object i c) here on otherwise = refl
gift_case (array i c) here on otherwise = refl
gift_case (error i e) here on otherwise = refl

pub case_pays : {w : World} {v u : Value} {a b c d e f : M} → Same w v u → Pays w a d → Pays w b e → Pays w c f → Pays w (case_is v a b c) (case_is u d e f)
case_pays {w = w} {v = v} {u = u} {a = a} {b = b} {c = c} {d = d} {e = e} {f = f} q x y z = of_gift (subst (λ m. Acts w m (case_is u d e f)) (sym (gift_case v a b c)) (case_is_acts q (as_gift x) (as_gift y) (as_gift z)))
