-- Functions whose statements evaluate what is silent are silent, whatever the arguments.
use Rattle.std.proofs.Common.{◌≡◌, ℕ, suc, ◌<◌, ◌≤◌, List, [], ◌∷◌, ◌++◌, Option, Some, None, arith, refl, sym, ap, subst, ◌∙◌}
use Rattle.std.specs.Prelude.{Bool, true, false, ◌||◌, if◌then◌else◌}
use Rattle.std.specs.Str.{bytes_eq}
use Rattle.js_syntax.specs.declared.node_kind.NodeKind.{NodeKind as Kind}
use Rattle.js_syntax.specs.declared.kind.FunctionKind.TheVariants as function_kind
use Rattle.js_syntax.specs.declared.kind.VariableKind.{VariableKind}
use Rattle.js_syntax.specs.declared.kind.VariableKind.TheVariants as variable
use Rattle.js_syntax.specs.Node.{Note, Forest, nothing, node}
use Rattle.js_syntax.proofs.Truth.{first_of_either, second_of_either}
use Rattle.js_meaning.specs.Value.{Text, Slot, local, imported, arguments_object, bound, Env, this_name, Value, undef}
use Rattle.js_meaning.specs.Trace.{Ending}
use Rattle.js_meaning.specs.State.{State, Cell, cell, Completion, normal, returns, Out, goes, stops, M, more, go_on, bind, done, stop, unknown, if_normal, seq, if_gives, with_value, alloc, read, store, put, get_import}
use Rattle.js_meaning.specs.Scope.{Way, waiting, ready, linked, left_out, Decl, decl, all_so, behind, first_of, bound_names, var_names, lexical, look, with_slot, declare, initialised, fill, start, function_decls}
use Rattle.js_meaning.specs.Host.{Enter}
use Rattle.js_meaning.specs.Node.{run, declares as declaring, need, may, each}
use Rattle.js_meaning.specs.Meaning.{take_each, eval, take_this, run_code, after_call}
use Rattle.js_meaning_near.specs.Quiet.{OnlyAllocates, EndsQuietly, gives_quietly, stops_quietly, Quiet}
use Rattle.js_meaning_near.specs.Names.{live, Names, with_name, Declared, IsBound, Binds}
use Rattle.js_meaning.specs.Reference.{if_set, cell_value, name_value}
use Rattle.js_meaning_near.specs.Near.{Silent, SilentCode}
use Rattle.js_meaning_near.specs.Fit.{names_after, within_code}
use Rattle.js_meaning_near.specs.Avoid.{declares}
use Rattle.js_meaning_near.specs.Known.{code_of}
use Rattle.js_meaning_near.specs.Bodies.{AreNames, QuietNames, no_names_more, name_given, name_not_given, QuietItems, no_items_more, empty_item, expression_item, names_item, return_item, bare_return_item, QuietBody}
use Rattle.js_meaning_near.proofs.Avoid.{itself, after_other}
use Rattle.js_meaning_near.proofs.Branches.{allocates_nothing}
use Rattle.js_meaning_near.proofs.Worlds.{not_eq}

-- what a call does to the cells that it made is its own affair

allocates_both : {s z y : State} → OnlyAllocates s z → OnlyAllocates z y → OnlyAllocates s y
allocates_both {s} {z} {y} a b = record {
  budget = b.budget ∙ a.budget;
  fresh = let f = a.fresh in let g = b.fresh in omega arith;
  store = λ i h. b.store i (let f = a.fresh in omega arith) ∙ a.store i h;
  globals = λ x. b.globals x ∙ a.globals x;
  imports = λ x y. b.imports x y ∙ a.imports x y;
  shown = b.shown ∙ a.shown;
  moves = b.moves ∙ a.moves;
  exports = b.exports ∙ a.exports;
  stars = b.stars ∙ a.stars;
}

put_later : (f : ℕ → Cell) (c i j : ℕ) (o : Cell) → j < i → i ≤ c → put f c o j ≡ f j
put_later f c i j o h l = rw (not_eq j c (λ e. omega arith)) refl

allocates_put : {s z : State} (c : ℕ) (o : Cell) → OnlyAllocates s z → s.fresh ≤ c → OnlyAllocates s (record z { store = put z.store c o })
allocates_put {s} {z} c o a l = record { budget = a.budget; fresh = a.fresh; store = λ i h. put_later z.store c s.fresh i o h l ∙ a.store i h; globals = a.globals; imports = a.imports; shown = a.shown; moves = a.moves; exports = a.exports; stars = a.stars }

allocates_cell : {s z : State} (o : Cell) → OnlyAllocates s z → OnlyAllocates s (record z { fresh = suc z.fresh; store = put z.store z.fresh o })
allocates_cell {s} {z} o a = record { budget = a.budget; fresh = let f = a.fresh in omega arith; store = λ i h. put_later z.store z.fresh s.fresh i o h a.fresh ∙ a.store i h; globals = a.globals; imports = a.imports; shown = a.shown; moves = a.moves; exports = a.exports; stars = a.stars }

-- how its statements end
data IsOver : Completion → Type 0 where
  over_normal : IsOver normal
  over_returns : {v : Value} → IsOver (returns v)

data EndsSince (s : State) : Out → Type 0 where
  ends_since : {z : State} {c : Completion} → OnlyAllocates s z → IsOver c → EndsSince s (goes [] z c)
  stops_since : EndsSince s (stops [] Ending.uncovered)

-- from wherever it came to since this state
record Since (s : State) (m : M) : Type 0 where
  pub since : (z : State) → OnlyAllocates s z → EndsSince s (m z)

since_done : {s : State} {c : Completion} → IsOver c → Since s (done c)
unfolding done
since_done o = record { since = λ z a. ends_since a o }

since_unknown : {s : State} → Since s unknown
unfolding stop
since_unknown = record { since = λ z a. stops_since }

nothing_since : {s : State} {o : Out} → EndsSince s o → EndsSince s (more [] o)
nothing_since (ends_since a o) = ends_since a o
nothing_since stops_since = stops_since

seq_ends : {s : State} {o : Out} (n : M) → Since s n → EndsSince s o → EndsSince s (go_on o (if_normal n))
unfolding done
seq_ends n x (ends_since a over_normal) = nothing_since (x.since _ a)
seq_ends n x (ends_since a over_returns) = ends_since a over_returns
seq_ends n x stops_since = stops_since

since_seq : {s : State} {m n : M} → Since s m → Since s n → Since s (seq m n)
unfolding bind
since_seq {n = n} x y = record { since = λ z a. seq_ends n y (x.since z a) }

value_ends : {s z : State} {o : Out} (f : Value → M) → OnlyAllocates s z → ((v : Value) → Since s (f v)) → EndsQuietly z o → EndsSince s (go_on o (if_gives (λ v r. f v)))
value_ends f a x (gives_quietly {v = v} b) = nothing_since ((x v).since _ (allocates_both a b))
value_ends f a x stops_quietly = stops_since

since_value : {s : State} {m : M} {f : Value → M} → Quiet m → ((v : Value) → Since s (f v)) → Since s (with_value m f)
unfolding bind
since_value {f = f} q x = record { since = λ z a. value_ends f a x (q.quiet z) }

-- a name's cell, if it has one, is younger than this state
abbrev IsYoung : State → Option Slot → Type 0
IsYoung s (Some (local c)) = s.fresh ≤ c
IsYoung s o = Unit {0}

since_fill : {s : State} {m : M} (o : Option Slot) (v : Value) → IsYoung s o → Since s m → Since s (fill o v m)
unfolding read store
since_fill None v y x = since_unknown
since_fill (Some (imported source name)) v y x = since_unknown
since_fill (Some arguments_object) v y x = since_unknown
since_fill (Some (local c)) v y x = record { since = λ z a. x.since _ (allocates_put c (initialised (z.store c) v) a y) }

since_slot : {s : State} {k : Slot → M} (way : Way) → ((o : Slot) → IsYoung s (Some o) → Since s (k o)) → Since s (with_slot way k)
unfolding alloc
since_slot (waiting constant) x = record { since = λ z a. (x (local z.fresh) a.fresh).since _ (allocates_cell (cell constant None) a) }
since_slot ready x = record { since = λ z a. (x (local z.fresh) a.fresh).since _ (allocates_cell (cell false (Some undef)) a) }
since_slot (linked source name) x = x (imported source name) tt
since_slot left_out x = x arguments_object tt

-- what is declared is bound, in cells that are young; what isn't is what it was
record Own (s : State) (ds : List Decl) (env within : Env) : Type 0 where
  young : (x : Text) → declares ds x ≡ true → IsYoung s (look within x)
  others : (x : Text) → declares ds x ≡ false → look within x ≡ look env x

binds_more : (st : Names) (env : Env) (x : Text) (o : Slot) → Binds st env → Binds (with_name st x live) (bound x o ∷ env)
binds_more st env x o b y = go (bytes_eq x y)
  where
    go : (t : Bool) → Declared (if t then live else st y) → IsBound (if t then Some o else look env y)
    go true h = tt
    go false h = b y h

own_more : {s : State} {ds : List Decl} {env within : Env} (x : Text) (way : Way) (o : Slot) → IsYoung s (Some o) → Own s ds (bound x o ∷ env) within → Own s (decl x way ∷ ds) env within
own_more {s = s} {ds = ds} {env = env} {within = within} x way o y w = record {
  young = λ z. new z (bytes_eq x z) (declares ds z) refl refl;
  others = λ z. old z (bytes_eq x z) (declares ds z) refl refl;
}
  where
    new : (z : Text) (b d : Bool) → bytes_eq x z ≡ b → declares ds z ≡ d → (bytes_eq x z || declares ds z) ≡ true → IsYoung s (look within z)
    new z b true e f h = w.young z f
    new z true false e f h = subst (IsYoung s) (sym (w.others z f ∙ ap (λ t. if t then Some o else look env z) e)) y
    new z false false e f h = cc

    old : (z : Text) (b d : Bool) → bytes_eq x z ≡ b → declares ds z ≡ d → (bytes_eq x z || declares ds z) ≡ false → look within z ≡ look env z
    old z false false e f h = w.others z f ∙ ap (λ t. if t then Some o else look env z) e
    old z b d e f h = cc

since_declare : {s : State} (ds : List Decl) (st : Names) (env : Env) {k : Env → M} → Binds st env → ((within : Env) → Binds (names_after st ds) within → Own s ds env within → Since s (k within)) → Since s (declare ds env k)
unfolding declare
since_declare [] st env b x = x env b (record { young = λ y h. cc; others = λ y h. refl })
since_declare (decl y way ∷ ds) st env b x = since_slot way (λ o h. since_declare ds (with_name st y live) (bound y o ∷ env) (binds_more st env y o b) (λ within c w. x within c (own_more y way o h w)))

-- parameters

declares_behind : (ds es : List Decl) (x : Text) → declares es x ≡ true → declares (ds ++ es) x ≡ true
declares_behind [] es x h = h
declares_behind (decl y way ∷ ds) es x h = second_of_either (bytes_eq y x) (declares (ds ++ es) x) (declares_behind ds es x h)

declares_before : (ds es : List Decl) (x : Text) → declares ds x ≡ true → declares (ds ++ es) x ≡ true
declares_before (decl y way ∷ ds) es x h = go (bytes_eq y x) (λ e. declares_before ds es x e) h
  where
    go : (b : Bool) → (declares ds x ≡ true → declares (ds ++ es) x ≡ true) → (b || declares ds x) ≡ true → (b || declares (ds ++ es) x) ≡ true
    go true f h = refl
    go false f h = f h
declares_before [] es x h = cc

take_young : {s : State} (E : Enter) (env : Env) (ps : Forest) (vs : List Value) → AreNames ps → ((x : Text) → declares (all_so ready (bound_names ps ++ [])) x ≡ true → IsYoung s (look env x)) → Since s (take_each (eval E ps) vs env)
unfolding take_each eval
take_young E env nothing vs n y = since_done over_normal
take_young E env (node (Kind.BindingName x) m a r) [] n y =
    since_seq (since_fill (look env x) undef (y x (first_of_either _ _ (itself x))) (since_done over_normal)) (take_young E env r [] n (λ z h. y z (second_of_either _ _ h)))
take_young E env (node (Kind.BindingName x) m a r) (v ∷ vs) n y =
    since_seq (since_fill (look env x) v (y x (first_of_either _ _ (itself x))) (since_done over_normal)) (take_young E env r vs n (λ z h. y z (second_of_either _ _ h)))
take_young E env _ vs n y = absurd n

-- statements

names_since : {s : State} {st : Names} {ds : List Decl} {a : Forest} (E : Enter) (env : Env) (how : VariableKind) → ((x : Text) → declares ds x ≡ true → IsYoung s (look env x)) → Binds st env → QuietNames ds st a → Since s (each (declaring how) (eval E a) env)
unfolding need may each eval
names_since E env how y b no_names_more = since_done over_normal
names_since E env how y b (name_given {x = x} h q r) = since_seq (since_value (q.silent E env b) (λ v. since_fill (look env x) v (y x h) (since_done over_normal))) (names_since E env how y b r)
names_since E env variable.Var y b (name_not_given {x = x} h r) = since_seq (since_done over_normal) (names_since E env variable.Var y b r)
names_since E env variable.Let y b (name_not_given {x = x} h r) = since_seq (since_fill (look env x) undef (y x h) (since_done over_normal)) (names_since E env variable.Let y b r)
names_since E env variable.Const y b (name_not_given {x = x} h r) = since_seq (since_fill (look env x) undef (y x h) (since_done over_normal)) (names_since E env variable.Const y b r)

items_since : {s : State} {st : Names} {ds : List Decl} {a : Forest} (E : Enter) (env : Env) → ((x : Text) → declares ds x ≡ true → IsYoung s (look env x)) → Binds st env → QuietItems ds st a → Since s (each (run []) (eval E a) env)
unfolding need may each eval
items_since E env y b no_items_more = since_done over_normal
items_since E env y b (empty_item r) = since_seq (since_done over_normal) (items_since E env y b r)
items_since E env y b (expression_item q r) = since_seq (since_value (q.silent E env b) (λ v. since_done over_normal)) (items_since E env y b r)
items_since E env y b (names_item {how = how} n r) = since_seq (names_since E env how y b n) (items_since E env y b r)
items_since E env y b (return_item q r) = since_seq (since_value (q.silent E env b) (λ v. since_done over_returns)) (items_since E env y b r)
items_since E env y b (bare_return_item r) = since_seq (since_done over_returns) (items_since E env y b r)

-- they start no function
starts_nothing : {ds : List Decl} {st : Names} {a : Forest} (env : Env) (m : M) → QuietItems ds st a → start a env m ≡ m
unfolding start
starts_nothing env m no_items_more = refl
starts_nothing env m (empty_item r) = starts_nothing env m r
starts_nothing env m (expression_item q r) = starts_nothing env m r
starts_nothing env m (names_item n r) = starts_nothing env m r
starts_nothing env m (return_item q r) = starts_nothing env m r
starts_nothing env m (bare_return_item r) = starts_nothing env m r

-- the call

gives_quietly_then : {s : State} {o : Out} → EndsSince s o → EndsQuietly s (go_on o after_call)
unfolding done
gives_quietly_then (ends_since a over_normal) = gives_quietly a
gives_quietly_then (ends_since a over_returns) = gives_quietly a
gives_quietly_then stops_since = stops_quietly

since_call : {s : State} {m : M} → Since s m → EndsQuietly s (bind m after_call s)
unfolding bind
since_call {s = s} x = gives_quietly_then (x.since s (allocates_nothing s))

parameter_declared : (a : Forest) (x : Text) → declares (all_so ready (bound_names (first_of (behind a)))) x ≡ true → declares (function_decls function_kind.Declaration a) x ≡ true
parameter_declared a x h =
    second_of_either _ _ (second_of_either _ _ (declares_before (all_so ready (var_names (behind (behind a))) ++ all_so ready (bound_names (first_of (behind a)))) (lexical (behind (behind a))) x
    (declares_behind (all_so ready (var_names (behind (behind a)))) (all_so ready (bound_names (first_of (behind a)))) x h)))

receiver_declared : (a : Forest) → declares (function_decls function_kind.Declaration a) this_name ≡ true
receiver_declared a = refl

code_since : {s : State} {env within : Env} (st : Names) (E : Enter) (i j k l : Note) (x : Text) (ps b : Forest) (this : Value) (vs : List Value) → QuietBody st i j k l x ps b
    → Binds (within_code st function_kind.Declaration (code_of i j k l x ps b)) within → Own s (function_decls function_kind.Declaration (code_of i j k l x ps b)) env within
    → Since s (take_this function_kind.Declaration this within (run_code (code_of i j k l x ps b) (eval E (code_of i j k l x ps b)) vs within))
unfolding need may each eval start
code_since {s = s} {within = within} st E i j k l x ps b this vs q h w =
    since_fill (look within this_name) this (w.young this_name (receiver_declared (code_of i j k l x ps b)))
    (since_seq (take_young E within ps vs q.0 (λ y e. w.young y (parameter_declared (code_of i j k l x ps b) y e)))
    (subst (Since s) (sym (starts_nothing within (each (run []) (eval E b) within) q.1)) (items_since E within w.young h q.1)))

pub quiet_code : (st : Names) (i j k l : Note) (x : Text) (ps b : Forest) → QuietBody st i j k l x ps b → SilentCode st (code_of i j k l x ps b)
quiet_code st i j k l x ps b q = record {
  silent_code = λ E env h this vs. record {
    quiet = λ s.
        since_call (since_declare (function_decls function_kind.Declaration (code_of i j k l x ps b)) st env h (λ within c w. code_since st E i j k l x ps b this vs q c w));
  };
}

-- a name that is bound is read in silence

set_quietly : (s : State) (o : Option Value) → EndsQuietly s (if_set o s)
unfolding done stop
set_quietly s None = stops_quietly
set_quietly s (Some v) = gives_quietly (allocates_nothing s)

held_quietly : (s : State) (c : Cell) → EndsQuietly s (cell_value c s)
held_quietly s (cell constant o) = set_quietly s o

slot_quiet : (o : Option Slot) (x : Text) → IsBound o → Quiet (name_value o x)
unfolding read get_import done stop
slot_quiet None x h = absurd h
slot_quiet (Some arguments_object) x h = record { quiet = λ s. stops_quietly }
slot_quiet (Some (imported source name)) x h = record { quiet = λ s. set_quietly s (s.imports source name) }
slot_quiet (Some (local c)) x h = record { quiet = λ s. held_quietly s (s.store c) }

pub read_silent : (st : Names) (x : Text) (a : Forest) → Declared (st x) → Silent st (Kind.ReferenceName x) a
read_silent st x a h = record { silent = λ E env b. slot_quiet (look env x) x (b x h) }

live_after : (ds : List Decl) (st : Names) (x : Text) → declares ds x ≡ true → names_after st ds x ≡ live
live_after [] st x h = cc
live_after (decl y way ∷ ds) st x h = go (live_after ds (with_name st y live) x) (bytes_eq y x) (declares ds x) refl refl h
  where
    go : (declares ds x ≡ true → names_after (with_name st y live) ds x ≡ live) → (b d : Bool) → bytes_eq y x ≡ b → declares ds x ≡ d → (bytes_eq y x || declares ds x) ≡ true → names_after (with_name st y live) ds x ≡ live
    go again b true e f h = again f
    go again true false e f h = after_other ds (with_name st y live) x f ∙ ap (λ t. if t then live else st x) e
    go again false false e f h = cc

-- so are a function's own names
pub own_silent : (st : Names) (a : Forest) (x : Text) (b : Forest) → declares (function_decls function_kind.Declaration a) x ≡ true → Silent (within_code st function_kind.Declaration a) (Kind.ReferenceName x) b
own_silent st a x b h = read_silent _ x b (subst Declared (sym (live_after (function_decls function_kind.Declaration a) st x h)) tt)
