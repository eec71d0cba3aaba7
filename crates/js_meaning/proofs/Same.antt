-- Two computations that do the same: from every state with a budget of at most so much, of which they leave no more; or the
-- second with one more, of which it leaves one more, unless the first one's budget is used up. The acts keep it.
use Rattle.std.proofs.Common.{ℕ, suc, ◌≤◌, List, [], ◌∷◌, Option, Some, None}
use Rattle.std.specs.Prelude.{Bool, true, false}
use Rattle.js_syntax.specs.declared.node_kind.NodeKind.{NodeKind as Kind}
use Rattle.js_syntax.specs.Node.{Forest, nothing, node, absent}
use Rattle.js_syntax.specs.declared.kind.FunctionKind.TheVariants as function_kind
use Rattle.js_meaning.specs.Value.{Text, Slot, local, imported, arguments_object, bound, Env, Value, plain, closure, object, array, error, Content, no_content, element, property, ErrorKind, Given, Sort, Shown, Parts, shows, shows_at}
use Rattle.js_meaning.specs.Trace.{Act, ShownExport, ShownExports, Event, Move, Ending}
use Rattle.js_meaning.specs.State.{State, Cell, cell, Export, export, Place, Completion, normal, gives, gives_all, refers, breaks, continues, returns, throws, Out, goes, stops, M, more, go_on, bind, done, stop, choose, if_normal, seq, if_gives, with_receiver, with_value, if_gives_all, with_all, if_refers, with_place, alloc, read, store, identity, raise, get_global, set_global, get_import, set_import, with_moves, set_moves, with_exports, set_exports, put_event}
use Rattle.js_meaning.specs.Show.{After, number_of, show_own, show_in, show_content, show, show_all, show_cell, show_export, show_exports, with_shown_exports, emit, named, if_some, resolve, resolve_all, resolve_maybe}
use Rattle.js_meaning.specs.Operator.{compare}
use Rattle.js_meaning.specs.Scope.{Way, waiting, ready, linked, left_out, Decl, decl, first_name, name_or_default, look, with_slot, declare, initialised, fill, start_function, start_default, start_item, start, copy_slot, copy}
use Rattle.js_meaning.specs.Module.{Entry, entry_local, entry_import, if_bound, resolve_entries}

pub data Compared : Type 0 where
  within : ℕ → Compared
  with_more : Compared

-- from which budgets, and what the second has beside each
abbrev pub Compares : Compared → ℕ → Type 0
Compares (within b) n = n ≤ b
Compares with_more n = Unit {0}

abbrev pub budget_beside : Compared → ℕ → ℕ
budget_beside (within b) n = n
budget_beside with_more n = suc n

abbrev pub beside : Compared → State → State
beside b s = record s { budget = budget_beside b s.budget }

abbrev pub HasMore : Compared → Type 0
HasMore (within b) = ⊥
HasMore with_more = Unit {0}

pub data Alike (b : Compared) : Out → Out → Type 0 where
  both_go : {es : List Event} {s : State} {c : Completion} → Compares b s.budget → Alike b (goes es s c) (goes es (beside b s) c)
  both_stop : {es : List Event} {e : Ending} → Alike b (stops es e) (stops es e)
  used_up : {es : List Event} {o : Out} → HasMore b → Alike b (stops es Ending.out) o

pub record Same (b : Compared) (m n : M) : Type 0 where
  pub at : (s : State) → Compares b s.budget → Alike b (m s) (n (beside b s))

pub alike_more : {b : Compared} {o p : Out} (es : List Event) → Alike b o p → Alike b (more es o) (more es p)
alike_more es (both_go i) = both_go i
alike_more es both_stop = both_stop
alike_more es (used_up y) = used_up y

pub same_done : {b : Compared} (c : Completion) → Same b (done c) (done c)
unfolding done
same_done c = record { at = λ s i. both_go i }

pub same_stop : {b : Compared} (e : Ending) → Same b (stop e) (stop e)
unfolding stop
same_stop e = record { at = λ s i. both_stop }

pub same_bind : {b : Compared} {m n : M} {k l : Completion → M} → Same b m n → ((c : Completion) → Same b (k c) (l c)) → Same b (bind m k) (bind n l)
unfolding bind
same_bind {b} {m} {n} {k} {l} h g = record { at = λ s i. go (m s) (n (beside b s)) (h.at s i) }
  where
    go : (o p : Out) → Alike b o p → Alike b (go_on o k) (go_on p l)
    go _ _ (both_go {es = es} {s = s} {c = c} i) = alike_more es ((g c).at s i)
    go _ _ both_stop = both_stop
    go _ _ (used_up y) = used_up y

pub same_choose : {b : Compared} {m n k l : M} (t : Bool) → Same b m n → Same b k l → Same b (choose t m k) (choose t n l)
unfolding choose
same_choose true h g = h
same_choose false h g = g

pub same_if_normal : {b : Compared} {m n : M} → Same b m n → (c : Completion) → Same b (if_normal m c) (if_normal n c)
same_if_normal h normal = h
same_if_normal h (gives v r) = same_stop _
same_if_normal h (gives_all vs) = same_stop _
same_if_normal h (refers p) = same_stop _
same_if_normal h (breaks o) = same_done _
same_if_normal h (continues o) = same_done _
same_if_normal h (returns v) = same_done _
same_if_normal h (throws v) = same_done _

pub same_seq : {b : Compared} {m n k l : M} → Same b m n → Same b k l → Same b (seq m k) (seq n l)
same_seq h g = same_bind h (same_if_normal g)

same_if_gives : {b : Compared} {k l : Value → Value → M} → ((v r : Value) → Same b (k v r) (l v r)) → (c : Completion) → Same b (if_gives k c) (if_gives l c)
same_if_gives h normal = same_stop _
same_if_gives h (gives v r) = h v r
same_if_gives h (gives_all vs) = same_stop _
same_if_gives h (refers p) = same_stop _
same_if_gives h (breaks o) = same_stop _
same_if_gives h (continues o) = same_stop _
same_if_gives h (returns v) = same_stop _
same_if_gives h (throws v) = same_done _

pub same_receiver : {b : Compared} {m n : M} {k l : Value → Value → M} → Same b m n → ((v r : Value) → Same b (k v r) (l v r)) → Same b (with_receiver m k) (with_receiver n l)
same_receiver h g = same_bind h (same_if_gives g)

pub same_value : {b : Compared} {m n : M} {k l : Value → M} → Same b m n → ((v : Value) → Same b (k v) (l v)) → Same b (with_value m k) (with_value n l)
same_value h g = same_bind h (same_if_gives (λ v r. g v))

same_if_all : {b : Compared} {k l : List Value → M} → ((vs : List Value) → Same b (k vs) (l vs)) → (c : Completion) → Same b (if_gives_all k c) (if_gives_all l c)
same_if_all h normal = same_stop _
same_if_all h (gives v r) = same_stop _
same_if_all h (gives_all vs) = h vs
same_if_all h (refers p) = same_stop _
same_if_all h (breaks o) = same_stop _
same_if_all h (continues o) = same_stop _
same_if_all h (returns v) = same_stop _
same_if_all h (throws v) = same_done _

pub same_all : {b : Compared} {m n : M} {k l : List Value → M} → Same b m n → ((vs : List Value) → Same b (k vs) (l vs)) → Same b (with_all m k) (with_all n l)
same_all h g = same_bind h (same_if_all g)

same_if_refers : {b : Compared} {k l : Place → M} → ((p : Place) → Same b (k p) (l p)) → (c : Completion) → Same b (if_refers k c) (if_refers l c)
same_if_refers h normal = same_stop _
same_if_refers h (gives v r) = same_stop _
same_if_refers h (gives_all vs) = same_stop _
same_if_refers h (refers p) = h p
same_if_refers h (breaks o) = same_stop _
same_if_refers h (continues o) = same_stop _
same_if_refers h (returns v) = same_stop _
same_if_refers h (throws v) = same_done _

pub same_place : {b : Compared} {m n : M} {k l : Place → M} → Same b m n → ((p : Place) → Same b (k p) (l p)) → Same b (with_place m k) (with_place n l)
same_place h g = same_bind h (same_if_refers g)

-- acts on the state

pub same_alloc : {b : Compared} {k l : ℕ → M} (c : Cell) → ((i : ℕ) → Same b (k i) (l i)) → Same b (alloc c k) (alloc c l)
unfolding alloc
same_alloc c h = record { at = λ s i. (h s.fresh).at _ i }

pub same_read : {b : Compared} {k l : Cell → M} (n : ℕ) → ((c : Cell) → Same b (k c) (l c)) → Same b (read n k) (read n l)
unfolding read
same_read n h = record { at = λ s i. (h (s.store n)).at s i }

pub same_store : {b : Compared} {m n : M} (i : ℕ) (c : Cell) → Same b m n → Same b (store i c m) (store i c n)
unfolding store
same_store i c h = record { at = λ s i. h.at _ i }

pub same_identity : {b : Compared} {k l : ℕ → M} → ((i : ℕ) → Same b (k i) (l i)) → Same b (identity k) (identity l)
unfolding identity
same_identity h = record { at = λ s i. (h s.fresh).at _ i }

pub same_raise : {b : Compared} (e : ErrorKind) → Same b (raise e) (raise e)
same_raise e = same_identity (λ i. same_done _)

pub same_get_global : {b : Compared} {k l : Option Value → M} (x : Text) → ((o : Option Value) → Same b (k o) (l o)) → Same b (get_global x k) (get_global x l)
unfolding get_global
same_get_global x h = record { at = λ s i. (h (s.globals x)).at s i }

pub same_set_global : {b : Compared} {m n : M} (x : Text) (o : Option Value) → Same b m n → Same b (set_global x o m) (set_global x o n)
unfolding set_global
same_set_global x o h = record { at = λ s i. h.at _ i }

pub same_get_import : {b : Compared} {k l : Option Value → M} (source x : Text) → ((o : Option Value) → Same b (k o) (l o)) → Same b (get_import source x k) (get_import source x l)
unfolding get_import
same_get_import source x h = record { at = λ s i. (h (s.imports source x)).at s i }

pub same_set_import : {b : Compared} {m n : M} (source x : Text) (o : Option Value) → Same b m n → Same b (set_import source x o m) (set_import source x o n)
unfolding set_import
same_set_import source x o h = record { at = λ s i. h.at _ i }

pub same_with_moves : {b : Compared} {k l : List Move → M} → ((ms : List Move) → Same b (k ms) (l ms)) → Same b (with_moves k) (with_moves l)
unfolding with_moves
same_with_moves h = record { at = λ s i. (h s.moves).at s i }

pub same_set_moves : {b : Compared} {m n : M} (ms : List Move) → Same b m n → Same b (set_moves ms m) (set_moves ms n)
unfolding set_moves
same_set_moves ms h = record { at = λ s i. h.at _ i }

pub same_with_exports : {b : Compared} {k l : List Export → List Text → M} → ((es : List Export) (xs : List Text) → Same b (k es xs) (l es xs)) → Same b (with_exports k) (with_exports l)
unfolding with_exports
same_with_exports h = record { at = λ s i. (h s.exports s.stars).at s i }

pub same_set_exports : {b : Compared} {m n : M} (es : List Export) (xs : List Text) → Same b m n → Same b (set_exports es xs m) (set_exports es xs n)
unfolding set_exports
same_set_exports es xs h = record { at = λ s i. h.at _ i }

pub same_put_event : {b : Compared} {m n : M} (e : Event) → Same b m n → Same b (put_event e m) (put_event e n)
unfolding put_event
same_put_event e h = record { at = λ s i. alike_more (e ∷ []) (h.at s i) }

pub same_compare : {b : Compared} {k l : Bool → M} (v u : Value) → ((t : Bool) → Same b (k t) (l t)) → Same b (compare v u k) (compare v u l)
unfolding compare
same_compare v u h = record { at = λ s i. (h _).at s i }

-- showing

abbrev AlikeAfter : {A : Type 0} → Compared → After A → After A → Type 0
AlikeAfter {A} b k l = (x : A) (vs : List Value) → Alike b (k x vs) (l x vs)

alike_own : {b : Compared} {content : List Value → After Parts → Out} {k l : After Shown} (o : Option ℕ) (v : Value) (sort : Sort) (vs : List Value) → ((k l : After Parts) (vs : List Value) → AlikeAfter b k l → Alike b (content vs k) (content vs l)) → AlikeAfter b k l → Alike b (show_own o v sort vs content k) (show_own o v sort vs content l)
alike_own (Some n) v sort vs c h = h _ vs
alike_own None v sort vs c h = c _ _ _ (λ parts. h _)

mutual
  alike_shown : {b : Compared} {k l : After Shown} (v : Value) (vs : List Value) → AlikeAfter b k l → Alike b (show_in v vs k) (show_in v vs l)
  alike_shown (plain p) vs h = h _ vs
  alike_shown (closure i f a env) vs h = alike_own (number_of i vs 0) (closure i f a env) _ vs (λ k l vs h. h _ vs) h
  alike_shown (object i c) vs h = alike_own (number_of i vs 0) (object i c) _ vs (λ k l vs h. alike_content c vs h) h
  alike_shown (array i c) vs h = alike_own (number_of i vs 0) (array i c) _ vs (λ k l vs h. alike_content c vs h) h
  alike_shown (error i e) vs h = alike_own (number_of i vs 0) (error i e) _ vs (λ k l vs h. h _ vs) h

  alike_content : {b : Compared} (c : Content) {k l : After Parts} (vs : List Value) → AlikeAfter b k l → Alike b (show_content c vs k) (show_content c vs l)
  alike_content no_content vs h = h _ vs
  alike_content (element v c) vs h = alike_shown v vs (λ x vs. alike_content c vs (λ parts. h (shows x parts)))
  alike_content (property key v c) vs h = alike_shown v vs (λ x vs. alike_content c vs (λ parts. h (shows_at key x parts)))

pub same_show : {b : Compared} {k l : Shown → M} (v : Value) → ((x : Shown) → Same b (k x) (l x)) → Same b (show v k) (show v l)
unfolding show
same_show v h = record { at = λ s i. alike_shown v s.shown (λ x vs. (h x).at (record s { shown = vs }) i) }

pub same_show_all : {b : Compared} {k l : List Shown → M} (vs : List Value) → ((xs : List Shown) → Same b (k xs) (l xs)) → Same b (show_all vs k) (show_all vs l)
unfolding show_all
same_show_all [] h = h []
same_show_all (v ∷ vs) h = same_show v (λ x. same_show_all vs (λ xs. h (x ∷ xs)))

same_cell : {b : Compared} {k l : ShownExport → M} (x : Text) (c : Cell) → ((e : ShownExport) → Same b (k e) (l e)) → Same b (show_cell x c k) (show_cell x c l)
same_cell x (cell constant None) h = h _
same_cell x (cell constant (Some v)) h = same_show v (λ y. h _)

same_export : {b : Compared} {k l : ShownExport → M} (x : Text) (slot : Slot) → ((e : ShownExport) → Same b (k e) (l e)) → Same b (show_export x slot k) (show_export x slot l)
same_export x (local c) h = same_read c (λ held. same_cell x held h)
same_export x (imported source name) h = h _
same_export x arguments_object h = same_stop _

same_exports : {b : Compared} {k l : List ShownExport → M} (es : List Export) → ((xs : List ShownExport) → Same b (k xs) (l xs)) → Same b (show_exports es k) (show_exports es l)
unfolding show_exports
same_exports [] h = h []
same_exports (export x slot ∷ es) h = same_export x slot (λ e. same_exports es (λ shown. h (e ∷ shown)))

pub same_shown_exports : {b : Compared} {k l : ShownExports → M} → ((x : ShownExports) → Same b (k x) (l x)) → Same b (with_shown_exports k) (with_shown_exports l)
same_shown_exports h = same_with_exports (λ es stars. same_exports es (λ names. h _))

pub same_emit : {b : Compared} {m n : M} (act : Act) → Same b m n → Same b (emit act m) (emit act n)
unfolding emit
same_emit act h = same_shown_exports (λ exports. same_put_event (record { act = act; exports = exports }) h)

same_some : {b : Compared} {k l : Value → M} (o : Option Value) → ((v : Value) → Same b (k v) (l v)) → Same b (if_some o k) (if_some o l)
same_some None h = same_stop _
same_some (Some v) h = h v

pub same_resolve : {b : Compared} {k l : Value → M} (x : Given) → ((v : Value) → Same b (k v) (l v)) → Same b (resolve x k) (resolve x l)
unfolding resolve
same_resolve x h = record { at = λ s i. (same_some (named x s.shown) h).at s i }

pub same_resolve_all : {b : Compared} {k l : List Value → M} (xs : List Given) → ((vs : List Value) → Same b (k vs) (l vs)) → Same b (resolve_all xs k) (resolve_all xs l)
unfolding resolve_all
same_resolve_all [] h = h []
same_resolve_all (x ∷ xs) h = same_resolve x (λ v. same_resolve_all xs (λ vs. h (v ∷ vs)))

pub same_resolve_maybe : {b : Compared} {k l : Option Value → M} (o : Option Given) → ((v : Option Value) → Same b (k v) (l v)) → Same b (resolve_maybe o k) (resolve_maybe o l)
same_resolve_maybe None h = h None
same_resolve_maybe (Some x) h = same_resolve x (λ v. h (Some v))

-- scopes

same_slot : {b : Compared} {k l : Slot → M} (way : Way) → ((slot : Slot) → Same b (k slot) (l slot)) → Same b (with_slot way k) (with_slot way l)
same_slot (waiting constant) h = same_alloc _ (λ c. h _)
same_slot ready h = same_alloc _ (λ c. h _)
same_slot (linked source name) h = h _
same_slot left_out h = h _

pub same_declare : {b : Compared} {k l : Env → M} (ds : List Decl) (env : Env) → ((env : Env) → Same b (k env) (l env)) → Same b (declare ds env k) (declare ds env l)
unfolding declare
same_declare [] env h = h env
same_declare (decl x way ∷ ds) env h = same_slot way (λ slot. same_declare ds (bound x slot ∷ env) h)

pub same_fill : {b : Compared} {m n : M} (o : Option Slot) (v : Value) → Same b m n → Same b (fill o v m) (fill o v n)
same_fill None v h = same_stop _
same_fill (Some (local c)) v h = same_read c (λ old. same_store c (initialised old v) h)
same_fill (Some (imported source x)) v h = same_stop _
same_fill (Some arguments_object) v h = same_stop _

same_start_function : {b : Compared} {m n : M} (o : Option Text) (a : Forest) (env : Env) → Same b m n → Same b (start_function o a env m) (start_function o a env n)
same_start_function None a env h = h
same_start_function (Some x) a env h = same_identity (λ i. same_fill (look env x) (closure i function_kind.Declaration a env) h)

abbrev SameBelow : Compared → (M → M) → Type 0
SameBelow b inner = (m n : M) → Same b m n → Same b (inner m) (inner n)

same_start_default : {b : Compared} {inner : M → M} {m n : M} (a : Forest) (env : Env) → SameBelow b inner → Same b m n → Same b (start_default a inner env m) (start_default a inner env n)
same_start_default nothing env g h = g _ _ h
same_start_default (absent r) env g h = g _ _ h
same_start_default (node (Kind.Function function_kind.Declaration pure) n a r) env g h = same_start_function (Some (name_or_default (first_name a))) a env h
same_start_default (node _ n a r) env g h = g _ _ h

same_start_item : {b : Compared} {inner : M → M} {m n : M} (k : Kind) (a : Forest) (env : Env) → SameBelow b inner → Same b m n → Same b (start_item k a inner env m) (start_item k a inner env n)
same_start_item (Kind.Function function_kind.Declaration pure) a env g h = same_start_function (first_name a) a env h
same_start_item (Kind.ExportNamedDeclaration None) a env g h = g _ _ h
same_start_item Kind.ExportDefaultDeclaration a env g h = same_start_default a env g h
same_start_item Kind.FunctionBody a env g h = g _ _ h
same_start_item Kind.Statements a env g h = g _ _ h
same_start_item Kind.Cases a env g h = g _ _ h
same_start_item Kind.SwitchCase a env g h = g _ _ h
same_start_item _ a env g h = h

pub same_start : {b : Compared} {m n : M} (a : Forest) (env : Env) → Same b m n → Same b (start a env m) (start a env n)
unfolding start
same_start nothing env h = h
same_start (absent r) env h = same_start r env h
same_start (node k n a r) env h = same_start_item k a env (λ m n h. same_start a env h) (same_start r env h)

same_copy_slot : {b : Compared} {k l : Env → M} (o : Option Slot) (x : Text) (env : Env) → ((env : Env) → Same b (k env) (l env)) → Same b (copy_slot o x env k) (copy_slot o x env l)
same_copy_slot None x env h = h env
same_copy_slot (Some (local c)) x env h = same_read c (λ old. same_alloc old (λ i. h _))
same_copy_slot (Some (imported source y)) x env h = h env
same_copy_slot (Some arguments_object) x env h = h env

pub same_copy : {b : Compared} {k l : Env → M} (ds : List Decl) (env : Env) → ((env : Env) → Same b (k env) (l env)) → Same b (copy ds env k) (copy ds env l)
unfolding copy
same_copy [] env h = h env
same_copy (decl x way ∷ ds) env h = same_copy_slot (look env x) x env (λ env. same_copy ds env h)

same_bound : {b : Compared} {k l : Slot → M} (o : Option Slot) → ((slot : Slot) → Same b (k slot) (l slot)) → Same b (if_bound o k) (if_bound o l)
same_bound None h = same_stop _
same_bound (Some slot) h = h slot

pub same_entries : {b : Compared} {k l : List Export → M} (es : List Entry) (env : Env) → ((xs : List Export) → Same b (k xs) (l xs)) → Same b (resolve_entries es env k) (resolve_entries es env l)
unfolding resolve_entries
same_entries [] env h = h []
same_entries (entry_local x y ∷ es) env h = same_bound (look env y) (λ slot. same_entries es env (λ xs. h _))
same_entries (entry_import x source name ∷ es) env h = same_entries es env (λ xs. h _)
