-- The acts that expressions are made of, as to what they give.
use Rattle.std.proofs.Common.{◌≡◌, ℕ, List, [], ◌∷◌, Bool, true, false, Option, Some, None, refl}
use Rattle.js_meaning.specs.Value.{Text, Slot, local, imported, arguments_object, Env, bound, Value}
use Rattle.js_meaning.specs.Trace.{Event, Ending}
use Rattle.js_meaning.specs.State.{Cell, cell, Export, Completion, normal, gives, gives_all, refers, breaks, continues, returns, throws, Place, Out, goes, stops, M, more, go_on, bind, done, stop, unknown, give, choose, if_gives, with_value, if_gives_all, with_all, if_refers, with_place, alloc, read, store, identity, get_global, set_global, get_import, with_exports, put_event}
use Rattle.js_meaning.specs.Scope.{Decl, decl, Way, waiting, ready, linked, left_out, with_slot, declare, initialised, fill}
use Rattle.js_values.specs.Gives.{OfValue, IsSo, Ends, Gives}

pub so_more : (W : Completion → Type 0) (es : List Event) (o : Out) → IsSo W o → IsSo W (more es o)
so_more W es (goes fs s c) h = h
so_more W es (stops fs e) h = tt

so_any : (o : Out) → IsSo (λ c. Unit {0}) o
so_any (goes es s c) = tt
so_any (stops es e) = tt

pub ends_any : (m : M) → Ends (λ c. Unit {0}) m
ends_any m = record { at = λ s. so_any (m s) }

pub ends_stop : {W : Completion → Type 0} (e : Ending) → Ends W (stop e)
unfolding stop
ends_stop e = record { at = λ s. tt }

pub ends_unknown : {W : Completion → Type 0} → Ends W unknown
ends_unknown = ends_stop Ending.uncovered

pub ends_done : {W : Completion → Type 0} (c : Completion) → W c → Ends W (done c)
unfolding done
ends_done c h = record { at = λ s. h }

pub gives_give : {P : Value → Type 0} (v : Value) → P v → Gives P (give v)
gives_give v h = ends_done _ h

pub ends_choose : {W : Completion → Type 0} {m n : M} (b : Bool) → (b ≡ true → Ends W m) → (b ≡ false → Ends W n) → Ends W (choose b m n)
unfolding choose
ends_choose true h g = h refl
ends_choose false h g = g refl

pub ends_bind : {First W : Completion → Type 0} {m : M} {k : Completion → M} → Ends First m → ((c : Completion) → First c → Ends W (k c)) → Ends W (bind m k)
unfolding bind
ends_bind {First} {W} {m} {k} h g = record { at = λ s. after (m s) (h.at s) }
  where
    after : (o : Out) → IsSo First o → IsSo W (go_on o k)
    after (goes es z c) w = so_more W es (k c z) ((g c w).at z)
    after (stops es e) w = tt

pub gives_with : {P Q : Value → Type 0} {m : M} {k : Value → M} → Gives P m → ((v : Value) → P v → Gives Q (k v)) → Gives Q (with_value m k)
gives_with {P} {Q} {m} {k} h g = ends_bind h after
  where
    after : (c : Completion) → OfValue P c → Gives Q (if_gives (λ v r. k v) c)
    after (gives v r) w = g v w
    after (throws v) w = ends_done (throws v) tt
    after normal w = ends_unknown
    after (gives_all vs) w = ends_unknown
    after (refers p) w = ends_unknown
    after (breaks o) w = ends_unknown
    after (continues o) w = ends_unknown
    after (returns v) w = ends_unknown

-- whatever value it is
pub ends_with : {W : Completion → Type 0} (m : M) (k : Value → M) → ((v : Value) → Ends W (k v)) → ((v : Value) → W (throws v)) → Ends W (with_value m k)
ends_with {W} m k h thrown = ends_bind (ends_any m) after
  where
    after : (c : Completion) → Unit {0} → Ends W (if_gives (λ v r. k v) c)
    after (gives v r) w = h v
    after (throws v) w = ends_done (throws v) (thrown v)
    after normal w = ends_unknown
    after (gives_all vs) w = ends_unknown
    after (refers p) w = ends_unknown
    after (breaks o) w = ends_unknown
    after (continues o) w = ends_unknown
    after (returns v) w = ends_unknown

so_some : (o : Out) → IsSo (OfValue (λ v. Unit {0})) o
so_some (goes es s (gives v r)) = tt
so_some (goes es s normal) = tt
so_some (goes es s (gives_all vs)) = tt
so_some (goes es s (refers p)) = tt
so_some (goes es s (breaks o)) = tt
so_some (goes es s (continues o)) = tt
so_some (goes es s (returns v)) = tt
so_some (goes es s (throws v)) = tt
so_some (stops es e) = tt

-- some value
pub gives_some : (m : M) → Gives (λ v. Unit {0}) m
gives_some m = record { at = λ s. so_some (m s) }

so_each : {P : Value → Type 0} → ((v : Value) → P v) → (o : Out) → IsSo (OfValue P) o
so_each h (goes es s (gives v r)) = h v
so_each h (goes es s normal) = tt
so_each h (goes es s (gives_all vs)) = tt
so_each h (goes es s (refers p)) = tt
so_each h (goes es s (breaks o)) = tt
so_each h (goes es s (continues o)) = tt
so_each h (goes es s (returns v)) = tt
so_each h (goes es s (throws v)) = tt
so_each h (stops es e) = tt

-- where any value will do
pub gives_each : {P : Value → Type 0} → ((v : Value) → P v) → (m : M) → Gives P m
gives_each h m = record { at = λ s. so_each h (m s) }

pub gives_with_all : {Q : Value → Type 0} {k : List Value → M} (m : M) → ((vs : List Value) → Gives Q (k vs)) → Gives Q (with_all m k)
gives_with_all {Q} {k} m g = ends_bind (ends_any m) after
  where
    after : (c : Completion) → Unit {0} → Gives Q (if_gives_all k c)
    after (gives_all vs) w = g vs
    after (throws v) w = ends_done (throws v) tt
    after normal w = ends_unknown
    after (gives v r) w = ends_unknown
    after (refers p) w = ends_unknown
    after (breaks o) w = ends_unknown
    after (continues o) w = ends_unknown
    after (returns v) w = ends_unknown

pub gives_with_place : {Q : Value → Type 0} {k : Place → M} (m : M) → ((p : Place) → Gives Q (k p)) → Gives Q (with_place m k)
gives_with_place {Q} {k} m g = ends_bind (ends_any m) after
  where
    after : (c : Completion) → Unit {0} → Gives Q (if_refers k c)
    after (refers p) w = g p
    after (throws v) w = ends_done (throws v) tt
    after normal w = ends_unknown
    after (gives v r) w = ends_unknown
    after (gives_all vs) w = ends_unknown
    after (breaks o) w = ends_unknown
    after (continues o) w = ends_unknown
    after (returns v) w = ends_unknown

-- ---- cells and names

module _ {W : Completion → Type 0} where
  pub ends_alloc : {k : ℕ → M} (c : Cell) → ((i : ℕ) → Ends W (k i)) → Ends W (alloc c k)
  unfolding alloc
  ends_alloc c h = record { at = λ s. (h _).at _ }

  pub ends_identity : {k : ℕ → M} → ((i : ℕ) → Ends W (k i)) → Ends W (identity k)
  unfolding identity
  ends_identity h = record { at = λ s. (h _).at _ }

  pub ends_read : {k : Cell → M} (i : ℕ) → ((c : Cell) → Ends W (k c)) → Ends W (read i k)
  unfolding read
  ends_read i h = record { at = λ s. (h _).at s }

  pub ends_store : {m : M} (i : ℕ) (c : Cell) → Ends W m → Ends W (store i c m)
  unfolding store
  ends_store i c h = record { at = λ s. h.at _ }

  pub ends_fill : {m : M} (o : Option Slot) (v : Value) → Ends W m → Ends W (fill o v m)
  ends_fill (Some (local c)) v h = ends_read c (λ old. ends_store c (initialised old v) h)
  ends_fill (Some (imported source x)) v h = ends_unknown
  ends_fill (Some arguments_object) v h = ends_unknown
  ends_fill None v h = ends_unknown

  ends_slot : {k : Slot → M} (way : Way) → ((slot : Slot) → Ends W (k slot)) → Ends W (with_slot way k)
  ends_slot (waiting constant) h = ends_alloc (cell constant None) (λ c. h (local c))
  ends_slot ready h = ends_alloc _ (λ c. h (local c))
  ends_slot (linked source name) h = h (imported source name)
  ends_slot left_out h = h arguments_object

  pub ends_declare : {k : Env → M} (ds : List Decl) (env : Env) → ((env : Env) → Ends W (k env)) → Ends W (declare ds env k)
  unfolding declare
  ends_declare [] env h = h env
  ends_declare (decl x way ∷ ds) env h = ends_slot way (λ slot. ends_declare ds (bound x slot ∷ env) h)

  pub ends_global : {k : Option Value → M} (x : Text) → ((o : Option Value) → Ends W (k o)) → Ends W (get_global x k)
  unfolding get_global
  ends_global x h = record { at = λ s. (h _).at s }

  pub ends_set_global : {m : M} (x : Text) (o : Option Value) → Ends W m → Ends W (set_global x o m)
  unfolding set_global
  ends_set_global x o h = record { at = λ s. h.at _ }

  pub ends_import : {k : Option Value → M} (source x : Text) → ((o : Option Value) → Ends W (k o)) → Ends W (get_import source x k)
  unfolding get_import
  ends_import source x h = record { at = λ s. (h _).at s }

  pub ends_exports : {k : List Export → List Text → M} → ((es : List Export) (stars : List Text) → Ends W (k es stars)) → Ends W (with_exports k)
  unfolding with_exports
  ends_exports h = record { at = λ s. (h _ _).at s }

  pub ends_event : {m : M} (e : Event) → Ends W m → Ends W (put_event e m)
  unfolding put_event
  ends_event {m} e h = record { at = λ s. so_more W (e ∷ []) (m s) (h.at s) }

-- ---- from one wish to another

so_map : {P Q : Value → Type 0} → ((v : Value) → P v → Q v) → (o : Out) → IsSo (OfValue P) o → IsSo (OfValue Q) o
so_map f (goes es s (gives v r)) h = f v h
so_map f (goes es s normal) h = tt
so_map f (goes es s (gives_all vs)) h = tt
so_map f (goes es s (refers p)) h = tt
so_map f (goes es s (breaks o)) h = tt
so_map f (goes es s (continues o)) h = tt
so_map f (goes es s (returns v)) h = tt
so_map f (goes es s (throws v)) h = tt
so_map f (stops es e) h = tt

pub gives_map : {P Q : Value → Type 0} {m : M} → Gives P m → ((v : Value) → P v → Q v) → Gives Q m
gives_map {P} {Q} {m} h f = record { at = λ s. so_map f (m s) (h.at s) }
