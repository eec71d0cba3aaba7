-- Names in both runs: what an entry declares, how names are initialised, read, written and copied.
use Rattle.std.proofs.Common.{◌≡◌, ℕ, List, [], ◌∷◌, Option, Some, None, refl, sym, ◌∙◌, subst}
use Rattle.std.proofs.lemmas.Slice.Eq.{bytes_eq-Decides}
use Rattle.std.specs.Prelude.{Bool, true, false, is_some, if◌then◌else◌}
use Rattle.std.specs.Str.{bytes_eq}
use Rattle.js_meaning.specs.Value.{Text, Slot, local, imported, arguments_object, bound, Env, Plain, Value, plain, undef, type_error, reference_error}
use Rattle.js_meaning.specs.Trace.{Act}
use Rattle.js_meaning.specs.State.{M, Cell, cell, done, give, refers, at_global}
use Rattle.js_meaning.specs.Scope.{Way, waiting, ready, linked, left_out, Decl, look, with_slot, declare, initialised, fill, copy_slot, copy}
use Rattle.js_meaning.specs.Reference.{Global, the_undefined, no_whole_number, usual, global_named, if_set, cell_value, slot_value, if_there, global_value, name_value, or_undefined, typeof_name, assign_cell, assign_import, assign_slot, assign_present, assign_global, name_place}
use Rattle.js_meaning_near.specs.Names.{Status, undeclared, loose, owing, live, dead, unread, Fact, exactly, silent_function, owed_function, known, Names, with_name, Usable, Writable, Fillable, HasCell, Lone, Allowed, Declared, IsBound, Binds, Decls, no_decls, in_both, in_both_known, in_both_unread, in_old_again, in_old, Copied, copied_end, copied_both, copied_old}
use Rattle.js_meaning_near.specs.Wasted.{Meets}
use Rattle.js_meaning_near.proofs.Worlds.{Rule, any_value, only_value, both, slack, World, In, Sub, same, later}
use Rattle.js_meaning_near.proofs.Relations.{HoldsCell, SameSlot, same_local, same_import, same_arguments, LeftSlot, left_local, left_import, left_arguments, RightSlot, right_local, At, at_nowhere, at_live, at_loose, at_owing, Owed, Spare, spare_later, at_known, at_dead, at_unread, Envs, Same, same_plain, SameOpt, same_none, same_some, SameCell, same_cell, same_refers, same_at_slot, same_at_global, Obeys, Acts, left_later, right_later, envs_later, same_later}
use Rattle.js_meaning_near.proofs.Acts.{acts_later, done_acts, unknown_acts, choose_acts, give_acts, raise_acts, alloc_rule, alloc_acts, alloc_left, alloc_right, read_rule, read_acts, read_obeyed, read_left, read_right, store_rule, store_acts, store_left, store_right, get_global_acts, set_global_acts, get_import_acts}
use Rattle.js_meaning_near.proofs.Showing.{show_acts, emit_acts}

-- environments

at_if : {w : World} {s t : Status} {o p o2 p2 : Option Slot} (b : Bool) → At w s o p → At w t o2 p2 → At w (if b then s else t) (if b then o else o2) (if b then p else p2)
at_if true x y = x
at_if false x y = y

at_if_old : {w : World} {t : Status} {o p : Option Slot} {s : Slot} (b : Bool) → LeftSlot w s → At w t o p → At w (if b then dead else t) (if b then Some s else o) p
at_if_old true l y = at_dead l
at_if_old false l y = y

env_both : {w : World} {st : Names} {e f : Env} {x : Text} {s z : Slot} → SameSlot w any_value s z → Envs w st e f → Envs w (with_name st x live) (bound x s ∷ e) (bound x z ∷ f)
env_both {x = x} l r = record { at = λ y. at_if (bytes_eq x y) (at_live l) (r.at y) }

env_known : {w : World} {st : Names} {e f : Env} {x : Text} {c d : ℕ} {p : Fact} → Spare p w → In (both c d (only_value p)) w → Envs w st e f → Envs w (with_name st x (known p)) (bound x (local c) ∷ e) (bound x (local d) ∷ f)
env_known {x = x} i l r = record { at = λ y. at_if (bytes_eq x y) (at_known i l) (r.at y) }

env_unread : {w : World} {st : Names} {e f : Env} {x : Text} {s z : Slot} → LeftSlot w s → RightSlot w z → Envs w st e f → Envs w (with_name st x unread) (bound x s ∷ e) (bound x z ∷ f)
env_unread {x = x} l k r = record { at = λ y. at_if (bytes_eq x y) (at_unread l k) (r.at y) }

env_old : {w : World} {st : Names} {e f : Env} {x : Text} {s : Slot} → LeftSlot w s → Envs w st e f → Envs w (with_name st x dead) (bound x s ∷ e) f
env_old {x = x} l r = record { at = λ y. at_if_old (bytes_eq x y) l (r.at y) }

pub no_envs : {w : World} → Envs w (λ x. undeclared) [] []
no_envs = record { at = λ x. at_nowhere }

pub loose_envs : {w : World} → In slack w → Envs w (λ x. loose) [] []
loose_envs i = record { at = λ x. at_loose i }

pub owing_envs : {w : World} → Owed w → Envs w (λ x. owing) [] []
owing_envs o = record { at = λ x. at_owing o }

loose_slack : {w : World} {o p : Option Slot} → At w loose o p → In slack w
loose_slack (at_loose i) = i

owing_owed : {w : World} {o p : Option Slot} → At w owing o p → Owed w
owing_owed (at_owing o) = o

spare_of : {w : World} {st : Names} {e f : Env} (p : Fact) → Allowed p st → Envs w st e f → Spare p w
spare_of (exactly p) y r = tt
spare_of {w = w} {e = e} {f = f} silent_function (y, q) r = loose_slack (subst (λ t. At w t (look e y) (look f y)) q (r.at y))
spare_of {w = w} {e = e} {f = f} owed_function (y, q) r = owing_owed (subst (λ t. At w t (look e y) (look f y)) q (r.at y))

bound_at : {w : World} {s : Status} {o p : Option Slot} → At w s o p → Declared s → IsBound o
bound_at at_nowhere d = d
bound_at (at_loose i) d = d
bound_at (at_owing o) d = d
bound_at (at_live l) d = tt
bound_at (at_known i l) d = tt
bound_at (at_dead l) d = tt
bound_at (at_unread l k) d = tt

pub envs_bind : {w : World} {st : Names} {e f : Env} → Envs w st e f → Binds st e
envs_bind r = λ x d. bound_at (r.at x) d

-- a name bound anew to the like of what it was bound to

env_again : {w : World} {st : Names} {e f : Env} (x : Text) {s z : Slot} → At w (st x) (Some s) (Some z) → Envs w st e f → Envs w st (bound x s ∷ e) (bound x z ∷ f)
env_again {w = w} {st = st} {e = e} {f = f} x {s = s} {z = z} a r = record { at = λ y. go y (bytes_eq x y) refl }
  where
    go : (y : Text) (b : Bool) → bytes_eq x y ≡ b → At w (st y) (if b then Some s else look e y) (if b then Some z else look f y)
    go y true p = subst (λ t. At w (st t) (Some s) (Some z)) ((bytes_eq-Decides x y).0 p) a
    go y false p = r.at y

env_again_old : {w : World} {st : Names} {e f : Env} (x : Text) {s : Slot} → At w (st x) (Some s) (look f x) → Envs w st e f → Envs w st (bound x s ∷ e) f
env_again_old {w = w} {st = st} {e = e} {f = f} x {s = s} a r = record { at = λ y. go y (bytes_eq x y) refl }
  where
    go : (y : Text) (b : Bool) → bytes_eq x y ≡ b → At w (st y) (if b then Some s else look e y) (look f y)
    go y true p = subst (λ t. At w (st t) (Some s) (look f t)) ((bytes_eq-Decides x y).0 p) a
    go y false p = r.at y

env_again_new : {w : World} {st : Names} {e f : Env} (x : Text) {z : Slot} → At w (st x) (look e x) (Some z) → Envs w st e f → Envs w st e (bound x z ∷ f)
env_again_new {w = w} {st = st} {e = e} {f = f} x {z = z} a r = record { at = λ y. go y (bytes_eq x y) refl }
  where
    go : (y : Text) (b : Bool) → bytes_eq x y ≡ b → At w (st y) (look e y) (if b then Some z else look f y)
    go y true p = subst (λ t. At w (st t) (look e t) (Some z)) ((bytes_eq-Decides x y).0 p) a
    go y false p = r.at y

lone_with : {w w2 : World} {t : Status} {o p : Option Slot} {s : Slot} → Sub w w2 → Lone t → At w t o p → LeftSlot w2 s → At w2 t (Some s) p
lone_with h y (at_dead l) k = at_dead k
lone_with h y (at_unread l n) k = at_unread k (right_later h n)
lone_with h y at_nowhere k = absurd y
lone_with h y (at_loose i) k = absurd y
lone_with h y (at_owing o) k = absurd y
lone_with h y (at_live l) k = absurd y
lone_with h y (at_known i l) k = absurd y

-- what an entry declares

slot_acts : {w : World} {f g : Slot → M} (way : Way) → ((w2 : World) (s z : Slot) → Sub w w2 → SameSlot w2 any_value s z → Acts w2 (f s) (g z)) → Acts w (with_slot way f) (with_slot way g)
slot_acts (waiting b) k = alloc_acts (same_cell same_none) (λ w2 i j h l. k w2 _ _ h (same_local l))
slot_acts ready k = alloc_acts (same_cell (same_some same_plain)) (λ w2 i j h l. k w2 _ _ h (same_local l))
slot_acts {w = w} (linked source x) k = k w _ _ (same w) same_import
slot_acts {w = w} left_out k = k w _ _ (same w) same_arguments

slot_left : {w : World} {f : Slot → M} {m : M} (way : Way) → ((w2 : World) (s : Slot) → Sub w w2 → LeftSlot w2 s → Acts w2 (f s) m) → Acts w (with_slot way f) m
slot_left (waiting b) k = alloc_left (cell b None) (λ w2 i h l. k w2 _ h (left_local l))
slot_left ready k = alloc_left (cell false (Some undef)) (λ w2 i h l. k w2 _ h (left_local l))
slot_left {w = w} (linked source x) k = k w _ (same w) left_import
slot_left {w = w} left_out k = k w _ (same w) left_arguments

slot_right : {w : World} {m : M} {f : Slot → M} (way : Way) → HasCell way → ((w2 : World) (s : Slot) → Sub w w2 → RightSlot w2 s → Acts w2 m (f s)) → Acts w m (with_slot way f)
slot_right (waiting b) y k = alloc_right (cell b None) (λ w2 i h l. k w2 _ h (right_local l))
slot_right ready y k = alloc_right (cell false (Some undef)) (λ w2 i h l. k w2 _ h (right_local l))
slot_right (linked source x) y k = absurd y
slot_right left_out y k = absurd y

pub declare_acts : {w : World} {st t : Names} {ds es : List Decl} {e f : Env} {j k : Env → M} → Decls st ds es t → Envs w st e f → ((w2 : World) (e f : Env) → Sub w w2 → Envs w2 t e f → Acts w2 (j e) (k f)) → Acts w (declare ds e j) (declare es f k)
unfolding declare
declare_acts {w = w} no_decls r b = b w _ _ (same w) r
declare_acts {w = w} (in_both {way = way} d) r b = slot_acts way (λ w2 s z h l. declare_acts {w = w2} d (env_both l (envs_later h r)) (λ w3 e f g q. b w3 e f (later h g) q))
declare_acts {w = w} (in_both_known p q d) r b = alloc_rule (only_value p) tt (same_cell same_none) (λ w2 i j h l. declare_acts {w = w2} d (env_known (spare_of p q (envs_later h r)) l (envs_later h r)) (λ w3 e f g q. b w3 e f (later h g) q))
declare_acts {w = w} (in_both_unread {way = way} {way2 = way2} y d) r b = slot_left way (λ w2 s h l. slot_right way2 y (λ w3 z g k. declare_acts {w = w3} d (env_unread (left_later g l) k (envs_later (later h g) r)) (λ w4 e f n q. b w4 e f (later (later h g) n) q)))
declare_acts {w = w} {st = st} (in_old_again {x = x} {way = way} y d) r b = slot_left way (λ w2 s h l. declare_acts {w = w2} d (env_again_old x (lone_with h (subst Lone (sym y) tt) (r.at x) l) (envs_later h r)) (λ w3 e f g q. b w3 e f (later h g) q))
declare_acts {w = w} (in_old {way = way} d) r b = slot_left way (λ w2 s h l. declare_acts {w = w2} d (env_old l (envs_later h r)) (λ w3 e f g q. b w3 e f (later h g) q))

-- initialising

initialised_same : {w : World} {c d : Cell} {v u : Value} → SameCell w c d → Same w v u → SameCell w (initialised c v) (initialised d u)
initialised_same (same_cell q) r = same_cell (same_some r)

fill_slot : {w : World} {s z : Slot} {v u : Value} {m k : M} → SameSlot w any_value s z → Same w v u → Acts w m k → Acts w (fill (Some s) v m) (fill (Some z) u k)
fill_slot (same_local l) q a = read_acts tt l (λ w2 c d h r. store_acts (h.kept _ l) (initialised_same r (same_later h q)) (acts_later h a))
fill_slot same_import q a = unknown_acts
fill_slot same_arguments q a = unknown_acts

-- a name that only the old run knows, and one that only the new one knows
fill_slot_old : {w : World} {s : Slot} {m k : M} (v : Value) → LeftSlot w s → Acts w m k → Acts w (fill (Some s) v m) k
fill_slot_old v (left_local {c = c} l) a = read_left c (λ old. store_left (initialised old v) l a)
fill_slot_old v left_import a = unknown_acts
fill_slot_old v left_arguments a = unknown_acts

fill_slot_new : {w : World} {s : Slot} {m k : M} (v : Value) → RightSlot w s → Acts w m k → Acts w m (fill (Some s) v k)
fill_slot_new v (right_local {c = c} l) a = read_right c (λ old. store_right (initialised old v) l a)

pub fill_old : {w : World} {t : Status} {o p : Option Slot} {m k : M} (v : Value) → Lone t → At w t o p → Acts w m k → Acts w (fill o v m) k
fill_old v y (at_dead l) a = fill_slot_old v l a
fill_old v y (at_unread l i) a = fill_slot_old v l a
fill_old v y at_nowhere a = absurd y
fill_old v y (at_loose i) a = absurd y
fill_old v y (at_owing o) a = absurd y
fill_old v y (at_live l) a = absurd y
fill_old v y (at_known i l) a = absurd y

filled_obeys : (p : Fact) (v : Value) (c : Cell) → Meets p v → Obeys (only_value p) (initialised c v)
filled_obeys p v (cell b o) e = e

-- a name of whose value this is known
pub fill_meeting : {w : World} {p : Fact} {o q : Option Slot} {v u : Value} {m k : M} → At w (known p) o q → Meets p v → Same w v u → Acts w m k → Acts w (fill o v m) (fill q u k)
fill_meeting {p = p} {v = v} (at_known i l) e s a = read_acts tt l (λ w2 c d h r. store_rule (h.kept _ l) (filled_obeys p v c e) (initialised_same r (same_later h s)) (acts_later h a))

pub fill_known : {w : World} {p : Plain} {o q : Option Slot} {m k : M} (v : Value) → At w (known (exactly p)) o q → v ≡ plain p → Acts w m k → Acts w (fill o v m) (fill q v k)
fill_known {w = w} v i e a = fill_meeting i e (subst (λ u. Same w u u) (sym e) same_plain) a

-- a name that nothing reads may take one value here and another there
pub fill_unread : {w : World} {o p : Option Slot} {m k : M} (v u : Value) → At w unread o p → Acts w m k → Acts w (fill o v m) (fill p u k)
fill_unread v u (at_unread l i) a = fill_slot_old v l (fill_slot_new u i a)

pub fill_acts : {w : World} {x : Status} {o p : Option Slot} {v u : Value} {m k : M} → At w x o p → Fillable x → Same w v u → Acts w m k → Acts w (fill o v m) (fill p u k)
fill_acts at_nowhere y q a = unknown_acts
fill_acts (at_loose i) y q a = unknown_acts
fill_acts (at_owing o) y q a = unknown_acts
fill_acts (at_live l) y q a = fill_slot l q a
fill_acts (at_known i l) y q a = absurd y
fill_acts (at_dead l) y q a = absurd y
fill_acts (at_unread l i) y q a = fill_unread _ _ (at_unread l i) a

-- reading

if_set_acts : {w : World} {o p : Option Value} → SameOpt w o p → Acts w (if_set o) (if_set p)
if_set_acts same_none = unknown_acts
if_set_acts (same_some q) = give_acts q

cell_value_acts : {w : World} {c d : Cell} → SameCell w c d → Acts w (cell_value c) (cell_value d)
cell_value_acts (same_cell q) = if_set_acts q

pub slot_value_acts : {w : World} {p : Rule} {s z : Slot} → HoldsCell p → SameSlot w p s z → Acts w (slot_value s) (slot_value z)
slot_value_acts u (same_local l) = read_acts u l (λ w2 c d h q. cell_value_acts q)
slot_value_acts u (same_import {source = source} {x = x}) = get_import_acts source x (λ w2 o p h q. if_set_acts q)
slot_value_acts u same_arguments = unknown_acts

if_there_acts : {w : World} {o p : Option Value} → SameOpt w o p → Acts w (if_there o) (if_there p)
if_there_acts same_none = raise_acts reference_error
if_there_acts (same_some q) = give_acts q

global_value_acts : {w : World} {f g : Option Value → M} (o : Global) (x : Text) → ((w2 : World) (o p : Option Value) → Sub w w2 → SameOpt w2 o p → Acts w2 (f o) (g p)) → Acts w (global_value o x f) (global_value o x g)
global_value_acts the_undefined x b = give_acts same_plain
global_value_acts no_whole_number x b = unknown_acts
global_value_acts usual x b = get_global_acts x b

pub global_there_acts : {w : World} (x : Text) → Acts w (global_value (global_named x) x if_there) (global_value (global_named x) x if_there)
global_there_acts x = global_value_acts (global_named x) x (λ w2 o p h q. if_there_acts q)

pub name_value_acts : {w : World} {s : Status} {o p : Option Slot} (x : Text) → At w s o p → Usable s → Acts w (name_value o x) (name_value p x)
name_value_acts x at_nowhere y = global_there_acts x
name_value_acts x (at_loose i) y = global_there_acts x
name_value_acts x (at_owing o) y = global_there_acts x
name_value_acts x (at_live l) y = slot_value_acts tt l
name_value_acts x (at_known {p = p} i l) y = slot_value_acts {p = only_value p} tt (same_local l)
name_value_acts x (at_dead l) y = absurd y
name_value_acts x (at_unread l i) y = absurd y

or_undefined_acts : {w : World} {o p : Option Value} → SameOpt w o p → Acts w (or_undefined o) (or_undefined p)
or_undefined_acts same_none = give_acts same_plain
or_undefined_acts (same_some q) = give_acts q

pub typeof_name_acts : {w : World} {s : Status} {o p : Option Slot} (x : Text) → At w s o p → Usable s → Acts w (typeof_name o x) (typeof_name p x)
typeof_name_acts x at_nowhere y = global_value_acts (global_named x) x (λ w2 o p h q. or_undefined_acts q)
typeof_name_acts x (at_loose i) y = global_value_acts (global_named x) x (λ w2 o p h q. or_undefined_acts q)
typeof_name_acts x (at_owing i) y = global_value_acts (global_named x) x (λ w2 o p h q. or_undefined_acts q)
typeof_name_acts x (at_live l) y = slot_value_acts tt l
typeof_name_acts x (at_known {p = p} i l) y = slot_value_acts {p = only_value p} tt (same_local l)
typeof_name_acts x (at_dead l) y = absurd y
typeof_name_acts x (at_unread l i) y = absurd y

-- a name that holds a known value, and that value

known_cell : {w : World} {p : Plain} {u : Value} (c : Cell) → u ≡ plain p → Obeys (only_value (exactly p)) c → Acts w (cell_value c) (give u)
known_cell (cell b None) e y = unknown_acts
known_cell {w = w} {p = p} {u = u} (cell b (Some v)) e y = subst (λ v. Acts w (give v) (give u)) (e ∙ sym y) (give_acts (subst (λ u. Same w u u) (sym e) same_plain))

known_slot : {w : World} {p : Plain} {o q : Option Slot} {u : Value} (j : Option Slot → M) → At w (known (exactly p)) o q → ((s : Slot) → j (Some s) ≡ slot_value s) → u ≡ plain p → Acts w (j o) (give u)
known_slot {w = w} {u = u} j (at_known {c = c} i l) f e = subst (λ m. Acts w m (give u)) (sym (f (local c))) (read_obeyed l (λ c y. known_cell c e y))

pub known_value_acts : {w : World} {p : Plain} {o q : Option Slot} {u : Value} (x : Text) → At w (known (exactly p)) o q → u ≡ plain p → Acts w (name_value o x) (give u)
known_value_acts x a e = known_slot (λ o. name_value o x) a (λ s. refl) e

pub known_typeof_acts : {w : World} {p : Plain} {o q : Option Slot} {u : Value} (x : Text) → At w (known (exactly p)) o q → u ≡ plain p → Acts w (typeof_name o x) (give u)
known_typeof_acts x a e = known_slot (λ o. typeof_name o x) a (λ s. refl) e

-- writing

assign_cell_acts : {w : World} {i j : ℕ} {v u : Value} {c d : Cell} → In (both i j any_value) w → Same w v u → SameCell w c d → Acts w (assign_cell i v c) (assign_cell j u d)
assign_cell_acts l r (same_cell same_none) = unknown_acts
assign_cell_acts l r (same_cell {b = true} (same_some q)) = raise_acts type_error
assign_cell_acts l r (same_cell {b = false} (same_some q)) = store_acts l (same_cell (same_some r)) (give_acts r)

assign_import_acts : {w : World} {o p : Option Value} → SameOpt w o p → Acts w (assign_import o) (assign_import p)
assign_import_acts same_none = unknown_acts
assign_import_acts (same_some q) = raise_acts type_error

pub assign_slot_acts : {w : World} {s z : Slot} {v u : Value} → SameSlot w any_value s z → Same w v u → Acts w (assign_slot s v) (assign_slot z u)
assign_slot_acts (same_local l) r = read_acts tt l (λ w2 c d h q. assign_cell_acts (h.kept _ l) (same_later h r) q)
assign_slot_acts (same_import {source = source} {x = x}) r = get_import_acts source x (λ w2 o p h q. assign_import_acts q)
assign_slot_acts same_arguments r = unknown_acts

assign_present_acts : {w : World} {v u : Value} {o p : Option Value} (x : Text) → Same w v u → SameOpt w o p → Acts w (assign_present x v o) (assign_present x u p)
assign_present_acts x r same_none = raise_acts reference_error
assign_present_acts x r (same_some q) = show_acts r (λ y. emit_acts (Act.write x y) (set_global_acts x (same_some r) (give_acts r)))

pub assign_global_acts : {w : World} {v u : Value} (o : Global) (x : Text) (there : Bool) → Same w v u → Acts w (assign_global o x there v) (assign_global o x there u)
assign_global_acts usual x there r = choose_acts refl (get_global_acts x (λ w2 o p h q. assign_present_acts x (same_later h r) q)) (raise_acts reference_error)
assign_global_acts the_undefined x there r = raise_acts type_error
assign_global_acts no_whole_number x there r = raise_acts type_error

there_acts : {w : World} (x : Text) (a b : Bool) → a ≡ b → Acts w (done (refers (at_global x a))) (done (refers (at_global x b)))
there_acts {w = w} x a b e = subst (λ b. Acts w (done (refers (at_global x a))) (done (refers (at_global x b)))) e (done_acts (same_refers same_at_global))

there_same : {w : World} {o p : Option Value} → SameOpt w o p → is_some o ≡ is_some p
there_same same_none = refl
there_same (same_some q) = refl

pub name_place_acts : {w : World} {s : Status} {o p : Option Slot} (x : Text) → At w s o p → Writable s → Acts w (name_place o x) (name_place p x)
name_place_acts x at_nowhere y = get_global_acts x (λ w2 o p h q. there_acts x _ _ (there_same q))
name_place_acts x (at_loose i) y = get_global_acts x (λ w2 o p h q. there_acts x _ _ (there_same q))
name_place_acts x (at_owing i) y = get_global_acts x (λ w2 o p h q. there_acts x _ _ (there_same q))
name_place_acts x (at_live l) y = done_acts (same_refers (same_at_slot l))
name_place_acts x (at_known i l) y = absurd y
name_place_acts x (at_dead l) y = absurd y
name_place_acts x (at_unread l i) y = absurd y

-- copying

-- a copy on one side
copy_left : {w : World} {s : Slot} {m : M} (j : Env → M) (x : Text) (e : Env) → LeftSlot w s → ((w2 : World) (t : Slot) → Sub w w2 → LeftSlot w2 t → Acts w2 (j (bound x t ∷ e)) m) → Acts w (j e) m → Acts w (copy_slot (Some s) x e j) m
copy_left j x e (left_local {c = c} l) a b = read_left c (λ old. alloc_left old (λ w2 i h l. a w2 (local i) h (left_local l)))
copy_left j x e left_import a b = b
copy_left j x e left_arguments a b = b

copy_right : {w : World} {m : M} (k : Env → M) (o : Option Slot) (x : Text) (f : Env) → ((w2 : World) (t : Slot) → Sub w w2 → RightSlot w2 t → Acts w2 m (k (bound x t ∷ f))) → Acts w m (k f) → Acts w m (copy_slot o x f k)
copy_right k None x f a b = b
copy_right k (Some (local c)) x f a b = read_right c (λ old. alloc_right old (λ w2 i h l. a w2 (local i) h (right_local l)))
copy_right k (Some (imported source y)) x f a b = b
copy_right k (Some arguments_object) x f a b = b

abbrev Further : World → Names → (Env → M) → (Env → M) → Type 0
Further w st j k = (w2 : World) (e f : Env) → Sub w w2 → Envs w2 st e f → Acts w2 (j e) (k f)

further : {w w2 : World} {st : Names} {j k : Env → M} → Sub w w2 → Further w st j k → Further w2 st j k
further h b = λ w3 e f g r. b w3 e f (later h g) r

copy_both : {w : World} {st : Names} {e f : Env} {j k : Env → M} {s z : Slot} (x : Text) → st x ≡ live → SameSlot w any_value s z → Envs w st e f → Further w st j k → Acts w (copy_slot (Some s) x e j) (copy_slot (Some z) x f k)
copy_both x y (same_local l) r b = read_acts tt l (λ w2 c d h q. alloc_acts q (λ w3 i j g m. b w3 _ _ (later h g) (env_again x (subst (λ t. At w3 t (Some (local i)) (Some (local j))) (sym y) (at_live (same_local m))) (envs_later (later h g) r))))
copy_both {w = w} x y same_import r b = b w _ _ (same w) r
copy_both {w = w} x y same_arguments r b = b w _ _ (same w) r

copy_known : {w : World} {st : Names} {e f : Env} {j k : Env → M} {c d : ℕ} {p : Fact} (x : Text) → st x ≡ known p → Spare p w → In (both c d (only_value p)) w → Envs w st e f → Further w st j k → Acts w (copy_slot (Some (local c)) x e j) (copy_slot (Some (local d)) x f k)
copy_known {p = p} x y n l r b = read_rule tt l (λ w2 c d h o q. alloc_rule (only_value p) o q (λ w3 i j g m. b w3 _ _ (later h g) (env_again x (subst (λ t. At w3 t (Some (local i)) (Some (local j))) (sym y) (at_known (spare_later p (later h g) n) m)) (envs_later (later h g) r))))

dead_with : {w : World} (t : Status) {o p : Option Slot} (q : Option Slot) → t ≡ dead → At w t o p → At w t o q
dead_with {w = w} t {o = o} {p = p} q y a = subst (λ t. At w t o q) (sym y) (go o p (subst (λ t. At w t o p) y a))
  where
    go : (o p : Option Slot) → At w dead o p → At w dead o q
    go o p (at_dead l) = at_dead l

-- one that only the old run copies
copy_dead : {w : World} {st : Names} {e f : Env} {j : Env → M} {m : M} {s : Slot} (x : Text) → st x ≡ dead → LeftSlot w s → Envs w st e f → ((w2 : World) (e : Env) → Sub w w2 → Envs w2 st e f → Acts w2 (j e) m) → Acts w (copy_slot (Some s) x e j) m
copy_dead {w = w} {st = st} {e = e} {f = f} {j = j} x y l r b =
    copy_left j x e l (λ w2 t h k. b w2 _ h (env_again_old x (subst (λ z. At w2 z (Some t) (look f x)) (sym y) (at_dead k)) (envs_later h r))) (b w e (same w) r)

copy_unread : {w : World} {st : Names} {e f : Env} {j k : Env → M} {s z : Slot} (x : Text) → st x ≡ unread → Some z ≡ look f x → LeftSlot w s → RightSlot w z → Envs w st e f → Further w st j k → Acts w (copy_slot (Some s) x e j) (copy_slot (Some z) x f k)
copy_unread {w = w} {st = st} {e = e} {f = f} {j = j} {k = k} {z = z} x y q l n r b =
    let at_x : (w2 : World) (t : Slot) → Sub w w2 → LeftSlot w2 t → At w2 (st x) (Some t) (look f x) = λ w2 t h i. subst (λ v. At w2 v (Some t) (look f x)) (sym y) (subst (λ o. At w2 unread (Some t) o) q (at_unread i (right_later h n))) in
    copy_left j x e l (λ w2 t h i. copy_right k (Some z) x f (λ w3 u g m. b w3 _ _ (later h g) (env_again x (subst (λ v. At w3 v (Some t) (Some u)) (sym y) (at_unread (left_later g i) m)) (envs_later (later h g) r))) (b w2 _ _ h (env_again_old x (at_x w2 t h i) (envs_later h r))))
    (copy_right k (Some z) x f (λ w2 u h m. b w2 _ _ h (env_again_new x (new_at w2 u m (r.at x) h) (envs_later h r))) (b w _ _ (same w) r))
  where
    new_at : (w2 : World) (u : Slot) → RightSlot w2 u → At w (st x) (look e x) (look f x) → Sub w w2 → At w2 (st x) (look e x) (Some u)
    new_at w2 u m a h = subst (λ v. At w2 v (look e x) (Some u)) (sym y) (go (look e x) (look f x) (subst (λ v. At w v (look e x) (look f x)) y a))
      where
        go : (o p : Option Slot) → At w unread o p → At w2 unread o (Some u)
        go o p (at_unread k i) = at_unread (left_later h k) m

copy_one : {w : World} {st : Names} {e f : Env} {j k : Env → M} {s : Status} {o p : Option Slot} (x : Text) → st x ≡ s → p ≡ look f x → At w s o p → Envs w st e f → Further w st j k → Acts w (copy_slot o x e j) (copy_slot p x f k)
copy_one {w = w} x y q at_nowhere r b = b w _ _ (same w) r
copy_one {w = w} x y q (at_loose i) r b = b w _ _ (same w) r
copy_one {w = w} x y q (at_owing o) r b = b w _ _ (same w) r
copy_one x y q (at_live l) r b = copy_both x y l r b
copy_one x y q (at_known i l) r b = copy_known x y i l r b
copy_one {w = w} {st = st} {f = f} {k = k} x y q (at_dead {o = p} l) r b =
    copy_dead x y l r (λ w2 e h r. copy_right k p x f (λ w3 u g m. b w3 _ _ (later h g) (env_again_new x (dead_with (st x) (Some u) y ((envs_later g r).at x)) (envs_later g r))) (b w2 e f h r))
copy_one x y q (at_unread l n) r b = copy_unread x y q l n r b

copy_one_old : {w : World} {st : Names} {e f : Env} {j : Env → M} {m : M} {s : Status} {o p : Option Slot} (x : Text) → Lone s → st x ≡ s → p ≡ look f x → At w s o p → Envs w st e f → ((w2 : World) (e : Env) → Sub w w2 → Envs w2 st e f → Acts w2 (j e) m) → Acts w (copy_slot o x e j) m
copy_one_old x d y q (at_dead l) r b = copy_dead x y l r b
copy_one_old {w = w} {st = st} {e = e} {f = f} {j = j} x d y q (at_unread {z = z} l n) r b =
    copy_left j x e l (λ w2 t h k. b w2 _ h (env_again_old x (subst (λ s. At w2 s (Some t) (look f x)) (sym y) (subst (λ p. At w2 unread (Some t) p) q (at_unread k (right_later h n)))) (envs_later h r))) (b w e (same w) r)
copy_one_old x d y q at_nowhere r b = absurd d
copy_one_old x d y q (at_loose i) r b = absurd d
copy_one_old x d y q (at_owing o) r b = absurd d
copy_one_old x d y q (at_live l) r b = absurd d
copy_one_old x d y q (at_known i l) r b = absurd d

pub copy_acts : {st : Names} {w : World} {ds es : List Decl} {e f : Env} {j k : Env → M} → Copied st ds es → Envs w st e f → Further w st j k → Acts w (copy ds e j) (copy es f k)
unfolding copy
copy_acts {w = w} copied_end r b = b w _ _ (same w) r
copy_acts {w = w} (copied_both {x = x} n) r b = copy_one x refl refl (r.at x) r (λ w2 e f h q. copy_acts {w = w2} n q (further h b))
copy_acts {w = w} {f = f} (copied_old {x = x} d n) r b = copy_one_old x d refl refl (r.at x) r (λ w2 e h q. copy_acts {w = w2} n q (further h b))
