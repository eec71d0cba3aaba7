-- A call that the old run alone makes, with the entry that it has more; and a statement in which it stands.
use Rattle.std.proofs.Common.{◌≡◌, ℕ, suc, List, [], Option, Some, None, refl, sym, ap, subst, arith}
use Rattle.js_syntax.specs.declared.node_kind.NodeKind.{NodeKind as Kind}
use Rattle.js_syntax.specs.declared.kind.FunctionKind.{FunctionKind}
use Rattle.js_syntax.specs.Node.{Forest}
use Rattle.js_meaning.specs.Value.{Text, Slot, Env, Value, plain, closure, object, array, error, undef}
use Rattle.js_meaning.specs.Trace.{Ending}
use Rattle.js_meaning.specs.State.{State, Cell, cell, Out, goes, stops, M, normal, gives, go_on, bind, done, stop, read, if_gives, with_value, with_receiver}
use Rattle.js_meaning.specs.Scope.{look}
use Rattle.js_meaning.specs.Host.{Enter, body}
use Rattle.js_meaning.specs.Node.{Ask, run, now, Parts}
use Rattle.js_meaning.specs.Reference.{cell_value, name_value}
use Rattle.js_meaning.specs.Expression.{call_value}
use Rattle.js_meaning.specs.Meaning.{eval, enter_body}
use Rattle.js_meaning.proofs.Same.{with_more, beside}
use Rattle.js_meaning.proofs.Depth.{both as alike_part, SameParts, one_more, Enters as Does}
use Rattle.js_meaning_near.specs.Quiet.{OnlyAllocates, EndsQuietly, gives_quietly, stops_quietly, Quiet}
use Rattle.js_meaning_near.specs.Wasted.{drops, EndsSoon, ends_soon, stops_soon, IsSilent, Meets, Owing, owing_part, owing_silent, owing_known, owing_call}
use Rattle.js_meaning_near.specs.Names.{Fact, known, Names}
use Rattle.js_meaning_near.specs.Near.{meaning, OwedEffects}
use Rattle.js_meaning_near.specs.Purpose.{Purpose, for_effect, all}
use Rattle.js_meaning_near.proofs.Worlds.{World, Sub, same}
use Rattle.js_meaning_near.proofs.Relations.{At, at_known, Envs, SameAsk, same_run, same_normal, Obeys, Owed, owed_later, Budgets, States, trace, Follows, both_go, old_stops, envs_later}
use Rattle.js_meaning_near.proofs.Worlds.{only_value}
use Rattle.js_meaning_near.proofs.Acts.{nothing_more}
use Rattle.js_meaning_near.proofs.Scopes.{envs_bind}
use Rattle.js_meaning_near.proofs.Rows.{part, Fields, fields_end, fields_more}
use Rattle.js_meaning_near.proofs.Alone.{allocated_states}
use Rattle.js_meaning_near.proofs.Gifts.{Pays, pays_later, unknown_pays, effects_pays}

-- how a call ends whose code does nothing but give a value, where entries nest as deep as the budget allows
pub data CallMade (s : State) : Out → Type 0 where
  made : {b : ℕ} {z : State} {v r : Value} → s.budget ≡ suc b → OnlyAllocates (record s { budget = b }) z → CallMade s (goes [] z (gives v r))
  made_uncovered : CallMade s (stops [] Ending.uncovered)
  none_to_make : s.budget ≡ 0 → CallMade s (stops [] Ending.out)

-- such a call is made wherever there is an entry for it, and with one more of a budget entering does what it does
pub record Lends (E : Enter) : Type 0 where
  pub makes : (f : FunctionKind) (a : Forest) (env : Env) → ((F : Enter) (this : Value) (vs : List Value) → Quiet (enter_body F f a env this vs)) → (this : Value) (vs : List Value) (s : State) → CallMade s (E (body f a env this vs) s)
  pub more : Does with_more E E

-- what is quiet leaves what there was of a budget

returned : (t : State) (n : ℕ) → t.budget ≡ n → record t { budget = n } ≡ t
returned t n e = ap (λ b. record t { budget = b }) (sym e)

kept_back : {s t : State} → OnlyAllocates (beside with_more s) t → OnlyAllocates s (record t { budget = s.budget })
kept_back q = record { budget = refl; fresh = q.fresh; store = q.store; globals = q.globals; imports = q.imports; shown = q.shown; moves = q.moves; exports = q.exports; stars = q.stars }

quiet_follows : {w : World} {s z : State} {o : Out} (f : Value → M) (k : M) → ((v : Value) → Pays w (f v) k) → EndsQuietly (beside with_more s) o → States w s z → Follows w (go_on o (if_gives (λ v r. f v))) (k z)
quiet_follows {w = w} {s = s} {z = z} f k a (gives_quietly {z = t} {v = v} q) r =
    nothing_more (f v t) (subst (λ x. Follows w (f v x) (k z)) (returned t (suc s.budget) q.budget) ((a v).pay w (same w) (record t { budget = s.budget }) z (allocated_states (kept_back q) r)))
quiet_follows {z = z} f k a stops_quietly r = old_stops (trace (k z), refl)

quiet_pays : {w : World} {m k : M} {f : Value → M} → Quiet m → ((v : Value) → Pays w (f v) k) → Pays w (with_value m f) k
unfolding bind
quiet_pays {k = k} {f = f} q a = record { pay = λ w2 h s z r. quiet_follows f k (λ v. pays_later h (a v)) (q.quiet (beside with_more s)) r }

-- a name of whose value something is known
known_pays : {w : World} {f : Fact} {o p : Option Slot} {n : M} (x : Text) (k : Value → Value → M) → At w (known f) o p → ((v : Value) → Meets f v → Pays w (k v undef) n) → Pays w (with_receiver (name_value o x) k) n
unfolding bind read done stop
known_pays {w = w} {f = f} {n = n} x k (at_known {c = c} {d = d} i l) a = record { pay = λ w2 h s z r. go w2 h s z r (s.store c) (r.cells.obeyed c d (only_value f) (h.kept _ l)) }
  where
    go : (w2 : World) → Sub w w2 → (s z : State) → States w2 s z → (o : Cell) → Obeys (only_value f) o → Follows w2 (go_on (cell_value o (beside with_more s)) (if_gives k)) (n z)
    go w2 h s z r (cell constant None) y = old_stops (trace (n z), refl)
    go w2 h s z r (cell constant (Some v)) y = nothing_more (k v undef (beside with_more s)) ((a v y).pay w2 h s z r)

-- the call

soon_follows : {w : World} {t z : State} {o : Out} → EndsSoon t o → States w t z → Follows w o (goes [] z normal)
soon_follows {w = w} (ends_soon q) r = both_go (same w) (allocated_states q r) same_normal
soon_follows stops_soon r = old_stops ([], refl)

made_follows : {w : World} {s z : State} {o : Out} (k : Value → M) → ((v : Value) (t : State) → EndsSoon t (k v t)) → CallMade (beside with_more s) o → States w s z → Follows w (go_on o (if_gives (λ v r. k v))) (goes [] z normal)
made_follows {w = w} {s = s} {z = z} k over (made {b = b} {z = t} {v = v} e q) r =
    let same_budget : s.budget ≡ b = omega arith in
    let left : States w (record s { budget = b }) z = record { budget = subst (λ n. Budgets w n z.budget) same_budget r.budget; links = r.links; cells = r.cells; globals = r.globals; imports = r.imports; shown = r.shown; moves = r.moves; exports = r.exports; stars = r.stars } in
    nothing_more (k v t) (soon_follows (over v t) (allocated_states q left))
made_follows k over made_uncovered r = old_stops ([], refl)
made_follows k over (none_to_make e) r = absurd (omega arith)

call_pays : {w : World} {k : Value → M} (E : Enter) → Lends E → (v this : Value) (vs : List Value) → IsSilent v → ((u : Value) (t : State) → EndsSoon t (k u t)) → Pays w (with_value (call_value E v this vs) k) (done normal)
unfolding bind done
call_pays {k = k} E l (closure i f a env) this vs y over = record { pay = λ w2 h s z r. made_follows k over (l.makes f a env y this vs (beside with_more s)) r }
call_pays E l (plain p) this vs y over = absurd y
call_pays E l (object j c) this vs y over = absurd y
call_pays E l (array j c) this vs y over = absurd y
call_pays E l (error j k) this vs y over = absurd y

-- the parts that act, and the call behind them

drops_pay : {st : Names} {e : Env} (E : Enter) → Lends E → {m : M} {ms : Parts} → Owing E st e m ms → {w : World} {f : Env} {ks : Parts} → Fields (all for_effect) st ms ks → SameParts with_more ms ms → Owed w → Envs w st e f → Pays w m (drops ks f)
unfolding drops
drops_pay {e = e} E l (owing_part g) (fields_more (part x) c) (one_more (alike_part h) hs) o r = effects_pays o (h.asked now e) (x.effect tt r) (λ w2 v u i. drops_pay E l (g v) c hs (owed_later i o) (envs_later i r))
drops_pay E l (owing_silent q g) c h o r = quiet_pays q (λ v. drops_pay E l (g v) c h o r)
drops_pay {e = e} E l (owing_known {x = x} k q g) {w = w} {f = f} c h o r = known_pays x k (subst (λ t. At w t (look e x) (look f x)) q (r.at x)) (λ v y. drops_pay E l (g v y) c h o r)
drops_pay E l (owing_call v this vs y over) fields_end h o r = call_pays E l v this vs y over

pub statement_pays : {w : World} {u : Purpose} {st : Names} {k : Kind} {a b ps : Forest} {e f : Env} {q z : Ask} (E : Enter) → Lends E → OwedEffects st a k b ps → Fields (all for_effect) st (eval E ps) (eval E ps) → SameParts with_more (eval E ps) (eval E ps) → Owed w → Envs w st e f → SameAsk w u q z
    → Pays w (meaning E Kind.ExpressionStatement a q e) (meaning E k b z f)
statement_pays {w = w} {a = a} {e = e} {f = f} E l x c h o r (same_run {ls = ls}) = subst (λ m. Pays w (meaning E Kind.ExpressionStatement a (run ls) e) m) (x.drops_all E f ls) (drops_pay E l (x.owes E e (envs_bind r) ls) c h o r)
statement_pays E l x c h o r _ = unknown_pays
