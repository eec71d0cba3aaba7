-- What the old run does alone: it ends in a state that is related to the same state of the new run, or is uncovered.
use Rattle.std.proofs.Common.{◌≡◌, ℕ, suc, List, [], arith, Option, Some, None, refl, sym, ◌∙◌, subst}
use Rattle.std.specs.Prelude.{Bool, true, false}
use Rattle.js_syntax.specs.declared.node_kind.NodeKind.{NodeKind as Kind}
use Rattle.js_syntax.specs.declared.kind.VariableKind.{VariableKind}
use Rattle.js_syntax.specs.declared.kind.VariableKind.TheVariants as variable
use Rattle.js_syntax.specs.Node.{Forest, nothing, node, absent}
use Rattle.js_meaning.specs.Value.{Text, Slot, Env, Value, plain, closure, object, array, error, undef}
use Rattle.js_meaning.specs.Trace.{Ending}
use Rattle.js_meaning.specs.State.{State, Cell, cell, Completion, normal, gives, with_receiver, Out, goes, stops, M, more, go_on, bind, done, stop, unknown, if_normal, seq, if_gives, with_value, read, store}
use Rattle.js_meaning.specs.Scope.{initialised, look, fill}
use Rattle.js_meaning.specs.Reference.{cell_value, name_value}
use Rattle.js_meaning.specs.Expression.{call_value}
use Rattle.js_meaning.specs.Host.{Enter}
use Rattle.js_meaning.specs.Node.{Ask, run, declares, now, Meaning, Parts, need, may, each}
use Rattle.js_meaning.specs.Statement.{declarator}
use Rattle.js_meaning.specs.Meaning.{eval}
use Rattle.js_meaning_near.specs.Quiet.{OnlyAllocates, LeadsFrom, goes_on_as, stops_before, Leads, EndsQuietly, gives_quietly, stops_quietly, Quiet}
use Rattle.js_meaning_near.specs.Wasted.{EndsSoon, ends_soon, stops_soon, IsSilent, Meets, Wastes, wastes_nothing, wastes_silent, wastes_known, wastes_call}
use Rattle.js_meaning_near.specs.Names.{Status, Fact, known, silent_function, Lone, Names}
use Rattle.js_meaning_near.specs.Near.{meaning, Silent, NoField, Idle, idle_empty, idle_expression, idle_no_expression, idle_waste, idle_statement, idle_function, idle_declarator, idle_bare_declarator, idle_cut_declarator, idle_declaration, AllIdle, all_idle, one_idle, idle_import, idle_export}
use Rattle.js_meaning_near.proofs.Worlds.{Rule, only_value, left, both, slack, World, In, Sub, same, later, links_up}
use Rattle.js_meaning_near.proofs.Relations.{LeftSlot, left_local, left_import, left_arguments, At, at_nowhere, at_loose, at_owing, Budgets, as_many, no_more, twice, Enters, CallEnds, call_gives, call_uncovered, call_out, at_live, at_known, at_dead, at_unread, Envs, SameOpt, SameAll, SameCell, same_normal, Obeys, SameExports, States, trace, Follows, both_go, old_stops, old_out, Acts}
use Rattle.js_meaning_near.proofs.Acts.{acts_later, follows_back, nothing_more, stored_left}
use Rattle.js_meaning_near.proofs.Scopes.{envs_bind}

-- how it ends: true: as a statement that is over; false: as an expression with its value
pub data Ends : Bool → Completion → Type 0 where
  ends_normal : Ends true normal
  ends_gives : {v r : Value} → Ends false (gives v r)

pub data Still (w : World) (b : Bool) (z : State) : Out → Type 0 where
  still : {s : State} {w2 : World} {c : Completion} → Sub w w2 → States w2 s z → Ends b c → Still w b z (goes [] s c)
  stopped : Still w b z (stops [] Ending.uncovered)
  out : In slack w → Still w b z (stops [] Ending.out)

pub record Alone (w : World) (b : Bool) (m : M) : Type 0 where
  pub alone : (w2 : World) → Sub w w2 → (s z : State) → States w2 s z → Still w2 b z (m s)

alone_later : {w w2 : World} {b : Bool} {m : M} → Sub w w2 → Alone w b m → Alone w2 b m
alone_later g a = record { alone = λ w3 h s z r. a.alone w3 (later g h) s z r }

still_back : {w w2 : World} {b : Bool} {z : State} {o : Out} → Sub w w2 → Still w2 b z o → Still w b z o
still_back g (still h r e) = still (later g h) r e
still_back g stopped = stopped
still_back g (out i) = out (g.slack_kept i)

still_more : {w : World} {b : Bool} {z : State} {o : Out} → Still w b z o → Still w b z (more [] o)
still_more (still h r e) = still h r e
still_more stopped = stopped
still_more (out i) = out i

alone_done : {w : World} {b : Bool} {c : Completion} → Ends b c → Alone w b (done c)
unfolding done
alone_done e = record { alone = λ w2 h s z r. still (same w2) r e }

alone_unknown : {w : World} {b : Bool} → Alone w b unknown
unfolding stop
alone_unknown = record { alone = λ w2 h s z r. stopped }

-- a quiet expression

pub allocated_states : {w : World} {s t z : State} → OnlyAllocates s t → States w s z → States w t z
allocated_states {w = w} {s = s} {t = t} {z = z} o r = record {
  budget = subst (λ b. Budgets w b z.budget) (sym o.budget) r.budget;
  links = links_up t.fresh o.fresh r.links;
  cells = record { linked = λ a b p k u. subst (λ c. SameCell w c (z.store b)) (sym (kept a b p k)) (r.cells.linked a b p k u); obeyed = λ a b p k. subst (Obeys p) (sym (kept a b p k)) (r.cells.obeyed a b p k) };
  globals = λ x. subst (λ g. SameOpt w g (z.globals x)) (sym (o.globals x)) (r.globals x);
  imports = λ source x. subst (λ g. SameOpt w g (z.imports source x)) (sym (o.imports source x)) (r.imports source x);
  shown = subst (λ g. SameAll w g z.shown) (sym o.shown) r.shown;
  moves = o.moves ∙ r.moves;
  exports = subst (λ g. SameExports w g z.exports) (sym o.exports) r.exports;
  stars = o.stars ∙ r.stars;
}
  where
    kept : (a b : ℕ) (p : Rule) → In (both a b p) w → t.store a ≡ s.store a
    kept a b p k = o.store a (r.links.below a b p k).0

quiet_still : {w : World} {s z : State} {p : Out} → EndsQuietly s p → States w s z → Still w false z p
quiet_still {w = w} (gives_quietly o) r = still (same w) (allocated_states o r) ends_gives
quiet_still stops_quietly r = stopped

pub quiet_alone : {w : World} {m : M} → Quiet m → Alone w false m
quiet_alone q = record { alone = λ w2 h s z r. quiet_still (q.quiet s) r }

-- what comes to something else does it

comes_follows : {w : World} {s z : State} {n k : M} {o : Out} → LeadsFrom s n o → Acts w n k → States w s z → Follows w o (k z)
comes_follows {w = w} {z = z} (goes_on_as o) a r = a.act w (same w) _ z (allocated_states o r)
comes_follows {z = z} {k = k} stops_before a r = old_stops (trace (k z), refl)

pub leads_acts : {w : World} {m n k : M} → Leads m n → Acts w n k → Acts w m k
leads_acts l a = record { act = λ w2 h s z r. comes_follows (l.leads s) (acts_later h a) r }

-- and what comes to nothing does nothing

nothing_still : {w : World} {s z : State} {o : Out} → LeadsFrom s (done normal) o → States w s z → Still w true z o
unfolding done
nothing_still {w = w} (goes_on_as o) r = still (same w) (allocated_states o r) ends_normal
nothing_still stops_before r = stopped

leads_alone : {w : World} {m : M} → Leads m (done normal) → Alone w true m
leads_alone l = record { alone = λ w2 h s z r. nothing_still (l.leads s) r }

-- one after the other

still_value : {w : World} {b : Bool} {z : State} {o : Out} (f : Value → M) → ((v : Value) → Alone w b (f v)) → Still w false z o → Still w b z (go_on o (if_gives (λ v r. f v)))
still_value f a (still {w2 = w2} h r (ends_gives {v = v})) = still_more (still_back h ((a v).alone w2 h _ _ r))
still_value f a stopped = stopped
still_value f a (out i) = out i

pub alone_value : {w : World} {b : Bool} {m : M} {f : Value → M} → Alone w false m → ((v : Value) → Alone w b (f v)) → Alone w b (with_value m f)
unfolding bind
alone_value {f = f} a c = record { alone = λ w2 h s z r. still_value f (λ v. alone_later h (c v)) (a.alone w2 h s z r) }

still_seq : {w : World} {z : State} {o : Out} (n : M) → Alone w true n → Still w true z o → Still w true z (go_on o (if_normal n))
still_seq n a (still {w2 = w2} h r ends_normal) = still_more (still_back h (a.alone w2 h _ _ r))
still_seq n a stopped = stopped
still_seq n a (out i) = out i

alone_seq : {w : World} {m n : M} → Alone w true m → Alone w true n → Alone w true (seq m n)
unfolding bind
alone_seq {n = n} a b = record { alone = λ w2 h s z r. still_seq n (alone_later h b) (a.alone w2 h s z r) }

-- then both go on alike

follows_seq : {w : World} {z : State} {o : Out} (n k : M) → Acts w n k → Still w true z o → Follows w (go_on o (if_normal n)) (k z)
follows_seq n k a (still {w2 = w2} h r ends_normal) = nothing_more (n _) (follows_back h (a.act w2 h _ _ r))
follows_seq {z = z} n k a stopped = old_stops (trace (k z), refl)
follows_seq {z = z} n k a (out i) = old_out i (trace (k z), refl)

pub seq_alone : {w : World} {m n k : M} → Alone w true m → Acts w n k → Acts w (seq m n) k
unfolding bind
seq_alone {n = n} {k = k} a b = record { act = λ w2 h s z r. follows_seq n k (acts_later h b) (a.alone w2 h s z r) }

follows_done : {w : World} {z : State} {o : Out} → Still w true z o → Follows w o (goes [] z normal)
follows_done (still h r ends_normal) = both_go h r same_normal
follows_done {z = z} stopped = old_stops ([], refl)
follows_done {z = z} (out i) = old_out i ([], refl)

-- the new run does nothing in its place
pub alone_nothing : {w : World} {m : M} → Alone w true m → Acts w m (done normal)
unfolding done
alone_nothing a = record { act = λ w2 h s z r. follows_done (a.alone w2 h s z r) }

soon_still : {w : World} {s z : State} {p : Out} → EndsSoon s p → States w s z → Still w true z p
soon_still {w = w} (ends_soon o) r = still (same w) (allocated_states o r) ends_normal
soon_still stops_soon r = stopped

pub soon_alone : {w : World} {m : M} → ((s : State) → EndsSoon s (m s)) → Alone w true m
soon_alone q = record { alone = λ w2 h s z r. soon_still (q s) r }

-- a value that nothing is made of in front of what both do
follows_first : {w : World} {z : State} {o : Out} (f : Value → M) (k : M) → ((v : Value) → Acts w (f v) k) → Still w false z o → Follows w (go_on o (if_gives (λ v r. f v))) (k z)
follows_first f k a (still {w2 = w2} h r (ends_gives {v = v})) = nothing_more (f v _) (follows_back h ((a v).act w2 h _ _ r))
follows_first {z = z} f k a stopped = old_stops (trace (k z), refl)
follows_first {z = z} f k a (out i) = old_out i (trace (k z), refl)

pub alone_first : {w : World} {m k : M} {f : Value → M} → Alone w false m → ((v : Value) → Acts w (f v) k) → Acts w (with_value m f) k
unfolding bind
alone_first {k = k} {f = f} q a = record { act = λ w2 h s z r. follows_first f k (λ v. acts_later h (a v)) (q.alone w2 h s z r) }

-- names that only the old run knows

alone_read : {w : World} {b : Bool} {f : Cell → M} (i : ℕ) → ((c : Cell) → Alone w b (f c)) → Alone w b (read i f)
unfolding read
alone_read i a = record { alone = λ w2 h s z r. (a (s.store i)).alone w2 h s z r }

alone_store : {w : World} {b : Bool} {m : M} (i : ℕ) (c : Cell) → In (left i) w → Alone w b m → Alone w b (store i c m)
unfolding store
alone_store i c l a = record { alone = λ w2 h s z r. a.alone w2 h _ z (stored_left i c (h.kept _ l) r) }

alone_slot : {w : World} {s : Slot} (v : Value) → LeftSlot w s → Alone w true (fill (Some s) v (done normal))
alone_slot v (left_local {c = c} l) = alone_read c (λ old. alone_store c (initialised old v) l (alone_done ends_normal))
alone_slot v left_import = alone_unknown
alone_slot v left_arguments = alone_unknown

alone_fill : {w : World} {t : Status} {o p : Option Slot} (v : Value) → Lone t → At w t o p → Alone w true (fill o v (done normal))
alone_fill v y (at_dead l) = alone_slot v l
alone_fill v y (at_unread l n) = alone_slot v l
alone_fill v y at_nowhere = absurd y
alone_fill v y (at_loose i) = absurd y
alone_fill v y (at_owing o) = absurd y
alone_fill v y (at_live l) = absurd y
alone_fill v y (at_known i l) = absurd y

-- a name of whose value something is known, and a call of a function that does nothing but give a value

pub known_first : {w : World} {f : Fact} {o p : Option Slot} {n : M} (x : Text) (k : Value → Value → M) → At w (known f) o p → ((v : Value) → Meets f v → Acts w (k v undef) n) → Acts w (with_receiver (name_value o x) k) n
unfolding bind read done stop
known_first {w = w} {f = f} {n = n} x k (at_known {c = c} {d = d} i l) a = record { act = λ w2 h s z r. go w2 h s z r (s.store c) (r.cells.obeyed c d (only_value f) (h.kept _ l)) }
  where
    go : (w2 : World) → Sub w w2 → (s z : State) → States w2 s z → (o : Cell) → Obeys (only_value f) o → Follows w2 (go_on (cell_value o s) (if_gives k)) (n z)
    go w2 h s z r (cell constant None) y = old_stops (trace (n z), refl)
    go w2 h s z r (cell constant (Some v)) y = nothing_more (k v undef s) ((a v y).act w2 h s z r)

one_less : {w : World} {m n b : ℕ} → In slack w → m ≡ suc b → Budgets w m n → Budgets w b n
one_less i e (as_many g f) = no_more i (omega arith)
one_less i e (no_more j l) = no_more i (omega arith)
one_less i e (twice o l) = absurd (o.no_slack i)

call_still : {w : World} {s z : State} {o : Out} → In slack w → CallEnds s o → States w s z → Still w false z o
call_still {w = w} i (call_gives e o) r = still (same w) (allocated_states o (record { budget = one_less i e r.budget; links = r.links; cells = r.cells; globals = r.globals; imports = r.imports; shown = r.shown; moves = r.moves; exports = r.exports; stars = r.stars })) ends_gives
call_still i call_uncovered r = stopped
call_still i call_out r = out i

silent_calls : {w : World} (E : Enter) → Enters E → In slack w → (v this : Value) (vs : List Value) → IsSilent v → Alone w false (call_value E v this vs)
silent_calls E n i (closure j f a env) this vs y = record { alone = λ w2 h s z r. call_still (h.kept _ i) (n.called f a env y this vs s) r }
silent_calls E n i (plain p) this vs y = absurd y
silent_calls E n i (object j c) this vs y = absurd y
silent_calls E n i (array j c) this vs y = absurd y
silent_calls E n i (error j k) this vs y = absurd y

pub call_alone : {w : World} {o p : Option Slot} (E : Enter) → Enters E → At w (known silent_function) o p → (v this : Value) (vs : List Value) → IsSilent v → Alone w false (call_value E v this vs)
call_alone E n (at_known i l) v this vs y = silent_calls E n i v this vs y

known_alone : {w : World} {b : Bool} {f : Fact} {o p : Option Slot} (x : Text) (k : Value → Value → M) → At w (known f) o p → ((v : Value) → Meets f v → Alone w b (k v undef)) → Alone w b (with_receiver (name_value o x) k)
unfolding bind read done stop
known_alone {w = w} {b = b} {f = f} x k (at_known {c = c} {d = d} i l) a = record { alone = λ w2 h s z r. go w2 h s z r (s.store c) (r.cells.obeyed c d (only_value f) (h.kept _ l)) }
  where
    go : (w2 : World) → Sub w w2 → (s z : State) → States w2 s z → (o : Cell) → Obeys (only_value f) o → Still w2 b z (go_on (cell_value o s) (if_gives k))
    go w2 h s z r (cell constant None) y = stopped
    go w2 h s z r (cell constant (Some v)) y = still_more ((a v y).alone w2 h s z r)

-- what evaluates nothing that acts

waste_alone : {st : Names} {e : Env} (E : Enter) → Enters E → {m : M} → Wastes E st e m [] → {w : World} {f : Env} → Envs w st e f → Alone w true m
waste_alone E n (wastes_nothing q) r = soon_alone q
waste_alone E n (wastes_silent q g) r = alone_value (quiet_alone q) (λ v. waste_alone E n (g v) r)
waste_alone {e = e} E n (wastes_known {x = x} k q g) {w = w} {f = f} r = known_alone x k (subst (λ t. At w t (look e x) (look f x)) q (r.at x)) (λ v y. waste_alone E n (g v y) r)
waste_alone {e = e} E n (wastes_call {x = x} v this vs q y g) {w = w} {f = f} r = alone_value (call_alone E n (subst (λ t. At w t (look e x) (look f x)) q (r.at x)) v this vs y) (λ u. waste_alone E n (g u) r)

-- items that may leave

silent_alone : {w : World} {st : Names} {k : Kind} {a : Forest} {e f : Env} (E : Enter) → Silent st k a → Envs w st e f → Alone w false (meaning E k a now e)
silent_alone {e = e} E q r = quiet_alone (q.silent E e (envs_bind r))

pub silent_statement : {w : World} {st : Names} {k : Kind} {a : Forest} {e f : Env} (E : Enter) → Silent st k a → Envs w st e f → Alone w true (with_value (meaning E k a now e) (λ v. done normal))
silent_statement E q r = alone_value (silent_alone E q r) (λ v. alone_done ends_normal)

bare_declarator : {w : World} {st : Names} {e f : Env} (E : Enter) (x : Text) (a : Forest) (how : VariableKind) → Lone (st x) → Envs w st e f → Alone w true (declarator how (meaning E (Kind.BindingName x) a) None e)
bare_declarator E x a variable.Var d r = alone_done ends_normal
bare_declarator E x a variable.Let d r = alone_fill undef d (r.at x)
bare_declarator E x a variable.Const d r = alone_fill undef d (r.at x)

pub no_expression : {w : World} {b : Bool} (E : Enter) (a : Forest) (k : Meaning → Parts → M) → NoField a → Alone w b (need (eval E a) k)
unfolding need eval
no_expression E nothing j y = alone_unknown
no_expression E (absent r) j y = alone_unknown
no_expression E (node k n a r) j y = absurd y

mutual
  unfolding need may eval each

  pub idle_alone : {w : World} {st : Names} {k : Kind} {a : Forest} {e f : Env} (E : Enter) → Enters E → (q : Ask) → Idle st k a → Envs w st e f → Alone w true (meaning E k a q e)
  idle_alone E n (run ls) idle_empty r = alone_done ends_normal
  idle_alone E n (run ls) (idle_expression x) r = silent_statement E x r
  idle_alone E n (run ls) (idle_no_expression {a = a} y) r = no_expression E a _ y
  idle_alone {e = e} E n (run ls) (idle_waste x) r = waste_alone E n (x.wastes_all E e (envs_bind r) ls) r
  idle_alone E n q (idle_statement d) r = leads_alone (d.nothing_done E q _)
  idle_alone E n (run ls) idle_import r = alone_done ends_normal
  idle_alone E n (run ls) idle_export r = alone_done ends_normal
  idle_alone E n (run ls) (idle_function d) r = alone_done ends_normal
  idle_alone E n (run ls) (idle_declaration {how = how} x) r = all_alone E n (declares how) x r
  idle_alone E n (declares how) (idle_declarator {x = x} d y) r = alone_value (silent_alone E y r) (λ v. alone_fill v d (r.at x))
  idle_alone E n (declares how) (idle_bare_declarator {x = x} {a = a} d) r = bare_declarator E x a how d r
  idle_alone E n _ (idle_no_expression y) r = alone_unknown
  idle_alone E n (declares how) idle_cut_declarator r = alone_unknown
  idle_alone E n _ idle_cut_declarator r = alone_unknown
  idle_alone E n _ idle_empty r = alone_unknown
  idle_alone E n _ (idle_waste x) r = alone_unknown
  idle_alone E n _ (idle_expression x) r = alone_unknown
  idle_alone E n _ idle_import r = alone_unknown
  idle_alone E n _ idle_export r = alone_unknown
  idle_alone E n _ (idle_function d) r = alone_unknown
  idle_alone E n _ (idle_declaration x) r = alone_unknown
  idle_alone E n _ (idle_declarator d y) r = alone_unknown
  idle_alone E n _ (idle_bare_declarator d) r = alone_unknown

  all_alone : {w : World} {st : Names} {a : Forest} {e f : Env} (E : Enter) → Enters E → (q : Ask) → AllIdle st a → Envs w st e f → Alone w true (each q (eval E a) e)
  all_alone E n q all_idle r = alone_done ends_normal
  all_alone E n q (one_idle x y) r = alone_seq (idle_alone E n q x r) (all_alone E n q y r)
