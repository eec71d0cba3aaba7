-- The acts keep the relation: first those that hand completions on, then those on the state.
use Rattle.std.proofs.Common.{append-nil, ◌≡◌, ℕ, zero, suc, List, [], ◌∷◌, ◌++◌, Option, refl, sym, ap, ◌∙◌, subst, arith, append_assoc}
use Rattle.std.proofs.lemmas.Bool.{eq-eqb, eqb-true}
use Rattle.std.specs.Prelude.{Bool, true, false, nat_eq, ◌&&◌, if◌then◌else◌}
use Rattle.std.specs.Str.{bytes_eq}
use Rattle.js_meaning.specs.Value.{Text, Value, ErrorKind}
use Rattle.js_meaning.specs.Trace.{Ending, Event, Move}
use Rattle.js_meaning.specs.State.{State, Cell, Export, Place, Completion, Out, goes, stops, M, more, go_on, bind, done, stop, unknown, give, choose, if_normal, seq, if_gives, with_receiver, with_value, if_gives_all, with_all, if_refers, with_place, put, alloc, read, store, identity, raise, get_global, set_global, get_import, set_import, spend_from, spend, with_moves, set_moves, with_exports, set_exports, put_event}
use Rattle.js_meaning.specs.Kept.{Prefix}
use Rattle.js_meaning_near.proofs.Worlds.{Rule, any_value, an_object, both, left, right, World, In, here, Sub, same, later, grown, Links, new, old, BothNew, both_split, behind_left, behind_right, links_up, links_up_right, right_links, left_links, both_links, not_eq, ids_same}
use Rattle.js_meaning_near.proofs.Relations.{HoldsCell, Same, same_plain, same_error, SameOpt, SameAll, SameCell, SamePlace, SameCompletion, same_normal, same_gives, same_gives_all, same_refers, same_breaks, same_continues, same_returns, same_throws, Obeys, Cells, SameExports, States, trace, Follows, both_go, both_stop, old_stops, old_out, new_out, Budgets, as_many, no_more, twice, owed_before, budgets_later, Acts, opt_later, all_later, cell_later, completion_later, exports_later}

pub acts_later : {w w2 : World} {m k : M} → Sub w w2 → Acts w m k → Acts w2 m k
acts_later g a = record { act = λ w3 h s z r. a.act w3 (later g h) s z r }

pub follows_back : {w w2 : World} {o p : Out} → Sub w w2 → Follows w2 o p → Follows w o p
follows_back g (both_go h r c) = both_go (later g h) r c
follows_back g both_stop = both_stop
follows_back g (old_stops p) = old_stops p
follows_back g (old_out i p) = old_out (g.slack_kept i) p
follows_back g (new_out o) = new_out (owed_before g o)

-- events

pub more_trace : (es : List Event) (o : Out) → trace (more es o) ≡ es ++ trace o
more_trace es (goes fs s c) = refl
more_trace es (stops fs e) = refl

more_prefix : (es fs : List Event) (p : Out) → Prefix fs (trace p) → Prefix (es ++ fs) (trace (more es p))
more_prefix es fs p x = (x.0, more_trace es p ∙ ap (λ l. es ++ l) x.1 ∙ sym (append_assoc es fs x.0))

pub more_follows : {w : World} {o p : Out} (es : List Event) → Follows w o p → Follows w (more es o) (more es p)
more_follows es (both_go h r c) = both_go h r c
more_follows es both_stop = both_stop
more_follows es (old_stops {es = fs} {o = p} x) = old_stops (more_prefix es fs p x)
more_follows es (old_out {es = fs} {o = p} i x) = old_out i (more_prefix es fs p x)
more_follows es (new_out o) = new_out o

-- no events more
pub nothing_more : {w : World} {p : Out} (o : Out) → Follows w o p → Follows w (more [] o) p
nothing_more (goes es s c) q = q
nothing_more (stops es e) q = q

on_trace : (o : Out) (k : Completion → M) → Prefix (trace o) (trace (go_on o k))
on_trace (goes es s c) k = (trace (k c s), more_trace es (k c s))
on_trace (stops es e) k = ([], sym (append-nil es))

pub prefix_on : (es : List Event) (o : Out) (k : Completion → M) → Prefix es (trace o) → Prefix es (trace (go_on o k))
prefix_on es o k x =
    let y = on_trace o k in
    (x.0 ++ y.0, y.1 ∙ ap (λ l. l ++ y.0) x.1 ∙ append_assoc es x.0 y.0)

pub on_follows : {w : World} {o p : Out} (j k : Completion → M) → Follows w o p → ((w2 : World) → Sub w w2 → (c d : Completion) → SameCompletion w2 c d → Acts w2 (j c) (k d)) → Follows w (go_on o j) (go_on p k)
on_follows j k (both_go {es = es} {s = s} {z = z} {c = c} {d = d} {w2 = w2} h r e) f =
    more_follows es (follows_back h ((f w2 h c d e).act w2 (same w2) s z r))
on_follows j k both_stop f = both_stop
on_follows j k (old_stops {es = es} {o = o} x) f = old_stops (prefix_on es o k x)
on_follows j k (old_out {es = es} {o = o} i x) f = old_out i (prefix_on es o k x)
on_follows j k (new_out o) f = new_out o

pub bind_acts : {w : World} {m k : M} {f g : Completion → M} → Acts w m k → ((w2 : World) (c d : Completion) → Sub w w2 → SameCompletion w2 c d → Acts w2 (f c) (g d)) → Acts w (bind m f) (bind k g)
unfolding bind
bind_acts {f = f} {g = g} a b = record { act = λ w2 h s z r. on_follows f g (a.act w2 h s z r) (λ w3 i c d e. b w3 c d (later h i) e) }

pub done_acts : {w : World} {c d : Completion} → SameCompletion w c d → Acts w (done c) (done d)
unfolding done
done_acts e = record { act = λ w2 h s z r. both_go (same w2) r (completion_later h e) }

pub stop_acts : {w : World} (e : Ending) → Acts w (stop e) (stop e)
unfolding stop
stop_acts e = record { act = λ w2 h s z r. both_stop }

-- where the old run is uncovered the new one does as it likes
pub unknown_acts : {w : World} {m : M} → Acts w unknown m
unfolding stop
unknown_acts {m = m} = record { act = λ w2 h s z r. old_stops (trace (m z), refl) }

choose_same : {w : World} {a b c d : M} (p : Bool) → Acts w a c → Acts w b d → Acts w (choose p a b) (choose p c d)
unfolding choose
choose_same true x y = x
choose_same false x y = y

pub choose_acts : {w : World} {p q : Bool} {a b c d : M} → p ≡ q → Acts w a c → Acts w b d → Acts w (choose p a b) (choose q c d)
choose_acts {w = w} {p = p} {a = a} {b = b} {c = c} {d = d} e x y = subst (λ i. Acts w (choose p a b) (choose i c d)) e (choose_same p x y)

pub give_acts : {w : World} {v u : Value} → Same w v u → Acts w (give v) (give u)
give_acts r = done_acts (same_gives r same_plain)

pub normal_acts : {w : World} → Acts w (done Completion.normal) (done Completion.normal)
normal_acts = done_acts same_normal

pub if_normal_acts : {w : World} {m k : M} → Acts w m k → (w2 : World) (c d : Completion) → Sub w w2 → SameCompletion w2 c d → Acts w2 (if_normal m c) (if_normal k d)
if_normal_acts a w2 _ _ h same_normal = acts_later h a
if_normal_acts a w2 _ _ h (same_gives r q) = unknown_acts
if_normal_acts a w2 _ _ h (same_gives_all r) = unknown_acts
if_normal_acts a w2 _ _ h (same_refers r) = unknown_acts
if_normal_acts a w2 _ _ h same_breaks = done_acts same_breaks
if_normal_acts a w2 _ _ h same_continues = done_acts same_continues
if_normal_acts a w2 _ _ h (same_returns r) = done_acts (same_returns r)
if_normal_acts a w2 _ _ h (same_throws r) = done_acts (same_throws r)

pub seq_acts : {w : World} {m k n l : M} → Acts w m k → Acts w n l → Acts w (seq m n) (seq k l)
seq_acts a b = bind_acts a (if_normal_acts b)

if_gives_acts : {w : World} {f g : Value → Value → M} → ((w2 : World) (v u x y : Value) → Sub w w2 → Same w2 v u → Same w2 x y → Acts w2 (f v x) (g u y)) → (w2 : World) (c d : Completion) → Sub w w2 → SameCompletion w2 c d → Acts w2 (if_gives f c) (if_gives g d)
if_gives_acts b w2 _ _ h same_normal = unknown_acts
if_gives_acts b w2 _ _ h (same_gives r q) = b w2 _ _ _ _ h r q
if_gives_acts b w2 _ _ h (same_gives_all r) = unknown_acts
if_gives_acts b w2 _ _ h (same_refers r) = unknown_acts
if_gives_acts b w2 _ _ h same_breaks = unknown_acts
if_gives_acts b w2 _ _ h same_continues = unknown_acts
if_gives_acts b w2 _ _ h (same_returns r) = unknown_acts
if_gives_acts b w2 _ _ h (same_throws r) = done_acts (same_throws r)

pub receiver_acts : {w : World} {m k : M} {f g : Value → Value → M} → Acts w m k → ((w2 : World) (v u x y : Value) → Sub w w2 → Same w2 v u → Same w2 x y → Acts w2 (f v x) (g u y)) → Acts w (with_receiver m f) (with_receiver k g)
receiver_acts a b = bind_acts a (if_gives_acts b)

pub value_acts : {w : World} {m k : M} {f g : Value → M} → Acts w m k → ((w2 : World) (v u : Value) → Sub w w2 → Same w2 v u → Acts w2 (f v) (g u)) → Acts w (with_value m f) (with_value k g)
value_acts a b = bind_acts a (if_gives_acts (λ w2 v u x y h r q. b w2 v u h r))

if_gives_all_acts : {w : World} {f g : List Value → M} → ((w2 : World) (vs us : List Value) → Sub w w2 → SameAll w2 vs us → Acts w2 (f vs) (g us)) → (w2 : World) (c d : Completion) → Sub w w2 → SameCompletion w2 c d → Acts w2 (if_gives_all f c) (if_gives_all g d)
if_gives_all_acts b w2 _ _ h same_normal = unknown_acts
if_gives_all_acts b w2 _ _ h (same_gives r q) = unknown_acts
if_gives_all_acts b w2 _ _ h (same_gives_all r) = b w2 _ _ h r
if_gives_all_acts b w2 _ _ h (same_refers r) = unknown_acts
if_gives_all_acts b w2 _ _ h same_breaks = unknown_acts
if_gives_all_acts b w2 _ _ h same_continues = unknown_acts
if_gives_all_acts b w2 _ _ h (same_returns r) = unknown_acts
if_gives_all_acts b w2 _ _ h (same_throws r) = done_acts (same_throws r)

pub all_acts : {w : World} {m k : M} {f g : List Value → M} → Acts w m k → ((w2 : World) (vs us : List Value) → Sub w w2 → SameAll w2 vs us → Acts w2 (f vs) (g us)) → Acts w (with_all m f) (with_all k g)
all_acts a b = bind_acts a (if_gives_all_acts b)

if_refers_acts : {w : World} {f g : Place → M} → ((w2 : World) (p q : Place) → Sub w w2 → SamePlace w2 p q → Acts w2 (f p) (g q)) → (w2 : World) (c d : Completion) → Sub w w2 → SameCompletion w2 c d → Acts w2 (if_refers f c) (if_refers g d)
if_refers_acts b w2 _ _ h same_normal = unknown_acts
if_refers_acts b w2 _ _ h (same_gives r q) = unknown_acts
if_refers_acts b w2 _ _ h (same_gives_all r) = unknown_acts
if_refers_acts b w2 _ _ h (same_refers r) = b w2 _ _ h r
if_refers_acts b w2 _ _ h same_breaks = unknown_acts
if_refers_acts b w2 _ _ h same_continues = unknown_acts
if_refers_acts b w2 _ _ h (same_returns r) = unknown_acts
if_refers_acts b w2 _ _ h (same_throws r) = done_acts (same_throws r)

-- values that are given, and what follows
nothing_more_right : {w : World} {o : Out} (p : Out) → Follows w o p → Follows w o (more [] p)
nothing_more_right (goes es s c) q = q
nothing_more_right (stops es e) q = q

pub give_both : {w : World} (f g : Value → M) (v u : Value) → Acts w (f v) (g u) → Acts w (with_value (give v) f) (with_value (give u) g)
unfolding bind done
give_both f g v u a = record { act = λ w2 h s z r. nothing_more (f v s) (nothing_more_right (g u z) (a.act w2 h s z r)) }

-- a value that the new run alone goes on with
pub give_right : {w : World} {m : M} (g : Value → M) (u : Value) → Acts w m (g u) → Acts w m (with_value (give u) g)
unfolding bind done
give_right g u a = record { act = λ w2 h s z r. nothing_more_right (g u z) (a.act w2 h s z r) }

pub place_acts : {w : World} {m k : M} {f g : Place → M} → Acts w m k → ((w2 : World) (p q : Place) → Sub w w2 → SamePlace w2 p q → Acts w2 (f p) (g q)) → Acts w (with_place m f) (with_place k g)
place_acts a b = bind_acts a (if_refers_acts b)

-- cells

if_cell : {w : World} {c d e f : Cell} (p q : Bool) → p ≡ q → SameCell w c d → SameCell w e f → SameCell w (if p then c else e) (if q then d else f)
if_cell {w = w} {c = c} {d = d} {e = e} {f = f} p q x r n = subst (λ b. SameCell w (if p then c else e) (if b then d else f)) x (go p)
  where
    go : (p : Bool) → SameCell w (if p then c else e) (if p then d else f)
    go true = r
    go false = n

if_first : {w : World} {c d : Cell} (e f : Cell) (p q : Bool) → p ≡ true → q ≡ true → SameCell w c d → SameCell w (if p then c else e) (if q then d else f)
if_first e f p q x y r = rw (x, y) r

if_second : {w : World} {e f : Cell} (c d : Cell) (p q : Bool) → p ≡ false → q ≡ false → SameCell w e f → SameCell w (if p then c else e) (if q then d else f)
if_second c d p q x y r = rw (x, y) r

if_not : {w : World} {e f : Cell} (c : Cell) (p : Bool) → p ≡ false → SameCell w e f → SameCell w (if p then c else e) f
if_not c p x r = rw x r

if_not_right : {w : World} {e f : Cell} (c : Cell) (p : Bool) → p ≡ false → SameCell w e f → SameCell w e (if p then c else f)
if_not_right c p x r = rw x r

obeys_if : (c e : Cell) (p : Rule) (b : Bool) → (b ≡ true → Obeys p c) → Obeys p e → Obeys p (if b then c else e)
obeys_if c e p true x y = x refl
obeys_if c e p false x y = y

put_cells : {w : World} {s z : ℕ → Cell} {m n : ℕ} {p : Rule} (i j : ℕ) (c d : Cell) → Links w m n → Cells w s z → In (both i j p) w → Obeys p c → SameCell w c d → Cells w (put s i c) (put z j d)
put_cells {w = w} {s = s} {p = p} i j c d g r l o e = record {
  linked = λ a b q k u. if_cell (nat_eq a i) (nat_eq b j) (ids_same g l k) e (r.linked a b q k u);
  obeyed = λ a b q k. obeys_if c (s a) q (nat_eq a i) (λ x. subst (λ y. Obeys y c) ((g.one_way a j b p q (subst (λ y. In (both y j p) w) (sym (eqb-true a i x)) l) k).1) o) (r.obeyed a b q k);
}

put_left : {w : World} {s z : ℕ → Cell} {m n : ℕ} (i : ℕ) (c : Cell) → Links w m n → Cells w s z → In (left i) w → Cells w (put s i c) z
put_left {w = w} {s = s} i c g r l = record {
  linked = λ a b p k u. if_not c (nat_eq a i) (not_eq a i (λ x. g.apart a b p (subst (λ y. In (left y) w) (sym x) l) k)) (r.linked a b p k u);
  obeyed = λ a b p k. obeys_if c (s a) p (nat_eq a i) (λ x. absurd (g.apart a b p (subst (λ y. In (left y) w) (sym (eqb-true a i x)) l) k)) (r.obeyed a b p k);
}

put_right : {w : World} {s z : ℕ → Cell} {m n : ℕ} (i : ℕ) (c : Cell) → Links w m n → Cells w s z → In (right i) w → Cells w s (put z i c)
put_right {w = w} {s = s} {z = z} i c g r l = record {
  linked = λ a b p k u. if_not_right c (nat_eq b i) (not_eq b i (λ x. g.apart_right a b p (subst (λ y. In (right y) w) (sym x) l) k)) (r.linked a b p k u);
  obeyed = r.obeyed;
}

new_cells : {w : World} {s z : ℕ → Cell} {m n : ℕ} (q : Rule) → Links w m n → Cells w s z → (c d : Cell) → Obeys q c → SameCell w c d → Cells (both m n q ∷ w) (put s m c) (put z n d)
new_cells {w = w} {s = s} {z = z} {m = m} {n = n} q g r c d o e = record { linked = λ a b p k u. go a b p (both_split a b p m n q w k) u; obeyed = λ a b p k. stay a b p (both_split a b p m n q w k) }
  where
    go : (a b : ℕ) (p : Rule) → BothNew a b p m n q w → HoldsCell p → SameCell (both m n q ∷ w) (put s m c a) (put z n d b)
    go a b p (new x) u = if_first (s a) (z b) (nat_eq a m) (nat_eq b n) (eq-eqb a m x.0) (eq-eqb b n x.1) (cell_later (grown _ w tt) e)
    go a b p (old k) u =
        let x = g.below a b p k in let y = x.0 in let t = x.1 in
        if_second c d (nat_eq a m) (nat_eq b n) (not_eq a m (λ e. omega arith)) (not_eq b n (λ e. omega arith)) (cell_later (grown _ w tt) (r.linked a b p k u))

    stay : (a b : ℕ) (p : Rule) → BothNew a b p m n q w → Obeys p (put s m c a)
    stay a b p (new x) = rw (x.2, eq-eqb a m x.0) o
    stay a b p (old k) = let y = (g.below a b p k).0 in rw (not_eq a m (λ e. omega arith)) (r.obeyed a b p k)

new_object : {w : World} {s z : ℕ → Cell} {m n : ℕ} → Cells w s z → Cells (both m n an_object ∷ w) s z
new_object {w = w} {s = s} {z = z} {m = m} {n = n} r = record { linked = λ a b p k u. go a b p (both_split a b p m n an_object w k) u; obeyed = λ a b p k. stay a b p (both_split a b p m n an_object w k) }
  where
    go : (a b : ℕ) (p : Rule) → BothNew a b p m n an_object w → HoldsCell p → SameCell (both m n an_object ∷ w) (s a) (z b)
    go a b p (new x) u = absurd (subst HoldsCell x.2 u)
    go a b p (old k) u = cell_later (grown _ w tt) (r.linked a b p k u)

    stay : (a b : ℕ) (p : Rule) → BothNew a b p m n an_object w → Obeys p (s a)
    stay a b p (new x) = rw x.2 tt
    stay a b p (old k) = r.obeyed a b p k

left_cells : {w : World} {s z : ℕ → Cell} {m n : ℕ} → Links w m n → Cells w s z → (c : Cell) → Cells (left m ∷ w) (put s m c) z
left_cells {w = w} {s = s} {z = z} {m = m} {n = n} g r c = record { linked = λ a b p k u. go a b p (behind_left a b p m w k) u; obeyed = λ a b p k. stay a b p (behind_left a b p m w k) }
  where
    go : (a b : ℕ) (p : Rule) → In (both a b p) w → HoldsCell p → SameCell (left m ∷ w) (put s m c a) (z b)
    go a b p k u =
        let y = (g.below a b p k).0 in
        if_not c (nat_eq a m) (not_eq a m (λ e. omega arith)) (cell_later (grown _ w tt) (r.linked a b p k u))

    stay : (a b : ℕ) (p : Rule) → In (both a b p) w → Obeys p (put s m c a)
    stay a b p k = let y = (g.below a b p k).0 in rw (not_eq a m (λ e. omega arith)) (r.obeyed a b p k)

right_cells : {w : World} {s z : ℕ → Cell} {m n : ℕ} → Links w m n → Cells w s z → (c : Cell) → Cells (right n ∷ w) s (put z n c)
right_cells {w = w} {s = s} {z = z} {m = m} {n = n} g r c = record { linked = λ a b p k u. go a b p (behind_right a b p n w k) u; obeyed = λ a b p k. r.obeyed a b p (behind_right a b p n w k) }
  where
    go : (a b : ℕ) (p : Rule) → In (both a b p) w → HoldsCell p → SameCell (right n ∷ w) (s a) (put z n c b)
    go a b p k u = let y = (g.below a b p k).1 in if_not_right c (nat_eq b n) (not_eq b n (λ e. omega arith)) (cell_later (grown _ w tt) (r.linked a b p k u))

-- states

-- all but the counter and the cells, in a world that grew
other_states : {w w2 : World} {s z : State} {m n : ℕ} {f g : ℕ → Cell} → Sub w w2 → States w s z → Links w2 m n → Cells w2 f g → States w2 (record s { fresh = m; store = f }) (record z { fresh = n; store = g })
other_states h r l c = record {
  budget = budgets_later h r.budget;
  links = l;
  cells = c;
  globals = λ x. opt_later h (r.globals x);
  imports = λ source x. opt_later h (r.imports source x);
  shown = all_later h r.shown;
  moves = r.moves;
  exports = exports_later h r.exports;
  stars = r.stars;
}

stored_states : {w : World} {s z : State} {f g : ℕ → Cell} → States w s z → Cells w f g → States w (record s { store = f }) (record z { store = g })
stored_states {w = w} r c = other_states (same w) r r.links c

pub left_states : {w : World} {s z : State} (c : Cell) → States w s z → States (left s.fresh ∷ w) (record s { fresh = suc s.fresh; store = put s.store s.fresh c }) z
left_states {w = w} c r = other_states (grown _ w tt) r (left_links r.links) (left_cells r.links r.cells c)

pub stored_left : {w : World} {s z : State} (i : ℕ) (c : Cell) → In (left i) w → States w s z → States w (record s { store = put s.store i c }) z
stored_left i c l r = stored_states r (put_left i c r.links r.cells l)

right_states : {w : World} {s z : State} (c : Cell) → States w s z → States (right z.fresh ∷ w) s (record z { fresh = suc z.fresh; store = put z.store z.fresh c })
right_states {w = w} c r = other_states (grown _ w tt) r (right_links r.links) (right_cells r.links r.cells c)

-- a number that nothing stands for
pub skipped_states : {w : World} {s z : State} → States w s z → States w (record s { fresh = suc s.fresh }) z
skipped_states {w = w} {s = s} r = other_states (same w) r (links_up (suc s.fresh) (omega arith) r.links) r.cells

skipped_right : {w : World} {s z : State} → States w s z → States w s (record z { fresh = suc z.fresh })
skipped_right {w = w} {z = z} r = other_states (same w) r (links_up_right (suc z.fresh) (omega arith) r.links) r.cells

-- acts on cells and objects

pub alloc_rule : {w : World} {c d : Cell} {f g : ℕ → M} (q : Rule) → Obeys q c → SameCell w c d → ((w2 : World) (i j : ℕ) → Sub w w2 → In (both i j q) w2 → Acts w2 (f i) (g j)) → Acts w (alloc c f) (alloc d g)
unfolding alloc
alloc_rule {c = c} {d = d} q o e b = record { act = λ w2 h s z r. let l = both s.fresh z.fresh q in let x = b (l ∷ w2) _ _ (later h (grown l w2 tt)) here in follows_back (grown l w2 tt) (x.act (l ∷ w2) (same (l ∷ w2)) _ _ (other_states (grown l w2 tt) r (both_links q r.links) (new_cells q r.links r.cells c d o (cell_later h e)))) }

pub alloc_acts : {w : World} {c d : Cell} {f g : ℕ → M} → SameCell w c d → ((w2 : World) (i j : ℕ) → Sub w w2 → In (both i j any_value) w2 → Acts w2 (f i) (g j)) → Acts w (alloc c f) (alloc d g)
alloc_acts e b = alloc_rule any_value tt e b

pub alloc_left : {w : World} {f : ℕ → M} {k : M} (c : Cell) → ((w2 : World) (i : ℕ) → Sub w w2 → In (left i) w2 → Acts w2 (f i) k) → Acts w (alloc c f) k
unfolding alloc
alloc_left c b = record { act = λ w2 h s z r. let l = left s.fresh in let x = b (l ∷ w2) _ (later h (grown l w2 tt)) here in follows_back (grown l w2 tt) (x.act (l ∷ w2) (same (l ∷ w2)) _ _ (left_states c r)) }

pub alloc_right : {w : World} {m : M} {f : ℕ → M} (c : Cell) → ((w2 : World) (i : ℕ) → Sub w w2 → In (right i) w2 → Acts w2 m (f i)) → Acts w m (alloc c f)
unfolding alloc
alloc_right c b = record { act = λ w2 h s z r. let l = right z.fresh in let x = b (l ∷ w2) _ (later h (grown l w2 tt)) here in follows_back (grown l w2 tt) (x.act (l ∷ w2) (same (l ∷ w2)) _ _ (right_states c r)) }

pub identity_acts : {w : World} {f g : ℕ → M} → ((w2 : World) (i j : ℕ) → Sub w w2 → In (both i j an_object) w2 → Acts w2 (f i) (g j)) → Acts w (identity f) (identity g)
unfolding identity
identity_acts b = record { act = λ w2 h s z r. let l = both s.fresh z.fresh an_object in let x = b (l ∷ w2) _ _ (later h (grown l w2 tt)) here in follows_back (grown l w2 tt) (x.act (l ∷ w2) (same (l ∷ w2)) _ _ (other_states (grown l w2 tt) r (both_links an_object r.links) (new_object r.cells))) }

pub identity_left : {w : World} {f : ℕ → M} {k : M} → ((i : ℕ) → Acts w (f i) k) → Acts w (identity f) k
unfolding identity
identity_left b = record { act = λ w2 h s z r. (b s.fresh).act w2 h _ _ (skipped_states r) }

pub identity_right : {w : World} {m : M} {f : ℕ → M} → ((i : ℕ) → Acts w m (f i)) → Acts w m (identity f)
unfolding identity
identity_right b = record { act = λ w2 h s z r. (b z.fresh).act w2 h _ _ (skipped_right r) }

pub raise_acts : {w : World} (e : ErrorKind) → Acts w (raise e) (raise e)
raise_acts e = identity_acts (λ w2 i j h l. done_acts (same_throws (same_error l)))

pub read_rule : {w : World} {i j : ℕ} {p : Rule} {f g : Cell → M} → HoldsCell p → In (both i j p) w → ((w2 : World) (c d : Cell) → Sub w w2 → Obeys p c → SameCell w2 c d → Acts w2 (f c) (g d)) → Acts w (read i f) (read j g)
unfolding read
read_rule {i = i} {j = j} {p = p} u l b = record { act = λ w2 h s z r. (b w2 _ _ h (r.cells.obeyed i j p (h.kept _ l)) (r.cells.linked i j p (h.kept _ l) u)).act w2 (same w2) s z r }

pub read_acts : {w : World} {i j : ℕ} {p : Rule} {f g : Cell → M} → HoldsCell p → In (both i j p) w → ((w2 : World) (c d : Cell) → Sub w w2 → SameCell w2 c d → Acts w2 (f c) (g d)) → Acts w (read i f) (read j g)
read_acts u l b = read_rule u l (λ w2 c d h o e. b w2 c d h e)

pub read_left : {w : World} {f : Cell → M} {k : M} (i : ℕ) → ((c : Cell) → Acts w (f c) k) → Acts w (read i f) k
unfolding read
read_left i b = record { act = λ w2 h s z r. (b (s.store i)).act w2 h s z r }

pub read_right : {w : World} {m : M} {f : Cell → M} (i : ℕ) → ((c : Cell) → Acts w m (f c)) → Acts w m (read i f)
unfolding read
read_right i b = record { act = λ w2 h s z r. (b (z.store i)).act w2 h s z r }

-- what the old run reads in a cell with a rule
pub read_obeyed : {w : World} {i j : ℕ} {p : Rule} {f : Cell → M} {k : M} → In (both i j p) w → ((c : Cell) → Obeys p c → Acts w (f c) k) → Acts w (read i f) k
unfolding read
read_obeyed {i = i} {j = j} {p = p} l b = record { act = λ w2 h s z r. (b (s.store i) (r.cells.obeyed i j p (h.kept _ l))).act w2 h s z r }

pub store_rule : {w : World} {i j : ℕ} {p : Rule} {c d : Cell} {m k : M} → In (both i j p) w → Obeys p c → SameCell w c d → Acts w m k → Acts w (store i c m) (store j d k)
unfolding store
store_rule {i = i} {j = j} {c = c} {d = d} l o e a = record { act = λ w2 h s z r. a.act w2 h _ _ (stored_states r (put_cells i j c d r.links r.cells (h.kept _ l) o (cell_later h e))) }

pub store_acts : {w : World} {i j : ℕ} {c d : Cell} {m k : M} → In (both i j any_value) w → SameCell w c d → Acts w m k → Acts w (store i c m) (store j d k)
store_acts l e a = store_rule l tt e a

pub store_left : {w : World} {i : ℕ} {m k : M} (c : Cell) → In (left i) w → Acts w m k → Acts w (store i c m) k
unfolding store
store_left {i = i} c l a = record { act = λ w2 h s z r. a.act w2 h _ _ (stored_left i c (h.kept _ l) r) }

pub store_right : {w : World} {i : ℕ} {m k : M} (c : Cell) → In (right i) w → Acts w m k → Acts w m (store i c k)
unfolding store
store_right {i = i} c l a = record { act = λ w2 h s z r. a.act w2 h _ _ (stored_states r (put_right i c r.links r.cells (h.kept _ l))) }

-- globals and imports

if_opt : {w : World} {o p o2 p2 : Option Value} (b : Bool) → SameOpt w o p → SameOpt w o2 p2 → SameOpt w (if b then o else o2) (if b then p else p2)
if_opt true r q = r
if_opt false r q = q

pub get_global_acts : {w : World} {f g : Option Value → M} (x : Text) → ((w2 : World) (o p : Option Value) → Sub w w2 → SameOpt w2 o p → Acts w2 (f o) (g p)) → Acts w (get_global x f) (get_global x g)
unfolding get_global
get_global_acts x b = record { act = λ w2 h s z r. (b w2 _ _ h (r.globals x)).act w2 (same w2) s z r }

global_states : {w : World} {s z : State} {f g : Text → Option Value} → States w s z → ((x : Text) → SameOpt w (f x) (g x)) → States w (record s { globals = f }) (record z { globals = g })
global_states r q = record { budget = r.budget; links = r.links; cells = r.cells; globals = q; imports = r.imports; shown = r.shown; moves = r.moves; exports = r.exports; stars = r.stars }

pub set_global_acts : {w : World} {o p : Option Value} {m k : M} (x : Text) → SameOpt w o p → Acts w m k → Acts w (set_global x o m) (set_global x p k)
unfolding set_global
set_global_acts x e a = record { act = λ w2 h s z r. a.act w2 h _ _ (global_states r (λ y. if_opt (bytes_eq y x) (opt_later h e) (r.globals y))) }

pub get_import_acts : {w : World} {f g : Option Value → M} (source x : Text) → ((w2 : World) (o p : Option Value) → Sub w w2 → SameOpt w2 o p → Acts w2 (f o) (g p)) → Acts w (get_import source x f) (get_import source x g)
unfolding get_import
get_import_acts source x b = record { act = λ w2 h s z r. (b w2 _ _ h (r.imports source x)).act w2 (same w2) s z r }

import_states : {w : World} {s z : State} {f g : Text → Text → Option Value} → States w s z → ((source x : Text) → SameOpt w (f source x) (g source x)) → States w (record s { imports = f }) (record z { imports = g })
import_states r q = record { budget = r.budget; links = r.links; cells = r.cells; globals = r.globals; imports = q; shown = r.shown; moves = r.moves; exports = r.exports; stars = r.stars }

pub set_import_acts : {w : World} {o p : Option Value} {m k : M} (source x : Text) → SameOpt w o p → Acts w m k → Acts w (set_import source x o m) (set_import source x p k)
unfolding set_import
set_import_acts source x e a = record { act = λ w2 h s z r. a.act w2 h _ _ (import_states r (λ t y. if_opt (bytes_eq t source && bytes_eq y x) (opt_later h e) (r.imports t y))) }

-- the host's moves, the exports, events

pub moves_acts : {w : World} {f g : List Move → M} → ((ms : List Move) → Acts w (f ms) (g ms)) → Acts w (with_moves f) (with_moves g)
unfolding with_moves
moves_acts {f = f} {g = g} b = record { act = λ w2 h s z r. subst (λ ms. Follows w2 (f s.moves s) (g ms z)) r.moves ((b s.moves).act w2 h s z r) }

pub set_moves_acts : {w : World} {m k : M} (ms : List Move) → Acts w m k → Acts w (set_moves ms m) (set_moves ms k)
unfolding set_moves
set_moves_acts ms a = record { act = λ w2 h s z r. a.act w2 h _ _ (record { budget = r.budget; links = r.links; cells = r.cells; globals = r.globals; imports = r.imports; shown = r.shown; moves = refl; exports = r.exports; stars = r.stars }) }

pub put_event_acts : {w : World} {m k : M} (x : Event) → Acts w m k → Acts w (put_event x m) (put_event x k)
unfolding put_event
put_event_acts x a = record { act = λ w2 h s z r. more_follows (x ∷ []) (a.act w2 h s z r) }

pub with_exports_acts : {w : World} {f g : List Export → List Text → M} → ((w2 : World) (es fs : List Export) (stars : List Text) → Sub w w2 → SameExports w2 es fs → Acts w2 (f es stars) (g fs stars)) → Acts w (with_exports f) (with_exports g)
unfolding with_exports
with_exports_acts {f = f} {g = g} b = record { act = λ w2 h s z r. subst (λ l. Follows w2 (f s.exports s.stars s) (g z.exports l z)) r.stars ((b w2 s.exports z.exports s.stars h r.exports).act w2 (same w2) s z r) }

pub set_exports_acts : {w : World} {m k : M} {es fs : List Export} (stars : List Text) → SameExports w es fs → Acts w m k → Acts w (set_exports es stars m) (set_exports fs stars k)
unfolding set_exports
set_exports_acts stars e a = record { act = λ w2 h s z r. a.act w2 h _ _ (record { budget = r.budget; links = r.links; cells = r.cells; globals = r.globals; imports = r.imports; shown = r.shown; moves = r.moves; exports = exports_later h e; stars = refl }) }

-- an entry costs both one

fewer_budgets : {w : World} {m n : ℕ} → Budgets w (suc m) (suc n) → Budgets w m n
fewer_budgets (as_many f e) = as_many f (omega arith)
fewer_budgets (no_more i l) = no_more i (omega arith)
fewer_budgets (twice o l) = twice o (omega arith)

pub none_left : {w : World} {o : ℕ} (p : Out) → Budgets w zero (suc o) → Follows w (stops [] Ending.out) p
none_left p (as_many f e) = absurd (omega arith)
none_left p (no_more i l) = old_out i (trace p, refl)
none_left p (twice o l) = absurd (omega arith)

pub only_old_left : {w : World} {n : ℕ} (p : Out) → Budgets w (suc n) zero → Follows w p (stops [] Ending.out)
only_old_left p (as_many f e) = absurd (omega arith)
only_old_left p (no_more i l) = absurd (omega arith)
only_old_left p (twice o l) = new_out o

spend_follows : {w : World} {m k : M} {s z : State} (n o : ℕ) → Budgets w n o → States w s z → Acts w m k → Follows w (spend_from n m s) (spend_from o k z)
spend_follows zero zero e r a = both_stop
spend_follows {k = k} {z = z} zero (suc o) e r a = none_left (k (record z { budget = o })) e
spend_follows {m = m} {s = s} (suc n) zero e r a = only_old_left (m (record s { budget = n })) e
spend_follows {w = w} (suc n) (suc o) e r a = a.act w (same w) _ _ (record { budget = fewer_budgets e; links = r.links; cells = r.cells; globals = r.globals; imports = r.imports; shown = r.shown; moves = r.moves; exports = r.exports; stars = r.stars })

pub spend_acts : {w : World} {m k : M} → Acts w m k → Acts w (spend m) (spend k)
unfolding spend
spend_acts a = record { act = λ w2 h s z r. spend_follows s.budget z.budget r.budget r (acts_later h a) }
