-- Keeping runs: it composes, and refinement gives it in both directions.
use Rattle.std.proofs.Common.{◌≡◌, ℕ, List, [], ◌++◌, ◌⊎◌, inl, inr, refl, sym, ◌∙◌, ap, subst, append_assoc}
use Rattle.std.proofs.lemmas.List.{append-nil}
use Rattle.js_syntax.specs.Node.{Forest}
use Rattle.js_meaning.specs.Trace.{Event, Ending, ended, host_stopped, out, uncovered, Run}
use Rattle.js_meaning.specs.State.{State, Completion, Out, goes, stops, M, more, go_on, bind}
use Rattle.js_meaning.specs.Run.{run, seen}
use Rattle.js_meaning.specs.Kept.{Prefix, keeps, Keeps, Kept, comes_back, KeptBack, BackWithin, recovers, Recovered, refines, Refines, Refined}

prefix_of_same : (es fs : List Event) → fs ≡ es → Prefix es fs
prefix_of_same es fs h = ([], h ∙ sym (append-nil es))

prefix_joined : (es fs gs : List Event) → Prefix es fs → Prefix fs gs → Prefix es gs
prefix_joined es fs gs (p, h) (q, g) = (p ++ q, g ∙ ap (λ x. x ++ q) h ∙ append_assoc es p q)

same_trace : (a b : Run) → b ≡ a → Prefix a.trace b.trace
same_trace a b h = prefix_of_same a.trace b.trace (ap (λ r. r.trace) h)

keeps_prefix : (a b : Run) (e : Ending) → keeps e a b → Prefix a.trace b.trace
keeps_prefix a b (ended x) h = same_trace a b h
keeps_prefix a b host_stopped h = same_trace a b h
keeps_prefix a b out h = h
keeps_prefix a b uncovered h = h

same_keeps : (a b c : Run) (e : Ending) → a.ending ≡ e → b ≡ a → Keeps b c → keeps e a c
same_keeps a b c e p h g = subst (λ e. keeps e a c) p (subst (λ r. Keeps r c) h g)

keeps_joined : (a b c : Run) (e : Ending) → a.ending ≡ e → keeps e a b → Keeps b c → keeps e a c
keeps_joined a b c (ended x) p h g = same_keeps a b c (ended x) p h g
keeps_joined a b c host_stopped p h g = same_keeps a b c host_stopped p h g
keeps_joined a b c out p h g = prefix_joined a.trace b.trace c.trace h (keeps_prefix b c b.ending g)
keeps_joined a b c uncovered p h g = prefix_joined a.trace b.trace c.trace h (keeps_prefix b c b.ending g)

pub kept_joined : (t u v : Forest) → Kept t u → Kept u v → Kept t v
kept_joined t u v h g script n = keeps_joined (run t script n) (run u script n) (run v script n) (run t script n).ending refl (h script n) (g script n)

refines_prefix : (a b : Run) (e : Ending) → refines e a b → Prefix a.trace b.trace
refines_prefix a b (ended x) h = same_trace a b h
refines_prefix a b host_stopped h = same_trace a b h
refines_prefix a b out h = same_trace a b h
refines_prefix a b uncovered h = h

same_refines : (a b c : Run) (e : Ending) → a.ending ≡ e → b ≡ a → Refines b c → refines e a c
same_refines a b c e p h g = subst (λ e. refines e a c) p (subst (λ r. Refines r c) h g)

refines_joined : (a b c : Run) (e : Ending) → a.ending ≡ e → refines e a b → Refines b c → refines e a c
refines_joined a b c (ended x) p h g = same_refines a b c (ended x) p h g
refines_joined a b c host_stopped p h g = same_refines a b c host_stopped p h g
refines_joined a b c out p h g = same_refines a b c out p h g
refines_joined a b c uncovered p h g = prefix_joined a.trace b.trace c.trace h (refines_prefix b c b.ending g)

pub refined_joined : (t u v : Forest) → Refined t u → Refined u v → Refined t v
refined_joined t u v h g script n = refines_joined (run t script n) (run u script n) (run v script n) (run t script n).ending refl (h script n) (g script n)

refines_keeps : (a b : Run) (e : Ending) → refines e a b → keeps e a b
refines_keeps a b (ended x) h = h
refines_keeps a b host_stopped h = h
refines_keeps a b out h = same_trace a b h
refines_keeps a b uncovered h = h

pub refined_kept : (t u : Forest) → Refined t u → Kept t u
refined_kept t u h script n = refines_keeps (run t script n) (run u script n) (run t script n).ending (h script n)

same_or_uncovered : (a b : Run) (e : Ending) → a.ending ≡ e → refines e a b → (a.ending ≡ uncovered) ⊎ (a ≡ b)
same_or_uncovered a b (ended x) p h = inr (sym h)
same_or_uncovered a b host_stopped p h = inr (sym h)
same_or_uncovered a b out p h = inr (sym h)
same_or_uncovered a b uncovered p h = inl p

refines_back : (a b : Run) (f : Ending) → Refines a b → comes_back f a b
refines_back a b (ended x) h = same_or_uncovered a b a.ending refl h
refines_back a b host_stopped h = same_or_uncovered a b a.ending refl h
refines_back a b out h = tt
refines_back a b uncovered h = tt

pub refined_back : (t u : Forest) → Refined t u → KeptBack t u
refined_back t u h script n = refines_back (run t script n) (run u script n) (run u script n).ending (h script n)

refines_itself : (a : Run) (e : Ending) → refines e a a
refines_itself a (ended x) = refl
refines_itself a host_stopped = refl
refines_itself a out = refl
refines_itself a uncovered = prefix_of_same a.trace a.trace refl

pub refined_same : (t : Forest) → Refined t t
refined_same t script n = refines_itself (run t script n) (run t script n).ending

-- the way back by another bound

-- what is known of two runs of which the second isn't out
abbrev Recovering : Run → Run → Type 0
Recovering a b = (a ≡ b) ⊎ ((a.ending ≡ uncovered) × Prefix a.trace b.trace)

recovering : (a b : Run) (e : Ending) → (e ≡ out → ⊥) → recovers e a b → Recovering a b
recovering a b (ended x) n h = h
recovering a b host_stopped n h = h
recovering a b out n h = absurd (n refl)
recovering a b uncovered n h = h

recovers_so : (a b : Run) (e : Ending) → ((e ≡ out → ⊥) → Recovering a b) → recovers e a b
recovers_so a b (ended x) h = h (λ x. cc)
recovers_so a b host_stopped h = h (λ x. cc)
recovers_so a b out h = tt
recovers_so a b uncovered h = h (λ x. cc)

uncovered_goes_on : uncovered ≡ out → ⊥
uncovered_goes_on e = cc

recovering_joined : (a b c : Run) → (c.ending ≡ out → ⊥) → ((b.ending ≡ out → ⊥) → Recovering a b) → Recovering b c → Recovering a c
recovering_joined a b c n h (inl e) = subst (Recovering a) e (h (λ x. n (ap (λ r. r.ending) (sym e) ∙ x)))
recovering_joined a b c n h (inr p) = go (h (λ x. uncovered_goes_on (sym p.0 ∙ x)))
  where
    go : Recovering a b → Recovering a c
    go (inl e) = inr (ap (λ r. r.ending) e ∙ p.0, subst (λ r. Prefix r.trace c.trace) (sym e) p.1)
    go (inr q) = inr (q.0, prefix_joined a.trace b.trace c.trace q.1 p.1)

pub recovered_joined : (f g : ℕ → ℕ) (t u v : Forest) → Recovered f t u → Recovered g u v → Recovered (λ n. f (g n)) t v
recovered_joined f g t u v h k script n =
    let a = run t script (f (g n)) in
    let b = run u script (g n) in
    let c = run v script n in
    recovers_so a c c.ending (λ x. recovering_joined a b c x (λ y. recovering a b b.ending y (h script (g n))) (recovering b c c.ending x (k script n)))

refines_recovering : (a b : Run) (e : Ending) → a.ending ≡ e → refines e a b → Recovering a b
refines_recovering a b (ended x) p h = inl (sym h)
refines_recovering a b host_stopped p h = inl (sym h)
refines_recovering a b out p h = inl (sym h)
refines_recovering a b uncovered p h = inr (p, h)

pub refined_recovers : (t u : Forest) → Refined t u → Recovered (λ n. n) t u
refined_recovers t u h script n =
    let a = run t script n in
    let b = run u script n in
    recovers_so a b b.ending (λ x. refines_recovering a b a.ending refl (h script n))

recovering_back : (a b : Run) → Recovering a b → (a.ending ≡ uncovered) ⊎ (a ≡ b)
recovering_back a b (inl e) = inr e
recovering_back a b (inr p) = inl p.0

recovers_back : (a b : Run) (e : Ending) → recovers e a b → comes_back e a b
recovers_back a b (ended x) h = recovering_back a b h
recovers_back a b host_stopped h = recovering_back a b h
recovers_back a b out h = tt
recovers_back a b uncovered h = tt

pub recovered_back : (f : ℕ → ℕ) (t u : Forest) → Recovered f t u → BackWithin f t u
recovered_back f t u h script n = recovers_back (run t script (f n)) (run u script n) (run u script n).ending (h script n)

-- What goes on only adds.

prefix_more : (es : List Event) (o : Out) → Prefix es (seen (more es o)).trace
prefix_more es (goes fs s c) = (fs, refl)
prefix_more es (stops fs e) = (fs, refl)

going_on : (o : Out) (k : Completion → M) → Prefix (seen o).trace (seen (go_on o k)).trace
going_on (goes es z c) k = prefix_more es (k c z)
going_on (stops es e) k = prefix_of_same es es refl

pub bind_adds : (m : M) (k : Completion → M) (s : State) → Prefix (seen (m s)).trace (seen (bind m k s)).trace
unfolding bind
bind_adds m k s = going_on (m s) k
