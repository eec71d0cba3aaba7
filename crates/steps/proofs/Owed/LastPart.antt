-- Of a sequence the parts that don't act may leave, but for the last; and where that is left alone, the sequence comes to it, or to it
-- behind a zero.
use Rattle.std.proofs.Common.{◌≡◌, ◌∙◌, [], Bool, true, false, ◌||◌, if◌then◌else◌, arith, refl, sym, subst}
use Rattle.js_syntax.specs.declared.node_kind.NodeKind.{NodeKind as Kind}
use Rattle.js_syntax.specs.Node.{Note, Forest, nothing, node, absent}
use Rattle.js_tree.specs.Walk.{is_list}
use Rattle.js_meaning.specs.Value.{Env, Value}
use Rattle.js_meaning.specs.State.{State, Out, goes, stops, M, more, go_on, unknown, if_gives, with_value, bind, stop}
use Rattle.js_meaning.specs.Host.{Enter}
use Rattle.js_meaning.specs.Node.{Wanted, Ask, value as asks_value, now, need}
use Rattle.js_meaning.specs.Expression.{in_turn}
use Rattle.js_meaning.specs.Meaning.{eval}
use Rattle.js_meaning_near.specs.Bare as runs
use Rattle.js_meaning_near.specs.Names.{Names, Binds}
use Rattle.js_meaning_near.specs.Near.{meaning, Permits, ComesTo, Shorter, last_stays, one_stays, one_leaves as one_shorter}
use Rattle.js_meaning_near.specs.Purpose.{Purpose, asked}
use Rattle.js_meaning_near.specs.Quiet.{OnlyAllocates, EndsQuietly, gives_quietly, stops_quietly, Quiet, LeadsFrom, goes_on_as, stops_before, Leads}
use Rattle.js_meaning_near.specs.Unused.{IsSome}
use Rattle.js_meaning_near.proofs.Branches.{bare_asks, bare_hoists}
use Rattle.js_meaning_near.proofs.Unused.{AllNodes}
use Rattle.steps.specs.Allowed.IdleParts.{counting}
use Rattle.steps.specs.Allowed.UnusedOperation.{acts}
use Rattle.steps.proofs.Owed.BehindZero.{zero_and, zero_is}
use Rattle.steps.proofs.Owed.SilentAnywhere.{silent_anywhere}

-- ---- what is left of the parts

pub data Counting : (parts left : Forest) → Type 0 where
  last_counts : {k : Kind} {n : Note} {a : Forest} → Counting (node k n a nothing) (node k n a nothing)
  one_counts : {k l : Kind} {n m : Note} {a b r s : Forest} → Counting (node l m b r) s → Counting (node k n a (node l m b r)) (node k n a s)
  one_leaves : {k l : Kind} {n m : Note} {a b r s : Forest} → acts k n a ≡ false → Counting (node l m b r) s → Counting (node k n a (node l m b r)) s

pub counted : (parts : Forest) → AllNodes parts → IsSome parts → Counting parts (counting parts)
counted nothing nodes some = absurd some
counted (absent r) nodes some = absurd nodes
counted (node k n a nothing) nodes some = last_counts
counted (node k n a (absent r)) nodes some = absurd nodes
counted (node k n a (node l m b r)) nodes some = each (acts k n a) (is_list k) refl (counted (node l m b r) nodes tt)
  where
    each : (p q : Bool) → acts k n a ≡ p → Counting (node l m b r) (counting (node l m b r))
        → Counting (node k n a (node l m b r)) (if p || q then node k n a (counting (node l m b r)) else counting (node l m b r))
    each true q is rest = one_counts rest
    each false true is rest = one_counts rest
    each false false is rest = one_leaves is rest

pub counting_nodes : {parts left : Forest} → Counting parts left → AllNodes left
counting_nodes last_counts = tt
counting_nodes (one_counts rest) = counting_nodes rest
counting_nodes (one_leaves idle rest) = counting_nodes rest

pub counting_shorter : (st : Names) {parts left : Forest} → Counting parts left → Shorter st parts left
counting_shorter st last_counts = last_stays
counting_shorter st (one_counts rest) = one_stays (counting_shorter st rest)
counting_shorter st (one_leaves {k = k} {n = n} {a = a} idle rest) = one_shorter (silent_anywhere st k n a idle) (counting_shorter st rest)

-- ---- what allocates alone, and goes on

pub allocates_nothing : (s : State) → OnlyAllocates s s
allocates_nothing s = record { budget = refl; fresh = Prim.omega arith; store = λ i h. refl; globals = λ x. refl; imports = λ x y. refl; shown = refl; moves = refl; exports = refl; stars = refl }

allocates_both : {s z y : State} → OnlyAllocates s z → OnlyAllocates z y → OnlyAllocates s y
allocates_both a b = record {
  budget = b.budget ∙ a.budget;
  fresh = Prim.omega (arith, a.fresh, b.fresh);
  store = λ i h. b.store i (Prim.omega (arith, a.fresh, h)) ∙ a.store i h;
  globals = λ x. b.globals x ∙ a.globals x;
  imports = λ x y. b.imports x y ∙ a.imports x y;
  shown = b.shown ∙ a.shown;
  moves = b.moves ∙ a.moves;
  exports = b.exports ∙ a.exports;
  stars = b.stars ∙ a.stars;
}

pub leads_later : {s z : State} {n : M} {o : Out} → OnlyAllocates s z → LeadsFrom z n o → LeadsFrom s n o
leads_later a (goes_on_as b) = goes_on_as (allocates_both a b)
leads_later a stops_before = stops_before

pub leads_itself : (m : M) → Leads m m
leads_itself m = record { leads = λ s. goes_on_as (allocates_nothing s) }

pub more_nothing : (o : Out) → more [] o ≡ o
more_nothing (goes es s c) = refl
more_nothing (stops es e) = refl

unknown_leads : (m : M) → Leads unknown m
unfolding stop
unknown_leads m = record { leads = λ s. stops_before }

-- something quiet, and then this
quiet_leads : (m k n : M) → Quiet m → Leads k n → Leads (with_value m (λ v. k)) n
unfolding bind
quiet_leads m k n quiet after = record { leads = λ s. go s (m s) (quiet.quiet s) }
  where
    go : (s : State) (o : Out) → EndsQuietly s o → LeadsFrom s n (go_on o (if_gives (λ (v : Value) r. k)))
    go s _ (gives_quietly {z = z} a) = subst (LeadsFrom s n) (sym (more_nothing (k z))) (leads_later a (after.leads z))
    go s _ stops_quietly = stops_before

-- ---- the last part alone

no_part : {parts : Forest} → Counting parts nothing → ⊥
no_part (one_leaves idle rest) = no_part rest

module _ (E : Enter) (st : Names) (env : Env) (binds : Binds st env) (k : Kind) (i : Note) (a : Forest) where
  leads_last : {parts : Forest} → Counting parts (node k i a nothing) → Leads (in_turn (eval E parts) env) (meaning E k a now env)
  unfolding eval in_turn
  leads_last last_counts = leads_itself (meaning E k a now env)
  leads_last (one_counts rest) = absurd (no_part rest)
  leads_last (one_leaves {k = j} {l = l} {n = n} {m = m} {a = c} {b = b} {r = r} idle rest) =
      quiet_leads (meaning E j c now env) (in_turn (eval E (node l m b r)) env) (meaning E k a now env) ((silent_anywhere st j n c idle).silent E env binds) (leads_last rest)

  sequence_leads : (w : Wanted) (n : Note) {parts : Forest} → Counting parts (node k i a nothing) → runs.stands_bare w k a ≡ true → (q : Ask) → Permits w q
      → Leads (meaning E Kind.SequenceExpression (node Kind.Expressions n parts nothing) q env) (meaning E k a q env)
  unfolding need eval
  sequence_leads w n {parts = parts} left bare (asks_value u) p =
      subst (Leads (in_turn (eval E parts) env)) (sym (bare_asks E u k a env (subst (λ u. runs.stands_bare u k a ≡ true) (sym p) bare))) (leads_last left)
  sequence_leads w n left bare q p = unknown_leads _

  behind_leads : (n m o : Note) {parts : Forest} → Counting parts (node k i a nothing) → (q : Ask)
      → Leads (meaning E Kind.SequenceExpression (node Kind.Expressions n parts nothing) q env) (meaning E Kind.SequenceExpression (zero_and m o i k a) q env)
  unfolding need eval
  behind_leads n m o {parts = parts} left (asks_value u) = subst (Leads (in_turn (eval E parts) env)) (sym (zero_is E env u m o i k a)) (leads_last left)
  behind_leads n m o left q = unknown_leads _

pub comes_to_last : (u : Purpose) (st : Names) (n : Note) (k : Kind) (i : Note) (a : Forest) {parts : Forest} → Counting parts (node k i a nothing) → runs.stands_bare (asked u) k a ≡ true
    → ComesTo u st Kind.SequenceExpression (node Kind.Expressions n parts nothing) k a
comes_to_last u st n k i a left bare = record {
  old_hoists = refl;
  new_hoists = bare_hoists (asked u) k a bare;
  comes = λ E env binds q p. sequence_leads E st env binds k i a (asked u) n left bare q p;
}

pub comes_behind_zero : (u : Purpose) (st : Names) (n m o : Note) (k : Kind) (i : Note) (a : Forest) {parts : Forest} → Counting parts (node k i a nothing)
    → ComesTo u st Kind.SequenceExpression (node Kind.Expressions n parts nothing) Kind.SequenceExpression (zero_and m o i k a)
comes_behind_zero u st n m o k i a left = record {
  old_hoists = refl;
  new_hoists = refl;
  comes = λ E env binds q p. behind_leads E st env binds k i a n m o left q;
}
