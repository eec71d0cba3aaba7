-- Expressions that waste more do what those do that may stand for them.
use Rattle.std.proofs.Common.{◌≡◌, List, [], ◌∷◌, Some, refl, sym, subst}
use Rattle.std.specs.Prelude.{Bool, true, false, not}
use Rattle.js_syntax.specs.declared.node_kind.NodeKind.{NodeKind as Kind}
use Rattle.js_syntax.specs.declared.operator.LogicalOperator.{LogicalOperator}
use Rattle.js_syntax.specs.Facts.{is_core}
use Rattle.js_syntax.specs.Node.{Note, Forest, nothing, node}
use Rattle.js_meaning.specs.Value.{Text, Env, Value}
use Rattle.js_meaning.specs.State.{M, normal, done, unknown, choose, give, with_value}
use Rattle.js_meaning.specs.Scope.{look}
use Rattle.js_meaning.specs.Host.{Enter}
use Rattle.js_meaning.specs.Operator.{truthy}
use Rattle.js_meaning.specs.Expression.{in_turn}
use Rattle.js_meaning.specs.Node.{Ask, run, value, now, Meaning, Parts, need}
use Rattle.js_meaning.specs.Meaning.{does, if_core, eval}
use Rattle.js_meaning_near.specs.Purpose.{Purpose, for_value, for_effect, ForEffect, all, last_for, handed_on, wanted_below}
use Rattle.js_meaning_near.specs.Wasted.{drops, Wastes, wastes_nothing, wastes_part, wastes_silent, wastes_known, wastes_call}
use Rattle.js_meaning_near.specs.Names.{Names}
use Rattle.js_meaning_near.specs.Near.{meaning, Silent, is_blunt, SameEffects, LessWaste, OneSided, first_stays, second_stays, Shorter, last_stays, one_stays, one_leaves}
use Rattle.js_meaning_near.proofs.Worlds.{World, Sub}
use Rattle.js_meaning_near.proofs.Relations.{At, Envs, SameAsk, same_run, same_value, Acts, effects, ActsForEffect, Means, Enters, envs_later}
use Rattle.js_meaning_near.proofs.Acts.{unknown_acts}
use Rattle.js_meaning_near.proofs.Effects.{value_on, effects_first, value_effects}
use Rattle.js_meaning_near.proofs.Scopes.{envs_bind}
use Rattle.js_meaning_near.proofs.Branches.{given_is}
use Rattle.js_meaning_near.proofs.Operators.{truthy_same}
use Rattle.js_meaning_near.proofs.Rows.{same_now, part, has_parts, Fields, fields_end, fields_more}
use Rattle.js_meaning_near.proofs.Alone.{quiet_alone, soon_alone, alone_first, call_alone, known_first, silent_statement, alone_nothing}

true_false : true ≡ false → ⊥
true_false e = cc

drops_acts : {st : Names} {e : Env} (E : Enter) → Enters E → {m : M} {ms : Parts} → Wastes E st e m ms → {w : World} {f : Env} {ks : Parts} → Fields (all for_effect) st ms ks → Envs w st e f → Acts w m (drops ks f)
unfolding drops
drops_acts E n (wastes_nothing q) fields_end r = alone_nothing (soon_alone q)
drops_acts E n (wastes_part g) (fields_more (part x) c) r = effects_first (x.effect tt r) (λ w2 v u h. drops_acts E n (g v) c (envs_later h r))
drops_acts E n (wastes_silent q g) c r = alone_first (quiet_alone q) (λ v. drops_acts E n (g v) c r)
drops_acts {e = e} E n (wastes_known {x = x} k q g) {w = w} {f = f} c r = known_first x k (subst (λ t. At w t (look e x) (look f x)) q (r.at x)) (λ v y. drops_acts E n (g v y) c r)
drops_acts {e = e} E n (wastes_call {x = x} v this vs q y g) {w = w} {f = f} c r = alone_first (call_alone E n (subst (λ t. At w t (look e x) (look f x)) q (r.at x)) v this vs y) (λ u. drops_acts E n (g u) c r)

pub statement_acts : {w : World} {u : Purpose} {st : Names} {l : Kind} {e f : Env} {q z : Ask} (E : Enter) → Enters E → (a b ps qs : Forest) → SameEffects st a l b ps qs → Fields (all for_effect) st (eval E ps) (eval E qs) → Envs w st e f → SameAsk w u q z → Acts w (meaning E Kind.ExpressionStatement a q e) (meaning E l b z f)
statement_acts {w = w} {e = e} {f = f} E n a b ps qs x c r (same_run {ls = ls}) = subst (λ m. Acts w (meaning E Kind.ExpressionStatement a (run ls) e) m) (x.drops_all E f ls) (drops_acts E n (x.wastes E e (envs_bind r) ls) c r)
statement_acts E n a b ps qs x c r _ = unknown_acts

-- an expression of which nobody takes the value does what a statement of it does

as_statement : (E : Enter) (k : Kind) (n : Note) (a : Forest) (ls : List Text) (e : Env) → meaning E Kind.ExpressionStatement (node k n a nothing) (run ls) e ≡ effects (meaning E k a now e)
unfolding need eval
as_statement E k n a ls e = refl

-- what is asked for no value
abbrev NoValue : Ask → Type 0
NoValue (value w) = ⊥
NoValue q = Unit {0}

no_value : {w : World} {q z : Ask} → SameAsk w for_effect q z → NoValue q
no_value same_run = tt
no_value _ = tt

-- blunt expressions are asked for values alone
blunt_unknown : (E : Enter) (k : Kind) (a : Forest) (ms : Parts) (q : Ask) (e : Env) → is_blunt k ≡ true → NoValue q → does E k a ms q e ≡ unknown
blunt_unknown E k a ms (value w) e h s = absurd s
blunt_unknown E (Kind.Literal v) a ms q e h s = refl
blunt_unknown E Kind.ThisExpression a ms q e h s = refl
blunt_unknown E Kind.ArrayExpression a ms q e h s = refl
blunt_unknown E Kind.ObjectExpression a ms q e h s = refl
blunt_unknown E Kind.SequenceExpression a ms q e h s = refl
blunt_unknown E (Kind.UnaryExpression o) a ms q e h s = refl
blunt_unknown E (Kind.UpdateExpression o prefix) a ms q e h s = refl
blunt_unknown E (Kind.BinaryExpression o) a ms q e h s = refl
blunt_unknown E (Kind.LogicalExpression o) a ms q e h s = refl
blunt_unknown E (Kind.AssignmentExpression o) a ms q e h s = refl
blunt_unknown E Kind.ConditionalExpression a ms q e h s = refl
blunt_unknown E (Kind.CallExpression false pure) a ms q e h s = refl
blunt_unknown E (Kind.CallExpression true pure) a ms q e h s = refl
blunt_unknown E (Kind.NewExpression pure) a ms q e h s = refl
blunt_unknown E k a ms q e h s = absurd (true_false (sym h))

core_unknown : (core : Bool) (m : Meaning) (q : Ask) (e : Env) → m q e ≡ unknown → if_core core m q e ≡ unknown
core_unknown true m q e h = h
core_unknown false m q e h = refl

wasted_acts : {w : World} {q z : Ask} {n : M} (E : Enter) (k : Kind) (a : Forest) (e : Env) → is_blunt k ≡ true → SameAsk w for_effect q z → Acts w (meaning E k a q e) n
wasted_acts {w = w} {q = q} {n = n} E k a e h s = subst (λ m. Acts w m n) (sym (core_unknown (is_core k) (does E k a (eval E a)) q e (blunt_unknown E k a (eval E a) q e h (no_value s)))) unknown_acts

pub wasted_means : {u : Purpose} {st : Names} {k l : Kind} {a b ps qs : Forest} (E : Enter) → Enters E → ForEffect u → LessWaste st k a l b ps qs → Fields (all for_effect) st (eval E ps) (eval E qs) → Means u st (meaning E k a) (meaning E l b)
wasted_means {u = for_value wanted} E n g x c = absurd g
wasted_means {u = for_effect} {k = k} {l = l} {a = a} {b = b} {ps = ps} {qs = qs} E n g x c = record {
  mean = λ {w} {e} r s. wasted_acts E k a e x.old_blunt s;
  effect = λ {w} {e} {f} g r. record {
    acts =
        subst (Acts w (effects (meaning E k a now e))) (as_statement E l x.new_note b [] f)
        (subst (λ m. Acts w m (meaning E Kind.ExpressionStatement (node l x.new_note b nothing) (run []) f)) (as_statement E k x.old_note a [] e)
        (statement_acts E n (node k x.old_note a nothing) (node l x.new_note b nothing) ps qs x.effects c r (same_run {u = for_effect} {ls = []})));
  };
}

-- a conditional of which one branch does nothing

silent_effects : {w : World} {st : Names} {k : Kind} {a : Forest} {e f : Env} (E : Enter) (v : Value) → Silent st k a → Envs w st e f → ActsForEffect w (meaning E k a now e) (give v)
silent_effects {w = w} {k = k} {a = a} {e = e} E v q r = record { acts = subst (Acts w (effects (meaning E k a now e))) (sym (given_is v (λ v. done normal))) (alone_nothing (silent_statement E q r)) }

kept_first : {w : World} {m n l : M} (v : Value) (b c : Bool) → b ≡ c → ActsForEffect w m l → ActsForEffect w n (give v) → ActsForEffect w (choose b m n) (choose c l (give v))
unfolding choose
kept_first v true true h x y = x
kept_first v false false h x y = y
kept_first v true false h x y = absurd (true_false h)
kept_first v false true h x y = absurd (true_false (sym h))

kept_second : {w : World} {m n l : M} (v : Value) (b c : Bool) → b ≡ c → ActsForEffect w n l → ActsForEffect w m (give v) → ActsForEffect w (choose b m n) (choose (not c) l (give v))
unfolding choose
kept_second v true true h x y = y
kept_second v false false h x y = x
kept_second v true false h x y = absurd (true_false h)
kept_second v false true h x y = absurd (true_false (sym h))

sided_acts : {w : World} {st : Names} {o : LogicalOperator} {a c : Forest} {e f : Env} {ks : Parts} (E : Enter) (b : Forest) → OneSided st o a c → Fields (wanted_below for_effect (Kind.LogicalExpression o)) st (eval E c) ks → Envs w st e f
    → ActsForEffect w (does E Kind.ConditionalExpression a (eval E a) now e) (does E (Kind.LogicalExpression o) b ks now f)
unfolding need eval
sided_acts E b (first_stays q) (fields_more (part t) (fields_more (part x) fields_end)) r =
    value_effects (t.mean r same_now) (λ w2 v u i o. kept_first u (truthy v) (truthy u) (truthy_same o) (x.effect tt (envs_later i r)) (silent_effects E u q (envs_later i r)))
sided_acts E b (second_stays q) (fields_more (part t) (fields_more (part x) fields_end)) r =
    value_effects (t.mean r same_now) (λ w2 v u i o. kept_second u (truthy v) (truthy u) (truthy_same o) (x.effect tt (envs_later i r)) (silent_effects E u q (envs_later i r)))

pub sided_means : {u : Purpose} {st : Names} {o : LogicalOperator} {a c : Forest} (E : Enter) (b : Forest) → ForEffect u → OneSided st o a c → Fields (wanted_below for_effect (Kind.LogicalExpression o)) st (eval E c) (eval E b)
    → Means u st (meaning E Kind.ConditionalExpression a) (meaning E (Kind.LogicalExpression o) b)
sided_means {u = for_value wanted} E b g x c = absurd g
sided_means {u = for_effect} {a = a} E b g x c = record { mean = λ {w} {e} r s. wasted_acts E Kind.ConditionalExpression a e refl s; effect = λ g r. sided_acts E b x c r }

-- a sequence without some silent parts

abbrev at_purpose : Purpose → M → M
at_purpose (for_value wanted) m = m
at_purpose for_effect m = effects m

purpose_on : (u : Purpose) (m : M) (f : Value → M) → at_purpose u (with_value m f) ≡ with_value m (λ v. at_purpose u (f v))
purpose_on (for_value wanted) m f = refl
purpose_on for_effect m f = value_on m f (λ v. done normal)

last_acts : {w : World} {st : Names} {m k : Meaning} {e f : Env} (u : Purpose) → Means (handed_on u) st m k → Envs w st e f → Acts w (at_purpose u (m now e)) (at_purpose u (k now f))
last_acts (for_value wanted) x r = x.mean r same_now
last_acts for_effect x r = (x.effect tt r).acts

-- a part that others follow
in_turn_more : (m : Meaning) (ms : Parts) (e : Env) → has_parts ms ≡ true → in_turn (Some m ∷ ms) e ≡ with_value (m now e) (λ v. in_turn ms e)
unfolding in_turn
in_turn_more m [] e h = absurd (true_false (sym h))
in_turn_more m (o ∷ ms) e h = refl

old_parts : {st : Names} {a c : Forest} (E : Enter) → Shorter st a c → has_parts (eval E a) ≡ true
unfolding eval
old_parts E last_stays = refl
old_parts E (one_stays t) = refl
old_parts E (one_leaves q t) = refl

new_parts : {st : Names} {a c : Forest} (E : Enter) → Shorter st a c → has_parts (eval E c) ≡ true
unfolding eval
new_parts E last_stays = refl
new_parts E (one_stays t) = refl
new_parts E (one_leaves q t) = new_parts E t

first_turn : {w : World} {st : Names} {m : Meaning} {ms ks : Parts} {e f : Env} {n : M} (u : Purpose) → Fields (last_for (handed_on u)) st (Some m ∷ ms) ks → has_parts ms ≡ true → Envs w st e f
    → ((w2 : World) (ls : Parts) → Sub w w2 → Fields (last_for (handed_on u)) st ms ls → Acts w2 n (at_purpose u (in_turn ls f))) → Acts w (with_value (m now e) (λ v. n)) (at_purpose u (in_turn ks f))
unfolding in_turn
first_turn u (fields_more (part x) fields_end) h r b = absurd (true_false (sym h))
first_turn {w = w} {m = m} {e = e} {f = f} {n = n} u (fields_more (part {k = k} x) (fields_more {p = p} {ks = ks} o c)) h r b =
    subst (Acts w (with_value (m now e) (λ v. n))) (sym (purpose_on u (k now f) (λ v. in_turn (p ∷ ks) f))) (effects_first (x.effect tt r) (λ w2 v t i. b w2 (p ∷ ks) i (fields_more o c)))

turn_acts : {st : Names} {w : World} {a c : Forest} {ks : Parts} {e f : Env} (E : Enter) (u : Purpose) → Shorter st a c → Fields (last_for (handed_on u)) st (eval E c) ks → Envs w st e f → Acts w (at_purpose u (in_turn (eval E a) e)) (at_purpose u (in_turn ks f))
unfolding eval in_turn
turn_acts E u last_stays (fields_more (part x) fields_end) r = last_acts u x r
turn_acts {w = w} {ks = ks} {e = e} {f = f} E u (one_stays {k = k} {a = a} {r = c} t) x r =
    subst (λ m. Acts w (at_purpose u m) (at_purpose u (in_turn ks f))) (sym (in_turn_more (meaning E k a) (eval E c) e (old_parts E t)))
    (subst (λ m. Acts w m (at_purpose u (in_turn ks f))) (sym (purpose_on u (meaning E k a now e) (λ v. in_turn (eval E c) e)))
    (first_turn u x (new_parts E t) r (λ w2 ls i y. turn_acts E u t y (envs_later i r))))
turn_acts {w = w} {ks = ks} {e = e} {f = f} E u (one_leaves {k = k} {a = a} {r = c} q t) x r =
    subst (λ m. Acts w (at_purpose u m) (at_purpose u (in_turn ks f))) (sym (in_turn_more (meaning E k a) (eval E c) e (old_parts E t)))
    (subst (λ m. Acts w m (at_purpose u (in_turn ks f))) (sym (purpose_on u (meaning E k a now e) (λ v. in_turn (eval E c) e)))
    (alone_first (quiet_alone (q.silent E e (envs_bind r))) (λ v. turn_acts E u t x r)))

-- the sequence does what its list does in turn
sequence_asked : {w : World} {u : Purpose} {st : Names} {a c : Forest} {e f : Env} {q z : Ask} (E : Enter) (i j : Note) (b : Forest) → Shorter st a c → Fields (last_for (handed_on u)) st (eval E c) (eval E b) → Envs w st e f → SameAsk w u q z
    → Acts w (meaning E Kind.SequenceExpression (node Kind.Expressions i a nothing) q e) (meaning E Kind.SequenceExpression (node Kind.Expressions j b nothing) z f)
unfolding need eval
sequence_asked E i j b t c r (same_value {wanted = wanted}) = turn_acts E (for_value wanted) t c r
sequence_asked E i j b t c r _ = unknown_acts

sequence_effect : {w : World} {st : Names} {a c : Forest} {e f : Env} (E : Enter) (u : Purpose) (i j : Note) (b : Forest) → ForEffect u → Shorter st a c → Fields (last_for (handed_on u)) st (eval E c) (eval E b) → Envs w st e f
    → ActsForEffect w (meaning E Kind.SequenceExpression (node Kind.Expressions i a nothing) now e) (meaning E Kind.SequenceExpression (node Kind.Expressions j b nothing) now f)
unfolding need eval
sequence_effect E (for_value wanted) i j b g t c r = absurd g
sequence_effect E for_effect i j b g t c r = record { acts = turn_acts E for_effect t c r }

pub shorter_means : {u : Purpose} {st : Names} {a c : Forest} (E : Enter) (i j : Note) (b : Forest) → Shorter st a c → Fields (last_for (handed_on u)) st (eval E c) (eval E b)
    → Means u st (meaning E Kind.SequenceExpression (node Kind.Expressions i a nothing)) (meaning E Kind.SequenceExpression (node Kind.Expressions j b nothing))
shorter_means {u = u} E i j b t c = record { mean = λ r s. sequence_asked E i j b t c r s; effect = λ g r. sequence_effect E u i j b g t c r }
