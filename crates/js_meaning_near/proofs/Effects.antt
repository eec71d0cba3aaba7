-- What acts alike but for the value that it gives, and what may follow it.
use Rattle.std.proofs.Common.{append-nil, ◌≡◌, List, [], ◌++◌, refl, sym, ap, subst, ◌∙◌, append_assoc}
use Rattle.std.specs.Prelude.{Bool, true, false}
use Rattle.js_meaning.specs.Value.{Value, undef}
use Rattle.js_meaning.specs.Trace.{Event}
use Rattle.js_meaning.specs.State.{State, Completion, normal, gives, gives_all, refers, breaks, continues, returns, throws, Out, goes, stops, M, more, go_on, bind, done, stop, choose, if_normal, if_gives, with_value}
use Rattle.js_meaning_near.specs.Quiet.{LeadsFrom, goes_on_as, stops_before, Leads}
use Rattle.js_meaning_near.proofs.Worlds.{World, Sub, same, later}
use Rattle.js_meaning_near.proofs.Relations.{Same, Follows, Acts, effects, ActsForEffect}
use Rattle.js_meaning_near.proofs.Acts.{on_follows, if_normal_acts, normal_acts, value_acts}

-- what goes on after what went on

pub more_nothing : (o : Out) → more [] o ≡ o
more_nothing (goes es s c) = refl
more_nothing (stops es e) = refl

more_more : (es fs : List Event) (o : Out) → more es (more fs o) ≡ more (es ++ fs) o
more_more es fs (goes gs s c) = ap (λ l. goes l s c) (sym (append_assoc es fs gs))
more_more es fs (stops gs e) = ap (λ l. stops l e) (sym (append_assoc es fs gs))

more_on : (es : List Event) (o : Out) (g : Completion → M) → go_on (more es o) g ≡ more es (go_on o g)
more_on es (goes fs s c) g = sym (more_more es fs (g c s))
more_on es (stops fs e) g = refl

on_on : (o : Out) (f g : Completion → M) → go_on (go_on o f) g ≡ go_on o (λ c. bind (f c) g)
unfolding bind
on_on (goes es s c) f g = more_on es (f c s) g
on_on (stops es e) f g = refl

pub bind_on : (m : M) (f g : Completion → M) → bind (bind m f) g ≡ bind m (λ c. bind (f c) g)
unfolding bind
bind_on m f g = λ i s. on_on (m s) f g i

-- a value's continuation, and what follows
gives_on : (f : Value → M) (g : Value → M) (c : Completion) → bind (if_gives (λ v r. f v) c) (if_gives (λ v r. g v)) ≡ if_gives (λ v r. with_value (f v) g) c
unfolding bind done stop
gives_on f g normal = refl
gives_on f g (gives v r) = refl
gives_on f g (gives_all vs) = refl
gives_on f g (refers p) = refl
gives_on f g (breaks o) = refl
gives_on f g (continues o) = refl
gives_on f g (returns v) = refl
gives_on f g (throws v) = refl

pub value_on : (m : M) (f g : Value → M) → with_value (with_value m f) g ≡ with_value m (λ v. with_value (f v) g)
value_on m f g = bind_on m (if_gives (λ v r. f v)) (if_gives (λ v r. g v)) ∙ ap (bind m) (λ i c. gives_on f g c i)

-- alike but for the value

pub effects_act : {w : World} {m k : M} → Acts w m k → ActsForEffect w m k
effects_act a = record { acts = value_acts a (λ w2 v u h q. normal_acts) }

-- the value that was given, if any
pub given_by : Out → Value
given_by (goes es s (gives v r)) = v
given_by _ = undef

pub goes_from : (f : Value → M) (o : Out) → go_on o (if_gives (λ v r. f v)) ≡ go_on (go_on o (if_gives (λ v r. done normal))) (if_normal (f (given_by o)))
unfolding done stop given_by
goes_from f (goes es s (gives v r)) = ap (λ l. more l (f v s)) (sym (append-nil es))
goes_from f (goes es s (throws v)) = ap (λ l. more l (goes [] s (throws v))) (sym (append-nil es))
goes_from f (goes es s normal) = refl
goes_from f (goes es s (gives_all vs)) = refl
goes_from f (goes es s (refers p)) = refl
goes_from f (goes es s (breaks o)) = refl
goes_from f (goes es s (continues o)) = refl
goes_from f (goes es s (returns v)) = refl
goes_from f (stops es e) = refl

first_follows : {w : World} (f g : Value → M) (o p : Out) → Follows w (go_on o (if_gives (λ v r. done normal))) (go_on p (if_gives (λ v r. done normal)))
    → ((w2 : World) (v u : Value) → Sub w w2 → Acts w2 (f v) (g u)) → Follows w (go_on o (if_gives (λ v r. f v))) (go_on p (if_gives (λ v r. g v)))
first_follows {w = w} f g o p q b =
    subst (λ x. Follows w x (go_on p (if_gives (λ v r. g v)))) (sym (goes_from f o))
    (subst (Follows w (go_on (go_on o (if_gives (λ v r. done normal))) (if_normal (f (given_by o))))) (sym (goes_from g p))
    (on_follows (if_normal (f (given_by o))) (if_normal (g (given_by p))) q (λ w2 h c d e. if_normal_acts (b w2 (given_by o) (given_by p) h) w2 c d (same w2) e)))

-- what follows is alike whatever the values are
pub effects_first : {w : World} {m k : M} {f g : Value → M} → ActsForEffect w m k → ((w2 : World) (v u : Value) → Sub w w2 → Acts w2 (f v) (g u)) → Acts w (with_value m f) (with_value k g)
unfolding bind
effects_first {m = m} {k = k} {f = f} {g = g} a b = record { act = λ w2 h s z r. first_follows f g (m s) (k z) (a.acts.act w2 h s z r) (λ w3 v u i. b w3 v u (later h i)) }

effects_on : {w : World} (m k : M) (f g : Value → M) → Acts w (with_value m (λ v. effects (f v))) (with_value k (λ v. effects (g v))) → ActsForEffect w (with_value m f) (with_value k g)
effects_on {w = w} m k f g a = record {
  acts =
      subst (λ x. Acts w x (effects (with_value k g))) (sym (value_on m f (λ v. done normal)))
      (subst (Acts w (with_value m (λ v. effects (f v)))) (sym (value_on k g (λ v. done normal))) a);
}

-- a value that counts, before what acts alike but for its own
pub value_effects : {w : World} {m k : M} {f g : Value → M} → Acts w m k → ((w2 : World) (v u : Value) → Sub w w2 → Same w2 v u → ActsForEffect w2 (f v) (g u)) → ActsForEffect w (with_value m f) (with_value k g)
value_effects {m = m} {k = k} {f = f} {g = g} a b = effects_on m k f g (value_acts a (λ w2 v u h q. (b w2 v u h q).acts))

-- and a value that doesn't
pub effects_both : {w : World} {m k : M} {f g : Value → M} → ActsForEffect w m k → ((w2 : World) (v u : Value) → Sub w w2 → ActsForEffect w2 (f v) (g u)) → ActsForEffect w (with_value m f) (with_value k g)
effects_both {m = m} {k = k} {f = f} {g = g} a b = effects_on m k f g (effects_first a (λ w2 v u h. (b w2 v u h).acts))

choice_same : {w : World} {a b c d : M} (p : Bool) → ActsForEffect w a c → ActsForEffect w b d → ActsForEffect w (choose p a b) (choose p c d)
unfolding choose
choice_same true x y = x
choice_same false x y = y

pub choice_effects : {w : World} {p q : Bool} {a b c d : M} → p ≡ q → ActsForEffect w a c → ActsForEffect w b d → ActsForEffect w (choose p a b) (choose q c d)
choice_effects {w = w} {p = p} {a = a} {b = b} {c = c} {d = d} e x y = subst (λ i. ActsForEffect w (choose p a b) (choose i c d)) e (choice_same p x y)

-- what comes to something else does it without its value too

leads_on : (n : M) (s : State) (o : Out) → LeadsFrom s n o → LeadsFrom s (effects n) (go_on o (if_gives (λ v r. done normal)))
unfolding bind
leads_on n s _ (goes_on_as a) = goes_on_as a
leads_on n s _ stops_before = stops_before

pub leads_effects : {m n : M} → Leads m n → Leads (effects m) (effects n)
unfolding bind
leads_effects {m = m} {n = n} l = record { leads = λ s. leads_on n s (m s) (l.leads s) }
