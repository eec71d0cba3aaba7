-- Where a computation only gives a value of which enough is known, what goes on from the value leads to what it does then.
use Rattle.std.proofs.Common.{◌≡◌, ◌∙◌, [], refl, sym, ap, subst, arith}
use Rattle.js_meaning.specs.Value.{Value}
use Rattle.js_meaning.specs.State.{State, Completion, normal, gives, gives_all, refers, breaks, continues, returns, throws, Out, goes, stops, M, more, go_on, bind, done, give, if_gives, with_value}
use Rattle.js_meaning_near.specs.Quiet.{OnlyAllocates, LeadsFrom, goes_on_as, stops_before, Leads}
use Rattle.js_effects_quiet.specs.Quiet as quiet
use Rattle.js_values.specs.Gives.{OfValue, IsSo, Ends, Gives}
use Rattle.known_tests.specs.Tells.{Alone}

same_allocation : {s z : State} → quiet.OnlyAllocates s z → OnlyAllocates s z
same_allocation a = record { budget = a.budget; fresh = a.fresh; store = a.store; globals = λ x. ap (λ f. f x) a.globals; imports = λ source x. ap (λ f. f source x) a.imports; shown = a.shown; moves = a.moves; exports = a.exports; stars = a.stars }

itself : (s : State) → OnlyAllocates s s
itself s = record { budget = refl; fresh = omega arith; store = λ i h. refl; globals = λ x. refl; imports = λ x y. refl; shown = refl; moves = refl; exports = refl; stars = refl }

pub more_nothing : (o : Out) → more [] o ≡ o
more_nothing (goes es s c) = refl
more_nothing (stops es e) = refl

module _ (P : Value → Type 0) (m : M) (k : Value → M) where
  -- all values that are known so go on alike
  module _ (n : M) (e : (v : Value) → P v → k v ≡ n) where
    goes_on : (s z : State) (c : Completion) → quiet.OnlyAllocates s z → quiet.IsValue c → OfValue P c → LeadsFrom s n (more [] (if_gives (λ v r. k v) c z))
    goes_on s z (gives v r) a i told =
        subst (LeadsFrom s n) (sym (more_nothing (k v z))) (subst (LeadsFrom s n) (sym (ap (λ f. f z) (e v told))) (goes_on_as (same_allocation a)))
    goes_on s z normal a i told = absurd i
    goes_on s z (gives_all vs) a i told = absurd i
    goes_on s z (refers p) a i told = absurd i
    goes_on s z (breaks o) a i told = absurd i
    goes_on s z (continues o) a i told = absurd i
    goes_on s z (returns v) a i told = absurd i
    goes_on s z (throws v) a i told = absurd i

    from_state : (s : State) (o : Out) → quiet.Silently quiet.IsValue s o → IsSo (OfValue P) o → LeadsFrom s n (go_on o (if_gives (λ v r. k v)))
    from_state s _ (quiet.goes_on {z = z} {c = c} a i) told = goes_on s z c a i told
    from_state s _ quiet.is_uncovered told = stops_before

    pub told_leads : quiet.Quiet m → Gives P m → Leads (with_value m k) n
    unfolding bind
    told_leads silent told = record { leads = λ s. from_state s (m s) (silent.at s) (told.at s) }

  -- the value itself is given
  module _ (e : (v : Value) → P v → k v ≡ give v) where
    gives_it : (s z : State) (c : Completion) → m s ≡ goes [] z c → quiet.IsValue c → OfValue P c → Alone c → LeadsFrom s m (more [] (if_gives (λ v r. k v) c z))
    unfolding done
    gives_it s z (gives v r) is i told alone =
        subst (LeadsFrom s m) (is ∙ ap (λ x. goes [] z (gives v x)) alone ∙ sym (ap (λ f. more [] (f z)) (e v told))) (goes_on_as (itself s))
    gives_it s z normal is i told alone = absurd i
    gives_it s z (gives_all vs) is i told alone = absurd i
    gives_it s z (refers p) is i told alone = absurd i
    gives_it s z (breaks o) is i told alone = absurd i
    gives_it s z (continues o) is i told alone = absurd i
    gives_it s z (returns v) is i told alone = absurd i
    gives_it s z (throws v) is i told alone = absurd i

    at_state : (s : State) (o : Out) → m s ≡ o → quiet.Silently quiet.IsValue s o → IsSo (OfValue P) o → IsSo Alone o → LeadsFrom s m (go_on o (if_gives (λ v r. k v)))
    at_state s _ is (quiet.goes_on {z = z} {c = c} a i) told alone = gives_it s z c is i told alone
    at_state s _ is quiet.is_uncovered told alone = stops_before

    pub value_leads : quiet.Quiet m → Gives P m → Ends Alone m → Leads (with_value m k) m
    unfolding bind
    value_leads silent told alone = record { leads = λ s. at_state s (m s) refl (silent.at s) (told.at s) (alone.at s) }

  -- two that go on alike from all values that are known do the same, whatever is done before
  module _ (l : Value → M) (e : (v : Value) → P v → k v ≡ l v) where
    alike_from : (z : State) (c : Completion) → OfValue P c → if_gives (λ v r. k v) c z ≡ if_gives (λ v r. l v) c z
    alike_from z (gives v r) told = ap (λ f. f z) (e v told)
    alike_from z normal told = refl
    alike_from z (gives_all vs) told = refl
    alike_from z (refers p) told = refl
    alike_from z (breaks o) told = refl
    alike_from z (continues o) told = refl
    alike_from z (returns v) told = refl
    alike_from z (throws v) told = refl

    alike : (o : Out) → IsSo (OfValue P) o → go_on o (if_gives (λ v r. k v)) ≡ go_on o (if_gives (λ v r. l v))
    alike (goes es z c) told = ap (λ x. more es x) (alike_from z c told)
    alike (stops es e) told = refl

    pub alike_leads : Gives P m → Leads (with_value m k) (with_value m l)
    unfolding bind
    alike_leads told = record { leads = λ s. subst (LeadsFrom s (with_value m l)) (sym (alike (m s) (told.at s))) (goes_on_as (itself s)) }
