-- Laws of frames that stand one above the other.
use Rattle.std.proofs.Common.{◌≡◌, List, [], ◌∷◌, ◌++◌, append_assoc, refl, ap, sym, ◌∙◌}
use Rattle.js_meaning.specs.Trace.{Event, Ending}
use Rattle.js_meaning.specs.State.{Out, goes, stops, M, Completion, more, go_on, bind, done, stop}
use Rattle.run_world.specs.World.{state_of, trace_of}
use Rattle.run_plan.specs.Frame.{applies, onto}
use Rattle.run_plan.specs.Law.{Pushes, Pops, Stops, GoesOn, GoesOnUnder}

more_more : (es fs : List Event) (o : Out) → more (es ++ fs) o ≡ more es (more fs o)
more_more es fs (goes gs s c) = ap (λ xs. goes xs s c) (append_assoc es fs gs)
more_more es fs (stops gs e) = ap (λ xs. stops xs e) (append_assoc es fs gs)

pub more_none : (o : Out) → more [] o ≡ o
more_none (goes es s c) = refl
more_none (stops es e) = refl

go_on_more : (es : List Event) (o : Out) (k : Completion → M) → go_on (more es o) k ≡ more es (go_on o k)
go_on_more es (goes fs s c) k = more_more es fs (k c s)
go_on_more es (stops fs e) k = refl

pub after_done : (c : Completion) (k : Completion → M) → bind (done c) k ≡ k c
unfolding bind done
after_done c k = λ i s. more_none (k c s) i

pub after_stop : (e : Ending) (k : Completion → M) → bind (stop e) k ≡ stop e
unfolding bind stop
after_stop e k = refl

pub pushes : Pushes
pushes E [] gs m = refl
pushes E (f ∷ fs) gs m = ap (λ n. bind n (applies E f)) (pushes E fs gs m)

pub pops : Pops
pops E fs f c = pushes E fs (f ∷ []) (done c) ∙ ap (onto E fs) (after_done c (applies E f))

pub stops_all : Stops
stops_all E [] e = refl
stops_all E (f ∷ fs) e = ap (λ n. bind n (applies E f)) (stops_all E fs e) ∙ after_stop e (applies E f)

pub goes_on : GoesOn
unfolding bind
goes_on v w m n k same =
    sym (go_on_more (trace_of v) (m (state_of v)) k) ∙ ap (λ o. go_on o k) same ∙ go_on_more (trace_of w) (n (state_of w)) k

pub goes_on_under : GoesOnUnder
goes_on_under v w E [] m n same = same
goes_on_under v w E (f ∷ fs) m n same = goes_on v w _ _ (applies E f) (goes_on_under v w E fs m n same)
