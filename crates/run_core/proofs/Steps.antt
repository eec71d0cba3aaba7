-- What a step keeps.
use Rattle.std.proofs.Common.{◌≡◌, ℕ, List, [], ◌∷◌, ◌++◌, refl, ap, sym, ◌∙◌}
use Rattle.std.proofs.lemmas.List.{append-nil}
use Rattle.js_syntax.specs.Node.{Forest}
use Rattle.js_meaning.specs.Trace.{Script, Ending, uncovered, Run}
use Rattle.js_meaning.specs.State.{Out, goes, stops, M, Completion, more, done, stop, spend}
use Rattle.js_meaning.specs.Host.{Task}
use Rattle.js_meaning.specs.Meaning.{task_does}
use Rattle.js_meaning.specs.Run.{run, seen, first_state, program_does}
use Rattle.js_meaning.proofs.Depth.{fully_once, fully_runs}
use Rattle.run_world.specs.declared.world.World.{World}
use Rattle.run_world.specs.World.{at, state_of, trace_of}
use Rattle.run_plan.specs.declared.frame.Frame.{Frame}
use Rattle.run_plan.specs.declared.plan.Control.{Control}
use Rattle.run_plan.specs.declared.plan.Plan.{Plan}
use Rattle.run_plan.specs.Frame.{applies, onto, controls, plans}
use Rattle.run_plan.proofs.Law.{pops, stops_all, goes_on_under, more_none}
use Rattle.run_core.specs.Machine.{enter_fully, run_of}

-- What does the same as a plan goes on as the plan's frames and those that were there.
pub planned : (v w : World) (fs gs : List Frame) (m : M) (p : Plan) (c : Control) → at v m ≡ at w (plans enter_fully p) → onto enter_fully fs (plans enter_fully p) ≡ onto enter_fully gs (controls enter_fully c) → seen (at v (onto enter_fully fs m)) ≡ run_of w gs c
planned v w fs gs m p c does put =
    ap seen (goes_on_under v w enter_fully fs m (plans enter_fully p) does ∙ ap (at w) put)

-- An entry costs one, and does its task.
pub entered : (w : World) (t : Task) → at w (enter_fully t) ≡ at w (spend (task_does enter_fully t))
entered w t = ap (more (trace_of w)) (fully_once t (state_of w))

-- The nearest frame takes the completion that is there.
pub popped : (w : World) (fs gs : List Frame) (f : Frame) (c : Completion) → fs ≡ gs ++ f ∷ [] → seen (at w (onto enter_fully fs (done c))) ≡ seen (at w (onto enter_fully gs (applies enter_fully f c)))
popped w fs gs f c is = ap (λ m. seen (at w m)) (ap (λ hs. onto enter_fully hs (done c)) is ∙ pops enter_fully gs f c)

-- Behind the last frame nothing is said.
pub behind_all : (w : World) (fs : List Frame) (c : Completion) → fs ≡ [] → seen (at w (onto enter_fully fs (done c))) ≡ seen (at w (stop uncovered))
unfolding done stop
behind_all w fs c is = ap (λ hs. seen (at w (onto enter_fully hs (done c)))) is

-- A run that stops ends.
pub stopped : (w : World) (fs : List Frame) (e : Ending) → seen (at w (onto enter_fully fs (stop e))) ≡ seen (at w (stop e))
stopped w fs e = ap (λ m. seen (at w m)) (stops_all enter_fully fs e)

-- The run of a program is that of its plan in the first world.
pub begun : (w : World) (t : Forest) (script : Script) (n : ℕ) → state_of w ≡ first_state script n → trace_of w ≡ [] → seen (at w (program_does enter_fully t)) ≡ run t script n
begun w t script n state trace =
    ap seen (ap (λ es. more es (program_does enter_fully t (state_of w))) trace ∙ more_none (program_does enter_fully t (state_of w)) ∙ ap (program_does enter_fully t) state) ∙ sym (fully_runs t script n)

-- What a run gave at its end.
pub ends_so : (w : World) (e : Ending) → (let r : Run = record { trace = trace_of w; ending = e } in r ≡ seen (at w (stop e)))
unfolding stop
ends_so w e = ap (λ es. let r : Run = record { trace = es; ending = e } in r) (sym (append-nil (trace_of w)))
