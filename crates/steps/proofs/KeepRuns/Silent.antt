-- What may not act is silent in the sense of nearness.
use Rattle.std.proofs.Common.{◌≡◌, List, true, false, Option, Some, None, is_some, [], ap, refl}
use Rattle.js_syntax.specs.declared.node_kind.NodeKind.{NodeKind as Kind}
use Rattle.js_syntax.specs.Node.{Forest, Note, alone}
use Rattle.js_meaning.specs.Value.{Text, Slot}
use Rattle.js_meaning.specs.State.{State, Completion, normal, gives, gives_all, refers, breaks, continues, returns, throws, Out, goes, M}
use Rattle.js_meaning.specs.Scope.{look}
use Rattle.js_meaning.specs.Node.{now}
use Rattle.js_effects_quiet.specs.Quiet as quiet
use Rattle.js_effects_quiet.specs.Quiet.{goes_on, is_uncovered, IsValue}
use Rattle.js_effects_quiet.proofs.Silent.{quiet_node}
use Rattle.js_meaning_near.specs.Quiet.{OnlyAllocates, EndsQuietly, gives_quietly, stops_quietly, Quiet}
use Rattle.js_meaning_near.specs.Names.{Names, Declared, IsBound}
use Rattle.js_meaning_near.specs.Near.{Silent}
use Rattle.steps.specs.Names.{is_among, may_act}
use Rattle.steps.proofs.Silent.{silent_row}

-- to be quiet is to be quiet

same_allocation : {s z : State} → quiet.OnlyAllocates s z → OnlyAllocates s z
same_allocation a = record { budget = a.budget; fresh = a.fresh; store = a.store; globals = λ x. ap (λ f. f x) a.globals; imports = λ source x. ap (λ f. f source x) a.imports; shown = a.shown; moves = a.moves; exports = a.exports; stars = a.stars }

ends_quietly : {s z : State} (c : Completion) → quiet.OnlyAllocates s z → IsValue c → EndsQuietly s (goes [] z c)
ends_quietly (gives v r) a w = gives_quietly (same_allocation a)
ends_quietly normal a w = absurd w
ends_quietly (gives_all vs) a w = absurd w
ends_quietly (refers p) a w = absurd w
ends_quietly (breaks o) a w = absurd w
ends_quietly (continues o) a w = absurd w
ends_quietly (returns v) a w = absurd w
ends_quietly (throws v) a w = absurd w

ends : (s : State) (o : Out) → quiet.Silently IsValue s o → EndsQuietly s o
ends s _ (goes_on {c = c} a w) = ends_quietly c a w
ends s _ is_uncovered = stops_quietly

pub quiet_too : {m : M} → quiet.Quiet m → Quiet m
quiet_too {m} h = record { quiet = λ s. ends s (m s) (h.at s) }

-- the names are declared, so they are bound

has_binding : (o : Option Slot) → IsBound o → is_some o ≡ true
has_binding None h = absurd h
has_binding (Some slot) h = refl

abbrev pub Declare : Names → List Text → Type 0
Declare st names = (x : Text) → is_among names x ≡ true → Declared (st x)

pub silent : {st : Names} (names : List Text) (k : Kind) (n : Note) (a : Forest) → Declare st names → may_act names (alone k n a) ≡ false → Silent st k a
silent names k n a h e = record { silent = λ E env b. quiet_too (quiet_node env E k n a (silent_row names env (alone k n a) (λ x i. has_binding (look env x) (b x (h x i))) e) now) }
