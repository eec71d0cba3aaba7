-- When what a context answers is true of a piece of a program that runs in an environment, and which expressions a dead code
-- remover takes for silent, as answers of a context.
use Rattle.std.specs.Prelude.{◌≡◌, List, Bool, true, false, not, ◌||◌, None}
use Rattle.js_syntax.specs.declared.node_kind.NodeKind.{NodeKind as Kind}
use Rattle.js_syntax.specs.Node.{Forest, nothing, node, absent, Note}
use Rattle.js_effects.specs.declared.surroundings.Surroundings.{Surroundings}
use Rattle.js_effects.specs.Answers.{Names, Effects, Answers, answers, bare_effects}
use Rattle.js_effects.specs.Kinds.{is_named_undefined}
use Rattle.js_effects.specs.Silence.{is_marked}
use Rattle.js_meaning.specs.Value.{Env, this_name}
use Rattle.js_effects_quiet.specs.Silent.{HasBinding}

-- Each name that the context doesn't call global has a binding. Functions and classes run nothing of what lies below them: a
-- function that is made isn't called, and a class is outside of the core. There alone an expression declares names.
abbrev pub IsTold : Answers → Env → Kind → Note → (below : Type 0) → Type 0
IsTold A env (Kind.ReferenceName x) n below = A.effects.inside_with ≡ false → A.names.is_global (Kind.ReferenceName x) n ≡ false → HasBinding env x
IsTold A env (Kind.BindingName x) n below = ⊥
IsTold A env (Kind.Function f pure) n below = Unit {0}
IsTold A env (Kind.Class how) n below = Unit {0}
IsTold A env k n below = below

abbrev pub AreTold : Answers → Env → Forest → Type 0
AreTold A env nothing = Unit {0}
AreTold A env (absent r) = AreTold A env r
AreTold A env (node k n a r) = IsTold A env k n (AreTold A env a) × AreTold A env r

-- Reads and writes of properties and reads of unknown global names are effects, as by default; `this` may be read where it
-- has a binding.
pub record AreTrue (A : Answers) (env : Env) : Type 0 where
  pub reads : A.effects.reads_act ≡ true
  pub writes : A.effects.writes_act ≡ true
  pub globals : A.effects.unknown_globals_act ≡ true
  pub this : A.effects.this_is_initialised ≡ true → HasBinding env this_name

-- By marks: a name that isn't marked is called global, but `undefined`, of which nothing is told; `this` may be read outside of classes.
abbrev pub marked_names : (bound : List Bool) → Names
marked_names bound = record { is_global = λ k n. not (is_marked bound n.id || is_named_undefined k); constant = λ i. None; constant_type = λ i. None }

abbrev pub marked_effects : Surroundings → Effects
marked_effects s = record bare_effects { this_is_initialised = not s.in_class; inside_with = s.in_with }

abbrev pub marked_answers : (bound : List Bool) → Surroundings → Answers
marked_answers bound s = answers (marked_names bound) (marked_effects s)
