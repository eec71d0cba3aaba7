-- What expressions are read by beside their form: what a context answers of names, and what it takes for an effect.
use Rattle.std.specs.Prelude.{ℕ, Bool, true, false, Option, None}
use Rattle.js_syntax.specs.declared.node_kind.NodeKind.{NodeKind as Kind}
use Rattle.js_syntax.specs.Node.{Forest, Note}
use Rattle.min_options.specs.declared.options.PropertyReadSideEffects.{PropertyReadSideEffects}
use Rattle.min_options.specs.declared.options.PropertyReadSideEffects.TheVariants as reads
use Rattle.js_effects.specs.declared.value.ValueType.{ValueType}
use Rattle.js_effects.specs.declared.value.ConstantValue.{ConstantValue}

-- What is known of names.
pub record Names : Type 0 where
  -- whether a reference, by its node, means a name that nothing declares
  pub is_global : Kind → Note → Bool
  -- the value that a name has wherever the reference of this number may read it
  pub constant : ℕ → Option ConstantValue
  -- and of which type it is
  pub constant_type : ℕ → Option ValueType

-- What is taken for an effect, and where the expression stands.
pub record Effects : Type 0 where
  -- whether marks of pure calls and of functions without side effects are believed; which callees are named as pure besides.
  -- Neither is asked yet: every call is an effect
  pub annotations : Bool
  pub is_pure_function : Forest → Bool
  -- whether reads and writes of properties, and reads of names that nothing declares, are effects
  pub reads_act : Bool
  pub writes_act : Bool
  pub unknown_globals_act : Bool
  -- whether `this` may be read: not before `super(..)` in the constructor of a class with heritage (ECMA-262 9.1.1.3.4)
  pub this_is_initialised : Bool
  -- whether a `with` statement stands around, whose object may have a property of any name (9.1.1.2)
  pub inside_with : Bool

pub record Answers : Type 0 where
  pub names : Names
  pub effects : Effects

abbrev pub answers : Names → Effects → Answers
answers n e = record { names = n; effects = e }

-- No name is global or has a constant, `this` may be read, and the options are the default ones, without annotations.
abbrev pub bare_names : Names
bare_names = record { is_global = λ k n. false; constant = λ i. None; constant_type = λ i. None }

abbrev pub bare_effects : Effects
bare_effects = record { annotations = false; is_pure_function = λ t. false; reads_act = true; writes_act = true; unknown_globals_act = true; this_is_initialised = true; inside_with = false }

abbrev pub bare_answers : Answers
bare_answers = answers bare_names bare_effects

abbrev pub reading_acts : PropertyReadSideEffects → Bool
reading_acts reads.All = true
reading_acts reads.None = false
