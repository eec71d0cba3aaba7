-- Tests of whose values something is known, and of which nobody can tell that they ran.
use Rattle.std.specs.Prelude.{◌≡◌, Bool, true, false, not, Option, Some, None}
use Rattle.js_syntax.specs.declared.node_kind.NodeKind.{NodeKind as Kind}
use Rattle.js_syntax.specs.declared.operator.LogicalOperator.{LogicalOperator}
use Rattle.js_syntax.specs.declared.operator.LogicalOperator.TheVariants.{And, Or, Coalesce}
use Rattle.js_syntax.specs.Node.{Forest}
use Rattle.js_effects.specs.declared.value.ValueType.{ValueType}
use Rattle.js_effects.specs.declared.value.ValueType.TheVariants.{Undefined, Null, Undetermined}
use Rattle.js_effects.specs.Answers.{bare_answers}
use Rattle.js_effects.specs.Kinds.{type_of}
use Rattle.js_effects.specs.Values.{truth_of}
use Rattle.js_meaning.specs.Value.{Env, Value, undef}
use Rattle.js_meaning.specs.State.{Completion, gives}
use Rattle.js_meaning.specs.Host.{Enter}
use Rattle.js_meaning.specs.Node.{now}
use Rattle.js_meaning_near.specs.Near.{meaning}
use Rattle.js_effects_quiet.specs.Quiet.{Quiet}
use Rattle.js_values.specs.Gives.{Ends, Gives}

-- in every environment
pub record Tells (P : Value → Type 0) (k : Kind) (a : Forest) : Type 0 where
  pub quiet : (E : Enter) (env : Env) → Quiet (meaning E k a now env)
  pub told : (E : Enter) (env : Env) → Gives P (meaning E k a now env)

-- of an expression that may act: each value that it gives is so
abbrev pub GivesOnly : (P : Value → Type 0) → Kind → (below : Forest) → Type 0
GivesOnly P k a = (E : Enter) (env : Env) → Gives P (meaning E k a now env)

-- without a receiver (13.3.6.1): the value isn't that of a member of an object
abbrev pub Alone : Completion → Type 0
Alone (gives v r) = r ≡ undef
Alone c = Unit {0}

abbrev pub GivesAlone : Kind → Forest → Type 0
GivesAlone k a = (E : Enter) (env : Env) → Ends Alone (meaning E k a now env)

-- ---- what is known by form

-- whether a value of this type is undefined or null
abbrev pub nullish_type : ValueType → Option Bool
nullish_type Undefined = Some true
nullish_type Null = Some true
nullish_type Undetermined = None
nullish_type t = Some false

abbrev pub opposite : Option Bool → Option Bool
opposite None = None
opposite (Some b) = Some (not b)

-- whether a logical expression goes on to its right side (13.13), by what is known of its left one
abbrev pub way_known : LogicalOperator → (left : Forest) → Option Bool
way_known And t = truth_of bare_answers t
way_known Or t = opposite (truth_of bare_answers t)
way_known Coalesce t = nullish_type (type_of bare_answers t)
