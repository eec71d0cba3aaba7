-- What has no effects, and of whose value enough is known by its form, tells.
use Rattle.std.proofs.Common.{◌≡◌, ◌∙◌, [], Bool, true, false, not, Option, Some, None, refl, ap, true≢false}
use Rattle.js_syntax.specs.declared.node_kind.NodeKind.{NodeKind as Kind}
use Rattle.js_syntax.specs.declared.operator.LogicalOperator.{LogicalOperator}
use Rattle.js_syntax.specs.declared.operator.LogicalOperator.TheVariants.{And, Or, Coalesce}
use Rattle.js_syntax.specs.Node.{Forest, Note, alone}
use Rattle.js_effects.specs.declared.value.ValueType.{ValueType}
use Rattle.js_effects.specs.declared.value.ValueType.TheVariants as type
use Rattle.js_effects.specs.Answers.{bare_answers}
use Rattle.js_effects.specs.Silence.{anywhere, may_have_effects}
use Rattle.js_effects.specs.Values.{truth_of}
use Rattle.js_effects_quiet.specs.Quiet.{Quiet}
use Rattle.js_effects_quiet.proofs.Silent.{quiet_node}
use Rattle.js_effects_quiet.proofs.Marks.{silent_row}
use Rattle.js_values.specs.Gives.{OfValue, IsSo, Gives}
use Rattle.js_values.specs.Told.{HasType}
use Rattle.js_values.proofs.Operators.{truth_is}
use Rattle.js_values.proofs.Values.{told_by_form}
use Rattle.js_meaning.specs.Value.{Env, Value, plain, undefined, null, boolean, number, text}
use Rattle.js_meaning.specs.State.{Completion, normal, gives, gives_all, refers, breaks, continues, returns, throws, Out, goes, stops, M}
use Rattle.js_meaning.specs.Operator.{truthy, is_nullish, goes_right}
use Rattle.js_meaning.specs.Host.{Enter}
use Rattle.js_meaning.specs.Node.{itself, now}
use Rattle.js_meaning_near.specs.Near.{meaning}
use Rattle.known_tests.specs.Tells.{Tells, GivesOnly, nullish_type, opposite, way_known}

gives_less : {P Q : Value → Type 0} {m : M} → ((v : Value) → P v → Q v) → Gives P m → Gives Q m
gives_less {P} {Q} {m} f h = record { at = λ s. out (m s) (h.at s) }
  where
    of : (c : Completion) → OfValue P c → OfValue Q c
    of (gives v r) p = f v p
    of normal p = tt
    of (gives_all vs) p = tt
    of (refers q) p = tt
    of (breaks o) p = tt
    of (continues o) p = tt
    of (returns v) p = tt
    of (throws v) p = tt

    out : (o : Out) → IsSo (OfValue P) o → IsSo (OfValue Q) o
    out (goes es s c) p = of c p
    out (stops es e) p = tt

nullish_is : (t : ValueType) (v : Value) (b : Bool) → HasType t v → nullish_type t ≡ Some b → is_nullish v ≡ b
nullish_is type.Undefined v b h e = ap is_nullish h ∙ cc e
nullish_is type.Null v b h e = ap is_nullish h ∙ cc e
nullish_is type.Undetermined v b h e = absurd cc
nullish_is type.Boolean (plain (boolean c)) b h e = cc
nullish_is type.Boolean v b h e = absurd cc
nullish_is type.Number (plain (number c)) b h e = cc
nullish_is type.Number v b h e = absurd cc
nullish_is type.String (plain (text c)) b h e = cc
nullish_is type.String v b h e = absurd cc
nullish_is type.Object (plain undefined) b h e = absurd cc
nullish_is type.Object (plain null) b h e = absurd cc
nullish_is type.Object v b h e = cc

opposite_is : (o : Option Bool) (b : Bool) → opposite o ≡ Some b → o ≡ Some (not b)
opposite_is None b e = absurd cc
opposite_is (Some true) b e = cc
opposite_is (Some false) b e = cc

not_not : (b : Bool) → not (not b) ≡ b
not_not true = refl
not_not false = refl

silent : (k : Kind) (n : Note) (a : Forest) → may_have_effects [] anywhere (alone k n a) ≡ false → (E : Enter) (env : Env) → Quiet (meaning E k a now env)
silent k n a idle E env = quiet_node env E k n a (silent_row [] anywhere env (λ w. absurd (true≢false w)) (alone k n a) idle (λ w. absurd (true≢false w))) now

pub truth_gives : (k : Kind) (n : Note) (a : Forest) (b : Bool) → truth_of bare_answers (alone k n a) ≡ Some b → GivesOnly (λ v. truthy v ≡ b) k a
truth_gives k n a b is E env = gives_less (λ v told. truth_is _ v b told.known is) ((told_by_form env E (alone k n a)).0 itself)

pub truth_tells : (k : Kind) (n : Note) (a : Forest) (b : Bool) → may_have_effects [] anywhere (alone k n a) ≡ false → truth_of bare_answers (alone k n a) ≡ Some b → Tells (λ v. truthy v ≡ b) k a
truth_tells k n a b idle is = record {
  quiet = silent k n a idle;
  told = truth_gives k n a b is;
}

pub way_gives : (o : LogicalOperator) (k : Kind) (n : Note) (a : Forest) (b : Bool) → way_known o (alone k n a) ≡ Some b → GivesOnly (λ v. goes_right o v ≡ b) k a
way_gives And k n a b is E env = truth_gives k n a b is E env
way_gives Or k n a b is E env = gives_less (λ v h. ap not h ∙ not_not b) (truth_gives k n a (not b) (opposite_is (truth_of bare_answers (alone k n a)) b is) E env)
way_gives Coalesce k n a b is E env = gives_less (λ v told. nullish_is _ v b told.type is) ((told_by_form env E (alone k n a)).0 itself)

pub way_tells : (o : LogicalOperator) (k : Kind) (n : Note) (a : Forest) (b : Bool) → may_have_effects [] anywhere (alone k n a) ≡ false → way_known o (alone k n a) ≡ Some b → Tells (λ v. goes_right o v ≡ b) k a
way_tells o k n a b idle is = record { quiet = silent k n a idle; told = way_gives o k n a b is }
