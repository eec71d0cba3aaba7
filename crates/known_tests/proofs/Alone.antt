-- What has no effects gives its value without a receiver, where it is asked for the value alone.
use Rattle.std.proofs.Common.{◌≡◌, List, [], Bool, true, false, Option, Some, None, refl, true≢false}
use Rattle.js_syntax.specs.declared.node_kind.NodeKind.{NodeKind as Kind}
use Rattle.js_syntax.specs.declared.kind.FunctionKind.{FunctionKind}
use Rattle.js_syntax.specs.declared.kind.FunctionKind.TheVariants as function_kind
use Rattle.js_syntax.specs.declared.operator.BinaryOperator.{BinaryOperator}
use Rattle.js_syntax.specs.declared.operator.BinaryOperator.TheVariants as binary
use Rattle.js_syntax.specs.declared.operator.LogicalOperator.{LogicalOperator}
use Rattle.js_syntax.specs.Facts.{is_core}
use Rattle.js_syntax.specs.Node.{Forest, Note, nothing, node, absent, alone}
use Rattle.js_syntax.proofs.Truth.{first_of_neither, second_of_neither}
use Rattle.js_effects.specs.Silence.{anywhere, has_effect, may_have_effects}
use Rattle.js_values.specs.Gives.{Ends}
use Rattle.js_values.proofs.Gives.{ends_any, ends_unknown, ends_done, ends_choose, ends_bind, ends_with, ends_identity, ends_fill, ends_declare}
use Rattle.js_values.proofs.Plain.{plain_unary, plain_binary}
use Rattle.js_values.proofs.Told.{need_any}
use Rattle.js_meaning.specs.Value.{Text, Env, Value, closure, undef, literal_value}
use Rattle.js_meaning.specs.State.{M, Completion, normal, gives, gives_all, refers, breaks, continues, returns, throws, give, with_value, if_gives_all, with_all}
use Rattle.js_meaning.specs.Scope.{waiting, named_so, own_name, look}
use Rattle.js_meaning.specs.Operator.{truthy, goes_right, unary_of}
use Rattle.js_meaning.specs.Expression.{binary_value, logical_value, fill_own, function_value, in_turn}
use Rattle.js_meaning.specs.Host.{Enter}
use Rattle.js_meaning.specs.Node.{now, Meaning, need}
use Rattle.js_meaning.specs.Meaning.{if_core, does, eval}
use Rattle.js_meaning_near.specs.Near.{meaning}
use Rattle.known_tests.specs.Tells.{Alone, GivesAlone}

given : (v : Value) → Ends Alone (give v)
given v = ends_done (gives v undef) refl

with_alone : (m : M) (k : Value → M) → ((v : Value) → Ends Alone (k v)) → Ends Alone (with_value m k)
with_alone m k h = ends_with m k h (λ v. tt)

with_all_alone : (m : M) (k : List Value → M) → ((vs : List Value) → Ends Alone (k vs)) → Ends Alone (with_all m k)
with_all_alone m k h = ends_bind (ends_any m) (λ c u. after c)
  where
    after : (c : Completion) → Ends Alone (if_gives_all k c)
    after (gives_all vs) = h vs
    after (throws v) = ends_done (throws v) tt
    after normal = ends_unknown
    after (gives v r) = ends_unknown
    after (refers p) = ends_unknown
    after (breaks o) = ends_unknown
    after (continues o) = ends_unknown
    after (returns v) = ends_unknown

own_alone : (o : Option Text) (env : Env) (v : Value) → Ends Alone (fill_own o env v (give v))
own_alone None env v = given v
own_alone (Some x) env v = ends_fill (look env x) v (given v)

function_alone : (f : FunctionKind) (a : Forest) (env : Env) → Ends Alone (function_value f a env)
function_alone f a env = ends_declare (named_so (waiting true) (own_name f a)) env (λ env. ends_identity (λ i. own_alone (own_name f a) env (closure i f a env)))

module _ (E : Enter) (env : Env) where
  abbrev AloneRow : Forest → Type 0
  AloneRow nothing = Unit {0}
  AloneRow (absent r) = AloneRow r
  AloneRow (node k n a r) = Ends Alone (meaning E k a now env) × AloneRow r

  core_alone : (core : Bool) (m : Meaning) → Ends Alone (m now env) → Ends Alone (if_core core m now env)
  core_alone true m h = h
  core_alone false m h = ends_unknown

  first_alone : (a : Forest) → AloneRow a → Ends Alone (need (eval E a) (λ m r. m now env))
  unfolding need eval
  first_alone nothing h = ends_unknown
  first_alone (absent r) h = ends_unknown
  first_alone (node k n a r) h = h.0

  last_alone : (a : Forest) → AloneRow a → Ends Alone (in_turn (eval E a) env)
  unfolding in_turn eval
  last_alone nothing h = ends_unknown
  last_alone (absent r) h = ends_unknown
  last_alone (node k n a nothing) h = h.0
  last_alone (node k n a (absent r)) h = with_alone _ _ (λ v. ends_unknown)
  last_alone (node k n a (node l m b r)) h = with_alone _ _ (λ v. last_alone (node l m b r) h.1)

  side_alone : (o : LogicalOperator) (a : Forest) → AloneRow a → Ends Alone (need (eval E a) (λ l r. need r (λ m r. with_value (l now env) (λ v. logical_value o v (m now env)))))
  unfolding need eval
  side_alone o nothing h = ends_unknown
  side_alone o (absent r) h = ends_unknown
  side_alone o (node k n a nothing) h = ends_unknown
  side_alone o (node k n a (absent r)) h = ends_unknown
  side_alone o (node k n a (node l m b r)) h = with_alone _ _ (λ v. ends_choose (goes_right o v) (λ e. h.1.0) (λ e. given v))

  branch_alone : (a : Forest) → AloneRow a → Ends Alone (does E Kind.ConditionalExpression a (eval E a) now env)
  unfolding need eval
  branch_alone nothing h = ends_unknown
  branch_alone (absent r) h = ends_unknown
  branch_alone (node k n a nothing) h = ends_unknown
  branch_alone (node k n a (absent r)) h = ends_unknown
  branch_alone (node k n a (node l m b nothing)) h = ends_unknown
  branch_alone (node k n a (node l m b (absent r))) h = ends_unknown
  branch_alone (node k n a (node l m b (node j i c r))) h = with_alone _ _ (λ v. ends_choose (truthy v) (λ e. h.1.0) (λ e. h.1.1.0))

  operator_alone : (o : BinaryOperator) (n : Note) (a : Forest) (parts : Bool) → has_effect [] anywhere (Kind.BinaryExpression o) n a parts ≡ false → (v u : Value) → Ends Alone (binary_value E o v u)
  operator_alone binary.In n a parts e v u = absurd (true≢false e)
  operator_alone binary.Instanceof n a parts e v u = absurd (true≢false e)
  operator_alone o n a parts e v u = plain_binary (λ v. refl) o v u

  does_alone : (k : Kind) (n : Note) (a : Forest) → has_effect [] anywhere k n a (may_have_effects [] anywhere a) ≡ false → (may_have_effects [] anywhere a ≡ false → AloneRow a) → Ends Alone (does E k a (eval E a) now env)
  does_alone (Kind.Literal v) n a e h = given (literal_value v)
  does_alone (Kind.Function function_kind.Expression pure) n a e h = function_alone function_kind.Expression a env
  does_alone (Kind.Function function_kind.Arrow pure) n a e h = function_alone function_kind.Arrow a env
  does_alone (Kind.Function function_kind.Declaration pure) n a e h = ends_unknown
  does_alone Kind.ArrayExpression n a e h = need_any (eval E a) (λ m r. with_all_alone _ _ (λ vs. ends_identity (λ i. given _)))
  does_alone Kind.ObjectExpression n a e h = need_any (eval E a) (λ m r. with_all_alone _ _ (λ vs. ends_identity (λ i. given _)))
  does_alone Kind.ParenthesizedExpression n a e h = first_alone a (h e)
  does_alone Kind.SequenceExpression n a e h = first_alone a (h e)
  does_alone Kind.Expressions n a e h = last_alone a (h e)
  does_alone (Kind.UnaryExpression o) n a e h = need_any (eval E a) (λ m r. with_alone _ (unary_of o) (λ v. plain_unary (λ v. refl) o v))
  does_alone (Kind.BinaryExpression o) n a e h = need_any (eval E a) (λ l r. need_any r (λ m r. with_alone _ _ (λ v. with_alone _ _ (λ u. operator_alone o n a (may_have_effects [] anywhere a) e v u))))
  does_alone (Kind.LogicalExpression o) n a e h = side_alone o a (h e)
  does_alone Kind.ConditionalExpression n a e h = branch_alone a (h e)
  does_alone Kind.ThisExpression n a e h = absurd (true≢false e)
  does_alone (Kind.ReferenceName x) n a e h = absurd (true≢false e)
  does_alone (Kind.UpdateExpression o prefix) n a e h = absurd (true≢false e)
  does_alone (Kind.AssignmentExpression o) n a e h = absurd (true≢false e)
  does_alone (Kind.CallExpression optional pure) n a e h = absurd (true≢false e)
  does_alone (Kind.NewExpression pure) n a e h = absurd (true≢false e)
  does_alone (Kind.MemberExpression key optional) n a e h = absurd (true≢false e)
  does_alone k n a e h = ends_unknown

  alone_row : (t : Forest) → may_have_effects [] anywhere t ≡ false → AloneRow t
  alone_row nothing e = tt
  alone_row (absent r) e = alone_row r e
  alone_row (node k n a r) e = (
    core_alone (is_core k) (does E k a (eval E a)) (does_alone k n a (first_of_neither (has_effect [] anywhere k n a (may_have_effects [] anywhere a)) (may_have_effects [] anywhere r) e) (alone_row a)),
    alone_row r (second_of_neither (has_effect [] anywhere k n a (may_have_effects [] anywhere a)) (may_have_effects [] anywhere r) e),
  )

pub gives_alone : (k : Kind) (n : Note) (a : Forest) → may_have_effects [] anywhere (alone k n a) ≡ false → GivesAlone k a
gives_alone k n a e = λ E env. (alone_row E env (alone k n a) e).0
