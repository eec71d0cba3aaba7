-- What a single expression gives, in words of its value.
use Rattle.std.proofs.Common.{◌≡◌, List, Bool, Some, refl, sym, subst, true≢false}
use Rattle.js_syntax.specs.declared.node_kind.NodeKind.{NodeKind as Kind}
use Rattle.js_syntax.specs.Node.{Forest, nothing, node, absent, Note, alone}
use Rattle.js_effects.specs.declared.value.ConstantValue.{ConstantValue}
use Rattle.js_effects.specs.Answers.{Answers, bare_answers}
use Rattle.js_effects.specs.Kinds.{type_from, types, type_of}
use Rattle.js_effects.specs.Values.{Known, exactly, only_truth, unknown, value, known_from, knowns, value_of, truth_of}
use Rattle.js_meaning.specs.Value.{Env, Value}
use Rattle.js_meaning.specs.Trace.{Event}
use Rattle.js_meaning.specs.State.{State, gives, goes}
use Rattle.js_meaning.specs.Operator.{truthy}
use Rattle.js_meaning.specs.Host.{Enter}
use Rattle.js_meaning.specs.Node.{itself, now}
use Rattle.js_values.specs.Gives.{OfValue, IsSo}
use Rattle.js_values.specs.Told.{as_value, HasType, Is, IsTold, meaning, ToldRow, NamesAreTrue, TellsNoConstant}
use Rattle.js_values.proofs.Operators.{truth_is}
use Rattle.js_values.proofs.Told.{told_row}

value_is : (k : Known) (v : Value) (c : ConstantValue) → Is k v → value k ≡ Some c → v ≡ as_value c
value_is (exactly d) v c h e = subst (λ x. v ≡ as_value x) (same e) h
  where
    same : Some d ≡ Some c → d ≡ c
    same e = cc
value_is (only_truth b) v c h e = absurd (cc e)
value_is unknown v c h e = absurd (cc e)

module _ (A : Answers) (env : Env) (E : Enter) (plainly : TellsNoConstant A) (k : Kind) (n : Note) (a : Forest) (true_of : NamesAreTrue A env (alone k n a)) (s z : State) (es : List Event) (v r : Value) (is : meaning E k a now env s ≡ goes es z (gives v r)) where
  told : IsTold (type_from A k n a (types A a)) (known_from A k n a (knowns A a)) v
  told = subst (IsSo (OfValue (IsTold (type_from A k n a (types A a)) (known_from A k n a (knowns A a))))) is (((told_row A env E plainly (alone k n a) true_of).0 itself).at s)

  pub has_type : HasType (type_of A (alone k n a)) v
  has_type = told.type

  pub has_value : (c : ConstantValue) → value_of A (alone k n a) ≡ Some c → v ≡ as_value c
  has_value c e = value_is (known_from A k n a (knowns A a)) v c told.known e

  pub has_truth : (b : Bool) → truth_of A (alone k n a) ≡ Some b → truthy v ≡ b
  has_truth b e = truth_is (known_from A k n a (knowns A a)) v b told.known e

-- ---- by forms alone

names_by_form : (env : Env) (t : Forest) → NamesAreTrue bare_answers env t
names_by_form env nothing = tt
names_by_form env (absent r) = names_by_form env r
names_by_form env (node (Kind.ReferenceName x) n a r) = ((λ outside named global. absurd (true≢false (sym global))), names_by_form env r)
names_by_form env (node (Kind.Function f pure) n a r) = (tt, names_by_form env r)
names_by_form env (node k n a r) = (names_by_form env a, names_by_form env r)

pub told_by_form : (env : Env) (E : Enter) (t : Forest) → ToldRow bare_answers env E t
told_by_form env E t = told_row bare_answers env E (record { values = λ i. refl; types = λ i. refl }) t (names_by_form env t)
