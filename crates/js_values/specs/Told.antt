-- What is told of the value of an expression, said of a value.
use Rattle.std.specs.Prelude.{◌≡◌, ℕ, Bool, true, false, None, codes}
use Rattle.std.specs.Str.{bytes_eq}
use Rattle.js_syntax.specs.declared.node_kind.NodeKind.{NodeKind as Kind}
use Rattle.js_syntax.specs.Node.{Forest, nothing, node, absent, Note}
use Rattle.js_effects.specs.declared.value.ValueType.{ValueType}
use Rattle.js_effects.specs.declared.value.ValueType.TheVariants as type
use Rattle.js_effects.specs.declared.value.ConstantValue.{ConstantValue}
use Rattle.js_effects.specs.declared.value.ConstantValue.TheVariants as constant
use Rattle.js_effects.specs.Answers.{Answers}
use Rattle.js_effects.specs.Kinds.{type_from, types}
use Rattle.js_effects.specs.Values.{Known, exactly, only_truth, unknown, known_from, knowns}
use Rattle.js_meaning.specs.Value.{Env, Value, plain, undefined, null, boolean, number, text}
use Rattle.js_meaning.specs.Operator.{is_object, is_boolean, truthy}
use Rattle.js_meaning.specs.Scope.{look}
use Rattle.js_meaning.specs.Host.{Enter}
use Rattle.js_meaning.specs.Node.{Wanted, value, Meaning}
use Rattle.js_meaning.specs.Meaning.{does, if_core, eval}
use Rattle.js_syntax.specs.Facts.{is_core}
use Rattle.js_values.specs.Gives.{Gives}

-- a constant as a value
abbrev pub as_value : ConstantValue → Value
as_value (constant.Number z) = plain (number z)
as_value (constant.Text s) = plain (text s)
as_value (constant.Boolean b) = plain (boolean b)
as_value constant.Null = plain null
as_value constant.Undefined = plain undefined

abbrev pub is_number : Value → Bool
is_number (plain (number z)) = true
is_number v = false

abbrev pub is_text : Value → Bool
is_text (plain (text s)) = true
is_text v = false

-- of which type a value is (ECMA-262 6.1)
abbrev pub HasType : ValueType → Value → Type 0
HasType type.Undefined v = v ≡ plain undefined
HasType type.Null v = v ≡ plain null
HasType type.Boolean v = is_boolean v ≡ true
HasType type.Number v = is_number v ≡ true
HasType type.String v = is_text v ≡ true
HasType type.Object v = is_object v ≡ true
HasType type.Undetermined v = Unit {0}

-- what is known of it: the value, or whether it is true in tests (7.1.2)
abbrev pub Is : Known → Value → Type 0
Is (exactly c) v = v ≡ as_value c
Is (only_truth b) v = truthy v ≡ b
Is unknown v = Unit {0}

pub record IsTold (t : ValueType) (k : Known) (v : Value) : Type 0 where
  pub type : HasType t v
  pub known : Is k v

-- what a node does in a row
abbrev pub meaning : Enter → Kind → Forest → Meaning
meaning E k a = if_core (is_core k) (does E k a (eval E a))

-- asked for its value, whatever for
abbrev pub ToldNode : Env → ValueType → Known → Meaning → Type 0
ToldNode env t k m = (w : Wanted) → Gives (IsTold t k) (m (value w) env)

abbrev pub ToldRow : Answers → Env → Enter → Forest → Type 0
ToldRow A env E nothing = Unit {0}
ToldRow A env E (absent r) = ToldRow A env E r
ToldRow A env E (node k n a r) = ToldNode env (type_from A k n a (types A a)) (known_from A k n a (knowns A a)) (meaning E k a) × ToldRow A env E r

-- ---- answers that are true: no name has a constant, and one that is called the global `undefined` has no binding

abbrev pub NameIsTrue : Answers → Env → Kind → Note → (below : Type 0) → Type 0
NameIsTrue A env (Kind.ReferenceName x) n below = A.effects.inside_with ≡ false → bytes_eq x (codes "undefined") ≡ true → A.names.is_global (Kind.ReferenceName x) n ≡ true → look env x ≡ None
NameIsTrue A env (Kind.Function f pure) n below = Unit {0}
NameIsTrue A env k n below = below

abbrev pub NamesAreTrue : Answers → Env → Forest → Type 0
NamesAreTrue A env nothing = Unit {0}
NamesAreTrue A env (absent r) = NamesAreTrue A env r
NamesAreTrue A env (node k n a r) = NameIsTrue A env k n (NamesAreTrue A env a) × NamesAreTrue A env r

pub record TellsNoConstant (A : Answers) : Type 0 where
  pub values : (i : ℕ) → A.names.constant i ≡ None
  pub types : (i : ℕ) → A.names.constant_type i ≡ None
