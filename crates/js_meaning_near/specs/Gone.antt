-- A statement of a call of a function that does nothing but give a value, which leaves its list or comes to the arguments that act, at one
-- place that no function further in and no loop lies around.
use Rattle.std.specs.Prelude.{◌≡◌, Bool, true, false, Some}
use Rattle.js_syntax.specs.declared.node_kind.NodeKind.{NodeKind as Kind}
use Rattle.js_syntax.specs.declared.kind.FunctionKind.TheVariants as function_kind
use Rattle.js_syntax.specs.Node.{Note, Forest, nothing, node, absent}
use Rattle.js_meaning.specs.Value.{Text}
use Rattle.js_meaning.specs.Scope.{first_name}
use Rattle.js_meaning_near.specs.Names.{Fact, OfCalls, Names, declared}
use Rattle.js_meaning_near.specs.Near.{Row, fields, items, row_below, is_passage, SilentCode}
use Rattle.js_meaning_near.specs.Fit.{whole, others, within_code, Fits}
use Rattle.js_meaning_near.specs.Once.{NodeStays, SameFirst}
use Rattle.js_meaning_near.specs.Avoid.{declares, CasesOk}
use Rattle.js_meaning_near.specs.Known.{Knows, called, Steady}
use Rattle.js_meaning_near.specs.Rewritten.{SameNames, DeclaresNone}
use Rattle.js_meaning_near.specs.Unused.{Needed, kind_of, below_of}

-- What stands beside it: nodes that only read the name, and the function itself.
pub data Bystander (x : Text) (p : Row) : Kind → Forest → Type 0 where
  stays : {k : Kind} {a : Forest} → ((f : Fact) (st : Names) → Knows x f st → NodeStays p st k a) → Bystander x p k a
  is_function : {pure : Bool} {a : Forest} → first_name a ≡ Some x → ((f : Fact) (st : Names) → OfCalls f → Knows x f st → SilentCode st a) → ((f : Fact) (st : Names) → Knows x f st → Fits others fields (within_code st function_kind.Declaration a) a)
      → Bystander x p (Kind.Function function_kind.Declaration pure) a

pub data Bystanders (x : Text) (p : Row) : Forest → Type 0 where
  no_bystander : Bystanders x p nothing
  bystander : {k : Kind} {n : Note} {a r : Forest} → Bystander x p k a → Bystanders x p r → Bystanders x p (node k n a r)
  behind_absent : {r : Forest} → Bystanders x p r → Bystanders x p (absent r)

pub data Gone (x : Text) : Row → Forest → Forest → Type 0 where
  comes_to_arguments : {p : Row} {pure : Bool} {n m i j k : Note} {es ps r : Forest} (o : Note) → SameNames Kind.ExpressionStatement (node (Kind.CallExpression false pure) m (called i j x es) nothing) (kind_of ps) (below_of o ps) → ((f : Fact) (st : Names) → Knows x f st → Needed st es ps)
      → Steady x whole fields ps → Bystanders x p r → Gone x p (node Kind.ExpressionStatement n (node (Kind.CallExpression false pure) m (called i j x es) nothing) r) (node (kind_of ps) k (below_of o ps) r)
  leaves_list : {pure : Bool} {n m i j : Note} {es r : Forest} → DeclaresNone Kind.ExpressionStatement (node (Kind.CallExpression false pure) m (called i j x es) nothing) r → ((f : Fact) (st : Names) → Knows x f st → Needed st es nothing)
      → Bystanders x items r → Gone x items (node Kind.ExpressionStatement n (node (Kind.CallExpression false pure) m (called i j x es) nothing) r) r
  gone_behind : {p : Row} {k : Kind} {n : Note} {a r s : Forest} → Bystander x p k a → Gone x p r s → Gone x p (node k n a r) (node k n a s)
  gone_behind_none : {p : Row} {r s : Forest} → Gone x p r s → Gone x p (absent r) (absent s)
  gone_below : {p : Row} {k : Kind} {n m : Note} {a b r : Forest} → is_passage k ≡ true → CasesOk p k → declares (declared k b) x ≡ false → Gone x (row_below k) a b → Bystanders x p r → Gone x p (node k n a r) (node k m b r)

-- Below a `for`, behind what stands first in its head.
pub data GoneBehind (x : Text) : Forest → Forest → Type 0 where
  gone_behind_first : {k : Kind} {n : Note} {a r s : Forest} → ((f : Fact) (st : Names) → Knows x f st → NodeStays fields st k a) → Gone x fields r s → GoneBehind x (node k n a r) (node k n a s)
  gone_behind_no_first : {r s : Forest} → Gone x fields r s → GoneBehind x (absent r) (absent s)

-- Below a function, in whose body it is.
pub data GoneInCode (x : Text) : Forest → Forest → Type 0 where
  gone_in_code : {a b c d ps : Forest} {i j k : Note} → SameFirst a b (node Kind.Parameters i ps (node Kind.FunctionBody j c nothing)) (node Kind.Parameters i ps (node Kind.FunctionBody k d nothing))
      → ((f : Fact) (st : Names) → Knows x f st → NodeStays fields st Kind.Parameters ps) → Gone x fields (node Kind.FunctionBody j c nothing) (node Kind.FunctionBody k d nothing) → GoneInCode x a b
