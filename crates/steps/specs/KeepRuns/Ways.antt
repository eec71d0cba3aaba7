-- The way to a statement of a call of a function of the module, which leaves its list: what lies around it.
use Rattle.std.specs.Prelude.{◌≡◌, Bool, true, false, ◌||◌, Option, Some, None}
use Rattle.js_syntax.specs.declared.node_kind.NodeKind.{NodeKind as Kind}
use Rattle.js_syntax.specs.declared.kind.FunctionKind.{FunctionKind}
use Rattle.js_syntax.specs.Node.{Note, Forest, Tree, nothing, node}
use Rattle.js_meaning.specs.Value.{Text}
use Rattle.js_meaning.specs.Scope.{first_name}
use Rattle.js_meaning_near.specs.Names.{Fact, silent_function, owed_function, Names, declared}
use Rattle.js_meaning_near.specs.Near.{Row, fields, items, row_below, is_passage}
use Rattle.js_meaning_near.specs.Avoid.{declares, code_declares, NotFunction}
use Rattle.js_meaning_near.specs.Known.{Knows, called, Steady}
use Rattle.js_meaning_near.specs.Fit.{whole}
use Rattle.js_meaning_near.specs.Gone.{Bystander, Bystanders}
use Rattle.js_meaning_near.specs.Local.{KeysStay}
use Rattle.js_meaning_near.specs.Rewritten.{DeclaresNone}
use Rattle.js_meaning_near.specs.Unused.{Needed}
use Rattle.scope_laws.specs.Place.{Around, first, behind, behind_none, under, plug}
use Rattle.scope_laws.specs.Lists.{without}

-- whether a scope that lies around the place, below this row, declares the name again
abbrev pub hides_at : Text → Kind → (below : Forest) → Bool
hides_at x (Kind.Function f pure) a = declares (code_declares f a) x
hides_at x k a = declares (declared k a) x

abbrev pub hides : Text → Around → Option Tree → Bool
hides x (first rest) t = false
hides x (behind k n below a) t = hides x a t
hides x (behind_none a) t = hides x a t
hides x (under k n a rest) t = hides_at x k (plug a t) || hides x a t

-- What stands beside the way in this row, and that the node on the way only reads the name: so the function may stand beside it.
abbrev pub Beside : Text → Row → Around → Option Tree → Type 0
Beside x p (first rest) t = Bystanders x p rest
Beside x p (behind k n below a) t = Bystander x p k below × Beside x p a t
Beside x p (behind_none a) t = Beside x p a t
Beside x p (under k n a rest) t = Steady x whole p (node k n (plug a t) nothing) × Bystanders x p rest

-- a statement of a call of which no argument acts, and which declares nothing
pub data IsCall (x : Text) : Tree → Type 0 where
  a_call : {pure : Bool} {n m i j : Note} {es : Forest} → ((f : Fact) (st : Names) → Knows x f st → Needed st es nothing) → ((rest : Forest) → first_name rest ≡ None → DeclaresNone Kind.ExpressionStatement (node (Kind.CallExpression false pure) m (called i j x es) nothing) rest)
      → IsCall x (record { kind = Kind.ExpressionStatement; note = n; below = node (Kind.CallExpression false pure) m (called i j x es) nothing })

-- A place that lies in no function and no loop below this row; and one that does.
pub data Within (t : Tree) : Row → Around → Type 0 where
  here : {rest : Forest} → first_name rest ≡ None → Within t items (first rest)
  past : {p : Row} {k : Kind} {n : Note} {below : Forest} {a : Around} → Within t p a → Within t p (behind k n below a)
  past_none : {p : Row} {a : Around} → Within t p a → Within t p (behind_none a)
  through : {p : Row} {k : Kind} {n : Note} {a : Around} {rest : Forest} → is_passage k ≡ true → Within t (row_below k) a → Within t p (under k n a rest)

pub data Further (t : Tree) : Row → Around → Type 0 where
  past : {p : Row} {k : Kind} {n : Note} {below : Forest} {a : Around} → Further t p a → Further t p (behind k n below a)
  past_none : {p : Row} {a : Around} → Further t p a → Further t p (behind_none a)
  inside : {p : Row} {k : Kind} {n : Note} {a : Around} {rest : Forest} → NotFunction k → KeysStay k (plug a (Some t)) (without a) → Further t (row_below k) a → Further t p (under k n a rest)
  in_while : {p : Row} {n : Note} {a : Around} {rest : Forest} → Within t fields a → Further t p (under Kind.WhileStatement n a rest)
  in_do : {p : Row} {n : Note} {a : Around} {rest : Forest} → Within t fields a → Further t p (under Kind.DoWhileStatement n a rest)
  in_for : {p : Row} {k : Kind} {n m : Note} {below : Forest} {a : Around} {rest : Forest} → Within t fields a → Further t p (under Kind.ForStatement n (behind k m below a) rest)
  in_bare_for : {p : Row} {n : Note} {a : Around} {rest : Forest} → Within t fields a → Further t p (under Kind.ForStatement n (behind_none a) rest)
  in_function : {p : Row} {f : FunctionKind} {pure : Bool} {k : Kind} {n m i j : Note} {name ps : Forest} {a : Around} {rest : Forest} → Within t fields (under Kind.FunctionBody j a nothing)
      → Further t p (under (Kind.Function f pure) n (behind k m name (behind Kind.Parameters i ps (under Kind.FunctionBody j a nothing))) rest)
  in_unnamed_function : {p : Row} {f : FunctionKind} {pure : Bool} {n i j : Note} {ps : Forest} {a : Around} {rest : Forest} → Within t fields (under Kind.FunctionBody j a nothing)
      → Further t p (under (Kind.Function f pure) n (behind_none (behind Kind.Parameters i ps (under Kind.FunctionBody j a nothing))) rest)
  in_code : {p : Row} {f : FunctionKind} {pure : Bool} {k : Kind} {n m : Note} {name : Forest} {a : Around} {rest : Forest} → Further t fields a → Further t p (under (Kind.Function f pure) n (behind k m name a) rest)
  in_unnamed_code : {p : Row} {f : FunctionKind} {pure : Bool} {n : Note} {a : Around} {rest : Forest} → Further t fields a → Further t p (under (Kind.Function f pure) n (behind_none a) rest)

-- the two facts that hold of the function: of what is kept, and of the way back
pub data AtCalls : Fact → Type 0 where
  of_silent : AtCalls silent_function
  of_owed : AtCalls owed_function
