-- Bodies of functions of which a call does nothing but give a value, whatever the arguments.
use Rattle.std.specs.Prelude.{◌≡◌, true, List}
use Rattle.js_syntax.specs.declared.node_kind.NodeKind.{NodeKind as Kind}
use Rattle.js_syntax.specs.declared.kind.FunctionKind.TheVariants as function_kind
use Rattle.js_syntax.specs.declared.kind.VariableKind.{VariableKind}
use Rattle.js_syntax.specs.Node.{Note, Forest, nothing, node, absent}
use Rattle.js_meaning.specs.Value.{Text}
use Rattle.js_meaning.specs.Scope.{Decl, function_decls}
use Rattle.js_meaning_near.specs.Names.{Names}
use Rattle.js_meaning_near.specs.Near.{Silent}
use Rattle.js_meaning_near.specs.Fit.{within_code}
use Rattle.js_meaning_near.specs.Avoid.{declares}
use Rattle.js_meaning_near.specs.Known.{code_of}

-- parameters that are names take any arguments
abbrev pub AreNames : Forest → Type 0
AreNames nothing = Unit {0}
AreNames (node (Kind.BindingName x) n a r) = AreNames r
AreNames _ = ⊥

-- declarators of the function's own names, with silent values or none
pub data QuietNames (own : List Decl) (st : Names) : Forest → Type 0 where
  no_names_more : QuietNames own st nothing
  name_given : {x : Text} {k : Kind} {n m i : Note} {a b c r : Forest} → declares own x ≡ true → Silent st k b → QuietNames own st r → QuietNames own st (node Kind.VariableDeclarator n (node (Kind.BindingName x) m a (node k i b c)) r)
  name_not_given : {x : Text} {n m : Note} {a c r : Forest} → declares own x ≡ true → QuietNames own st r → QuietNames own st (node Kind.VariableDeclarator n (node (Kind.BindingName x) m a (absent c)) r)

-- statements that evaluate what is silent, for nothing (14.5), for a name of the function's own (14.3), or to return it (14.10)
pub data QuietItems (own : List Decl) (st : Names) : Forest → Type 0 where
  no_items_more : QuietItems own st nothing
  empty_item : {n : Note} {a r : Forest} → QuietItems own st r → QuietItems own st (node Kind.EmptyStatement n a r)
  expression_item : {k : Kind} {n m : Note} {a c r : Forest} → Silent st k a → QuietItems own st r → QuietItems own st (node Kind.ExpressionStatement n (node k m a c) r)
  names_item : {how : VariableKind} {n m : Note} {a c r : Forest} → QuietNames own st a → QuietItems own st r → QuietItems own st (node (Kind.VariableDeclaration how) n (node Kind.Declarators m a c) r)
  return_item : {k : Kind} {n m : Note} {a c r : Forest} → Silent st k a → QuietItems own st r → QuietItems own st (node Kind.ReturnStatement n (node k m a c) r)
  bare_return_item : {n : Note} {c r : Forest} → QuietItems own st r → QuietItems own st (node Kind.ReturnStatement n (absent c) r)

-- `name(..) { .. }` of such, by the names around it
abbrev pub QuietBody : Names → Note → Note → Note → Note → Text → (parameters body : Forest) → Type 0
QuietBody st i j k l x ps b =
    AreNames ps × QuietItems (function_decls function_kind.Declaration (code_of i j k l x ps b)) (within_code st function_kind.Declaration (code_of i j k l x ps b)) b
