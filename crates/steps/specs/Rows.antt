-- Small trees that the definitions of names are tried on.
use Rattle.std.specs.Prelude.{◌≡◌, [], ◌∷◌, true, false, codes}
use Rattle.js_syntax.specs.declared.node_kind.NodeKind.{NodeKind as Kind}
use Rattle.js_syntax.specs.declared.kind.FunctionKind.TheVariants as function_kind
use Rattle.js_syntax.specs.declared.value.LiteralValue.{LiteralValue as Literal}
use Rattle.js_syntax.specs.Node.{Forest}
use Rattle.js_meaning.specs.Value.{Text}
use Rattle.js_meaning.specs.Samples.{over, leaf, row, name, call, assigned, number_of}
use Rattle.steps.specs.Names.{refers, may_act}

abbrev pub a : Text
a = codes "a"

abbrev pub b : Text
b = codes "b"

-- a name does nothing where it is declared, a literal nowhere; a call may act
pub record Act : Type 0 where
  pub declared : may_act (b ∷ a ∷ []) (name a) ≡ false
  pub undeclared : may_act (b ∷ []) (name a) ≡ true
  pub called : may_act (a ∷ []) (call (name a) []) ≡ true
  pub literal : may_act [] (leaf (Kind.Literal Literal.Null)) ≡ false

-- () => a
abbrev pub arrow : Forest
arrow = over (Kind.Function function_kind.Arrow false) (name a)

-- catch (a) x
abbrev pub clause : Text → Forest
clause x = over Kind.CatchClause (row (leaf (Kind.BindingName a) ∷ name x ∷ []))

-- what a function reads is referred to, and what is assigned; what nothing reads is not; a name that is declared again is another one
pub record Refer : Type 0 where
  pub read_inside : refers a arrow ≡ true
  pub read_nowhere : refers b arrow ≡ false
  pub declared_again : refers a (clause a) ≡ false
  pub not_declared_again : refers b (clause b) ≡ true
  pub assigned : refers a (assigned a (number_of 1)) ≡ true
