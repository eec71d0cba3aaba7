-- Small programs, with where they break a rule first, counted by hand.
use Rattle.std.specs.Prelude.{◌≡◌, ℕ, pos, List, [], ◌∷◌, false, Option, Some, None, codes}
use Rattle.js_syntax.specs.declared.node_kind.NodeKind.{NodeKind as Kind}
use Rattle.js_syntax.specs.declared.value.LiteralValue.TheVariants as value
use Rattle.js_syntax.specs.declared.value.Key.{Key}
use Rattle.js_syntax.specs.declared.value.Key.TheVariants.{Name as key_name}
use Rattle.js_syntax.specs.declared.value.ModuleName.TheVariants.{Name as plain_name}
use Rattle.js_syntax.specs.declared.scalar.SourceType.TheVariants as source_type
use Rattle.js_syntax.specs.declared.kind.VariableKind.{VariableKind}
use Rattle.js_syntax.specs.declared.kind.VariableKind.TheVariants as variable
use Rattle.js_syntax.specs.declared.kind.FunctionKind.{FunctionKind}
use Rattle.js_syntax.specs.declared.kind.FunctionKind.TheVariants as function_kind
use Rattle.js_syntax.specs.declared.kind.ClassKind.TheVariants as class_kind
use Rattle.js_syntax.specs.declared.kind.MethodKind.{MethodKind}
use Rattle.js_syntax.specs.Node.{Forest, nothing, node, absent, nowhere, joined}
use Rattle.form_rules.specs.Break.{at_place}
use Rattle.form_rules.specs.declared.rule.Break.{Break}
use Rattle.form_rules.specs.Form.{first_broken}

-- ---- trees

abbrev pub over : Kind → Forest → Forest
over k below = node k nowhere below nothing

abbrev pub leaf : Kind → Forest
leaf k = over k nothing

abbrev pub row : List Forest → Forest
row [] = nothing
row (t ∷ ts) = joined t (row ts)

abbrev pub listed : Kind → List Forest → Forest
listed k ts = over k (row ts)

abbrev pub no : Forest
no = absent nothing

abbrev pub a_module : List Forest → Forest
a_module items = over (Kind.Program source_type.Module) (listed Kind.Statements items)

abbrev pub a_script : List Forest → Forest
a_script items = over (Kind.Program source_type.Script) (listed Kind.Statements items)

abbrev pub a_commonjs : List Forest → Forest
a_commonjs items = over (Kind.Program source_type.CommonJs) (listed Kind.Statements items)

abbrev pub a : List ℕ
a = codes "a"

abbrev pub binds : List ℕ → Forest
binds x = leaf (Kind.BindingName x)

abbrev pub reads : List ℕ → Forest
reads x = leaf (Kind.ReferenceName x)

abbrev pub one : Forest
one = leaf (Kind.Literal (value.Number (pos 1)))

abbrev pub does : Forest → Forest
does e = over Kind.ExpressionStatement e

abbrev pub declares : VariableKind → Forest → Forest → Forest
declares how target init = over (Kind.VariableDeclaration how) (listed Kind.Declarators (over Kind.VariableDeclarator (joined target init) ∷ []))

abbrev pub let_ : List ℕ → Forest
let_ x = declares variable.Let (binds x) no

abbrev pub var_ : List ℕ → Forest
var_ x = declares variable.Var (binds x) no

abbrev pub block : List Forest → Forest
block items = over Kind.BlockStatement (listed Kind.Statements items)

abbrev pub function_of : FunctionKind → Forest → List Forest → List Forest → Forest
function_of how id parameters body = over (Kind.Function how false) (row (id ∷ listed Kind.Parameters parameters ∷ over Kind.FunctionBody (listed Kind.Statements body) ∷ []))

-- function a(..) { .. }
abbrev pub function_a : List Forest → List Forest → Forest
function_a parameters body = function_of function_kind.Declaration (binds a) parameters body

abbrev pub use_strict : Forest
use_strict = over (Kind.Directive (codes "use strict")) (leaf (Kind.Literal (value.Text (codes "use strict"))))

abbrev pub class_of : Forest → List Forest → Forest
class_of heritage members = over (Kind.Class class_kind.Declaration) (row (binds a ∷ heritage ∷ over Kind.ClassBody (listed Kind.Members members) ∷ []))

abbrev pub method_of : MethodKind → Key → Forest → List Forest → Forest
method_of how key child body = over (Kind.MethodDefinition how false key) (joined child (function_of function_kind.Expression no [] body))

abbrev pub method_b : MethodKind → List Forest → Forest
method_b how body = method_of how (key_name (codes "b")) no body

abbrev pub private_b : Forest
private_b = leaf (Kind.PrivateName (codes "b"))

abbrev pub static_block : List Forest → Forest
static_block items = over Kind.StaticBlock (listed Kind.Statements items)

abbrev pub labels : List ℕ → Forest → Forest
labels s body = over (Kind.LabeledStatement s) body

abbrev pub loops : Forest → Forest
loops body = over Kind.WhileStatement (joined one body)

abbrev pub catches : Forest → List Forest → Forest
catches parameter body = over Kind.TryStatement (row (block [] ∷ over Kind.CatchClause (joined parameter (block body)) ∷ no ∷ []))

abbrev pub calls : Forest → Forest
calls callee = over (Kind.CallExpression false false) (joined callee (listed Kind.Arguments []))

abbrev pub super_member : Forest
super_member = over (Kind.MemberExpression (key_name (codes "b")) false) (joined (leaf Kind.Super) no)

abbrev pub exports : List ℕ → List ℕ → Forest
exports local exported = over (Kind.ExportNamedDeclaration None) (joined no (listed Kind.Specifiers (over (Kind.ExportSpecifier (plain_name exported)) (reads local) ∷ [])))

-- ---- rows

pub record Row : Type 0 where
  pub tree : Forest
  pub first : Option Break

abbrev pub kept : Forest → Row
kept t = record { tree = t; first = None }

abbrev pub breaks : (rule place : ℕ) → Forest → Row
breaks rule place t = record { tree = t; first = Some (at_place place rule) }

abbrev pub AreRight : List Row → Type 0
AreRight [] = Unit {0}
AreRight (r ∷ rs) = (first_broken r.tree ≡ r.first) × AreRight rs
