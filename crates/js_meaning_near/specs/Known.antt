-- A scope in which something is known of one name.
use Rattle.std.specs.Prelude.{◌≡◌, Bool, true, false, List, ◌∷◌}
use Rattle.std.specs.Str.{bytes_eq}
use Rattle.js_syntax.specs.declared.node_kind.NodeKind.{NodeKind as Kind}
use Rattle.js_syntax.specs.Node.{Note, Forest, nothing, node, absent}
use Rattle.js_syntax.specs.Facts.{is_core}
use Rattle.js_meaning.specs.Value.{Text}
use Rattle.js_meaning.specs.Scope.{Decl, decl, waiting, Way, default_name}
use Rattle.js_meaning_near.specs.Names.{Fact, known, Names, Decls, declared, PlainBut}
use Rattle.js_meaning_near.specs.Near.{Row, fields, row_below}
use Rattle.js_meaning_near.specs.Fit.{Part, whole, others, IfCore}
use Rattle.js_meaning_near.specs.Avoid.{declares, InPlace, CasesOk, IsOther, HoistedAvoids, code_declares, Unless}

-- what is known of x; nothing is of another name
pub record Knows (x : Text) (p : Fact) (st : Names) : Type 0 where
  pub known_so : st x ≡ known p
  pub plain : PlainBut x st

-- the name is declared once in this list, and isn't initialised at first
pub data DeclaredOnce (x : Text) : List Decl → Type 0 where
  declared_here : {constant : Bool} {ds : List Decl} → declares ds x ≡ false → DeclaredOnce x (decl x (waiting constant) ∷ ds)
  declared_later : {y : Text} {way : Way} {ds : List Decl} → bytes_eq y x ≡ false → DeclaredOnce x ds → DeclaredOnce x (decl y way ∷ ds)

-- the names behind these declarations of both programs
pub record Knowing (x : Text) (p : Fact) (st : Names) (ds : List Decl) : Type 0 where
  pub within : Names
  pub decls : Decls st ds ds within
  pub knows : Knows x p within

-- `name(..) { .. }`
abbrev pub code_of : Note → Note → Note → Note → Text → (parameters body : Forest) → Forest
code_of i j k l x ps b = node (Kind.BindingName x) i nothing (node Kind.Parameters j ps (node Kind.FunctionBody k (node Kind.Statements l b nothing) nothing))

-- `name() {}`
abbrev pub empty_code : Note → Note → Note → Note → Text → Forest
empty_code i j k l x = code_of i j k l x nothing nothing

-- below a call of the name
abbrev pub called : Note → Note → Text → (arguments : Forest) → Forest
called i j x es = node (Kind.ReferenceName x) i nothing (node Kind.Arguments j es nothing)

-- what a node does with a name of which something is known: it may read it, and doesn't assign or initialise it
abbrev pub NameSteady : Text → Kind → Type 0
NameSteady x (Kind.TargetName y) = IsOther x y
NameSteady x (Kind.BindingName y) = IsOther x y
NameSteady x Kind.ExportDefaultDeclaration = IsOther x default_name
NameSteady x _ = Unit {0}

abbrev pub NodeSteady : Text → Row → Kind → Forest → (hidden shown : Part → Row → Type 0) → Type 0
NodeSteady x p (Kind.Function f pure) a hidden shown = HoistedAvoids true x f a × Unless (declares (code_declares f a) x) (hidden others fields) (shown others fields)
NodeSteady x p k a hidden shown = NameSteady x k × CasesOk p k × Unless (declares (declared k a) x) (hidden whole (row_below k)) (shown whole (row_below k))

abbrev pub Steady : Text → Part → Row → Forest → Type 0
Steady x q p nothing = Unit {0}
Steady x others p (absent c) = Steady x whole p c
Steady x others p (node k n a c) = Steady x whole p c
Steady x whole p (absent c) = Steady x whole p c
Steady x whole p (node k n a c) = IfCore (is_core k) (NodeSteady x p k a (λ q r. InPlace q r a) (λ q r. Steady x q r a)) × Steady x whole p c
