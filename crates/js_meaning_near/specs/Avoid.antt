-- A name that one program declares and the other doesn't, or not so often; and rows that don't mention it.
use Rattle.std.specs.Prelude.{◌≡◌, Bool, true, false, ◌||◌, List, [], ◌∷◌, ◌++◌, Option, Some, None}
use Rattle.std.specs.Str.{bytes_eq}
use Rattle.js_syntax.specs.declared.node_kind.NodeKind.{NodeKind as Kind}
use Rattle.js_syntax.specs.declared.kind.FunctionKind.{FunctionKind}
use Rattle.js_syntax.specs.declared.kind.FunctionKind.TheVariants as function_kind
use Rattle.js_syntax.specs.Facts.{is_core}
use Rattle.js_syntax.specs.Node.{Forest, nothing, node, absent}
use Rattle.js_meaning.specs.Value.{Text, this_name}
use Rattle.js_meaning.specs.Scope.{Way, waiting, Decl, decl, named_so, first_name, own_name, function_decls, default_name}
use Rattle.js_meaning.specs.Module.{Entry, entry_local, entry_import}
use Rattle.js_meaning_near.specs.Names.{Names, unread, HasCell, Lone, Decls, Plainly, declared}
use Rattle.js_meaning_near.specs.Near.{Row, fields, HoldsCases, row_below}
use Rattle.js_meaning_near.specs.Fit.{Part, whole, others, IfCore}

abbrev pub declares : List Decl → Text → Bool
declares [] x = false
declares (decl y way ∷ ds) x = bytes_eq y x || declares ds x

-- The new list is the old one without some of the declarations of this name.
pub data Fewer (x : Text) : List Decl → List Decl → Type 0 where
  fewer_end : Fewer x [] []
  fewer_same : {d : Decl} {ds es : List Decl} → Fewer x ds es → Fewer x (d ∷ ds) (d ∷ es)
  fewer_gone : {way : Way} {ds es : List Decl} → Fewer x ds es → Fewer x (decl x way ∷ ds) es

-- So, and at least one is gone.
pub data Dropped (x : Text) : List Decl → List Decl → Type 0 where
  dropped_here : {way : Way} {ds es : List Decl} → Fewer x ds es → Dropped x (decl x way ∷ ds) es
  dropped_later : {d : Decl} {ds es : List Decl} → Dropped x ds es → Dropped x (d ∷ ds) (d ∷ es)

-- each declaration of the name has a cell of its own
abbrev pub CellIf : Bool → Way → Type 0
CellIf true way = HasCell way
CellIf false way = Unit {0}

abbrev pub HasCells : Text → List Decl → Type 0
HasCells x [] = Unit {0}
HasCells x (decl y way ∷ ds) = CellIf (bytes_eq y x) way × HasCells x ds

-- The names after the declarations of both, where some of this name are gone in the new program: it is dead there, or
-- unread if it is still declared.
pub record Dropping (x : Text) (st : Names) (ds es : List Decl) : Type 0 where
  pub within : Names
  pub decls : Decls st ds es within
  pub plain : (y : Text) → bytes_eq y x ≡ false → Plainly (st y) → Plainly (within y)
  pub lone : Lone (within x)
  pub still : declares es x ≡ true → within x ≡ unread

-- no export shows the name
abbrev pub ExportsAvoid : Text → List Entry → Type 0
ExportsAvoid x [] = Unit {0}
ExportsAvoid x (entry_local z y ∷ es) = (bytes_eq y x ≡ false) × ExportsAvoid x es
ExportsAvoid x (entry_import z source name ∷ es) = ExportsAvoid x es

-- cases stand in a switch
abbrev pub CasesOk : Row → Kind → Type 0
CasesOk p Kind.Cases = HoldsCases p
CasesOk p _ = Unit {0}

-- functions have rules of their own
abbrev pub NotFunction : Kind → Type 0
NotFunction (Kind.Function f pure) = ⊥
NotFunction _ = Unit {0}

abbrev pub NodeInPlace : Row → Kind → (Part → Row → Type 0) → Type 0
NodeInPlace p (Kind.Function f pure) below = below others fields
NodeInPlace p k below = CasesOk p k × below whole (row_below k)

abbrev pub InPlace : Part → Row → Forest → Type 0
InPlace q p nothing = Unit {0}
InPlace others p (absent c) = InPlace whole p c
InPlace others p (node k n a c) = InPlace whole p c
InPlace whole p (absent c) = InPlace whole p c
InPlace whole p (node k n a c) = IfCore (is_core k) (NodeInPlace p k (λ q r. InPlace q r a)) × InPlace whole p c

abbrev pub IsOther : Text → Text → Type 0
IsOther x y = bytes_eq y x ≡ false

abbrev pub IsOtherIf : Text → Option Text → Type 0
IsOtherIf x None = Unit {0}
IsOtherIf x (Some y) = IsOther x y

-- what a node itself looks up, and, where `bindings` says so, what it initialises, is another name
abbrev pub Binding : (bindings : Bool) → Type 0 → Type 0
Binding true A = A
Binding false A = Unit {0}

abbrev pub NameAvoids : (bindings : Bool) → Text → Kind → Type 0
NameAvoids b x (Kind.ReferenceName y) = IsOther x y
NameAvoids b x (Kind.TargetName y) = IsOther x y
NameAvoids b x Kind.ThisExpression = IsOther x this_name
NameAvoids b x (Kind.BindingName y) = Binding b (IsOther x y)
NameAvoids b x Kind.ExportDefaultDeclaration = Binding b (IsOther x default_name)
NameAvoids b x _ = Unit {0}

-- a declared function's name lies in the scope around it
abbrev pub HoistedAvoids : (bindings : Bool) → Text → FunctionKind → Forest → Type 0
HoistedAvoids b x function_kind.Declaration a = Binding b (IsOtherIf x (first_name a))
HoistedAvoids b x f a = Unit {0}

-- what a function declares for what lies below it
abbrev pub code_declares : FunctionKind → Forest → List Decl
code_declares f a = named_so (waiting true) (own_name f a) ++ function_decls f a

-- where a scope further in declares the name again, it is another one
abbrev pub Unless : Bool → (hidden shown : Type 0) → Type 0
Unless true hidden shown = hidden
Unless false hidden shown = shown

abbrev pub NodeAvoids : (bindings : Bool) → Text → Row → Kind → Forest → (hidden shown : Part → Row → Type 0) → Type 0
NodeAvoids b x p (Kind.Function f pure) a hidden shown = HoistedAvoids b x f a × Unless (declares (code_declares f a) x) (hidden others fields) (shown others fields)
NodeAvoids b x p k a hidden shown = NameAvoids b x k × CasesOk p k × Unless (declares (declared k a) x) (hidden whole (row_below k)) (shown whole (row_below k))

abbrev pub Avoids : (bindings : Bool) → Text → Part → Row → Forest → Type 0
Avoids b x q p nothing = Unit {0}
Avoids b x others p (absent c) = Avoids b x whole p c
Avoids b x others p (node k n a c) = Avoids b x whole p c
Avoids b x whole p (absent c) = Avoids b x whole p c
Avoids b x whole p (node k n a c) = IfCore (is_core k) (NodeAvoids b x p k a (λ q r. InPlace q r a) (λ q r. Avoids b x q r a)) × Avoids b x whole p c
