-- Which names a piece of a program declares, and what an entry does about them (ECMA-262 8.2, 10.2.11, 14.2.3, 16.1.7).
use Rattle.std.specs.Prelude.{Bool, true, false, List, [], ◌∷◌, ◌++◌, Option, Some, None, codes, if◌then◌else◌}
use Rattle.std.specs.Str.{bytes_eq}
use Rattle.js_syntax.specs.declared.node_kind.NodeKind.{NodeKind as Kind}
use Rattle.js_syntax.specs.Node.{Forest, nothing, node, absent}
use Rattle.js_syntax.specs.declared.value.ModuleName.{ModuleName}
use Rattle.js_syntax.specs.declared.value.ModuleName.TheVariants.{Name as plain_name, Text as quoted_name}
use Rattle.js_syntax.specs.declared.kind.VariableKind.TheVariants as variable
use Rattle.js_syntax.specs.declared.kind.FunctionKind.{FunctionKind}
use Rattle.js_syntax.specs.declared.kind.FunctionKind.TheVariants as function_kind
use Rattle.js_syntax.specs.declared.kind.ClassKind.TheVariants as class_kind
use Rattle.js_meaning.specs.Value.{Text, Slot, local, imported, arguments_object, bound, Env, this_name, Value, closure, undef}
use Rattle.js_meaning.specs.State.{M, Cell, cell, alloc, read, store, identity, unknown}

-- How a name starts.
pub data Way : Type 0 where
  -- not initialised; constant or not
  waiting : Bool → Way
  -- undefined
  ready : Way
  linked : (source name : Text) → Way
  left_out : Way

pub data Decl : Type 0 where
  decl : Text → Way → Decl

-- rows

-- the first field of a row alone, and what stands behind it
abbrev pub first_of : Forest → Forest
first_of nothing = nothing
first_of (node k n a r) = node k n a nothing
first_of (absent r) = nothing

abbrev pub behind : Forest → Forest
behind nothing = nothing
behind (node k n a r) = r
behind (absent r) = r

abbrev pub declared_name : Kind → Option Text
declared_name (Kind.BindingName x) = Some x
declared_name _ = None

-- the name that a function, class or import specifier declares
abbrev pub first_name : Forest → Option Text
first_name nothing = None
first_name (node k n a r) = declared_name k
first_name (absent r) = None

-- BoundNames of patterns, declarators and parameters (8.2.1); what `let` and `const` declare they declare in their own scope
abbrev pub names_of : Kind → List Text → List Text
names_of (Kind.BindingName x) inner = x ∷ []
names_of (Kind.VariableDeclaration variable.Let) inner = []
names_of (Kind.VariableDeclaration variable.Const) inner = []
names_of (Kind.Function f pure) inner = []
names_of (Kind.Class c) inner = []
names_of _ inner = inner

abbrev pub bound_names : Forest → List Text
bound_names nothing = []
bound_names (absent r) = bound_names r
bound_names (node k n a r) = names_of k (bound_names a) ++ bound_names r

-- VarDeclaredNames (8.2.6): not those of functions and classes inside, and none of `let` and `const`
abbrev pub vars_of : Kind → Forest → List Text → List Text
vars_of (Kind.VariableDeclaration variable.Var) a inner = bound_names a ++ inner
vars_of (Kind.VariableDeclaration variable.Let) a inner = []
vars_of (Kind.VariableDeclaration variable.Const) a inner = []
vars_of (Kind.Function f pure) a inner = []
vars_of (Kind.Class c) a inner = []
vars_of _ a inner = inner

abbrev pub var_names : Forest → List Text
var_names nothing = []
var_names (absent r) = var_names r
var_names (node k n a r) = vars_of k a (var_names a) ++ var_names r

abbrev pub all_so : Way → List Text → List Decl
all_so way [] = []
all_so way (x ∷ xs) = decl x way ∷ all_so way xs

abbrev pub named_so : Way → Option Text → List Decl
named_so way None = []
named_so way (Some x) = decl x way ∷ []

abbrev pub module_text : ModuleName → Text
module_text (plain_name s) = s
module_text (quoted_name s) = s

-- under this name stands what `export default` gives, where it declares no name (16.2.3)
abbrev pub default_name : Text
default_name = codes "*default*"

abbrev pub name_or_default : Option Text → Text
name_or_default (Some x) = x
name_or_default None = default_name

-- an import is bound to what its source exports (16.2.2)
abbrev pub specifier_decls : Text → Kind → Forest → List Decl → List Decl
specifier_decls source (Kind.ImportSpecifier name) a inner = named_so (linked source (module_text name)) (first_name a)
specifier_decls source Kind.ImportDefaultSpecifier a inner = named_so (linked source (codes "default")) (first_name a)
specifier_decls source Kind.ImportNamespaceSpecifier a inner = named_so (linked source (codes "*")) (first_name a)
specifier_decls source _ a inner = inner

abbrev pub import_decls : Text → Forest → List Decl
import_decls source nothing = []
import_decls source (absent r) = import_decls source r
import_decls source (node k n a r) = specifier_decls source k a (import_decls source a) ++ import_decls source r

abbrev pub or_default : List Decl → List Decl
or_default [] = decl default_name (waiting false) ∷ []
or_default (d ∷ ds) = d ∷ ds

-- LexicallyScopedDeclarations (8.2.5) of an item, with the functions, for the scope around it; `inner` is what stands
-- below it
abbrev pub item_decls : Kind → Forest → List Decl → List Decl
item_decls (Kind.VariableDeclaration variable.Let) a inner = all_so (waiting false) (bound_names a)
item_decls (Kind.VariableDeclaration variable.Const) a inner = all_so (waiting true) (bound_names a)
item_decls (Kind.Function function_kind.Declaration pure) a inner = named_so (waiting false) (first_name a)
item_decls (Kind.Class class_kind.Declaration) a inner = named_so (waiting false) (first_name a)
item_decls (Kind.ImportDeclaration source) a inner = import_decls source a
item_decls (Kind.ExportNamedDeclaration None) a inner = inner
item_decls Kind.ExportDefaultDeclaration a inner = or_default inner
item_decls Kind.FunctionBody a inner = inner
item_decls Kind.Statements a inner = inner
item_decls Kind.Cases a inner = inner
item_decls Kind.SwitchCase a inner = inner
item_decls _ a inner = []

abbrev pub lexical : Forest → List Decl
lexical nothing = []
lexical (absent r) = lexical r
lexical (node k n a r) = item_decls k a (lexical a) ++ lexical r

-- Environments: what comes later in the list of declarations hides what came earlier.

abbrev pub look : Env → Text → Option Slot
look [] x = None
look (bound y slot ∷ env) x = if bytes_eq y x then Some slot else look env x

abbrev pub with_slot : Way → (Slot → M) → M
with_slot (waiting constant) k = alloc (cell constant None) (λ c. k (local c))
with_slot ready k = alloc (cell false (Some undef)) (λ c. k (local c))
with_slot (linked source name) k = k (imported source name)
with_slot left_out k = k arguments_object

unfoldable pub declare : List Decl → Env → (Env → M) → M
declare [] env k = k env
declare (decl x way ∷ ds) env k = with_slot way (λ slot. declare ds (bound x slot ∷ env) k)

-- InitializeBinding (9.1.1.1.4), also for the assignment that a `var` makes
abbrev pub initialised : Cell → Value → Cell
initialised (cell constant o) v = cell constant (Some v)

abbrev pub fill : Option Slot → Value → M → M
fill (Some (local c)) v m = read c (λ old. store c (initialised old v) m)
fill _ v m = unknown

-- A function declaration has its value from where its scope is entered (10.2.11, 14.2.3); of two of one name the last.
abbrev pub start_function : Option Text → Forest → Env → M → M
start_function None a env m = m
start_function (Some x) a env m = identity (λ i. fill (look env x) (closure i function_kind.Declaration a env) m)

abbrev pub start_default : Forest → (M → M) → Env → M → M
start_default (node (Kind.Function function_kind.Declaration pure) n a r) inner env m = start_function (Some (name_or_default (first_name a))) a env m
start_default _ inner env m = inner m

abbrev pub start_item : Kind → Forest → (M → M) → Env → M → M
start_item (Kind.Function function_kind.Declaration pure) a inner env m = start_function (first_name a) a env m
start_item (Kind.ExportNamedDeclaration None) a inner env m = inner m
start_item Kind.ExportDefaultDeclaration a inner env m = start_default a inner env m
start_item Kind.FunctionBody a inner env m = inner m
start_item Kind.Statements a inner env m = inner m
start_item Kind.Cases a inner env m = inner m
start_item Kind.SwitchCase a inner env m = inner m
start_item _ a inner env m = m

unfoldable pub start : Forest → Env → M → M
start nothing env m = m
start (absent r) env m = start r env m
start (node k n a r) env m = start_item k a (start a env) env (start r env m)

-- the entry of a block, of a switch's cases: its names, and its functions
abbrev pub scope : Forest → Env → (Env → M) → M
scope a env k = declare (lexical a) env (λ env. start a env (k env))

-- a turn of `for` has cells of its own, with the values of the turn before (14.7.4.4)
abbrev pub copy_slot : Option Slot → Text → Env → (Env → M) → M
copy_slot (Some (local c)) x env k = read c (λ old. alloc old (λ i. k (bound x (local i) ∷ env)))
copy_slot _ x env k = k env

unfoldable pub copy : List Decl → Env → (Env → M) → M
copy [] env k = k env
copy (decl x way ∷ ds) env k = copy_slot (look env x) x env (λ env. copy ds env k)

-- A function's entry (10.2.11). Arrows have no `this` and no arguments object of their own (10.2.1.1). A parameter
-- hides a `var` of its name; a function at the top hides both.
abbrev pub receiver_decls : FunctionKind → List Decl
receiver_decls function_kind.Arrow = []
receiver_decls _ = decl this_name ready ∷ decl (codes "arguments") left_out ∷ []

-- of a function's row: name, parameters, body
abbrev pub function_decls : FunctionKind → Forest → List Decl
function_decls f a =
    receiver_decls f ++ all_so ready (var_names (behind (behind a))) ++ all_so ready (bound_names (first_of (behind a))) ++ lexical (behind (behind a))

-- a function expression's own name lies in a scope around it, and is constant (15.2.5)
abbrev pub own_name : FunctionKind → Forest → Option Text
own_name function_kind.Expression a = first_name a
own_name _ a = None

-- a module's entry (16.2.1.6.4): `this` is undefined there
abbrev pub module_decls : Forest → List Decl
module_decls a = decl this_name ready ∷ all_so ready (var_names a) ++ lexical a
