-- Rows that are alike but for their notes declare the same names, and export and request the same.
use Rattle.std.proofs.Common.{◌≡◌, List, [], ◌∷◌, ◌++◌, Option, Some, None, refl, ap, ap₂}
use Rattle.std.specs.Prelude.{Bool, true, false, codes}
use Rattle.js_syntax.specs.declared.node_kind.NodeKind.{NodeKind as Kind}
use Rattle.js_syntax.specs.declared.kind.FunctionKind.{FunctionKind}
use Rattle.js_syntax.specs.declared.kind.FunctionKind.TheVariants as function_kind
use Rattle.js_syntax.specs.declared.kind.ClassKind.TheVariants as class_kind
use Rattle.js_syntax.specs.declared.kind.VariableKind.TheVariants as variable
use Rattle.js_syntax.specs.Node.{Forest, nowhere, below_of}
use Rattle.js_meaning.specs.Value.{Text, this_name}
use Rattle.js_meaning.specs.Scope.{Decl, decl, waiting, ready, linked, named_so, all_so, module_text, first_of, behind, first_name, names_of, bound_names, vars_of, var_names, specifier_decls, import_decls, or_default, item_decls, lexical, receiver_decls, function_decls, own_name, module_decls}
use Rattle.js_meaning.specs.Module.{Entry, entry_local, requests_of, requests, specifier_of, local_entries, foreign_of, foreign_entries, same_names, names_in, declared_in, declared_entries, default_local, list_below, entries_of, entries, star_of, stars}
use Rattle.js_meaning_near.specs.Names.{declared}
use Rattle.js_meaning_near.specs.Near.{key_of, keys, is_row}
use Rattle.js_meaning_near.proofs.Alike.{Alike, Like, alike_nothing, alike_absent, alike_node, alike_signed}

-- parts of rows

pub first_alike : {g : Bool} {a b : Forest} → Like g a b → Like g (first_of a) (first_of b)
first_alike alike_nothing = alike_nothing
first_alike (alike_absent r) = alike_nothing
first_alike (alike_node o r) = alike_node o alike_nothing
first_alike (alike_signed y r) = alike_signed y alike_nothing

pub behind_alike : {g : Bool} {a b : Forest} → Like g a b → Like g (behind a) (behind b)
behind_alike alike_nothing = alike_nothing
behind_alike (alike_absent r) = r
behind_alike (alike_node o r) = r
behind_alike (alike_signed y r) = r

pub below_alike : {a b : Forest} → Alike a b → Alike (below_of a) (below_of b)
below_alike alike_nothing = alike_nothing
below_alike (alike_absent r) = alike_nothing
below_alike (alike_node o r) = o

pub row_alike : {g : Bool} {a b : Forest} → Like g a b → is_row a ≡ is_row b
row_alike alike_nothing = refl
row_alike (alike_absent r) = refl
row_alike (alike_node o r) = refl
row_alike (alike_signed y r) = refl

-- declared names

pub name_alike : {g : Bool} {a b : Forest} → Like g a b → first_name a ≡ first_name b
name_alike alike_nothing = refl
name_alike (alike_absent r) = refl
name_alike (alike_node o r) = refl
name_alike (alike_signed y r) = refl

pub own_alike : (f : FunctionKind) {g : Bool} {a b : Forest} → Like g a b → own_name f a ≡ own_name f b
own_alike function_kind.Expression s = name_alike s
own_alike _ s = refl

pub bound_alike : {g : Bool} {a b : Forest} → Like g a b → bound_names a ≡ bound_names b
bound_alike alike_nothing = refl
bound_alike (alike_absent r) = bound_alike r
bound_alike (alike_node {k = k} o r) = ap₂ (λ (x y : List Text). names_of k x ++ y) (bound_alike o) (bound_alike r)
bound_alike (alike_signed y r) = bound_alike r

vars_below : (k : Kind) {g : Bool} {a b : Forest} → Like g a b → var_names a ≡ var_names b → vars_of k a (var_names a) ≡ vars_of k b (var_names b)
vars_below (Kind.VariableDeclaration variable.Var) s e = ap₂ (λ (x y : List Text). x ++ y) (bound_alike s) e
vars_below (Kind.VariableDeclaration variable.Let) s e = refl
vars_below (Kind.VariableDeclaration variable.Const) s e = refl
vars_below (Kind.Function f pure) s e = refl
vars_below (Kind.Class c) s e = refl
vars_below _ s e = e

pub vars_alike : {g : Bool} {a b : Forest} → Like g a b → var_names a ≡ var_names b
vars_alike alike_nothing = refl
vars_alike (alike_absent r) = vars_alike r
vars_alike (alike_node {k = k} o r) = ap₂ (λ (x y : List Text). x ++ y) (vars_below k o (vars_alike o)) (vars_alike r)
vars_alike (alike_signed y r) = vars_alike r

specifier_below : (source : Text) (k : Kind) {g : Bool} {a b : Forest} → Like g a b → import_decls source a ≡ import_decls source b → specifier_decls source k a (import_decls source a) ≡ specifier_decls source k b (import_decls source b)
specifier_below source (Kind.ImportSpecifier name) s e = ap (named_so (linked source (module_text name))) (name_alike s)
specifier_below source Kind.ImportDefaultSpecifier s e = ap (named_so (linked source (codes "default"))) (name_alike s)
specifier_below source Kind.ImportNamespaceSpecifier s e = ap (named_so (linked source (codes "*"))) (name_alike s)
specifier_below source _ s e = e

pub imports_alike : (source : Text) {g : Bool} {a b : Forest} → Like g a b → import_decls source a ≡ import_decls source b
imports_alike source alike_nothing = refl
imports_alike source (alike_absent r) = imports_alike source r
imports_alike source (alike_node {k = k} o r) = ap₂ (λ (x y : List Decl). x ++ y) (specifier_below source k o (imports_alike source o)) (imports_alike source r)
imports_alike source (alike_signed y r) = imports_alike source r

item_below : (k : Kind) {g : Bool} {a b : Forest} → Like g a b → lexical a ≡ lexical b → item_decls k a (lexical a) ≡ item_decls k b (lexical b)
item_below (Kind.VariableDeclaration variable.Let) s e = ap (all_so (waiting false)) (bound_alike s)
item_below (Kind.VariableDeclaration variable.Const) s e = ap (all_so (waiting true)) (bound_alike s)
item_below (Kind.Function function_kind.Declaration pure) s e = ap (named_so (waiting false)) (name_alike s)
item_below (Kind.Class class_kind.Declaration) s e = ap (named_so (waiting false)) (name_alike s)
item_below (Kind.ImportDeclaration source) s e = imports_alike source s
item_below (Kind.ExportNamedDeclaration None) s e = e
item_below Kind.ExportDefaultDeclaration s e = ap or_default e
item_below Kind.FunctionBody s e = e
item_below Kind.Statements s e = e
item_below Kind.Cases s e = e
item_below Kind.SwitchCase s e = e
item_below _ s e = refl

pub lexical_alike : {g : Bool} {a b : Forest} → Like g a b → lexical a ≡ lexical b
lexical_alike alike_nothing = refl
lexical_alike (alike_absent r) = lexical_alike r
lexical_alike (alike_node {k = k} o r) = ap₂ (λ (x y : List Decl). x ++ y) (item_below k o (lexical_alike o)) (lexical_alike r)
lexical_alike (alike_signed y r) = lexical_alike r

-- what a node, a function and a module declare

pub declared_alike : (k : Kind) {g : Bool} {a b : Forest} → Like g a b → declared k a ≡ declared k b
declared_alike Kind.BlockStatement s = lexical_alike s
declared_alike Kind.Cases s = lexical_alike s
declared_alike Kind.ForStatement s = lexical_alike (first_alike s)
declared_alike Kind.CatchClause s = ap (all_so (waiting false)) (bound_alike (first_alike s))
declared_alike _ s = refl

pub function_alike : (f : FunctionKind) {g : Bool} {a b : Forest} → Like g a b → function_decls f a ≡ function_decls f b
function_alike f s = ap₂ (λ (x y : List Decl). x ++ y)
    (ap₂ (λ (x y : List Decl). receiver_decls f ++ x ++ y) (ap (all_so ready) (vars_alike (behind_alike (behind_alike s)))) (ap (all_so ready) (bound_alike (first_alike (behind_alike s)))))
    (lexical_alike (behind_alike (behind_alike s)))

pub module_alike : {g : Bool} {a b : Forest} → Like g a b → module_decls a ≡ module_decls b
module_alike s = ap₂ (λ (x : List Text) (y : List Decl). decl this_name ready ∷ all_so ready x ++ y) (vars_alike s) (lexical_alike s)

-- the keys of an object literal

pub keys_alike : {g : Bool} {a b : Forest} → Like g a b → keys a ≡ keys b
keys_alike alike_nothing = refl
keys_alike (alike_absent r) = refl
keys_alike (alike_node {k = k} o r) = ap (λ (x : List (Option Text)). key_of k ∷ x) (keys_alike r)
keys_alike (alike_signed y r) = ap (λ (x : List (Option Text)). None ∷ x) (keys_alike r)

-- exports

specifier_alike : (k : Kind) {g : Bool} {a b : Forest} → Like g a b → specifier_of k a ≡ specifier_of k b
specifier_alike (Kind.ExportSpecifier exported) alike_nothing = refl
specifier_alike (Kind.ExportSpecifier exported) (alike_absent r) = refl
specifier_alike (Kind.ExportSpecifier exported) (alike_node {k = Kind.ReferenceName x} o r) = refl
specifier_alike (Kind.ExportSpecifier exported) (alike_node {k = _} o r) = refl
specifier_alike (Kind.ExportSpecifier exported) (alike_signed y r) = refl
specifier_alike _ s = refl

local_alike : {g : Bool} {a b : Forest} → Like g a b → local_entries a ≡ local_entries b
local_alike alike_nothing = refl
local_alike (alike_absent r) = local_alike r
local_alike (alike_node {k = k} o r) = ap₂ (λ (x y : List Entry). x ++ y) (specifier_alike k o) (local_alike r)
local_alike (alike_signed y r) = local_alike r

foreign_alike : (source : Text) {g : Bool} {a b : Forest} → Like g a b → foreign_entries source a ≡ foreign_entries source b
foreign_alike source alike_nothing = refl
foreign_alike source (alike_absent r) = foreign_alike source r
foreign_alike source (alike_node {k = k} o r) = ap (λ (x : List Entry). foreign_of source k ++ x) (foreign_alike source r)
foreign_alike source (alike_signed y r) = foreign_alike source r

list_alike : {g : Bool} {a b : Forest} → Like g a b → Like g (list_below a) (list_below b)
list_alike alike_nothing = alike_nothing
list_alike (alike_absent r) = list_alike r
list_alike (alike_node {k = Kind.Specifiers} o r) = o
list_alike (alike_node {k = _} o r) = list_alike r
list_alike (alike_signed y r) = list_alike r

declared_in_alike : (k : Kind) {g : Bool} {a b : Forest} → Like g a b → declared_in k a ≡ declared_in k b
declared_in_alike (Kind.VariableDeclaration how) s = bound_alike s
declared_in_alike k s = ap names_in (lexical_alike (alike_node {k = k} {n = nowhere} {m = nowhere} s alike_nothing))

declared_entries_alike : {g : Bool} {a b : Forest} → Like g a b → declared_entries a ≡ declared_entries b
declared_entries_alike alike_nothing = refl
declared_entries_alike (alike_absent r) = refl
declared_entries_alike (alike_node {k = k} o r) = ap same_names (declared_in_alike k o)
declared_entries_alike (alike_signed y r) = refl

entries_below : (k : Kind) {g : Bool} {a b : Forest} → Like g a b → entries_of k a ≡ entries_of k b
entries_below (Kind.ExportNamedDeclaration None) s = ap₂ (λ (x y : List Entry). x ++ y) (declared_entries_alike s) (local_alike (list_alike s))
entries_below (Kind.ExportNamedDeclaration (Some source)) s = foreign_alike source (list_alike s)
entries_below Kind.ExportDefaultDeclaration s = ap (λ (x : List Decl). entry_local (codes "default") (default_local x) ∷ []) (lexical_alike s)
entries_below (Kind.ExportAllDeclaration (Some name) source) s = refl
entries_below _ s = refl

pub entries_alike : {g : Bool} {a b : Forest} → Like g a b → entries a ≡ entries b
entries_alike alike_nothing = refl
entries_alike (alike_absent r) = entries_alike r
entries_alike (alike_node {k = k} o r) = ap₂ (λ (x y : List Entry). x ++ y) (entries_below k o) (entries_alike r)
entries_alike (alike_signed y r) = entries_alike r

pub stars_alike : {g : Bool} {a b : Forest} → Like g a b → stars a ≡ stars b
stars_alike alike_nothing = refl
stars_alike (alike_absent r) = stars_alike r
stars_alike (alike_node {k = k} o r) = ap (λ (x : List Text). star_of k ++ x) (stars_alike r)
stars_alike (alike_signed y r) = stars_alike r

-- what a module asks the host for

pub requests_alike : {g : Bool} {a b : Forest} → Like g a b → requests a ≡ requests b
requests_alike alike_nothing = refl
requests_alike (alike_absent r) = requests_alike r
requests_alike (alike_node {k = k} o r) = ap (λ (x : List Text). requests_of k ++ x) (requests_alike r)
requests_alike (alike_signed y r) = requests_alike r
