-- A module in which nothing refers to a name doesn't export it.
use Rattle.std.proofs.Common.{◌≡◌, ◌∙◌, List, [], ◌∷◌, ◌++◌, true, false, ◌||◌, Some, None, bytes_eq, refl, sym, ap}
use Rattle.std.proofs.lemmas.List.{append-nil}
use Rattle.js_syntax.specs.declared.node_kind.NodeKind.{NodeKind as Kind}
use Rattle.js_syntax.specs.Node.{Forest, nothing, node, absent, Note}
use Rattle.js_syntax.specs.declared.kind.VariableKind.TheVariants as variable
use Rattle.js_syntax.specs.declared.value.ModuleName.{ModuleName}
use Rattle.js_meaning.specs.Value.{Text}
use Rattle.js_meaning.specs.Scope.{Decl, decl, waiting, all_so, bound_names, var_names, item_decls, lexical}
use Rattle.js_meaning.specs.Module.{Entry, entry_local, entry_import, specifier_of, local_entries, foreign_entries, same_names, names_in, declared_in, declared_entries, default_local, list_below, entries_of, entries}
use Rattle.js_meaning_near.specs.Avoid.{ExportsAvoid}
use Rattle.steps.specs.Names.{is_among, names_exported, refers_at, refers}
use Rattle.steps.proofs.KeepRuns.Names.{names_all_so, inner_front}
use Rattle.steps.proofs.KeepRuns.Avoids.{IsFree, names_joined}
use Rattle.js_syntax.proofs.Truth.{first_of_neither, second_of_neither}

avoid_both : (x : Text) (es fs : List Entry) → ExportsAvoid x es → ExportsAvoid x fs → ExportsAvoid x (es ++ fs)
avoid_both x [] fs a b = b
avoid_both x (entry_local y z ∷ es) fs a b = (a.0, avoid_both x es fs a.1 b)
avoid_both x (entry_import y source name ∷ es) fs a b = avoid_both x es fs a b

names_avoid : (x : Text) (ys : List Text) → is_among ys x ≡ false → ExportsAvoid x (same_names ys)
names_avoid x [] e = tt
names_avoid x (y ∷ ys) e = (first_of_neither (bytes_eq y x) (is_among ys x) e, names_avoid x ys (second_of_neither (bytes_eq y x) (is_among ys x) e))

foreign_avoid : (x source : Text) (t : Forest) → ExportsAvoid x (foreign_entries source t)
foreign_avoid x source nothing = tt
foreign_avoid x source (absent r) = foreign_avoid x source r
foreign_avoid x source (node (Kind.ForeignSpecifier name exported) n a r) = foreign_avoid x source r
foreign_avoid x source (node k n a r) = foreign_avoid x source r

-- what the export's declaration declares is among the names of the export

front : (xs ys zs : List Text) (x : Text) → is_among ((xs ++ ys) ++ zs) x ≡ false → is_among xs x ≡ false
front xs ys zs x e = (inner_front xs ys x (inner_front (xs ++ ys) zs x e).0).0

lexical_part : (k : Kind) (n : Note) (a r : Forest) (x : Text) → is_among (names_exported (node k n a r)) x ≡ false → is_among (names_in (item_decls k a (lexical a) ++ [])) x ≡ false
lexical_part k n a r x e =
    let f : is_among (names_in (item_decls k a (lexical a) ++ lexical r)) x ≡ false = (inner_front (var_names (node k n a r)) (names_in (lexical (node k n a r))) x e).1 in
    let g : is_among (names_in (item_decls k a (lexical a)) ++ names_in (lexical r)) x ≡ false = ap (λ l. is_among l x) (sym (names_joined (item_decls k a (lexical a)) (lexical r))) ∙ f in
    ap (λ l. is_among (names_in l) x) (append-nil (item_decls k a (lexical a))) ∙ (inner_front (names_in (item_decls k a (lexical a))) (names_in (lexical r)) x g).0

declared_part : (k : Kind) (n : Note) (a r : Forest) (x : Text) → is_among (names_exported (node k n a r)) x ≡ false → is_among (declared_in k a) x ≡ false
declared_part (Kind.VariableDeclaration variable.Var) n a r x e =
    front (bound_names a) (var_names a) (var_names r) x (inner_front ((bound_names a ++ var_names a) ++ var_names r) (names_in (lexical r)) x e).0
declared_part (Kind.VariableDeclaration variable.Let) n a r x e =
    ap (λ l. is_among l x) (sym (names_all_so (waiting false) (bound_names a)) ∙ ap names_in (sym (append-nil (all_so (waiting false) (bound_names a))))) ∙ lexical_part (Kind.VariableDeclaration variable.Let) n a r x e
declared_part (Kind.VariableDeclaration variable.Const) n a r x e =
    ap (λ l. is_among l x) (sym (names_all_so (waiting true) (bound_names a)) ∙ ap names_in (sym (append-nil (all_so (waiting true) (bound_names a))))) ∙ lexical_part (Kind.VariableDeclaration variable.Const) n a r x e
declared_part k n a r x e = lexical_part k n a r x e

declared_avoid : (x : Text) (t : Forest) → is_among (names_exported t) x ≡ false → ExportsAvoid x (declared_entries t)
declared_avoid x nothing e = tt
declared_avoid x (absent r) e = tt
declared_avoid x (node k n a r) e = names_avoid x (declared_in k a) (declared_part k n a r x e)

-- specifiers

specifier_name : (x : Text) (exported : ModuleName) (a : Forest) → refers x a ≡ false → ExportsAvoid x (specifier_of (Kind.ExportSpecifier exported) a)
specifier_name x exported nothing e = tt
specifier_name x exported (absent r) e = tt
specifier_name x exported (node (Kind.ReferenceName y) n a r) e = (first_of_neither (bytes_eq y x) (refers x a) (first_of_neither (bytes_eq y x || refers x a) (refers x r) e), tt)
specifier_name x exported (node k n a r) e = tt

specifier_avoid : (x : Text) (k : Kind) (a : Forest) → refers_at x k a (refers x a) ≡ false → ExportsAvoid x (specifier_of k a)
specifier_avoid x (Kind.ExportSpecifier exported) a e = specifier_name x exported a e
specifier_avoid x k a e = tt

local_avoid : (x : Text) (t : Forest) → refers x t ≡ false → ExportsAvoid x (local_entries t)
local_avoid x nothing e = tt
local_avoid x (absent r) e = local_avoid x r e
local_avoid x (node k n a r) e = avoid_both x (specifier_of k a) (local_entries r) (specifier_avoid x k a (first_of_neither (refers_at x k a (refers x a)) (refers x r) e)) (local_avoid x r (second_of_neither (refers_at x k a (refers x a)) (refers x r) e))

list_node : (x : Text) (k : Kind) (n : Note) (a r : Forest) → refers x (node k n a r) ≡ false → refers x (list_below r) ≡ false → refers x (list_below (node k n a r)) ≡ false
list_node x Kind.Specifiers n a r e h = first_of_neither (refers x a) (refers x r) e
list_node x k n a r e h = h

list_refers : (x : Text) (t : Forest) → refers x t ≡ false → refers x (list_below t) ≡ false
list_refers x nothing e = refl
list_refers x (absent r) e = list_refers x r e
list_refers x (node k n a r) e = list_node x k n a r e (list_refers x r (second_of_neither (refers_at x k a (refers x a)) (refers x r) e))

-- a module

default_avoid : (x : Text) (ds : List Decl) → IsFree x → is_among (names_in ds) x ≡ false → bytes_eq (default_local ds) x ≡ false
default_avoid x [] f e = f.default
default_avoid x (decl y way ∷ ds) f e = first_of_neither (bytes_eq y x) (is_among (names_in ds) x) e

entry_avoid : (x : Text) (k : Kind) (a : Forest) → IsFree x → refers_at x k a (refers x a) ≡ false → ExportsAvoid x (entries_of k a)
entry_avoid x (Kind.ExportNamedDeclaration None) a f e =
    avoid_both x (declared_entries a) (local_entries (list_below a)) (declared_avoid x a (first_of_neither (is_among (names_exported a) x) (refers x a) e)) (local_avoid x (list_below a) (list_refers x a (second_of_neither (is_among (names_exported a) x) (refers x a) e)))
entry_avoid x (Kind.ExportNamedDeclaration (Some source)) a f e = foreign_avoid x source (list_below a)
entry_avoid x Kind.ExportDefaultDeclaration a f e = (default_avoid x (lexical a) f (inner_front (var_names a) (names_in (lexical a)) x (first_of_neither (is_among (names_exported a) x) (refers x a) e)).1, tt)
entry_avoid x (Kind.ExportAllDeclaration (Some name) source) a f e = tt
entry_avoid x k a f e = tt

pub exports_avoid : (x : Text) (t : Forest) → IsFree x → refers x t ≡ false → ExportsAvoid x (entries t)
exports_avoid x nothing f e = tt
exports_avoid x (absent r) f e = exports_avoid x r f e
exports_avoid x (node k n a r) f e = avoid_both x (entries_of k a) (entries r) (entry_avoid x k a f (first_of_neither (refers_at x k a (refers x a)) (refers x r) e)) (exports_avoid x r f (second_of_neither (refers_at x k a (refers x a)) (refers x r) e))
