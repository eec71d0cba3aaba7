-- What is asked of a name by its symbol, and of what stands beside it.
use Rattle.std.proofs.Common.{◌≡◌, ◌≤◌, ◌&&◌, ℕ, List, [], ◌∷◌, length, false, Option, Some, None, refl, arith}
use Rattle.js_syntax.specs.declared.node_kind.NodeKind.{NodeKind as Kind}
use Rattle.js_syntax.specs.declared.node_kind.NodeKind.TheVariants.{VariableDeclarator as variable_declarator, BindingName as binding_name, Specifiers as specifiers}
use Rattle.js_syntax.specs.declared.kind.VariableKind.{VariableKind}
use Rattle.js_syntax.specs.Node.{Forest, Tree, Note, nothing, node, absent, row}
use Rattle.steps.specs.Allowed.Arranged.{is_nothing}
use Rattle.rules.specs.DeadCode.Rules.{Facts, Where, variable_is_unused, scope_of, is_quiet, declarator_goes, function_is_unused, function_goes, name_is_unused}
use Rattle.rules.specs.Imports.Rules.{name_goes, import_has_unused}
use Rattle.min_statements.specs.Names.{symbol_of}

pub declares : (f : Facts) (w : Where) (how : VariableKind) (k : Kind) (n : Note) (inner value : Forest) → declarator_goes f w how variable_declarator (node k n inner value) ≡ variable_is_unused f (scope_of w how) (symbol_of k n) && is_quiet f w value
declares f w how (binding_name x) n inner value = refl
declares f w how k n inner value = refl

pub names : (f : Facts) (w : Where) (k : Kind) (n : Note) (inner rest : Forest) → function_goes f w (node k n inner rest) ≡ function_is_unused f w (symbol_of k n)
names f w (binding_name x) n inner rest = refl
names f w k n inner rest = refl

-- the name of a declarator
pub declared : (f : Facts) (scope : ℕ) (k : Kind) (n : Note) (below : Forest) → name_is_unused f scope k n below ≡ is_nothing below && variable_is_unused f scope (symbol_of k n)
declared f scope (binding_name x) n nothing = refl
declared f scope (binding_name x) n (absent rest) = refl
declared f scope (binding_name x) n (node k m a rest) = refl
declared f scope k n nothing = refl
declared f scope k n (absent rest) = refl
declared f scope k n (node l m a rest) = refl

-- the name of an import, which nothing stands beside or below
pub imported : (f : Facts) (w : Where) (k : Kind) (n : Note) → name_goes f w (node k n nothing nothing) ≡ variable_is_unused f w.scope (symbol_of k n)
imported f w (binding_name x) n = refl
imported f w k n = refl

imported_below : (f : Facts) (w : Where) (k : Kind) (n : Note) (x : Option Tree) (xs : List (Option Tree)) → name_goes f w (node k n (row (x ∷ xs)) nothing) ≡ false
imported_below f w (binding_name y) n None xs = refl
imported_below f w (binding_name y) n (Some x) xs = refl
imported_below f w k n x xs = refl

pub none_imported_below : (f : Facts) (w : Where) (k : Kind) (n : Note) (xs : List (Option Tree)) → 1 ≤ length xs → name_goes f w (node k n (row xs) nothing) ≡ false
none_imported_below f w k n [] l = absurd (Prim.omega (arith, l))
none_imported_below f w k n (x ∷ xs) l = imported_below f w k n x xs

imported_beside : (f : Facts) (w : Where) (k : Kind) (n : Note) (inner : Forest) (x : Option Tree) (xs : List (Option Tree)) → name_goes f w (node k n inner (row (x ∷ xs))) ≡ false
imported_beside f w (binding_name y) n nothing None xs = refl
imported_beside f w (binding_name y) n nothing (Some x) xs = refl
imported_beside f w k n inner x xs = refl

pub none_imported_beside : (f : Facts) (w : Where) (xs : List (Option Tree)) → 2 ≤ length xs → name_goes f w (row xs) ≡ false
none_imported_beside f w [] l = absurd (Prim.omega (arith, l))
none_imported_beside f w (x ∷ []) l = absurd (Prim.omega (arith, l))
none_imported_beside f w (None ∷ y ∷ xs) l = refl
none_imported_beside f w (Some x ∷ y ∷ xs) l = imported_beside f w x.kind x.note x.below y xs

-- and the list of an import
listed_beside : (f : Facts) (w : Where) (k : Kind) (n : Note) (inner : Forest) (x : Option Tree) (xs : List (Option Tree)) → import_has_unused f w (node k n inner (row (x ∷ xs))) ≡ false
listed_beside f w specifiers n inner None xs = refl
listed_beside f w specifiers n inner (Some x) xs = refl
listed_beside f w k n inner x xs = refl

pub none_listed_beside : (f : Facts) (w : Where) (xs : List (Option Tree)) → 2 ≤ length xs → import_has_unused f w (row xs) ≡ false
none_listed_beside f w [] l = absurd (Prim.omega (arith, l))
none_listed_beside f w (x ∷ []) l = absurd (Prim.omega (arith, l))
none_listed_beside f w (None ∷ y ∷ xs) l = refl
none_listed_beside f w (Some x ∷ y ∷ xs) l = listed_beside f w x.kind x.note x.below y xs
