-- What the early errors of a module say of the names that its scopes declare, in the words of runs: what `let` declares in a
-- scope no `var` passes through it, what is imported is declared once, and no function declares a name `arguments`.
use Rattle.std.specs.Prelude.{◌≡◌, ◌⊎◌, ◌≤◌, ℕ, ◌+◌, List, [], ◌∷◌, ◌++◌, true, if◌then◌else◌}
use Rattle.std.specs.Str.{bytes_eq}
use Rattle.js_syntax.specs.declared.node_kind.NodeKind.{NodeKind as Kind}
use Rattle.js_syntax.specs.Node.{Forest, nothing, node, absent, below_of}
use Rattle.js_meaning.specs.Value.{Text}
use Rattle.js_meaning.specs.Scope.{Decl, decl, first_of, behind, bound_names, var_names, lexical, function_decls, module_decls}
use Rattle.js_meaning.specs.Module.{names_in}
use Rattle.js_meaning_near.specs.Avoid.{HasCells}
use Rattle.steps.specs.Names.{is_among}

-- no name is one of both
abbrev pub Apart : List Text → List Text → Type 0
Apart xs ys = (x : Text) → is_among xs x ≡ true → is_among ys x ≡ true → ⊥

abbrev pub times : Text → List Decl → ℕ
times x [] = 0
times x (decl y way ∷ ds) = (if bytes_eq y x then 1 else 0) + times x ds

-- of a node that makes a scope, by what lies below it
abbrev pub ClearAt : Kind → (below : Forest) → Type 0
ClearAt (Kind.Program source) a = (x : Text) → (times x (module_decls (below_of a)) ≤ 1) ⊎ HasCells x (module_decls (below_of a))
ClearAt (Kind.Function f pure) a = (x : Text) → is_among (var_names (behind (behind a)) ++ names_in (lexical (behind (behind a)))) x ≡ true → HasCells x (function_decls f a)
ClearAt Kind.BlockStatement a = Apart (names_in (lexical a)) (var_names a)
ClearAt Kind.Cases a = Apart (names_in (lexical a)) (var_names a)
ClearAt Kind.ForStatement a = Apart (names_in (lexical (first_of a))) (var_names a)
ClearAt Kind.CatchClause a = Apart (bound_names (first_of a)) (var_names a)
ClearAt k a = Unit {0}

abbrev pub Clear : Forest → Type 0
Clear nothing = Unit {0}
Clear (absent r) = Clear r
Clear (node k n a r) = ClearAt k a × Clear a × Clear r
