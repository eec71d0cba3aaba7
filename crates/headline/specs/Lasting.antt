-- What stays of a program of any source type, module or not, whatever its nodes are: what it asks to be loaded, and the names that it
-- declares for other code than its own.
use Rattle.std.specs.Prelude.{◌≡◌, ◌⊎◌, ℕ, List, [], ◌∷◌, true}
use Rattle.js_syntax.specs.declared.node_kind.NodeKind.{NodeKind as Kind}
use Rattle.js_syntax.specs.declared.node_kind.NodeKind.TheVariants.{Program as program, Statements as statements}
use Rattle.js_syntax.specs.Node.{Forest, Note, nothing, node}
use Rattle.js_meaning.specs.Module.{requests, distinct}
use Rattle.form_rules.specs.declared.sought.Sought.TheVariants.{Scope as scope}
use Rattle.form_rules.specs.Rules.{at_top}
use Rattle.form_rules.specs.Scope.{Declared, declared}
use Rattle.scope_laws.specs.Place.{Around, plug}
use Rattle.steps.specs.Steps.{binds_import}
use Rattle.steps.specs.Allowed.Exposure.{is_script, evaluates_somewhere}
use Rattle.steps.specs.Allowed.Free.{FreeDeclarator}
use Rattle.steps.specs.Allowed.Imports.{IsImported}
use Rattle.steps.specs.Allowed.Places.{At}
use Rattle.steps.specs.Allowed.UnusedImport.{an_imported}

-- ---- what is loaded

-- what lies below a list of statements, and below a program's own
abbrev pub items_of : Kind → (below : Forest) → Forest
items_of statements below = below
items_of k below = nothing

abbrev pub first_items : Forest → Forest
first_items (node k n below rest) = items_of k below
first_items t = nothing

abbrev pub program_items : Kind → (below : Forest) → Forest
program_items (program source) below = first_items below
program_items k below = nothing

-- the items of a program's own list of statements
abbrev pub own_items : Forest → Forest
own_items (node k n below rest) = program_items k below
own_items t = nothing

-- The modules that a program asks for by its imports and by its exports from others: each once, in order of first occurrence, as they are
-- loaded before it runs (ECMA-262 16.2.1.3).
abbrev pub loaded : Forest → List (List ℕ)
loaded t = distinct (requests (own_items t))

-- ---- names at the root

abbrev pub names_in : List Declared → List (List ℕ)
names_in [] = []
names_in (d ∷ ds) = d.name ∷ names_in ds

abbrev pub declared_at_root : Kind → (below : Forest) → List Declared
declared_at_root (program source) below = declared (scope (at_top source)) 1 below
declared_at_root k below = []

-- The names that a program declares in its own scope, one for each declaration, in order of places: by `let`, `const`, a class, a function
-- or an import of its own list, and by `var` anywhere outside of functions (8.2.4, 8.2.6, 16.1.7).
abbrev pub root_names : Forest → List (List ℕ)
root_names (node k n below rest) = names_in (declared_at_root k below)
root_names t = []

-- Other code may use them, whatever refers to them: other scripts, if the program is a script (16.1.7), and the code that is handed to a
-- direct call of `eval`, which is left (19.2.1.1).
abbrev pub HasSharedNames : (t u : Forest) → Type 0
HasSharedNames t u = (is_script t ≡ true) ⊎ (evaluates_somewhere u ≡ true)

-- ---- names of imports

-- No name of an import is left to which nothing refers: no import binds a name whose binding no reference of the program has and of which
-- no export is.
abbrev pub ImportsAreUsed : Forest → Type 0
ImportsAreUsed t = (a : Around) (k : Kind) (n m : Note) (x : List ℕ) → t ≡ plug a (an_imported k n m x) → binds_import k ≡ true → IsImported a → At a (an_imported k n m x) (FreeDeclarator t x) → ⊥
