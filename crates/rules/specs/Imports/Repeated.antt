-- Which imports leave a list of statements: those without names whose module is asked for before.
use Rattle.std.specs.Prelude.{List, ℕ, [], ◌++◌, Bool, false, ◌&&◌, ◌||◌, Option, Some, None, if◌then◌else◌}
use Rattle.js_syntax.specs.declared.node_kind.NodeKind.{NodeKind as Kind}
use Rattle.js_syntax.specs.declared.node_kind.NodeKind.TheVariants.{Statements as statements, ImportDeclaration as import_declaration, Specifiers as specifiers}
use Rattle.js_syntax.specs.Node.{Forest, Tree, Note, nothing, node, absent}
use Rattle.js_meaning.specs.Module.{requests_of}
use Rattle.steps.specs.Names.{is_among}
use Rattle.steps.specs.Allowed.Arranged.{is_nothing}

-- what lies below an import without names
abbrev pub has_no_names : (below : Forest) → Bool
has_no_names (node specifiers n names nothing) = is_nothing names
has_no_names below = false

-- an item; `asked` has the modules that those before it ask for
abbrev pub repeats : (asked : List (List ℕ)) → Kind → (below : Forest) → Bool
repeats asked (import_declaration source) below = has_no_names below && is_among asked source
repeats asked k below = false

-- whether one goes
abbrev pub has_repeated : (asked : List (List ℕ)) → Forest → Bool
has_repeated asked nothing = false
has_repeated asked (absent rest) = has_repeated asked rest
has_repeated asked (node k n below rest) = repeats asked k below || has_repeated (asked ++ requests_of k) rest

-- the items that stay
abbrev pub each_once : (asked : List (List ℕ)) → Forest → Forest
each_once asked nothing = nothing
each_once asked (absent rest) = absent (each_once asked rest)
each_once asked (node k n below rest) = if repeats asked k below then each_once asked rest else node k n below (each_once (asked ++ requests_of k) rest)

abbrev pub once_if : Bool → Note → (below : Forest) → Option Tree
once_if goes n below = if goes then Some (record { kind = statements; note = n; below = each_once [] below }) else None

abbrev pub list_once : Note → Kind → (below : Forest) → Option Tree
list_once n statements below = once_if (has_repeated [] below) n below
list_once n k below = None

-- of a node
abbrev pub asked_once : Tree → Option Tree
asked_once x = list_once x.note x.kind x.below
