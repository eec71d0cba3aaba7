-- Where a step takes away a declaration, it was the only one of its name in the scope, or those that stay have cells.
use Rattle.std.specs.Prelude.{◌≡◌, Bool, false, ◌||◌, List, Option, Some, None, if◌then◌else◌}
use Rattle.std.specs.Str.{bytes_eq}
use Rattle.js_syntax.specs.declared.node_kind.NodeKind.{NodeKind as Kind}
use Rattle.js_syntax.specs.declared.kind.FunctionKind.TheVariants as function_kind
use Rattle.js_syntax.specs.Node.{Forest, nothing, node, absent, below_of}
use Rattle.js_meaning.specs.Value.{Text}
use Rattle.js_meaning.specs.Scope.{Decl, behind, first_name, lexical, function_decls, module_decls}
use Rattle.js_meaning_near.specs.Avoid.{declares, HasCells}
use Rattle.steps.specs.Names.{is_among, names_declared}
use Rattle.steps.specs.Steps.{Around, Step, leaves, empties, unbinds, states, inside, behind_node, behind_absent}
use Rattle.steps.specs.KeepRuns.Drop.{Drop, of_block, of_function, dropped}

abbrev pub is_first : Text → Option Text → Bool
is_first x None = false
is_first x (Some y) = bytes_eq y x

-- Whether a name that is declared stands in a row, and not in a scope further in that declares it.
abbrev pub binds_at : Text → Kind → (below : Forest) → (inner : Bool) → Bool
binds_at x (Kind.BindingName y) a inner = bytes_eq y x || inner
binds_at x (Kind.Function function_kind.Declaration pure) a inner = is_first x (first_name a) || (if is_among (names_declared (Kind.Function function_kind.Declaration pure) a) x then false else inner)
binds_at x k a inner = if is_among (names_declared k a) x then false else inner

abbrev pub binds : Text → Forest → Bool
binds x nothing = false
binds x (absent r) = binds x r
binds x (node k n a r) = binds_at x k a (binds x a) || binds x r

-- by what the scope still declares, and its row
abbrev pub OnceAt : Text → List Decl → Forest → Type 0
OnceAt x ds b = HasCells x ds × (declares ds x ≡ false → binds x b ≡ false)

abbrev pub OnceIn : Kind → (below : Forest) → Drop → Type 0
OnceIn (Kind.Program source) b (of_block x) = OnceAt x (module_decls (below_of b)) (below_of b)
OnceIn (Kind.Program source) b (of_function x) = OnceAt x (module_decls (below_of b)) (below_of b)
OnceIn (Kind.Function f pure) b (of_block x) = OnceAt x (function_decls f b) (behind b)
OnceIn (Kind.Function f pure) b (of_function x) = OnceAt x (function_decls f b) (behind b)
OnceIn Kind.BlockStatement b (of_block x) = OnceAt x (lexical b) b
OnceIn Kind.Cases b (of_block x) = OnceAt x (lexical b) b
OnceIn k b d = Unit {0}

-- so where the step lies within the scope
abbrev pub Once : {w : Around} {t u : Forest} → Step w t u → Type 0
Once (leaves g) = Unit {0}
Once (empties h) = Unit {0}
Once (unbinds i u h) = Unit {0}
Once (states i u h) = Unit {0}
Once (inside {k = k} {b = b} s) = OnceIn k b (dropped s) × Once s
Once (behind_node s) = Once s
Once (behind_absent s) = Once s
