-- Where a step takes away a declaration, nothing in the scope mentions the name any more; or another declaration of it
-- stays, and nothing looks it up.
use Rattle.std.specs.Prelude.{◌≡◌, false, not, List}
use Rattle.std.specs.Str.{bytes_eq}
use Rattle.js_syntax.specs.declared.node_kind.NodeKind.{NodeKind as Kind}
use Rattle.js_syntax.specs.Node.{Forest, below_of}
use Rattle.js_meaning.specs.Value.{Text, this_name}
use Rattle.js_meaning.specs.Scope.{Decl, lexical, function_decls, module_decls}
use Rattle.js_meaning.specs.Module.{entries}
use Rattle.js_meaning_near.specs.Near.{Row, fields, items}
use Rattle.js_meaning_near.specs.Fit.{Part, whole, others}
use Rattle.js_meaning_near.specs.Avoid.{declares, HasCells, Avoids, ExportsAvoid}
use Rattle.steps.specs.Steps.{Around, Step, leaves, empties, unbinds, states, inside, behind_node, behind_absent}
use Rattle.steps.specs.KeepRuns.Drop.{Drop, of_block, of_function, dropped}

-- by what the scope still declares, and its row
abbrev pub Clear : Text → List Decl → Part → Row → Forest → Type 0
Clear x ds q p b = HasCells x ds × Avoids (not (declares ds x)) x q p b

-- of a module, whose exports show the name neither
abbrev pub ClearModule : Text → Forest → Type 0
ClearModule x b = ExportsAvoid x (entries b) × Clear x (module_decls b) whole items b

abbrev pub TidyAt : Kind → (below : Forest) → Drop → Type 0
TidyAt (Kind.Program source) b (of_block x) = ClearModule x (below_of b)
TidyAt (Kind.Program source) b (of_function x) = ClearModule x (below_of b)
TidyAt (Kind.Function f pure) b (of_block x) = (bytes_eq this_name x ≡ false) × Clear x (function_decls f b) others fields b
TidyAt (Kind.Function f pure) b (of_function x) = (bytes_eq this_name x ≡ false) × Clear x (function_decls f b) others fields b
TidyAt Kind.BlockStatement b (of_block x) = Clear x (lexical b) whole fields b
TidyAt Kind.Cases b (of_block x) = Clear x (lexical b) whole fields b
TidyAt k b d = Unit {0}

-- so where the step lies within the scope
abbrev pub Tidy : {w : Around} {t u : Forest} → Step w t u → Type 0
Tidy (leaves g) = Unit {0}
Tidy (empties h) = Unit {0}
Tidy (unbinds i u h) = Unit {0}
Tidy (states i u h) = Unit {0}
Tidy (inside {k = k} {b = b} s) = TidyAt k b (dropped s) × Tidy s
Tidy (behind_node s) = Tidy s
Tidy (behind_absent s) = Tidy s
