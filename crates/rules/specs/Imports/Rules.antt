-- Which names of an import the pass over dead code takes out: those that nobody uses. The import itself stays, so that its module is
-- loaded where it was (ECMA-262 16.2.1.3).
use Rattle.std.specs.Prelude.{Bool, false, not, ◌&&◌, ◌||◌, Option, Some, None, if◌then◌else◌}
use Rattle.js_syntax.specs.declared.node_kind.NodeKind.{NodeKind as Kind}
use Rattle.js_syntax.specs.declared.node_kind.NodeKind.TheVariants.{ImportDeclaration as import_declaration, Specifiers as specifiers, BindingName as binding_name}
use Rattle.js_syntax.specs.Node.{Forest, Tree, nothing, node, absent}
use Rattle.steps.specs.Steps.{binds_import}
use Rattle.rules.specs.DeadCode.Rules.{Facts, Where, variable_is_unused}

-- what lies below what binds a name: the name alone, and nothing below it
abbrev pub name_goes : Facts → Where → (below : Forest) → Bool
name_goes f w (node (binding_name x) n nothing nothing) = variable_is_unused f w.scope n.id
name_goes f w below = false

abbrev pub specifier_goes : Facts → Where → Kind → (below : Forest) → Bool
specifier_goes f w k below = binds_import k && name_goes f w below

-- ---- of a list

abbrev pub one_goes : Facts → Where → Forest → Bool
one_goes f w nothing = false
one_goes f w (absent rest) = one_goes f w rest
one_goes f w (node k n below rest) = specifier_goes f w k below || one_goes f w rest

abbrev pub names_left : Facts → Where → Forest → Forest
names_left f w nothing = nothing
names_left f w (absent rest) = absent (names_left f w rest)
names_left f w (node k n below rest) = if specifier_goes f w k below then names_left f w rest else node k n below (names_left f w rest)

-- ---- of an import, by what lies below it

abbrev pub import_has_unused : Facts → Where → (below : Forest) → Bool
import_has_unused f w (node specifiers n names nothing) = one_goes f w names
import_has_unused f w below = false

abbrev pub import_left : Facts → Where → (below : Forest) → Forest
import_left f w (node specifiers n names nothing) = node specifiers n (names_left f w names) nothing
import_left f w below = below

-- an import loses names, unless they are kept
abbrev pub loses_names : Facts → Kind → Bool
loses_names f (import_declaration source) = not f.keeps_imports
loses_names f k = false

abbrev pub pruned : Facts → Where → Tree → Option Tree
pruned f w x = if loses_names f x.kind && import_has_unused f w x.below then Some (record { kind = x.kind; note = x.note; below = import_left f w x.below }) else None
