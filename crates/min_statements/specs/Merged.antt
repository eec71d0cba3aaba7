-- Modules, lists of statements, and what becomes of a list of which imports come together.
use Rattle.std.specs.Prelude.{◌≡◌, Bool, true, false, Option, Some, None, is_some}
use Rattle.js_syntax.specs.declared.node_kind.NodeKind.{NodeKind as Kind}
use Rattle.js_syntax.specs.declared.node_kind.NodeKind.TheVariants.{Program as program, Statements as statements}
use Rattle.js_syntax.specs.declared.scalar.SourceType.TheVariants as source_type
use Rattle.js_syntax.specs.Node.{Forest}
use Rattle.rules.specs.Imports.Merged.{list_together}

abbrev pub is_module : Kind → Bool
is_module (program source_type.Module) = true
is_module k = false

abbrev pub is_statements : Kind → Bool
is_statements statements = true
is_statements k = false

abbrev pub or_as_it_was : Forest → Option Forest → Forest
or_as_it_was t None = t
or_as_it_was t (Some u) = u

-- whether a list changes, and what it is then
abbrev pub ListComes : (list : Forest) → Bool → (left : Forest) → Type 0
ListComes list changes left = (changes ≡ is_some (list_together list)) × (left ≡ or_as_it_was list (list_together list))
