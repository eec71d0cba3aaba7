-- Which symbols exported declarations declare, by the marks of the names below exports.
use Rattle.std.specs.Prelude.{ℕ, ◌==◌, List, length, Bool, ◌&&◌, Option, Some, None, if◌then◌else◌}
use Rattle.js_syntax.specs.declared.node_kind.NodeKind.{NodeKind as Kind}
use Rattle.js_syntax.specs.declared.node_kind.NodeKind.TheVariants.{BindingName as binding_name}
use Rattle.js_syntax.specs.Node.{Forest, nothing, node, absent, Note}
use Rattle.symbol_sets.specs.Numbers.{has, with_number, none_below}
use Rattle.scope_rules.specs.Table.{Scoping}
use Rattle.scope_table.specs.Reading.{symbol_at}
use Rattle.steps.specs.Naming.Standing.{is_export}
use Rattle.exported_names.specs.Answers.{answers}

abbrev pub with_mark : Option ℕ → List Bool → List Bool
with_mark None marks = marks
with_mark (Some n) marks = with_number n marks

abbrev pub with_name : Kind → Note → List Bool → List Bool
with_name (binding_name x) n marks = with_mark n.id marks
with_name k n marks = marks

-- with the symbols of all names that are declared in a row
abbrev pub with_names : Forest → List Bool → List Bool
with_names nothing marks = marks
with_names (absent rest) marks = with_names rest marks
with_names (node k n below rest) marks = with_names rest (with_names below (with_name k n marks))

-- with those of all names that are declared below an export (ECMA-262 16.2.3)
abbrev pub with_exports : Forest → List Bool → List Bool
with_exports nothing marks = marks
with_exports (absent rest) marks = with_exports rest marks
with_exports (node k n below rest) marks = with_exports rest (if is_export k then with_names below marks else with_exports below marks)

abbrev pub is_outermost : Scoping → (symbol : ℕ) → Bool
is_outermost s symbol = (symbol_at s symbol).scope == 0

-- Parameters, and the names of functions and classes that are expressions, are declared in scopes further in.
abbrev pub is_exported : Scoping → (named : List Bool) → (symbol : ℕ) → Bool
is_exported s named symbol = has named symbol && is_outermost s symbol

-- of each symbol of the table, whether an export declares it
abbrev pub exported_of : Scoping → Forest → List Bool
exported_of s t = answers (is_exported s (with_exports t (none_below (length s.symbols)))) (length s.symbols)
