-- Small programs, with what they export, told by hand.
use Rattle.std.specs.Prelude.{List, [], ◌∷◌, Bool}
use Rattle.js_syntax.specs.declared.node_kind.NodeKind.{NodeKind as Kind}
use Rattle.js_syntax.specs.declared.value.Key.TheVariants.{Name as key_name}
use Rattle.js_syntax.specs.Node.{Forest, joined}
use Rattle.form_rules.specs.Samples.{over, listed, no, a_module, binds}
use Rattle.scope_rules.specs.Site.{sites_of, found_in}
use Rattle.scope_rules.specs.Table.{Scoping, scoping_of}
use Rattle.scope_rules.specs.Samples.{b}
use Rattle.scope_counts.specs.Tried.{with_marks}
use Rattle.exported_names.specs.Answers.{bound_of}
use Rattle.exported_names.specs.Exported.{exported_of}

abbrev pub table_of : Forest → Scoping
table_of t = scoping_of (found_in (sites_of t))

-- by its own table, the symbols in order of their first declarations
abbrev pub exported_by : List Forest → List Bool
exported_by items = exported_of (table_of (a_module items)) (with_marks (a_module items))

-- the references in order of places
abbrev pub bound_by : List Forest → List Bool
bound_by items = bound_of (table_of (a_module items))

abbrev pub exports_default : Forest → Forest
exports_default d = over Kind.ExportDefaultDeclaration d

abbrev pub declarator : Forest → Forest → Forest
declarator target value = over Kind.VariableDeclarator (joined target value)

-- { b }
abbrev pub pattern_b : Forest
pattern_b = over Kind.BindingObject (listed Kind.Properties (over (Kind.BindingProperty (key_name b)) (joined no (binds b)) ∷ []))
