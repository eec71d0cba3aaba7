-- Which trees have `var` declarations where statements stand alone, so that the walk over variables finds each (8.2.6).
use Rattle.std.specs.Prelude.{Bool, true, false, ◌&&◌, ◌||◌}
use Rattle.js_syntax.specs.declared.node_kind.NodeKind.{NodeKind as Kind}
use Rattle.js_syntax.specs.Node.{Forest, nothing, node, absent}
use Rattle.form_rules.specs.declared.sought.Sought.{Sought}
use Rattle.form_rules.specs.declared.sought.Sought.TheVariants.{Variables as variables}
use Rattle.form_rules.specs.Scope.{variables_below}
use Rattle.js_meaning.specs.Scope.{var_names}
pub use Rattle.steps.specs.Naming.Placed.{is_none}

abbrev pub seeks_variables : Sought → Bool
seeks_variables variables = true
seeks_variables s = false

-- nodes below which statements stand, and those whose variables are their own
abbrev pub holds_variables : Kind → Bool
holds_variables (Kind.Program source) = true
holds_variables (Kind.Function f pure) = true
holds_variables Kind.FunctionBody = true
holds_variables (Kind.Class how) = true
holds_variables Kind.StaticBlock = true
holds_variables k = seeks_variables (variables_below k)

abbrev pub has_variables_in_place : Forest → Bool
has_variables_in_place nothing = true
has_variables_in_place (absent r) = has_variables_in_place r
has_variables_in_place (node k n a r) = (holds_variables k || is_none (var_names a)) && (has_variables_in_place a && has_variables_in_place r)
