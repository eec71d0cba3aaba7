-- What the names of a tree are called.
use Rattle.std.specs.Prelude.{List, [], ◌∷◌, ◌++◌, Bool, true, false, ◌&&◌, ◌||◌}
use Rattle.js_syntax.specs.declared.node_kind.NodeKind.{NodeKind as Kind}
use Rattle.js_syntax.specs.declared.node_kind.NodeKind.TheVariants.{BindingName as binding_name}
use Rattle.js_syntax.specs.Node.{Tree}
use Rattle.js_meaning.specs.Value.{Text}
use Rattle.form_rules.specs.declared.sought.Sort.{Sort}
use Rattle.form_rules.specs.declared.sought.Sought.{Sought}
use Rattle.form_rules.specs.declared.sought.Sought.TheVariants.{CatchScope as catch_scope}
use Rattle.form_rules.specs.Scope.{Declared}
use Rattle.kept_names.specs.Kept.{is_var, holds_statements}
use Rattle.steps.specs.Allowed.Unreached.{only_runs}

abbrev pub text_of : Kind → List Text
text_of (binding_name x) = x ∷ []
text_of k = []

abbrev pub texts : List Tree → List Text
texts [] = []
texts (t ∷ ts) = text_of t.kind ++ texts ts

abbrev pub names : List Declared → List Text
names [] = []
names (d ∷ ds) = d.name ∷ names ds

-- names, each with how it is declared
pub record Named : Type 0 where
  pub name : Text
  pub sort : Sort

abbrev pub named : List Declared → List Named
named [] = []
named (d ∷ ds) = record { name = d.name; sort = d.sort } ∷ named ds

-- whether a handler's names are sought
abbrev pub is_of_catch : Sought → Bool
is_of_catch (catch_scope f) = true
is_of_catch s = false

-- a statement in which others stand, or a declaration by `var`
abbrev pub may_keep : Kind → Bool
may_keep k = is_var k || (holds_statements k && only_runs k)
