-- A call of what a known test decides, and what edits leave of it.
use Rattle.std.specs.Prelude.{[], ◌∷◌, false}
use Rattle.js_syntax.specs.declared.node_kind.NodeKind.{NodeKind as Kind}
use Rattle.js_syntax.specs.Node.{Forest, joined}
use Rattle.form_rules.specs.Samples.{over, listed, a_module, one, does}
use Rattle.steps.specs.Allowed.Rows.{conditional, null, o_f, behind_zero}

-- e();
abbrev pub does_call : Forest → Forest
does_call e = does (over (Kind.CallExpression false false) (joined e (listed Kind.Arguments [])))

-- (1 ? o.f : null)();
abbrev pub calls_choice : Forest
calls_choice = a_module (does_call (conditional one o_f null) ∷ [])

-- (0, o.f)();
abbrev pub calls_behind_zero : Forest
calls_behind_zero = a_module (does_call (behind_zero o_f) ∷ [])
