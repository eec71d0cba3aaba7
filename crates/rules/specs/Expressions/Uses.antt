-- What an expression is used for, and whether anybody takes its value, as the nodes above it tell.
use Rattle.std.specs.Prelude.{ℕ, List, [], ◌∷◌, Bool, ◌==◌, Option, None, Some, if◌then◌else◌}
use Rattle.js_syntax.specs.declared.node_kind.NodeKind.{NodeKind as Kind}
use Rattle.js_syntax.specs.Node.{Forest, Tree, Note}
use Rattle.min_context.specs.declared.ancestor.Ancestor.{Ancestor}
use Rattle.min_context.specs.declared.ancestor.Ancestor.TheVariants as ancestor
use Rattle.min_context.specs.declared.ancestor.Parent.{Parent}
use Rattle.min_context.specs.declared.ancestor.Parent.TheVariants as parent
use Rattle.min_context.specs.Place.{Place}
use Rattle.steps.specs.Allowed.Unused.{Taker, somebody, nobody, is_nobody, nobody_if, in_parentheses, of_sequence, of_part, of_branch}
use Rattle.steps.specs.Allowed.Uses.{Use, as_value, operand_of, first_as_callee, stands_bare}
use Rattle.rules.specs.DeadCode.Rules.{has_with}

abbrev pub use_under : Use → Parent → (at : ℕ) → Use
use_under u parent.ParenthesizedExpression at = u
use_under u parent.CallExpression at = first_as_callee at
use_under u parent.TaggedTemplateExpression at = first_as_callee at
use_under u (parent.UnaryExpression operator) at = operand_of operator
use_under u p at = as_value

abbrev pub use_in : Use → Ancestor → Use
use_in u (ancestor.Field p at) = use_under u p at
use_in u ancestor.None = as_value

-- by the nodes above, the outermost first
abbrev pub use_from : Use → List Ancestor → Use
use_from u [] = u
use_from u (a ∷ above) = use_from (use_in u a) above

-- ---- where nobody takes the value

abbrev pub taken_under : Taker → Parent → (at : ℕ) → Taker
taken_under t parent.ExpressionStatement at = nobody
taken_under t parent.ForStatement at = nobody_if (at == 2)
taken_under t parent.ParenthesizedExpression at = in_parentheses t
taken_under t parent.SequenceExpression at = of_sequence t at
taken_under t (parent.Expressions more) at = of_part t more
taken_under t parent.LogicalExpression at = of_branch t at
taken_under t parent.ConditionalExpression at = of_branch t at
taken_under t p at = somebody

abbrev pub taken_in : Taker → Ancestor → Taker
taken_in t (ancestor.Field p at) = taken_under t p at
taken_in t ancestor.None = somebody

abbrev pub taken_from : Taker → List Ancestor → Taker
taken_from t [] = t
taken_from t (a ∷ above) = taken_from (taken_in t a) above

-- ---- what is asked of a place before an expression comes out of another there

pub record Spot : Type 0 where
  pub used_as : Use
  pub in_with : Bool
  pub is_unused : Bool

abbrev pub spot_of : Place → Spot
spot_of p = record { used_as = use_from as_value p.ancestors; in_with = has_with p.ancestors; is_unused = is_nobody (taken_from somebody p.ancestors) }

-- the expression itself, if it may stand there
abbrev pub bare : Spot → Kind → Note → (below : Forest) → Option Tree
bare s k n below = if stands_bare s.used_as s.in_with k below then Some (record { kind = k; note = n; below = below }) else None
