-- What an expression is used for where it stands, and whether it matters that it stands there itself, and not as the value of
-- another expression.
use Rattle.std.specs.Prelude.{ℕ, zero, suc, List, Bool, true, false, not, ◌||◌, codes}
use Rattle.std.specs.Str.{bytes_eq}
use Rattle.js_syntax.specs.declared.node_kind.NodeKind.{NodeKind as Kind}
use Rattle.js_syntax.specs.declared.node_kind.NodeKind.TheVariants.{ReferenceName as reference_name, MemberExpression as member_expression, ChainExpression as chain_expression, ParenthesizedExpression as parenthesized_expression, CallExpression as call_expression, TaggedTemplateExpression as tagged_template_expression, UnaryExpression as unary_expression, Function as function, Class as class}
use Rattle.js_syntax.specs.declared.operator.UnaryOperator.{UnaryOperator}
use Rattle.js_syntax.specs.declared.operator.UnaryOperator.TheVariants as unary
use Rattle.js_syntax.specs.Node.{Forest, node}
use Rattle.scope_laws.specs.Place.{Around, first, behind, behind_none, under}

-- for its value; to be called, or to be a tag, on what it is a member of (ECMA-262 13.3.6.2, 13.3.11); as the operand of `typeof`,
-- which takes a name without binding (13.5.3); as that of `delete`, which takes what a name or a member refers to (13.5.1)
pub data Use : Type 0 where
  as_value as_callee as_typed as_deleted : Use

abbrev pub operand_of : UnaryOperator → Use
operand_of unary.Typeof = as_typed
operand_of unary.Delete = as_deleted
operand_of operator = as_value

abbrev pub first_as_callee : (at : ℕ) → Use
first_as_callee zero = as_callee
first_as_callee at = as_value

-- the child at an index below a node that is used so itself
abbrev pub use_below : Use → Kind → (at : ℕ) → Use
use_below u parenthesized_expression at = u
use_below u (call_expression optional pure) at = first_as_callee at
use_below u tagged_template_expression at = first_as_callee at
use_below u (unary_expression operator) at = operand_of operator
use_below u k at = as_value

abbrev pub use_there : (uses : ℕ → Use) → (at : ℕ) → Around → Use
use_there us at (first rest) = us at
use_there us at (behind k n below a) = use_there us (suc at) a
use_there us at (behind_none a) = use_there us (suc at) a
use_there us at (under k n a rest) = use_there (λ i. use_below (us at) k i) 0 a

-- what the expression at a place is used for
abbrev pub use_at : Around → Use
use_at a = use_there (λ i. as_value) 0 a

abbrev pub is_eval : List ℕ → Bool
is_eval x = bytes_eq x (codes "eval")

-- A call of the name `eval` is direct (19.2.1.1), and a name that is called inside of a `with` statement may be a member of its
-- object (9.1.1.2.10).
abbrev pub name_matters : Use → (in_with : Bool) → List ℕ → Bool
name_matters as_value in_with x = false
name_matters as_callee in_with x = in_with || is_eval x
name_matters as_typed in_with x = true
name_matters as_deleted in_with x = true

abbrev pub member_matters : Use → Bool
member_matters as_value = false
member_matters as_callee = true
member_matters as_typed = false
member_matters as_deleted = true

abbrev pub chain_matters : Use → (below : Forest) → Bool
chain_matters u (node (member_expression key optional) n below rest) = member_matters u
chain_matters u t = false

-- Whether it matters that the expression stands there itself, parentheses aside.
abbrev pub matters : Use → (in_with : Bool) → Kind → (below : Forest) → Bool
matters u in_with (reference_name x) below = name_matters u in_with x
matters u in_with (member_expression key optional) below = member_matters u
matters u in_with chain_expression below = chain_matters u below
matters u in_with parenthesized_expression (node k n below rest) = matters u in_with k below
matters u in_with k below = false

-- a function or a class, parentheses aside: it may take its name from where it stands (8.4)
abbrev pub may_take_name : Kind → (below : Forest) → Bool
may_take_name (function how pure) below = true
may_take_name (class how) below = true
may_take_name parenthesized_expression (node k n below rest) = may_take_name k below
may_take_name k below = false

-- whether it is the same with the expression itself as with the value that another gives
abbrev pub stands_bare : Use → (in_with : Bool) → Kind → (below : Forest) → Bool
stands_bare u in_with k below = not (matters u in_with k below || may_take_name k below)
