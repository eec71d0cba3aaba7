-- What is left of a row of expressions that is rebuilt of its parts.
use Rattle.std.specs.Prelude.{◌≡◌, ℕ, [], Bool, true, false}
use Rattle.js_syntax.specs.declared.node_kind.NodeKind.{NodeKind as Kind}
use Rattle.js_syntax.specs.declared.node_kind.NodeKind.TheVariants.{Literal as literal, ArrayExpression as array_expression, Elements as elements, ObjectExpression as object_expression, Properties as properties, Property as property, SequenceExpression as sequence_expression, Expressions as expressions, UnaryExpression as unary_expression, BinaryExpression as binary_expression, LogicalExpression as logical_expression, AssignmentExpression as assignment_expression, ConditionalExpression as conditional_expression, CallExpression as call_expression, Arguments as arguments, NewExpression as new_expression, MemberExpression as member_expression, ChainExpression as chain_expression, ParenthesizedExpression as parenthesized_expression, TemplateLiteral as template_literal, Quasis as quasis, TemplateElement as template_element, TaggedTemplateExpression as tagged_template_expression, SpreadElement as spread_element, ImportExpression as import_expression}
use Rattle.js_syntax.specs.declared.kind.PropertyKind.TheVariants as property_kind
use Rattle.js_syntax.specs.Node.{Forest, Note, nothing, node, absent, joined}
use Rattle.form_rules.specs.Context.{Context, below_it}
use Rattle.form_rules.specs.Rules.{broken_at}

-- Nodes of operators (ECMA-262 13), and the lists below them: they make no scope, declare nothing and refer to nothing, and what lies
-- below them is in the context that they are in. A method or an accessor says of its function that it is one (13.2.5).
abbrev pub is_operation : Kind → Bool
is_operation (literal v) = true
is_operation array_expression = true
is_operation elements = true
is_operation object_expression = true
is_operation properties = true
is_operation (property property_kind.Init false key) = true
is_operation sequence_expression = true
is_operation expressions = true
is_operation (unary_expression operator) = true
is_operation (binary_expression operator) = true
is_operation (logical_expression operator) = true
is_operation (assignment_expression operator) = true
is_operation conditional_expression = true
is_operation (call_expression optional pure) = true
is_operation arguments = true
is_operation (new_expression pure) = true
is_operation (member_expression key optional) = true
is_operation chain_expression = true
is_operation parenthesized_expression = true
is_operation template_literal = true
is_operation quasis = true
is_operation (template_element value tail) = true
is_operation tagged_template_expression = true
is_operation spread_element = true
is_operation import_expression = true
is_operation k = false

-- nodes that call
abbrev pub is_call : Kind → Bool
is_call (call_expression optional pure) = true
is_call (new_expression pure) = true
is_call tagged_template_expression = true
is_call import_expression = true
is_call k = false

-- A node that may be built: it calls nothing, and breaks no rule of form itself, whatever node it stands below.
pub record MayBeBuilt (k : Kind) (below : Forest) : Type 0 where
  pub operation : is_operation k ≡ true
  pub calls_none : is_call k ≡ false
  pub breaks_none : (c : Context) (place : ℕ) → broken_at (below_it c) k place below ≡ []

-- Some of the parts stay, in their order, and new nodes of operations stand around them.
pub data Rebuilt : (t u : Forest) → Type 0 where
  ends : Rebuilt nothing nothing
  -- a part stays as it is, or leaves whole
  stays : {k : Kind} {n : Note} {a r s : Forest} → Rebuilt r s → Rebuilt (node k n a r) (node k n a s)
  leaves : {k : Kind} {n : Note} {a r s : Forest} → Rebuilt r s → Rebuilt (node k n a r) s
  -- an operation is opened: its parts stand in the row for it
  opened : {k : Kind} {n : Note} {a r s : Forest} → is_operation k ≡ true → Rebuilt (joined a r) s → Rebuilt (node k n a r) s
  -- a new one is built of the parts that come first
  built : {l : Kind} {m : Note} {b r s : Forest} → MayBeBuilt l b → Rebuilt r (joined b s) → Rebuilt r (node l m b s)
  -- a field that isn't there may leave, and come in
  absent_leaves : {r s : Forest} → Rebuilt r s → Rebuilt (absent r) s
  absent_comes : {r s : Forest} → Rebuilt r s → Rebuilt r (absent s)
