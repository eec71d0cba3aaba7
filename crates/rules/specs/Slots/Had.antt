-- Which slots a node has, wherever the table of node types lets it stand.
use Rattle.std.specs.Prelude.{◌≡◌, Bool, true, false, not, ◌&&◌}
use Rattle.js_syntax.specs.declared.node_kind.NodeKind.{NodeKind as Kind}
use Rattle.js_syntax.specs.declared.node_kind.NodeKind.TheVariants.{Statements as statements, ExpressionStatement as expression_statement, BlockStatement as block_statement, LabeledStatement as labeled_statement, IfStatement as if_statement, TryStatement as try_statement, WhileStatement as while_statement, ForStatement as for_statement, ImportDeclaration as import_declaration, CallExpression as call_expression, MemberExpression as member_expression, Literal as literal, Function as function}
use Rattle.js_syntax.specs.Node.{Tree}
use Rattle.min_context.specs.Place.{Place}
use Rattle.min_traverse.specs.Slot.{is_expression, outer_slot, middle_slot}
use Rattle.min_traverse.specs.Visits.{above_place}
use Rattle.min_traverse.specs.declared.slot.Outer.TheVariants as outer
use Rattle.min_traverse.specs.declared.slot.Middle.TheVariants as middle

-- statements that a hook looks at
abbrev pub is_always_statement : Kind → Bool
is_always_statement expression_statement = true
is_always_statement block_statement = true
is_always_statement (labeled_statement label) = true
is_always_statement if_statement = true
is_always_statement try_statement = true
is_always_statement while_statement = true
is_always_statement for_statement = true
is_always_statement (import_declaration source) = true
is_always_statement k = false

-- kinds that may stand as the link of a chain, as the text of a directive or as the function of a method
abbrev pub may_be_no_expression : Kind → Bool
may_be_no_expression (call_expression optional pure) = true
may_be_no_expression (member_expression key optional) = true
may_be_no_expression (literal value) = true
may_be_no_expression (function how pure) = true
may_be_no_expression k = false

abbrev pub is_always_expression : Kind → Bool
is_always_expression k = is_expression k && not (may_be_no_expression k)

pub record HasSlots (p : Place) (x : Tree) : Type 0 where
  pub list : x.kind ≡ statements → outer_slot (above_place p) x.kind ≡ outer.Statements
  pub statement : is_always_statement x.kind ≡ true → outer_slot (above_place p) x.kind ≡ outer.Statement
  pub expression : is_always_expression x.kind ≡ true → middle_slot (above_place p) x.kind ≡ middle.Expression
