-- Which hooks a node has: by its kind, and by what stands above.
use Rattle.std.specs.Prelude.{ℕ, ◌==◌, ◌&&◌, ◌||◌, not, Bool, true, false, Option, Some, None, if◌then◌else◌}
use Rattle.js_syntax.specs.declared.node_kind.NodeKind.{NodeKind as Kind}
use Rattle.js_syntax.specs.declared.kind.FunctionKind.{FunctionKind}
use Rattle.js_syntax.specs.declared.kind.FunctionKind.TheVariants as function_kind
use Rattle.js_syntax.specs.declared.kind.ClassKind.{ClassKind}
use Rattle.js_syntax.specs.declared.kind.ClassKind.TheVariants as class_kind
use Rattle.min_context.specs.declared.ancestor.Ancestor.{Ancestor}
use Rattle.min_context.specs.declared.ancestor.Ancestor.TheVariants as ancestor
use Rattle.min_context.specs.declared.ancestor.Parent.{Parent}
use Rattle.min_context.specs.declared.ancestor.Parent.TheVariants as parent
use Rattle.min_traverse.specs.declared.slot.Outer.{Outer}
use Rattle.min_traverse.specs.declared.slot.Outer.TheVariants as outer
use Rattle.min_traverse.specs.declared.slot.Middle.{Middle}
use Rattle.min_traverse.specs.declared.slot.Middle.TheVariants as middle
use Rattle.min_traverse.specs.declared.slot.Inner.{Inner}
use Rattle.min_traverse.specs.declared.slot.Inner.TheVariants as inner
use Rattle.min_traverse.specs.declared.slot.Hook.{Hook}
use Rattle.min_traverse.specs.declared.slot.Hook.TheVariants as hook

-- ---- places

-- whether its first field is a key
abbrev pub has_key : Parent → Bool
has_key (parent.MethodDefinition is_constructor) = true
has_key parent.PropertyDefinition = true
has_key (parent.Property is_method) = true
has_key parent.PatternProperty = true
has_key p = false

abbrev pub is_key_place : Ancestor → Bool
is_key_place (ancestor.Field p at) = has_key p && at == 0
is_key_place ancestor.None = false

-- a declaration is no statement in the head of a loop (ECMA-262 14.7) or below an export (16.2.3)
abbrev pub is_loop_with_head : Parent → Bool
is_loop_with_head parent.ForStatement = true
is_loop_with_head parent.ForInStatement = true
is_loop_with_head parent.ForOfStatement = true
is_loop_with_head p = false

abbrev pub is_export : Parent → Bool
is_export parent.ExportNamedDeclaration = true
is_export parent.ExportDefaultDeclaration = true
is_export p = false

abbrev pub is_statement_place : Ancestor → Bool
is_statement_place (ancestor.Field p at) = not (is_export p || (is_loop_with_head p && at == 0))
is_statement_place ancestor.None = true

-- what a chain holds must be a link of it (13.3), a directive is no expression (11.2.1), and a method's function is part
-- of the method (15.4)
abbrev pub holds_no_expression : Parent → (at : ℕ) → Bool
holds_no_expression parent.ChainExpression at = true
holds_no_expression parent.Directive at = true
holds_no_expression (parent.MethodDefinition is_constructor) at = not (at == 0)
holds_no_expression (parent.Property is_method) at = is_method && not (at == 0)
holds_no_expression p at = false

abbrev pub is_expression_place : Ancestor → Bool
is_expression_place (ancestor.Field p at) = not (holds_no_expression p at)
is_expression_place ancestor.None = true

-- ---- kinds

abbrev pub is_function_declaration : FunctionKind → Bool
is_function_declaration function_kind.Declaration = true
is_function_declaration how = false

abbrev pub is_class_declaration : ClassKind → Bool
is_class_declaration class_kind.Declaration = true
is_class_declaration how = false

-- statements that hold others (14)
abbrev pub is_compound : Kind → Bool
is_compound Kind.BlockStatement = true
is_compound Kind.WithStatement = true
is_compound (Kind.LabeledStatement label) = true
is_compound Kind.IfStatement = true
is_compound Kind.SwitchStatement = true
is_compound Kind.TryStatement = true
is_compound Kind.WhileStatement = true
is_compound Kind.DoWhileStatement = true
is_compound Kind.ForStatement = true
is_compound Kind.ForInStatement = true
is_compound Kind.ForOfStatement = true
is_compound k = false

-- and those that don't
abbrev pub is_simple : Kind → Bool
is_simple Kind.ExpressionStatement = true
is_simple Kind.EmptyStatement = true
is_simple Kind.DebuggerStatement = true
is_simple Kind.ReturnStatement = true
is_simple (Kind.BreakStatement label) = true
is_simple (Kind.ContinueStatement label) = true
is_simple Kind.ThrowStatement = true
is_simple k = false

-- declarations and items of a module (14.3, 15.2, 15.7, 16.2)
abbrev pub is_declaration : Kind → Bool
is_declaration (Kind.Function how pure) = is_function_declaration how
is_declaration (Kind.Class how) = is_class_declaration how
is_declaration (Kind.VariableDeclaration how) = true
is_declaration (Kind.ImportDeclaration source) = true
is_declaration (Kind.ExportNamedDeclaration source) = true
is_declaration Kind.ExportDefaultDeclaration = true
is_declaration (Kind.ExportAllDeclaration exported source) = true
is_declaration k = false

abbrev pub is_statement : Kind → Bool
is_statement k = is_simple k || is_compound k || is_declaration k

-- expressions whose value comes from operands (13.4 to 13.16)
abbrev pub is_operation : Kind → Bool
is_operation Kind.SequenceExpression = true
is_operation (Kind.UnaryExpression operator) = true
is_operation (Kind.UpdateExpression operator prefix) = true
is_operation (Kind.BinaryExpression operator) = true
is_operation (Kind.LogicalExpression operator) = true
is_operation (Kind.AssignmentExpression operator) = true
is_operation Kind.ConditionalExpression = true
is_operation k = false

-- 13.3
abbrev pub is_left_hand_side : Kind → Bool
is_left_hand_side (Kind.CallExpression optional pure) = true
is_left_hand_side (Kind.NewExpression pure) = true
is_left_hand_side (Kind.MemberExpression key optional) = true
is_left_hand_side Kind.ChainExpression = true
is_left_hand_side Kind.TaggedTemplateExpression = true
is_left_hand_side Kind.NewTarget = true
is_left_hand_side Kind.ImportMeta = true
is_left_hand_side Kind.ImportExpression = true
is_left_hand_side k = false

-- 13.2
abbrev pub is_primary : Kind → Bool
is_primary (Kind.ReferenceName name) = true
is_primary (Kind.Literal value) = true
is_primary (Kind.RegExp value) = true
is_primary Kind.ThisExpression = true
is_primary Kind.ArrayExpression = true
is_primary Kind.ObjectExpression = true
is_primary Kind.ParenthesizedExpression = true
is_primary Kind.TemplateLiteral = true
is_primary (Kind.Function how pure) = not (is_function_declaration how)
is_primary (Kind.Class how) = not (is_class_declaration how)
is_primary k = false

abbrev pub is_expression : Kind → Bool
is_expression k = is_primary k || is_left_hand_side k || is_operation k

-- ---- slots

abbrev pub own_slot : Kind → Outer
own_slot (Kind.Program source) = outer.Program
own_slot Kind.Statements = outer.Statements
own_slot (Kind.MethodDefinition how is_static key) = outer.ClassElement
own_slot (Kind.PropertyDefinition is_static key) = outer.ClassElement
own_slot Kind.StaticBlock = outer.ClassElement
own_slot (Kind.BindingName name) = outer.BindingPattern
own_slot Kind.BindingObject = outer.BindingPattern
own_slot Kind.BindingArray = outer.BindingPattern
own_slot Kind.BindingDefault = outer.BindingPattern
own_slot (Kind.TargetName name) = outer.AssignmentTarget
own_slot Kind.TargetObject = outer.AssignmentTarget
own_slot Kind.TargetArray = outer.AssignmentTarget
own_slot Kind.TargetDefault = outer.AssignmentTarget
own_slot Kind.SwitchCase = outer.SwitchCase
own_slot Kind.CatchClause = outer.CatchClause
own_slot Kind.VariableDeclarator = outer.VariableDeclarator
own_slot k = outer.None

abbrev pub outer_slot : Ancestor → Kind → Outer
outer_slot above k = if is_key_place above then outer.PropertyKey else if is_statement_place above && is_statement k then outer.Statement else own_slot k

-- those where names are bound or assigned to
abbrev pub binds : Outer → Bool
binds outer.BindingPattern = true
binds outer.AssignmentTarget = true
binds outer.CatchClause = true
binds outer.VariableDeclarator = true
binds slot = false

abbrev pub middle_slot : Ancestor → Kind → Middle
middle_slot above k = if is_expression_place above && is_expression k then middle.Expression else middle.None

abbrev pub inner_slot : Kind → Inner
inner_slot (Kind.Function how pure) = inner.Function
inner_slot (Kind.Class how) = inner.Class
inner_slot (Kind.VariableDeclaration how) = inner.VariableDeclaration
inner_slot k = inner.None

-- ---- their hooks

abbrev pub enter_outer : Outer → Option Hook
enter_outer outer.Program = Some hook.EnterProgram
enter_outer outer.Statements = Some hook.EnterStatements
enter_outer outer.Statement = Some hook.EnterStatement
enter_outer outer.ClassElement = Some hook.EnterClassElement
enter_outer outer.BindingPattern = Some hook.EnterBindingPattern
enter_outer outer.AssignmentTarget = Some hook.EnterAssignmentTarget
enter_outer outer.PropertyKey = Some hook.EnterPropertyKey
enter_outer outer.SwitchCase = Some hook.EnterSwitchCase
enter_outer outer.CatchClause = Some hook.EnterCatchClause
enter_outer outer.VariableDeclarator = Some hook.EnterVariableDeclarator
enter_outer outer.None = None

abbrev pub enter_middle : Middle → Option Hook
enter_middle middle.Expression = Some hook.EnterExpression
enter_middle middle.None = None

abbrev pub enter_inner : Inner → Option Hook
enter_inner inner.Function = Some hook.EnterFunction
enter_inner inner.Class = Some hook.EnterClass
enter_inner inner.VariableDeclaration = Some hook.EnterVariableDeclaration
enter_inner inner.None = None

abbrev pub exit_outer : Outer → Option Hook
exit_outer outer.Program = Some hook.ExitProgram
exit_outer outer.Statements = Some hook.ExitStatements
exit_outer outer.Statement = Some hook.ExitStatement
exit_outer outer.ClassElement = Some hook.ExitClassElement
exit_outer outer.BindingPattern = Some hook.ExitBindingPattern
exit_outer outer.AssignmentTarget = Some hook.ExitAssignmentTarget
exit_outer outer.PropertyKey = Some hook.ExitPropertyKey
exit_outer outer.SwitchCase = Some hook.ExitSwitchCase
exit_outer outer.CatchClause = Some hook.ExitCatchClause
exit_outer outer.VariableDeclarator = Some hook.ExitVariableDeclarator
exit_outer outer.None = None

abbrev pub exit_middle : Middle → Option Hook
exit_middle middle.Expression = Some hook.ExitExpression
exit_middle middle.None = None

abbrev pub exit_inner : Inner → Option Hook
exit_inner inner.Function = Some hook.ExitFunction
exit_inner inner.Class = Some hook.ExitClass
exit_inner inner.VariableDeclaration = Some hook.ExitVariableDeclaration
exit_inner inner.None = None
