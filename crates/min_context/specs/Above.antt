-- What stands above the children of a node, as far as walks ask.
use Rattle.std.specs.Prelude.{ℕ, ◌==◌, not, Bool, true, false}
use Rattle.js_syntax.specs.declared.node_kind.NodeKind.{NodeKind as Kind}
use Rattle.js_syntax.specs.declared.kind.MethodKind.{MethodKind}
use Rattle.js_syntax.specs.declared.kind.MethodKind.TheVariants as method_kind
use Rattle.js_syntax.specs.declared.kind.PropertyKind.{PropertyKind}
use Rattle.js_syntax.specs.declared.kind.PropertyKind.TheVariants as property_kind
use Rattle.js_syntax.specs.Node.{Note}
use Rattle.min_context.specs.declared.ancestor.Parent.{Parent}
use Rattle.min_context.specs.declared.ancestor.Parent.TheVariants as parent
use Rattle.min_context.specs.declared.ancestor.Within.{Within}
use Rattle.min_context.specs.declared.ancestor.Within.TheVariants as within
use Rattle.min_context.specs.declared.ancestor.Above.{Above}

abbrev pub is_constructor : MethodKind → Bool
is_constructor method_kind.Constructor = true
is_constructor how = false

-- whether its value is the function of a method
abbrev pub holds_method : PropertyKind → (is_method : Bool) → Bool
holds_method property_kind.Init is_method = is_method
holds_method how is_method = true

abbrev pub parent_of : Kind → Parent
parent_of (Kind.Program source) = parent.Program
parent_of (Kind.Directive written) = parent.Directive
parent_of Kind.BlockStatement = parent.BlockStatement
parent_of Kind.FunctionBody = parent.FunctionBody
parent_of Kind.ExpressionStatement = parent.ExpressionStatement
parent_of Kind.WithStatement = parent.WithStatement
parent_of (Kind.LabeledStatement label) = parent.LabeledStatement
parent_of Kind.IfStatement = parent.IfStatement
parent_of Kind.SwitchStatement = parent.SwitchStatement
parent_of Kind.SwitchCase = parent.SwitchCase
parent_of Kind.CatchClause = parent.CatchClause
parent_of Kind.WhileStatement = parent.WhileStatement
parent_of Kind.DoWhileStatement = parent.DoWhileStatement
parent_of Kind.ForStatement = parent.ForStatement
parent_of Kind.ForInStatement = parent.ForInStatement
parent_of Kind.ForOfStatement = parent.ForOfStatement
parent_of (Kind.Function how pure) = parent.Function how
parent_of (Kind.VariableDeclaration how) = parent.VariableDeclaration how
parent_of (Kind.Class how) = parent.Class false
parent_of (Kind.MethodDefinition how is_static key) = parent.MethodDefinition (is_constructor how)
parent_of (Kind.PropertyDefinition is_static key) = parent.PropertyDefinition
parent_of Kind.StaticBlock = parent.StaticBlock
parent_of (Kind.Property how is_method key) = parent.Property (holds_method how is_method)
parent_of (Kind.BindingProperty key) = parent.PatternProperty
parent_of (Kind.TargetProperty key) = parent.PatternProperty
parent_of Kind.SequenceExpression = parent.SequenceExpression
parent_of Kind.Expressions = parent.Expressions false
parent_of (Kind.UnaryExpression operator) = parent.UnaryExpression operator
parent_of (Kind.LogicalExpression operator) = parent.LogicalExpression
parent_of Kind.ConditionalExpression = parent.ConditionalExpression
parent_of (Kind.AssignmentExpression operator) = parent.AssignmentExpression operator
parent_of (Kind.CallExpression optional pure) = parent.CallExpression
parent_of (Kind.NewExpression pure) = parent.NewExpression
parent_of (Kind.MemberExpression key optional) = parent.MemberExpression
parent_of Kind.ChainExpression = parent.ChainExpression
parent_of Kind.ParenthesizedExpression = parent.ParenthesizedExpression
parent_of Kind.TaggedTemplateExpression = parent.TaggedTemplateExpression
parent_of (Kind.ExportNamedDeclaration source) = parent.ExportNamedDeclaration
parent_of Kind.ExportDefaultDeclaration = parent.ExportDefaultDeclaration
parent_of Kind.Statements = parent.Statements
parent_of k = parent.Other

-- which children lie in the scope that a node of this kind makes, if it makes one (ECMA-262 9.1): a name that a function
-- or a class has, what a `switch` or a `with` asks, and the key of a field lie outside
abbrev pub within_of : Kind → Within
within_of (Kind.Program source) = within.All
within_of (Kind.Function how pure) = within.BehindFirst
within_of (Kind.Class how) = within.BehindFirst
within_of Kind.StaticBlock = within.All
within_of Kind.BlockStatement = within.All
within_of Kind.ForStatement = within.All
within_of Kind.ForInStatement = within.All
within_of Kind.ForOfStatement = within.All
within_of Kind.CatchClause = within.All
within_of Kind.SwitchStatement = within.BehindFirst
within_of Kind.WithStatement = within.BehindFirst
within_of (Kind.PropertyDefinition is_static key) = within.BehindFirst
within_of k = within.None

abbrev pub is_within : Within → (at : ℕ) → Bool
is_within within.None at = false
is_within within.All at = true
is_within within.BehindFirst at = not (at == 0)

-- whether `var` declares in the scope of such a node (14.3.2), and whether it is the scope of a list of statements
abbrev pub hoists : Kind → Bool
hoists (Kind.Program source) = true
hoists (Kind.Function how pure) = true
hoists Kind.StaticBlock = true
hoists k = false

abbrev pub is_of_list : Kind → Bool
is_of_list (Kind.Program source) = true
is_of_list (Kind.Function how pure) = true
is_of_list Kind.StaticBlock = true
is_of_list Kind.BlockStatement = true
is_of_list k = false

abbrev pub above_of : Kind → Note → Above
above_of k n = record { parent = parent_of k; within = within_of k; hoists = hoists k; is_of_list = is_of_list k; id = n.id }
