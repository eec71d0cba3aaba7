-- Which nodes may take the place of others: a part of a choice or of a logical expression that of the whole, an empty statement that of one of an expression.
use Rattle.std.proofs.Common.{◌≡◌, ◌∙◌, [], ◌∷◌, Bool, true, false, not, Some, refl, sym, ap, true≢false}
use Rattle.js_syntax.specs.Class.{Class, module_item, statement, block, handler, expression, arrow_body, for_init, default_export, expression_or_private, callee, argument, template, quasi_item}
use Rattle.js_syntax.specs.declared.node_kind.NodeKind.{NodeKind as Kind}
use Rattle.js_syntax.specs.declared.node_kind.NodeKind.TheVariants.{ConditionalExpression as conditional_expression, UnaryExpression as unary_expression, BinaryExpression as binary_expression, LogicalExpression as logical_expression, IfStatement as if_statement, TryStatement as try_statement, ArrayExpression as array_expression, Elements as elements, TemplateLiteral as template_literal, Quasis as quasis, Expressions as expressions, ObjectExpression as object_expression, SequenceExpression as sequence_expression, Expressions as expressions}
use Rattle.js_syntax.specs.declared.operator.UnaryOperator.{UnaryOperator}
use Rattle.js_syntax.specs.declared.operator.BinaryOperator.{BinaryOperator}
use Rattle.js_syntax.specs.declared.operator.LogicalOperator.{LogicalOperator}
use Rattle.js_syntax.specs.Hint.{has, is_private}
use Rattle.js_syntax.specs.Node.{Forest, Note, alone}
use Rattle.js_syntax.specs.Table.{Row as TableRow, a_conditional_expression, a_unary_expression, a_binary_expression, an_in_expression, a_logical_expression, an_if_statement, a_try_statement, an_array_expression, a_template_literal, an_object_expression, a_sequence_expression, fields_of, type_of, stands}
use Rattle.js_syntax.specs.declared.node_type.NodeType.{NodeType}
use Rattle.js_syntax.specs.declared.node_type.NodeType.TheVariants as type
use Rattle.steps.specs.Owed.TakesPlace.{is_template}
use Rattle.json_shape.specs.Shape.{Values, kind_in, first_of, is_in, IsChosen, one, maybe_one, list, list_with_holes, places, these, IsOf, Stand, Fits}

-- ---- a class that takes conditionals takes expressions, and one that takes `if` takes statements

takes_expressions : (c : Class) (t : NodeType) (r : TableRow) → stands c type.ConditionalExpression ≡ Some a_conditional_expression → stands expression t ≡ Some r → stands c t ≡ Some r
takes_expressions expression t r takes stood = stood
takes_expressions arrow_body type.BlockStatement r takes stood = absurd cc
takes_expressions arrow_body t r takes stood = stood
takes_expressions for_init type.VariableDeclaration r takes stood = absurd cc
takes_expressions for_init t r takes stood = stood
takes_expressions default_export type.FunctionDeclaration r takes stood = absurd cc
takes_expressions default_export type.ClassDeclaration r takes stood = absurd cc
takes_expressions default_export t r takes stood = stood
takes_expressions expression_or_private type.PrivateIdentifier r takes stood = absurd cc
takes_expressions expression_or_private t r takes stood = stood
takes_expressions callee type.Super r takes stood = absurd cc
takes_expressions callee t r takes stood = stood
takes_expressions argument type.SpreadElement r takes stood = absurd cc
takes_expressions argument t r takes stood = stood
takes_expressions c t r takes stood = absurd cc

-- logical expressions stand where conditionals do
logical_takes : (c : Class) → stands c type.LogicalExpression ≡ Some a_logical_expression → stands c type.ConditionalExpression ≡ Some a_conditional_expression
logical_takes expression h = refl
logical_takes arrow_body h = refl
logical_takes for_init h = refl
logical_takes default_export h = refl
logical_takes expression_or_private h = refl
logical_takes callee h = refl
logical_takes argument h = refl
logical_takes c h = absurd cc

-- and so do operators of one operand, and of two
unary_takes : (c : Class) → stands c type.UnaryExpression ≡ Some a_unary_expression → stands c type.ConditionalExpression ≡ Some a_conditional_expression
unary_takes expression h = refl
unary_takes arrow_body h = refl
unary_takes for_init h = refl
unary_takes default_export h = refl
unary_takes expression_or_private h = refl
unary_takes callee h = refl
unary_takes argument h = refl
unary_takes c h = absurd cc

binary_takes : (c : Class) → stands c type.BinaryExpression ≡ Some a_binary_expression → stands c type.ConditionalExpression ≡ Some a_conditional_expression
binary_takes expression h = refl
binary_takes arrow_body h = refl
binary_takes for_init h = refl
binary_takes default_export h = refl
binary_takes expression_or_private h = refl
binary_takes callee h = refl
binary_takes argument h = refl
binary_takes c h = absurd cc

-- and so do arrays, object literals and sequences
array_takes : (c : Class) → stands c type.ArrayExpression ≡ Some an_array_expression → stands c type.ConditionalExpression ≡ Some a_conditional_expression
array_takes expression h = refl
array_takes arrow_body h = refl
array_takes for_init h = refl
array_takes default_export h = refl
array_takes expression_or_private h = refl
array_takes callee h = refl
array_takes argument h = refl
array_takes c h = absurd cc

-- but the template behind a tag
template_takes : (c : Class) → is_template c ≡ false → stands c type.TemplateLiteral ≡ Some a_template_literal → stands c type.ConditionalExpression ≡ Some a_conditional_expression
template_takes template none h = absurd cc
template_takes expression none h = refl
template_takes arrow_body none h = refl
template_takes for_init none h = refl
template_takes default_export none h = refl
template_takes expression_or_private none h = refl
template_takes callee none h = refl
template_takes argument none h = refl
template_takes c none h = absurd cc

object_takes : (c : Class) → stands c type.ObjectExpression ≡ Some an_object_expression → stands c type.ConditionalExpression ≡ Some a_conditional_expression
object_takes expression h = refl
object_takes arrow_body h = refl
object_takes for_init h = refl
object_takes default_export h = refl
object_takes expression_or_private h = refl
object_takes callee h = refl
object_takes argument h = refl
object_takes c h = absurd cc

sequence_takes : (c : Class) → stands c type.SequenceExpression ≡ Some a_sequence_expression → stands c type.ConditionalExpression ≡ Some a_conditional_expression
sequence_takes expression h = refl
sequence_takes arrow_body h = refl
sequence_takes for_init h = refl
sequence_takes default_export h = refl
sequence_takes expression_or_private h = refl
sequence_takes callee h = refl
sequence_takes argument h = refl
sequence_takes c h = absurd cc

takes_statements : (c : Class) (t : NodeType) (r : TableRow) → stands c type.IfStatement ≡ Some an_if_statement → stands statement t ≡ Some r → stands c t ≡ Some r
takes_statements statement t r takes stood = stood
takes_statements module_item type.ImportDeclaration r takes stood = absurd cc
takes_statements module_item type.ExportNamedDeclaration r takes stood = absurd cc
takes_statements module_item type.ExportDefaultDeclaration r takes stood = absurd cc
takes_statements module_item type.ExportAllDeclaration r takes stood = absurd cc
takes_statements module_item t r takes stood = stood
takes_statements c t r takes stood = absurd cc

-- a class that takes `try` takes its blocks
takes_blocks : (c : Class) (t : NodeType) (r : TableRow) → stands c type.TryStatement ≡ Some a_try_statement → stands block t ≡ Some r → stands c t ≡ Some r
takes_blocks statement type.BlockStatement r takes stood = stood
takes_blocks module_item type.BlockStatement r takes stood = stood
takes_blocks statement t r takes stood = absurd cc
takes_blocks module_item t r takes stood = absurd cc
takes_blocks c t r takes stood = absurd cc

-- so a node of the class that the parts have is of each class that takes the whole
module _ (k : Kind) (below : Forest) where
  pub as_conditional : (c : Class) → stands c type.ConditionalExpression ≡ Some a_conditional_expression → IsOf k below (λ p. Stand p below) expression → IsOf k below (λ p. Stand p below) c
  as_conditional c takes of = (of.0, of.1, takes_expressions c (type_of of.0) (first_of of.0) takes of.2, of.3, of.4, of.5)

  pub as_logical : (c : Class) → stands c type.LogicalExpression ≡ Some a_logical_expression → IsOf k below (λ p. Stand p below) expression → IsOf k below (λ p. Stand p below) c
  as_logical c takes of = as_conditional c (logical_takes c takes) of

  pub as_unary : (c : Class) → stands c type.UnaryExpression ≡ Some a_unary_expression → IsOf k below (λ p. Stand p below) expression → IsOf k below (λ p. Stand p below) c
  as_unary c takes of = as_conditional c (unary_takes c takes) of

  pub as_binary : (c : Class) → stands c type.BinaryExpression ≡ Some a_binary_expression → IsOf k below (λ p. Stand p below) expression → IsOf k below (λ p. Stand p below) c
  as_binary c takes of = as_conditional c (binary_takes c takes) of

  pub as_array : (c : Class) → stands c type.ArrayExpression ≡ Some an_array_expression → IsOf k below (λ p. Stand p below) expression → IsOf k below (λ p. Stand p below) c
  as_array c takes of = as_conditional c (array_takes c takes) of

  pub as_template : (c : Class) → is_template c ≡ false → stands c type.TemplateLiteral ≡ Some a_template_literal → IsOf k below (λ p. Stand p below) expression → IsOf k below (λ p. Stand p below) c
  as_template c none takes of = as_conditional c (template_takes c none takes) of

  pub as_object : (c : Class) → stands c type.ObjectExpression ≡ Some an_object_expression → IsOf k below (λ p. Stand p below) expression → IsOf k below (λ p. Stand p below) c
  as_object c takes of = as_conditional c (object_takes c takes) of

  pub as_sequence : (c : Class) → stands c type.SequenceExpression ≡ Some a_sequence_expression → IsOf k below (λ p. Stand p below) expression → IsOf k below (λ p. Stand p below) c
  as_sequence c takes of = as_conditional c (sequence_takes c takes) of

  pub as_try : (c : Class) → stands c type.TryStatement ≡ Some a_try_statement → IsOf k below (λ p. Stand p below) block → IsOf k below (λ p. Stand p below) c
  as_try c takes of = (of.0, of.1, takes_blocks c (type_of of.0) (first_of of.0) takes of.2, of.3, of.4, of.5)

  pub as_if : (c : Class) → stands c type.IfStatement ≡ Some an_if_statement → IsOf k below (λ p. Stand p below) statement → IsOf k below (λ p. Stand p below) c
  as_if c takes of = (of.0, of.1, takes_statements c (type_of of.0) (first_of of.0) takes of.2, of.3, of.4, of.5)

-- ---- conditionals, logical expressions and `if` are of one row of the table each

abbrev is_conditional : Kind → Bool
is_conditional conditional_expression = true
is_conditional k = false

abbrev is_logical : Kind → Bool
is_logical (logical_expression operator) = true
is_logical k = false

abbrev is_unary : Kind → Bool
is_unary (unary_expression operator) = true
is_unary k = false

abbrev is_binary : Kind → Bool
is_binary (binary_expression operator) = true
is_binary k = false

-- `in` is of a row of its own
abbrev pub is_but_in : Kind → Bool
is_but_in (binary_expression operator) = not (is_in operator)
is_but_in k = false

abbrev is_template_kind : Kind → Bool
is_template_kind template_literal = true
is_template_kind k = false

abbrev is_array : Kind → Bool
is_array array_expression = true
is_array k = false

abbrev is_object : Kind → Bool
is_object object_expression = true
is_object k = false

abbrev is_sequence : Kind → Bool
is_sequence sequence_expression = true
is_sequence k = false

abbrev pub is_try : Kind → Bool
is_try try_statement = true
is_try k = false

abbrev pub is_if : Kind → Bool
is_if if_statement = true
is_if k = false

conditional_class : (c : Class) (r : TableRow) (vs : Values (fields_of r)) → is_conditional (kind_in r vs) ≡ true → stands c (type_of r) ≡ Some (first_of r)
    → stands c type.ConditionalExpression ≡ Some a_conditional_expression
conditional_class c a_conditional_expression vs is stood = stood
conditional_class c r vs is stood = absurd (true≢false (sym is))

conditional_parts : (private : Bool) (r : TableRow) (vs : Values (fields_of r)) (parts : Forest) → is_conditional (kind_in r vs) ≡ true → Stand (these (places private (fields_of r) vs)) parts
    → Stand (these (one expression ∷ one expression ∷ one expression ∷ [])) parts
conditional_parts private a_conditional_expression vs parts is stand = stand
conditional_parts private r vs parts is stand = absurd (true≢false (sym is))

logical_class : (c : Class) (r : TableRow) (vs : Values (fields_of r)) → is_logical (kind_in r vs) ≡ true → stands c (type_of r) ≡ Some (first_of r)
    → stands c type.LogicalExpression ≡ Some a_logical_expression
logical_class c a_logical_expression vs is stood = stood
logical_class c r vs is stood = absurd (true≢false (sym is))

logical_parts : (private : Bool) (r : TableRow) (vs : Values (fields_of r)) (parts : Forest) → is_logical (kind_in r vs) ≡ true → Stand (these (places private (fields_of r) vs)) parts
    → Stand (these (one expression ∷ one expression ∷ [])) parts
logical_parts private a_logical_expression vs parts is stand = stand
logical_parts private r vs parts is stand = absurd (true≢false (sym is))

unary_class : (c : Class) (r : TableRow) (vs : Values (fields_of r)) → is_unary (kind_in r vs) ≡ true → stands c (type_of r) ≡ Some (first_of r)
    → stands c type.UnaryExpression ≡ Some a_unary_expression
unary_class c a_unary_expression vs is stood = stood
unary_class c r vs is stood = absurd (true≢false (sym is))

unary_parts : (private : Bool) (r : TableRow) (vs : Values (fields_of r)) (parts : Forest) → is_unary (kind_in r vs) ≡ true → Stand (these (places private (fields_of r) vs)) parts
    → Stand (these (one expression ∷ [])) parts
unary_parts private a_unary_expression vs parts is stand = stand
unary_parts private r vs parts is stand = absurd (true≢false (sym is))

binary_class : (c : Class) (r : TableRow) (vs : Values (fields_of r)) → is_binary (kind_in r vs) ≡ true → stands c (type_of r) ≡ Some (first_of r)
    → stands c type.BinaryExpression ≡ Some a_binary_expression
binary_class c a_binary_expression vs is stood = stood
binary_class c an_in_expression vs is stood = stood
binary_class c r vs is stood = absurd (true≢false (sym is))

pub binary_parts : (private : Bool) (r : TableRow) (vs : Values (fields_of r)) (parts : Forest) → IsChosen r vs → is_but_in (kind_in r vs) ≡ true → Stand (these (places private (fields_of r) vs)) parts
    → Stand (these (one expression ∷ one expression ∷ [])) parts
binary_parts private a_binary_expression vs parts chosen is stand = stand
binary_parts private an_in_expression vs parts chosen is stand = absurd (true≢false (sym is ∙ ap not chosen))
binary_parts private r vs parts chosen is stand = absurd (true≢false (sym is))

template_class : (c : Class) (r : TableRow) (vs : Values (fields_of r)) → is_template_kind (kind_in r vs) ≡ true → stands c (type_of r) ≡ Some (first_of r)
    → stands c type.TemplateLiteral ≡ Some a_template_literal
template_class c a_template_literal vs is stood = stood
template_class c r vs is stood = absurd (true≢false (sym is))

pub template_parts : (private : Bool) (r : TableRow) (vs : Values (fields_of r)) (parts : Forest) → template_literal ≡ kind_in r vs → Stand (these (places private (fields_of r) vs)) parts
    → Stand (these (list quasis quasi_item ∷ list expressions expression ∷ [])) parts
template_parts private a_template_literal vs parts is stand = stand
template_parts private r vs parts is stand = absurd (true≢false (ap is_template_kind is))

array_class : (c : Class) (r : TableRow) (vs : Values (fields_of r)) → is_array (kind_in r vs) ≡ true → stands c (type_of r) ≡ Some (first_of r)
    → stands c type.ArrayExpression ≡ Some an_array_expression
array_class c an_array_expression vs is stood = stood
array_class c r vs is stood = absurd (true≢false (sym is))

pub array_parts : (private : Bool) (r : TableRow) (vs : Values (fields_of r)) (parts : Forest) → array_expression ≡ kind_in r vs → Stand (these (places private (fields_of r) vs)) parts
    → Stand (these (list_with_holes elements argument ∷ [])) parts
array_parts private an_array_expression vs parts is stand = stand
array_parts private r vs parts is stand = absurd (true≢false (ap is_array is))

object_class : (c : Class) (r : TableRow) (vs : Values (fields_of r)) → is_object (kind_in r vs) ≡ true → stands c (type_of r) ≡ Some (first_of r)
    → stands c type.ObjectExpression ≡ Some an_object_expression
object_class c an_object_expression vs is stood = stood
object_class c r vs is stood = absurd (true≢false (sym is))

sequence_class : (c : Class) (r : TableRow) (vs : Values (fields_of r)) → is_sequence (kind_in r vs) ≡ true → stands c (type_of r) ≡ Some (first_of r)
    → stands c type.SequenceExpression ≡ Some a_sequence_expression
sequence_class c a_sequence_expression vs is stood = stood
sequence_class c r vs is stood = absurd (true≢false (sym is))

pub sequence_parts : (private : Bool) (r : TableRow) (vs : Values (fields_of r)) (parts : Forest) → sequence_expression ≡ kind_in r vs → Stand (these (places private (fields_of r) vs)) parts
    → Stand (these (list expressions expression ∷ [])) parts
sequence_parts private a_sequence_expression vs parts is stand = stand
sequence_parts private r vs parts is stand = absurd (true≢false (ap is_sequence is))

try_class : (c : Class) (r : TableRow) (vs : Values (fields_of r)) → is_try (kind_in r vs) ≡ true → stands c (type_of r) ≡ Some (first_of r)
    → stands c type.TryStatement ≡ Some a_try_statement
try_class c a_try_statement vs is stood = stood
try_class c r vs is stood = absurd (true≢false (sym is))

pub try_parts : (private : Bool) (r : TableRow) (vs : Values (fields_of r)) (parts : Forest) → is_try (kind_in r vs) ≡ true → Stand (these (places private (fields_of r) vs)) parts
    → Stand (these (one block ∷ maybe_one handler ∷ maybe_one block ∷ [])) parts
try_parts private a_try_statement vs parts is stand = stand
try_parts private r vs parts is stand = absurd (true≢false (sym is))

if_class : (c : Class) (r : TableRow) (vs : Values (fields_of r)) → is_if (kind_in r vs) ≡ true → stands c (type_of r) ≡ Some (first_of r)
    → stands c type.IfStatement ≡ Some an_if_statement
if_class c an_if_statement vs is stood = stood
if_class c r vs is stood = absurd (true≢false (sym is))

pub if_parts : (private : Bool) (r : TableRow) (vs : Values (fields_of r)) (parts : Forest) → is_if (kind_in r vs) ≡ true → Stand (these (places private (fields_of r) vs)) parts
    → Stand (these (one expression ∷ one statement ∷ maybe_one statement ∷ [])) parts
if_parts private an_if_statement vs parts is stand = stand
if_parts private r vs parts is stand = absurd (true≢false (sym is))

-- a conditional, a logical expression, or an `if`, that fits stands where its class may, and its parts stand
module _ (c : Class) (n : Note) (below : Forest) where
  pub conditional_stood : Fits c (alone conditional_expression n below) → stands c type.ConditionalExpression ≡ Some a_conditional_expression
  conditional_stood fits = conditional_class c fits.0.0 fits.0.1 (ap is_conditional (sym fits.0.4)) fits.0.2

  pub conditional_below : Fits c (alone conditional_expression n below) → Stand (these (one expression ∷ one expression ∷ one expression ∷ [])) below
  conditional_below fits = conditional_parts (has is_private below) fits.0.0 fits.0.1 below (ap is_conditional (sym fits.0.4)) fits.0.5

  pub logical_stood : (o : LogicalOperator) → Fits c (alone (logical_expression o) n below) → stands c type.LogicalExpression ≡ Some a_logical_expression
  logical_stood o fits = logical_class c fits.0.0 fits.0.1 (ap is_logical (sym fits.0.4)) fits.0.2

  pub logical_below : (o : LogicalOperator) → Fits c (alone (logical_expression o) n below) → Stand (these (one expression ∷ one expression ∷ [])) below
  logical_below o fits = logical_parts (has is_private below) fits.0.0 fits.0.1 below (ap is_logical (sym fits.0.4)) fits.0.5

  pub unary_stood : (o : UnaryOperator) → Fits c (alone (unary_expression o) n below) → stands c type.UnaryExpression ≡ Some a_unary_expression
  unary_stood o fits = unary_class c fits.0.0 fits.0.1 (ap is_unary (sym fits.0.4)) fits.0.2

  pub unary_below : (o : UnaryOperator) → Fits c (alone (unary_expression o) n below) → Stand (these (one expression ∷ [])) below
  unary_below o fits = unary_parts (has is_private below) fits.0.0 fits.0.1 below (ap is_unary (sym fits.0.4)) fits.0.5

  pub binary_stood : (o : BinaryOperator) → Fits c (alone (binary_expression o) n below) → stands c type.BinaryExpression ≡ Some a_binary_expression
  binary_stood o fits = binary_class c fits.0.0 fits.0.1 (ap is_binary (sym fits.0.4)) fits.0.2

  pub template_stood : Fits c (alone template_literal n below) → stands c type.TemplateLiteral ≡ Some a_template_literal
  template_stood fits = template_class c fits.0.0 fits.0.1 (ap is_template_kind (sym fits.0.4)) fits.0.2

  pub array_stood : Fits c (alone array_expression n below) → stands c type.ArrayExpression ≡ Some an_array_expression
  array_stood fits = array_class c fits.0.0 fits.0.1 (ap is_array (sym fits.0.4)) fits.0.2

  pub object_stood : Fits c (alone object_expression n below) → stands c type.ObjectExpression ≡ Some an_object_expression
  object_stood fits = object_class c fits.0.0 fits.0.1 (ap is_object (sym fits.0.4)) fits.0.2

  pub sequence_stood : Fits c (alone sequence_expression n below) → stands c type.SequenceExpression ≡ Some a_sequence_expression
  sequence_stood fits = sequence_class c fits.0.0 fits.0.1 (ap is_sequence (sym fits.0.4)) fits.0.2

  pub try_stood : Fits c (alone try_statement n below) → stands c type.TryStatement ≡ Some a_try_statement
  try_stood fits = try_class c fits.0.0 fits.0.1 (ap is_try (sym fits.0.4)) fits.0.2

  pub try_below : Fits c (alone try_statement n below) → Stand (these (one block ∷ maybe_one handler ∷ maybe_one block ∷ [])) below
  try_below fits = try_parts (has is_private below) fits.0.0 fits.0.1 below (ap is_try (sym fits.0.4)) fits.0.5

  pub if_stood : Fits c (alone if_statement n below) → stands c type.IfStatement ≡ Some an_if_statement
  if_stood fits = if_class c fits.0.0 fits.0.1 (ap is_if (sym fits.0.4)) fits.0.2

  pub if_below : Fits c (alone if_statement n below) → Stand (these (one expression ∷ one statement ∷ maybe_one statement ∷ [])) below
  if_below fits = if_parts (has is_private below) fits.0.0 fits.0.1 below (ap is_if (sym fits.0.4)) fits.0.5

-- ---- an empty statement
