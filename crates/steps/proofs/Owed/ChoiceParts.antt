-- What lies below a conditional, an `if`, operators, lists and a call of a tree that fits the table of node types.
use Rattle.std.proofs.Common.{◌≡◌, [], ◌∷◌, Bool, true, false, not, Some, refl, sym, ap, ◌∙◌, true≢false}
use Rattle.js_syntax.specs.Class.{root, expression, statement, callee, argument, object_item, quasi_item}
use Rattle.js_syntax.specs.declared.node_kind.NodeKind.{NodeKind as Kind}
use Rattle.js_syntax.specs.declared.operator.UnaryOperator.{UnaryOperator}
use Rattle.js_syntax.specs.declared.operator.BinaryOperator.{BinaryOperator}
use Rattle.js_syntax.specs.declared.operator.LogicalOperator.{LogicalOperator}
use Rattle.js_syntax.specs.Hint.{has, is_private}
use Rattle.js_syntax.specs.Node.{Forest, Note}
use Rattle.js_syntax.specs.Table.{Row, a_unary_expression, a_logical_expression, a_call_expression, fields_of}
use Rattle.json_shape.specs.Shape.{Values, kind_in, is_in, one, maybe_one, list, list_with_holes, places, these, Stand, Fits}
use Rattle.scope_laws.specs.Place.{Around, plug}
use Rattle.steps.proofs.Owed.FitsTaking.{is_if, if_parts, is_but_in, binary_parts, template_parts, array_parts, sequence_parts}
use Rattle.steps.proofs.Owed.Made.{MadeBy, made_there, single_made_there, conditional_stands, object_stands}

abbrev is_logical : Kind → Bool
is_logical (Kind.LogicalExpression o) = true
is_logical k = false

abbrev is_unary : Kind → Bool
is_unary (Kind.UnaryExpression o) = true
is_unary k = false

abbrev is_call : Kind → Bool
is_call (Kind.CallExpression optional pure) = true
is_call k = false

row_of_logical : (o : LogicalOperator) (r : Row) (vs : Values (fields_of r)) (private : Bool) (a : Forest)
    → Kind.LogicalExpression o ≡ kind_in r vs → Stand (these (places private (fields_of r) vs)) a → Stand (these (one expression ∷ one expression ∷ [])) a
row_of_logical o a_logical_expression vs private a is st = st
row_of_logical o r vs private a is st = absurd (true≢false (ap is_logical is))

row_of_unary : (o : UnaryOperator) (r : Row) (vs : Values (fields_of r)) (private : Bool) (a : Forest)
    → Kind.UnaryExpression o ≡ kind_in r vs → Stand (these (places private (fields_of r) vs)) a → Stand (these (one expression ∷ [])) a
row_of_unary o a_unary_expression vs private a is st = st
row_of_unary o r vs private a is st = absurd (true≢false (ap is_unary is))

-- a callee, and the list of arguments
row_of_call : (optional pure : Bool) (r : Row) (vs : Values (fields_of r)) (private : Bool) (a : Forest)
    → Kind.CallExpression optional pure ≡ kind_in r vs → Stand (these (places private (fields_of r) vs)) a → Stand (these (one callee ∷ list Kind.Arguments argument ∷ [])) a
row_of_call optional pure a_call_expression vs private a is st = st
row_of_call optional pure r vs private a is st = absurd (true≢false (ap is_call is))

pub call_stands : (optional pure : Bool) (a : Forest) → MadeBy (Kind.CallExpression optional pure) a → Stand (these (one callee ∷ list Kind.Arguments argument ∷ [])) a
call_stands optional pure a made = row_of_call optional pure made.row made.values (has is_private a) a made.is made.stands

abbrev pub Three : Forest → Type 0
Three t = Stand (these (one expression ∷ one expression ∷ one expression ∷ [])) t

abbrev pub One : Forest → Type 0
One t = Stand (these (one expression ∷ [])) t

abbrev pub Two : Forest → Type 0
Two t = Stand (these (one expression ∷ one expression ∷ [])) t

pub parts_of_conditional : (a : Around) (n : Note) (below : Forest) → Fits root (plug a (Some (record { kind = Kind.ConditionalExpression; note = n; below = below }))) → Three below
parts_of_conditional a n below fits =
    conditional_stands below (made_there a (record { kind = Kind.ConditionalExpression; note = n; below = below }) (these (one root ∷ [])) refl refl fits)

-- a test, a statement, and maybe another one
abbrev pub TestAndBranches : Forest → Type 0
TestAndBranches t = Stand (these (one expression ∷ one statement ∷ maybe_one statement ∷ [])) t

pub parts_of_if : (a : Around) (n : Note) (below : Forest) → Fits root (plug a (Some (record { kind = Kind.IfStatement; note = n; below = below }))) → TestAndBranches below
parts_of_if a n below fits =
    let made = made_there a (record { kind = Kind.IfStatement; note = n; below = below }) (these (one root ∷ [])) refl refl fits in
    if_parts (has is_private below) made.row made.values below (ap is_if (sym made.is)) made.stands

pub sides_of_logical : (a : Around) (o : LogicalOperator) (n : Note) (below : Forest) → Fits root (plug a (Some (record { kind = Kind.LogicalExpression o; note = n; below = below }))) → Two below
sides_of_logical a o n below fits =
    let made = made_there a (record { kind = Kind.LogicalExpression o; note = n; below = below }) (these (one root ∷ [])) refl refl fits in
    row_of_logical o made.row made.values (has is_private below) below made.is made.stands

pub operand_of_unary : (a : Around) (o : UnaryOperator) (n : Note) (below : Forest) → Fits root (plug a (Some (record { kind = Kind.UnaryExpression o; note = n; below = below }))) → One below
operand_of_unary a o n below fits =
    let made = made_there a (record { kind = Kind.UnaryExpression o; note = n; below = below }) (these (one root ∷ [])) refl refl fits in
    row_of_unary o made.row made.values (has is_private below) below made.is made.stands

pub sides_of_binary : (a : Around) (o : BinaryOperator) → is_in o ≡ false → (n : Note) (below : Forest) → Fits root (plug a (Some (record { kind = Kind.BinaryExpression o; note = n; below = below }))) → Two below
sides_of_binary a o h n below fits =
    let made = made_there a (record { kind = Kind.BinaryExpression o; note = n; below = below }) (these (one root ∷ [])) refl refl fits in
    binary_parts (has is_private below) made.row made.values below made.chosen (ap is_but_in (sym made.is) ∙ ap not h) made.stands

pub parts_of_array : (a : Around) (n : Note) (below : Forest) → Fits root (plug a (Some (record { kind = Kind.ArrayExpression; note = n; below = below }))) → Stand (these (list_with_holes Kind.Elements argument ∷ [])) below
parts_of_array a n below fits =
    let made = made_there a (record { kind = Kind.ArrayExpression; note = n; below = below }) (these (one root ∷ [])) refl refl fits in
    array_parts (has is_private below) made.row made.values below made.is made.stands

pub parts_of_template : (a : Around) (n : Note) (below : Forest) → Fits root (plug a (Some (record { kind = Kind.TemplateLiteral; note = n; below = below }))) → Stand (these (list Kind.Quasis quasi_item ∷ list Kind.Expressions expression ∷ [])) below
parts_of_template a n below fits =
    let made = single_made_there a (record { kind = Kind.TemplateLiteral; note = n; below = below }) (these (one root ∷ [])) refl refl fits in
    template_parts (has is_private below) made.row made.values below made.is made.stands

pub properties_of_object : (a : Around) (n : Note) (below : Forest) → Fits root (plug a (Some (record { kind = Kind.ObjectExpression; note = n; below = below }))) → Stand (these (list Kind.Properties object_item ∷ [])) below
properties_of_object a n below fits =
    object_stands below (made_there a (record { kind = Kind.ObjectExpression; note = n; below = below }) (these (one root ∷ [])) refl refl fits)

pub parts_of_sequence : (a : Around) (n : Note) (below : Forest) → Fits root (plug a (Some (record { kind = Kind.SequenceExpression; note = n; below = below }))) → Stand (these (list Kind.Expressions expression ∷ [])) below
parts_of_sequence a n below fits =
    let made = made_there a (record { kind = Kind.SequenceExpression; note = n; below = below }) (these (one root ∷ [])) refl refl fits in
    sequence_parts (has is_private below) made.row made.values below made.is made.stands
