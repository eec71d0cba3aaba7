-- The rows in which a step leaves out a node: lists, which no row of the table of node types makes.
use Rattle.std.proofs.Common.{◌≡◌, Bool, true, false, refl}
use Rattle.js_syntax.specs.declared.node_kind.NodeKind.{NodeKind as Kind}
use Rattle.js_syntax.specs.declared.node_kind.NodeKind.TheVariants.{Program as program, Function as function, BlockStatement as block_statement, Cases as cases, ForStatement as for_statement, CatchClause as catch_clause, Statements as statements, Declarators as list_of_declarators, VariableDeclaration as variable_declaration}
use Rattle.js_syntax.specs.Node.{Forest}
use Rattle.js_syntax.specs.Table.{Row as TableRow, a_program, fields_of}
use Rattle.steps.specs.Steps.{Row, items, of_item, declarators, other, Around, row_below, entered}
use Rattle.json_shape.specs.Shape.{Values, kind_in}
use Rattle.json_shape.proofs.Choice.{is_list_kind}

abbrev pub drops : Row → Bool
drops items = true
drops (declarators how) = true
drops row = false

pub no_list : (r : TableRow) (vs : Values (fields_of r)) → is_list_kind (kind_in r vs) ≡ false
no_list a_program vs = refl
no_list r vs = refl

below_drops_not : (row : Row) (k : Kind) (a : Forest) → is_list_kind k ≡ false → drops (row_below row k a) ≡ false
below_drops_not row statements a h = absurd cc
below_drops_not items (variable_declaration how) a h = refl
below_drops_not (of_item how) list_of_declarators a h = absurd cc
below_drops_not items k a h = refl
below_drops_not (of_item how) k a h = refl
below_drops_not (declarators how) k a h = refl
below_drops_not other k a h = refl

-- whatever a node opens a scope for, what lies below it stands in the row of its kind
pub entered_drops_not : (w : Around) (k : Kind) (a : Forest) → is_list_kind k ≡ false → drops (entered w k a).row ≡ false
entered_drops_not w (program source) a h = below_drops_not w.row (program source) a h
entered_drops_not w (function how pure) a h = below_drops_not w.row (function how pure) a h
entered_drops_not w block_statement a h = below_drops_not w.row block_statement a h
entered_drops_not w cases a h = below_drops_not w.row cases a h
entered_drops_not w for_statement a h = below_drops_not w.row for_statement a h
entered_drops_not w catch_clause a h = below_drops_not w.row catch_clause a h
entered_drops_not w k a h = below_drops_not w.row k a h
