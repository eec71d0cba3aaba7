-- Statements of expressions declare no names, in core trees of the table.
use Rattle.std.proofs.Common.{◌≡◌, [], ◌∷◌, Bool, true, refl, ap}
use Rattle.js_syntax.specs.Class.{root, expression}
use Rattle.js_syntax.specs.declared.node_kind.NodeKind.{NodeKind as Kind}
use Rattle.js_syntax.specs.Node.{Forest}
use Rattle.js_syntax.specs.Table.{Row, an_expression_statement, fields_of}
use Rattle.steps.specs.Steps.{all_core}
use Rattle.steps.specs.Naming.Placed.{is_none}
use Rattle.json_shape.specs.Shape.{Values, kind_in, one, places, these, Stand, Fits}
use Rattle.json_shape.proofs.Choice.{is_list_kind}
use Rattle.steps.specs.Fit.Plain.{is_plain_statement, has_plain_statements}
use Rattle.steps.proofs.Fit.CoreCalm.{nameless_as_planned}
use Rattle.steps.proofs.Fit.Everywhere.{IsShown, fits_everywhere}
use Rattle.steps.proofs.Fit.Held.{core_below, core_behind}

row_plain : (r : Row) (vs : Values (fields_of r)) (private : Bool) (a : Forest) → all_core a ≡ true → Stand (these (places private (fields_of r) vs)) a → is_plain_statement (kind_in r vs) a ≡ true
row_plain an_expression_statement vs private a core st = ap is_none (nameless_as_planned a (these (one expression ∷ [])) refl st core)
row_plain r vs private a core st = refl

list_plain : (kind : Kind) (a : Forest) → is_list_kind kind ≡ true → is_plain_statement kind a ≡ true
list_plain Kind.ExpressionStatement a h = absurd cc
list_plain kind a h = refl

shown : IsShown all_core is_plain_statement has_plain_statements
shown = record {
  ends = refl;
  passes_none = λ r h. h;
  passes_node = λ k n a r h. h;
  given_behind_none = λ r h. h;
  given_below = core_below;
  given_behind = core_behind;
  rows = λ r vs private n a rest core chosen st. row_plain r vs private a (core_below (kind_in r vs) n a rest core) st;
  lists = list_plain;
  holes = λ a st. refl;
}

pub fits_plain : (t : Forest) → Fits root t → all_core t ≡ true → has_plain_statements t ≡ true
fits_plain t fits core = fits_everywhere all_core is_plain_statement has_plain_statements shown t fits core
