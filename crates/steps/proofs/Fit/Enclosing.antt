-- In a tree that fits the table of node types names are declared where the table lets them be.
use Rattle.std.proofs.Common.{◌≡◌, ℕ, suc, List, ◌∷◌, Bool, true, false, not, ◌&&◌, refl, ap, ◌∙◌}
use Rattle.js_syntax.specs.Class.{Class, root, declared_name, no_node}
use Rattle.js_syntax.specs.declared.node_kind.NodeKind.{NodeKind as Kind}
use Rattle.js_syntax.specs.declared.node_kind.NodeKind.TheVariants.{Function as function, Class as class, ReferenceName as reference_name, Literal as literal, RegExp as reg_exp, ThisExpression as this_expression, NewTarget as new_target, Hole as hole, TemplateElement as template_element}
use Rattle.js_syntax.specs.declared.kind.FunctionKind.{FunctionKind}
use Rattle.js_syntax.specs.declared.kind.FunctionKind.TheVariants as function_kind
use Rattle.js_syntax.specs.declared.kind.ClassKind.{ClassKind}
use Rattle.js_syntax.specs.declared.kind.ClassKind.TheVariants as class_kind
use Rattle.js_syntax.specs.Hint.{has, is_private}
use Rattle.js_syntax.specs.Node.{Forest, nothing, node, absent}
use Rattle.js_syntax.specs.Table.{Row, a_function_declaration, a_default_function, a_function_expression, an_arrow_function, a_class_declaration, a_default_class, a_class_expression, a_binding_name, a_reference_name, a_literal, a_text_literal, a_reg_exp, a_this_expression, a_template_element, a_new_target, fields_of}
use Rattle.json_shape.specs.Shape.{Values, kind_in, first_of, Place, one, maybe_one, places, these, IsOf, Stand, Fits, Plan}
use Rattle.json_shape.proofs.Choice.{is_list_kind}
use Rattle.steps.proofs.Fit.CoreRows.{takes_such, taken}
use Rattle.steps.proofs.Fit.Passing.{plan_passes}
use Rattle.steps.proofs.Fit.Holding.{is_sound}
use Rattle.steps.proofs.Fit.Everywhere.{IsShown, fits_everywhere, any_tree, everywhere}
use Rattle.steps.specs.Fit.Enclosed.{is_binding, is_var, inherits, passes, closed, is_name, begins_with_name, none, is_enclosed_at, is_enclosed}
use Rattle.steps.proofs.Fit.Shut.{shut, unmarked}
use Rattle.steps.proofs.Fit.Sets.{row_names, row_vars}
use Rattle.steps.proofs.Fit.Arranged.{none_there}
use Rattle.js_syntax.proofs.Truth.{first_of_both, second_of_both, both}

-- ---- what is closed to variables and to names

closed_from : (vars names : ℕ → Bool) (at : ℕ) (t : Forest) → shut is_var passes vars at t ≡ true → shut is_binding inherits names at t ≡ true → closed vars names at t ≡ true
closed_from vars names at nothing v m = refl
closed_from vars names at (absent rest) v m = closed_from vars names (suc at) rest v m
closed_from vars names at (node k n below rest) v m =
    let vars_below = λ (i : ℕ). vars at && passes k i in
    let names_below = λ (i : ℕ). names at && inherits k i in
    let v_rest = second_of_both (not (vars at && is_var k)) (shut is_var passes vars_below 0 below && shut is_var passes vars (suc at) rest) v in
    let m_rest = second_of_both (not (names at && is_binding k)) (shut is_binding inherits names_below 0 below && shut is_binding inherits names (suc at) rest) m in
    let here = closed vars_below names_below 0 below in
    let later = closed vars names (suc at) rest in
    both (not (names at && is_binding k)) (not (vars at && is_var k) && (here && later))
    (first_of_both (not (names at && is_binding k)) (shut is_binding inherits names_below 0 below && shut is_binding inherits names (suc at) rest) m)
    (both (not (vars at && is_var k)) (here && later)
    (first_of_both (not (vars at && is_var k)) (shut is_var passes vars_below 0 below && shut is_var passes vars (suc at) rest) v)
    (both here later
    (closed_from vars_below names_below 0 below (first_of_both (shut is_var passes vars_below 0 below) (shut is_var passes vars (suc at) rest) v_rest) (first_of_both (shut is_binding inherits names_below 0 below) (shut is_binding inherits names (suc at) rest) m_rest))
    (closed_from vars names (suc at) rest (second_of_both (shut is_var passes vars_below 0 below) (shut is_var passes vars (suc at) rest) v_rest) (second_of_both (shut is_binding inherits names_below 0 below) (shut is_binding inherits names (suc at) rest) m_rest))))

-- ---- rows of fields

-- a name, where nothing else may stand
abbrev is_named : Row → Bool
is_named a_binding_name = true
is_named r = false

row_name : (r : Row) (vs : Values (fields_of r)) (private : Bool) (a : Forest) → is_named (first_of r) ≡ true → Stand (these (places private (fields_of r) vs)) a → is_name (kind_in r vs) a ≡ true
row_name a_binding_name vs private a h st = none_there a st
row_name r vs private a h st = absurd cc

name_of : (c : Class) (k : Kind) (a : Forest) → takes_such is_named c ≡ true → IsOf k a (λ p. Stand p a) c → is_name k a ≡ true
name_of c k a h of = ap (λ x. is_name x a) of.4 ∙ row_name of.0 of.1 (has is_private a) a (taken is_named c of.0 h of.2) of.5

name_first : (c : Class) (ps : List Place) (a : Forest) → takes_such is_named c ≡ true → Stand (these (one c ∷ ps)) a → begins_with_name a ≡ true
name_first c ps nothing h st = refl
name_first c ps (absent r) h st = refl
name_first c ps (node k n a r) h st = name_of c k a h st.0

maybe_name_first : (c : Class) (ps : List Place) (a : Forest) → takes_such is_named c ≡ true → Stand (these (maybe_one c ∷ ps)) a → begins_with_name a ≡ true
maybe_name_first c ps nothing h st = refl
maybe_name_first c ps (absent r) h st = refl
maybe_name_first c ps (node k n a r) h st = name_of c k a h st.0

-- ---- a node

function_enclosed : (how : FunctionKind) (pure : Bool) (a : Forest) → begins_with_name a ≡ true → shut is_binding inherits (inherits (function how pure)) 0 a ≡ true → is_enclosed_at (function how pure) a ≡ true
function_enclosed how pure a h names =
    both (begins_with_name a) (closed none (inherits (function how pure)) 0 a) h (closed_from none (inherits (function how pure)) 0 a (unmarked is_var passes 0 a) names)

class_enclosed : (how : ClassKind) (a : Forest) → begins_with_name a ≡ true → shut is_var passes (inherits (class how)) 0 a ≡ true → shut is_binding inherits (inherits (class how)) 0 a ≡ true → is_enclosed_at (class how) a ≡ true
class_enclosed how a h vars names =
    both (begins_with_name a) (closed (inherits (class how)) (inherits (class how)) 0 a) h (closed_from (inherits (class how)) (inherits (class how)) 0 a vars names)

row_enclosed : (r : Row) (vs : Values (fields_of r)) (private : Bool) (a : Forest) → Stand (these (places private (fields_of r) vs)) a → is_enclosed_at (kind_in r vs) a ≡ true
row_enclosed a_function_declaration vs private a st =
    function_enclosed function_kind.Declaration vs.0 a (name_first declared_name _ a refl st) (row_names (inherits (function function_kind.Declaration vs.0)) a_function_declaration vs private a refl st)
row_enclosed a_default_function vs private a st =
    function_enclosed function_kind.Declaration vs.0 a (maybe_name_first declared_name _ a refl st) (row_names (inherits (function function_kind.Declaration vs.0)) a_default_function vs private a refl st)
row_enclosed a_function_expression vs private a st =
    function_enclosed function_kind.Expression vs.0 a (maybe_name_first declared_name _ a refl st) (row_names (inherits (function function_kind.Expression vs.0)) a_function_expression vs private a refl st)
row_enclosed an_arrow_function vs private a st =
    function_enclosed function_kind.Arrow vs.0 a (maybe_name_first no_node _ a refl st) (row_names (inherits (function function_kind.Arrow vs.0)) an_arrow_function vs private a refl st)
row_enclosed a_class_declaration vs private a st =
    class_enclosed class_kind.Declaration a (name_first declared_name _ a refl st) (row_vars (inherits (class class_kind.Declaration)) a_class_declaration vs private a refl st) (row_names (inherits (class class_kind.Declaration)) a_class_declaration vs private a refl st)
row_enclosed a_default_class vs private a st =
    class_enclosed class_kind.Declaration a (maybe_name_first declared_name _ a refl st) (row_vars (inherits (class class_kind.Declaration)) a_default_class vs private a refl st) (row_names (inherits (class class_kind.Declaration)) a_default_class vs private a refl st)
row_enclosed a_class_expression vs private a st =
    class_enclosed class_kind.Expression a (maybe_name_first declared_name _ a refl st) (row_vars (inherits (class class_kind.Expression)) a_class_expression vs private a refl st) (row_names (inherits (class class_kind.Expression)) a_class_expression vs private a refl st)
row_enclosed a_reference_name vs private a st = none_there a st
row_enclosed a_literal vs private a st = none_there a st
row_enclosed a_text_literal vs private a st = none_there a st
row_enclosed a_reg_exp vs private a st = none_there a st
row_enclosed a_template_element vs private a st = none_there a st
row_enclosed a_this_expression vs private a st = none_there a st
row_enclosed a_new_target vs private a st = none_there a st
row_enclosed r vs private a st = refl

list_enclosed : (kind : Kind) (a : Forest) → is_list_kind kind ≡ true → is_enclosed_at kind a ≡ true
list_enclosed (function how pure) a h = absurd cc
list_enclosed (class how) a h = absurd cc
list_enclosed (literal v) a h = absurd cc
list_enclosed (reg_exp x) a h = absurd cc
list_enclosed this_expression a h = absurd cc
list_enclosed new_target a h = absurd cc
list_enclosed hole a h = absurd cc
list_enclosed (template_element written tail) a h = absurd cc
list_enclosed (reference_name x) a h = absurd cc
list_enclosed kind a h = refl

-- ---- trees

shown : IsShown any_tree is_enclosed_at is_enclosed
shown = record {
  ends = refl;
  passes_none = λ r h. h;
  passes_node = λ k n a r h. h;
  given_behind_none = λ r h. h;
  given_below = λ k n a r h. h;
  given_behind = λ k n a r h. h;
  rows = λ r vs private n a rest g chosen st. row_enclosed r vs private a st;
  lists = list_enclosed;
  holes = none_there;
}

pub enclosed : (t : Forest) (plan : Plan) → plan_passes is_sound plan ≡ true → Stand plan t → is_enclosed t ≡ true
enclosed t plan sound stands = everywhere any_tree is_enclosed_at is_enclosed shown t plan sound refl stands

pub fits_enclosed : (t : Forest) → Fits root t → is_enclosed t ≡ true
fits_enclosed t fits = fits_everywhere any_tree is_enclosed_at is_enclosed shown t fits refl
