-- In a tree that fits the table of node types, and breaks no rule of form, the parts of statements stand where they are looked for.
use Rattle.std.proofs.Common.{◌≡◌, List, [], ◌∷◌, Bool, true, ◌&&◌, Some, refl, ap, ◌∙◌}
use Rattle.js_syntax.specs.Class.{Class, root, declarator_item, declared_name, binding, expression}
use Rattle.js_syntax.specs.declared.node_kind.NodeKind.{NodeKind as Kind}
use Rattle.js_syntax.specs.declared.node_kind.NodeKind.TheVariants.{EmptyStatement as empty_statement, ExpressionStatement as expression_statement, Function as function, VariableDeclaration as variable_declaration, Declarators as declarators}
use Rattle.js_syntax.specs.declared.kind.VariableKind.{VariableKind}
use Rattle.js_syntax.specs.Hint.{has, is_private}
use Rattle.js_syntax.specs.Node.{Note, Forest, nothing, node, absent}
use Rattle.js_syntax.specs.Table.{Row, an_expression_statement, an_empty_statement, a_function_declaration, a_default_function, a_variable_declaration, a_variable_declarator, a_binding_name, fields_of, type_of, stands}
use Rattle.form_rules.specs.Form.{IsWellFormed}
use Rattle.json_shape.specs.Shape.{Values, kind_in, first_of, Place, one, maybe_one, list, places, these, all, IsOf, Stand, Fits}
use Rattle.json_shape.proofs.Choice.{is_list_kind}
use Rattle.steps.specs.Allowed.Arranged.{is_nothing, is_single, is_field, is_leaf, begins_with_leaf, is_declarator, are_declarators, has_declarators, is_arranged_at, is_arranged}
use Rattle.steps.proofs.Fit.Everywhere.{IsShown, fits_everywhere}
use Rattle.steps.proofs.Fit.Modules.{ends}
use Rattle.steps.proofs.Fit.Filled.{is_filled, are_filled, whole_filled}
use Rattle.js_syntax.proofs.Truth.{first_of_both, second_of_both, both}

-- ---- rows of fields

pub none_there : (a : Forest) → Stand (these []) a → is_nothing a ≡ true
none_there a h = ap is_nothing (ends a h)

one_there : (c : Class) (a : Forest) → Stand (these (one c ∷ [])) a → is_single a ≡ true
one_there c nothing h = absurd h
one_there c (absent r) h = absurd h.0
one_there c (node k n a nothing) h = refl
one_there c (node k n a (absent r)) h = absurd h.1.0
one_there c (node k n a (node j m b r)) h = absurd h.1.0

field_there : (c : Class) (a : Forest) → Stand (these (maybe_one c ∷ [])) a → is_field a ≡ true
field_there c nothing h = absurd h
field_there c (absent nothing) h = refl
field_there c (absent (absent r)) h = absurd h.1.0
field_there c (absent (node k n a r)) h = absurd h.1.0
field_there c (node k n a nothing) h = refl
field_there c (node k n a (absent r)) h = absurd h.1.0
field_there c (node k n a (node j m b r)) h = absurd h.1.0

-- ---- names

row_leaf : (r : Row) (vs : Values (fields_of r)) (private : Bool) (a : Forest) → Stand (these (places private (fields_of r) vs)) a → is_leaf (kind_in r vs) a ≡ true
row_leaf a_binding_name vs private a h = none_there a h
row_leaf r vs private a h = refl

leaf_of : (c : Class) (k : Kind) (a : Forest) → IsOf k a (λ p. Stand p a) c → is_leaf k a ≡ true
leaf_of c k a of = ap (λ x. is_leaf x a) of.4 ∙ row_leaf of.0 of.1 (has is_private a) a of.5

-- ---- declarators

row_declarator : (r : Row) (vs : Values (fields_of r)) (private : Bool) (a : Forest) → stands declarator_item (type_of r) ≡ Some (first_of r) → Stand (these (places private (fields_of r) vs)) a → is_declarator (kind_in r vs) a ≡ true
row_declarator a_variable_declarator vs private nothing is h = absurd h
row_declarator a_variable_declarator vs private (absent r) is h = absurd h.0
row_declarator a_variable_declarator vs private (node k n a value) is h = both (is_leaf k a) (is_field value) (leaf_of binding k a h.0) (field_there expression value h.1)
row_declarator r vs private a is h = absurd cc

declarator_of : (k : Kind) (a : Forest) → IsOf k a (λ p. Stand p a) declarator_item → is_declarator k a ≡ true
declarator_of k a of = ap (λ x. is_declarator x a) of.4 ∙ row_declarator of.0 of.1 (has is_private a) a of.2 of.5

all_declarators : (t : Forest) → Stand (all declarator_item) t → are_declarators t ≡ true
all_declarators nothing h = refl
all_declarators (absent r) h = absurd h.0
all_declarators (node k n a r) h = both (is_declarator k a) (are_declarators r) (declarator_of k a h.0) (all_declarators r h.1)

some_declarators : (how : VariableKind) (k : Kind) (n : Note) (b : Forest) → k ≡ declarators → Stand (all declarator_item) b → is_filled (variable_declaration how) (node k n b nothing) ≡ true → has_declarators (node k n b nothing) ≡ true
some_declarators how k n nothing is h full = absurd cc
some_declarators how k n (absent r) is h full = absurd h.0
some_declarators how k n (node j m a r) is h full =
    ap (λ x. has_declarators (node x n (node j m a r) nothing)) is ∙ both (is_declarator j a) (are_declarators r) (declarator_of j a h.0) (all_declarators r h.1)

declarators_there : (how : VariableKind) (a : Forest) → Stand (these (list declarators declarator_item ∷ [])) a → is_filled (variable_declaration how) a ≡ true → has_declarators a ≡ true
declarators_there how nothing h full = absurd h
declarators_there how (absent r) h full = absurd h.0
declarators_there how (node k n a nothing) h full = some_declarators how k n a h.0.0 h.0.1 full
declarators_there how (node k n a (absent r)) h full = absurd h.1.0
declarators_there how (node k n a (node j m b r)) h full = absurd h.1.0

-- ---- a node

name_first : (c : Class) (ps : List Place) (a : Forest) → Stand (these (one c ∷ ps)) a → begins_with_leaf a ≡ true
name_first c ps nothing h = absurd h
name_first c ps (absent r) h = absurd h.0
name_first c ps (node k n a r) h = leaf_of c k a h.0

maybe_name_first : (c : Class) (ps : List Place) (a : Forest) → Stand (these (maybe_one c ∷ ps)) a → begins_with_leaf a ≡ true
maybe_name_first c ps nothing h = absurd h
maybe_name_first c ps (absent r) h = refl
maybe_name_first c ps (node k n a r) h = leaf_of c k a h.0

row_arranged : (r : Row) (vs : Values (fields_of r)) (private : Bool) (a : Forest) → is_filled (kind_in r vs) a ≡ true → Stand (these (places private (fields_of r) vs)) a → is_arranged_at (kind_in r vs) a ≡ true
row_arranged an_empty_statement vs private a full h = none_there a h
row_arranged an_expression_statement vs private a full h = one_there expression a h
row_arranged a_function_declaration vs private a full h = name_first declared_name _ a h
row_arranged a_default_function vs private a full h = maybe_name_first declared_name _ a h
row_arranged a_variable_declaration vs private a full h = declarators_there vs.0 a h full
row_arranged r vs private a full h = refl

list_arranged : (kind : Kind) (a : Forest) → is_list_kind kind ≡ true → is_arranged_at kind a ≡ true
list_arranged empty_statement a h = absurd cc
list_arranged expression_statement a h = absurd cc
list_arranged (function how pure) a h = absurd cc
list_arranged (variable_declaration how) a h = absurd cc
list_arranged kind a h = refl

-- ---- trees

shown : IsShown are_filled is_arranged_at is_arranged
shown = record {
  ends = refl;
  passes_none = λ r h. h;
  passes_node = λ k n a r h. h;
  given_behind_none = λ r h. h;
  given_below = λ k n a r h. first_of_both (are_filled a) (are_filled r) (second_of_both (is_filled k a) (are_filled a && are_filled r) h);
  given_behind = λ k n a r h. second_of_both (are_filled a) (are_filled r) (second_of_both (is_filled k a) (are_filled a && are_filled r) h);
  rows = λ r vs private n a rest full chosen st. row_arranged r vs private a (first_of_both (is_filled (kind_in r vs) a) (are_filled a && are_filled rest) full) st;
  lists = list_arranged;
  holes = λ a st. refl;
}

pub fits_arranged : (t : Forest) → Fits root t → IsWellFormed t → is_arranged t ≡ true
fits_arranged t fits whole = fits_everywhere are_filled is_arranged_at is_arranged shown t fits (whole_filled t whole)
