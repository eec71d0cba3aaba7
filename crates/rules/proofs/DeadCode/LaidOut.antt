-- In a tree that fits the table of node types the parts of statements stand where they are looked for.
use Rattle.std.proofs.Common.{◌≡◌, ◌∙◌, List, [], ◌∷◌, Bool, true, false, ◌&&◌, Some, refl, ap}
use Rattle.std.proofs.lemmas.Bool.{and_parts}
use Rattle.js_syntax.specs.Class.{Class, root, declarator_item, declared_name, binding, expression}
use Rattle.js_syntax.specs.declared.node_kind.NodeKind.{NodeKind as Kind}
use Rattle.js_syntax.specs.declared.node_kind.NodeKind.TheVariants.{EmptyStatement as empty_statement, ExpressionStatement as expression_statement, Function as function, VariableDeclaration as variable_declaration, Declarators as declarators, PropertyDefinition as property_definition, SwitchStatement as switch_statement, WithStatement as with_statement}
use Rattle.js_syntax.specs.declared.kind.FunctionKind.TheVariants as function_kind
use Rattle.js_syntax.specs.Hint.{has, is_private}
use Rattle.js_syntax.specs.Node.{Note, Forest, nothing, node, absent}
use Rattle.js_syntax.specs.Table.{Row, an_expression_statement, an_empty_statement, a_function_declaration, a_default_function, a_variable_declaration, a_variable_declarator, a_binding_name, a_property_definition, a_switch_statement, a_with_statement, fields_of, type_of, stands}
use Rattle.json_shape.specs.Shape.{Values, kind_in, first_of, Place, one, maybe_one, list, places, these, all, IsOf, Stand, Fits}
use Rattle.json_shape.proofs.Choice.{is_list_kind}
use Rattle.steps.specs.Allowed.Arranged.{is_nothing, is_single, is_field, is_leaf, begins_with_leaf, is_declarator, are_declarators}
use Rattle.steps.proofs.Fit.Arranged.{none_there}
use Rattle.steps.proofs.Fit.Everywhere.{IsShown, any_tree, fits_everywhere}
use Rattle.js_syntax.proofs.Truth.{both}

abbrev pub has_list : Forest → Bool
has_list (node declarators n ds nothing) = are_declarators ds
has_list t = false

-- two places and no more
abbrev pub is_pair : Forest → Bool
is_pair (node k n a (node j m b nothing)) = true
is_pair (node k n a (absent nothing)) = true
is_pair (absent (node j m b nothing)) = true
is_pair (absent (absent nothing)) = true
is_pair t = false

abbrev pub is_laid_at : Kind → (below : Forest) → Bool
is_laid_at empty_statement below = is_nothing below
is_laid_at expression_statement below = is_single below
is_laid_at (function function_kind.Declaration pure) below = begins_with_leaf below
is_laid_at (variable_declaration how) below = has_list below
is_laid_at (property_definition is_static key) below = is_pair below
is_laid_at switch_statement below = is_pair below
is_laid_at with_statement below = is_pair below
is_laid_at k below = true

abbrev pub is_laid : Forest → Bool
is_laid nothing = true
is_laid (absent rest) = is_laid rest
is_laid (node k n below rest) = is_laid_at k below && (is_laid below && is_laid rest)

-- ---- rows of fields

one_there : (c : Class) (a : Forest) → Stand (these (one c ∷ [])) a → is_single a ≡ true
one_there c nothing h = absurd h
one_there c (absent r) h = absurd h.0
one_there c (node k n a nothing) h = refl
one_there c (node k n a (absent r)) h = absurd h.1.0
one_there c (node k n a (node j m b r)) h = absurd h.1.0

field_there : (c : Class) (a : Forest) → Stand (these (maybe_one c ∷ [])) a → is_field a ≡ true
field_there c nothing h = absurd h
field_there c (absent nothing) h = refl
field_there c (absent (absent r)) h = absurd h.1.0
field_there c (absent (node k n a r)) h = absurd h.1.0
field_there c (node k n a nothing) h = refl
field_there c (node k n a (absent r)) h = absurd h.1.0
field_there c (node k n a (node j m b r)) h = absurd h.1.0

pair_there : (p q : Place) (a : Forest) → Stand (these (p ∷ q ∷ [])) a → is_pair a ≡ true
pair_there p q nothing h = absurd h
pair_there p q (absent nothing) h = absurd h.1
pair_there p q (node k n a nothing) h = absurd h.1
pair_there p q (absent (absent nothing)) h = refl
pair_there p q (absent (node j m b nothing)) h = refl
pair_there p q (node k n a (absent nothing)) h = refl
pair_there p q (node k n a (node j m b nothing)) h = refl
pair_there p q (absent (absent (absent r))) h = absurd h.1.1.0
pair_there p q (absent (absent (node i l c r))) h = absurd h.1.1.0
pair_there p q (absent (node j m b (absent r))) h = absurd h.1.1.0
pair_there p q (absent (node j m b (node i l c r))) h = absurd h.1.1.0
pair_there p q (node k n a (absent (absent r))) h = absurd h.1.1.0
pair_there p q (node k n a (absent (node i l c r))) h = absurd h.1.1.0
pair_there p q (node k n a (node j m b (absent r))) h = absurd h.1.1.0
pair_there p q (node k n a (node j m b (node i l c r))) h = absurd h.1.1.0

-- ---- names

row_leaf : (r : Row) (vs : Values (fields_of r)) (private : Bool) (a : Forest) → Stand (these (places private (fields_of r) vs)) a → is_leaf (kind_in r vs) a ≡ true
row_leaf a_binding_name vs private a h = none_there a h
row_leaf r vs private a h = refl

leaf_of : (c : Class) (k : Kind) (a : Forest) → IsOf k a (λ p. Stand p a) c → is_leaf k a ≡ true
leaf_of c k a of = ap (λ x. is_leaf x a) of.4 ∙ row_leaf of.0 of.1 (has is_private a) a of.5

-- ---- declarators

row_declarator : (r : Row) (vs : Values (fields_of r)) (private : Bool) (a : Forest) → stands declarator_item (type_of r) ≡ Some (first_of r) → Stand (these (places private (fields_of r) vs)) a → is_declarator (kind_in r vs) a ≡ true
row_declarator a_variable_declarator vs private nothing is h = absurd h
row_declarator a_variable_declarator vs private (absent r) is h = absurd h.0
row_declarator a_variable_declarator vs private (node k n a value) is h = both (is_leaf k a) (is_field value) (leaf_of binding k a h.0) (field_there expression value h.1)
row_declarator r vs private a is h = absurd cc

declarator_of : (k : Kind) (a : Forest) → IsOf k a (λ p. Stand p a) declarator_item → is_declarator k a ≡ true
declarator_of k a of = ap (λ x. is_declarator x a) of.4 ∙ row_declarator of.0 of.1 (has is_private a) a of.2 of.5

all_declarators : (t : Forest) → Stand (all declarator_item) t → are_declarators t ≡ true
all_declarators nothing h = refl
all_declarators (absent r) h = absurd h.0
all_declarators (node k n a r) h = both (is_declarator k a) (are_declarators r) (declarator_of k a h.0) (all_declarators r h.1)

list_there : (a : Forest) → Stand (these (list declarators declarator_item ∷ [])) a → has_list a ≡ true
list_there nothing h = absurd h
list_there (absent r) h = absurd h.0
list_there (node k n a nothing) h = ap (λ x. has_list (node x n a nothing)) h.0.0 ∙ all_declarators a h.0.1
list_there (node k n a (absent r)) h = absurd h.1.0
list_there (node k n a (node j m b r)) h = absurd h.1.0

-- ---- a node

name_first : (c : Class) (ps : List Place) (a : Forest) → Stand (these (one c ∷ ps)) a → begins_with_leaf a ≡ true
name_first c ps nothing h = absurd h
name_first c ps (absent r) h = absurd h.0
name_first c ps (node k n a r) h = leaf_of c k a h.0

maybe_name_first : (c : Class) (ps : List Place) (a : Forest) → Stand (these (maybe_one c ∷ ps)) a → begins_with_leaf a ≡ true
maybe_name_first c ps nothing h = absurd h
maybe_name_first c ps (absent r) h = refl
maybe_name_first c ps (node k n a r) h = leaf_of c k a h.0

row_laid : (r : Row) (vs : Values (fields_of r)) (private : Bool) (a : Forest) → Stand (these (places private (fields_of r) vs)) a → is_laid_at (kind_in r vs) a ≡ true
row_laid an_empty_statement vs private a h = none_there a h
row_laid an_expression_statement vs private a h = one_there expression a h
row_laid a_function_declaration vs private a h = name_first declared_name _ a h
row_laid a_default_function vs private a h = maybe_name_first declared_name _ a h
row_laid a_variable_declaration vs private a h = list_there a h
row_laid a_property_definition vs private a h = pair_there _ _ a h
row_laid a_switch_statement vs private a h = pair_there _ _ a h
row_laid a_with_statement vs private a h = pair_there _ _ a h
row_laid r vs private a h = refl

list_laid : (kind : Kind) (a : Forest) → is_list_kind kind ≡ true → is_laid_at kind a ≡ true
list_laid empty_statement a h = absurd cc
list_laid expression_statement a h = absurd cc
list_laid (function how pure) a h = absurd cc
list_laid (variable_declaration how) a h = absurd cc
list_laid (property_definition is_static key) a h = absurd cc
list_laid switch_statement a h = absurd cc
list_laid with_statement a h = absurd cc
list_laid kind a h = refl

-- ---- trees

shown : IsShown any_tree is_laid_at is_laid
shown = record {
  ends = refl;
  passes_none = λ r h. h;
  passes_node = λ k n a r h. h;
  given_behind_none = λ r h. h;
  given_below = λ k n a r h. h;
  given_behind = λ k n a r h. h;
  rows = λ r vs private n a rest g chosen st. row_laid r vs private a st;
  lists = list_laid;
  holes = λ a st. refl;
}

pub fits_laid : (t : Forest) → Fits root t → is_laid t ≡ true
fits_laid t fits = fits_everywhere any_tree is_laid_at is_laid shown t fits refl

-- ---- a node of such a tree

module _ (k : Kind) (n : Note) (below rest : Forest) (h : is_laid (node k n below rest) ≡ true) where
  pub laid_here : is_laid_at k below ≡ true
  laid_here = (and_parts (is_laid_at k below) (is_laid below && is_laid rest) h).0

  pub laid_below : is_laid below ≡ true
  laid_below = (and_parts (is_laid below) (is_laid rest) (and_parts (is_laid_at k below) (is_laid below && is_laid rest) h).1).0

  pub laid_rest : is_laid rest ≡ true
  laid_rest = (and_parts (is_laid below) (is_laid rest) (and_parts (is_laid_at k below) (is_laid below && is_laid rest) h).1).1
