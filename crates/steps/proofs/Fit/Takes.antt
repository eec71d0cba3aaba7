-- What each place of the table takes stands where it may: by the kind above it, and by what may stand at its place.
use Rattle.std.proofs.Common.{◌≡◌, ℕ, suc, [], ◌∷◌, Bool, true, false, not, ◌&&◌, ◌||◌, Some, refl, ap, ◌∙◌}
use Rattle.js_syntax.specs.Class.{Class, a_prologue, expression, private_key}
use Rattle.js_syntax.specs.declared.node_kind.NodeKind.{NodeKind as Kind}
use Rattle.js_syntax.specs.declared.kind.VariableKind.{VariableKind}
use Rattle.js_syntax.specs.declared.kind.VariableKind.TheVariants as variable
use Rattle.js_syntax.specs.Facts.{is_core}
use Rattle.js_syntax.specs.Node.{Forest}
use Rattle.js_syntax.specs.Table.{Row, a_program, a_function_body, a_switch_case, a_with_statement, a_for_in_statement, a_for_of_statement, a_function_declaration, a_default_function, a_function_expression, an_arrow_function, a_variable_declaration, a_variable_declarator, a_class_declaration, a_default_class, a_class_expression, a_property_definition, a_static_block, a_binding_name, an_import_declaration, an_import_specifier, an_import_default_specifier, an_import_namespace_specifier, an_export_list, an_export_declaration, an_export_from, an_export_default_declaration, fields_of, type_of, stands}
use Rattle.form_rules.specs.Context.{Context, inside}
use Rattle.form_rules.specs.Rules.{is_declaration}
use Rattle.steps.specs.KeepRuns.Formed.{is_function, is_cases, is_object, may_hold, heads}
use Rattle.steps.specs.Naming.Placed as placed
use Rattle.steps.specs.Naming.Placed.{fits, sort_of, place_below, has_plain_value}
use Rattle.json_shape.specs.Shape.{Values, kind_in, first_of, Place, one, maybe_one, beyond, key_node, key_apart, list, list_with_holes, body, item_or_hole, item_of_body, Plan, these, all, all_or_holes, all_of_body, first_place, behind, after_body_item, is_directive_kind}
use Rattle.json_shape.proofs.Choice.{is_list_kind}
use Rattle.steps.proofs.Fit.CoreRows.{takes_such, taken, core_row, if_so, core_right, fields_pass, places_pass}
use Rattle.js_syntax.proofs.Truth.{first_of_both, second_of_both}

-- ---- the kind above

abbrev pub holds_row : Kind → Row → Bool
holds_row k a_program = false
holds_row k a_function_body = is_function k
holds_row k a_switch_case = is_cases k
holds_row k a_function_declaration = not (is_object k)
holds_row k a_default_function = not (is_object k)
holds_row k a_function_expression = not (is_object k)
holds_row k an_arrow_function = not (is_object k)
holds_row k r = true

holds_right : (k : Kind) (r : Row) (vs : Values (fields_of r)) → holds_row k (first_of r) ≡ true → may_hold k (kind_in r vs) ≡ true
holds_right k a_program vs h = h
holds_right k r vs h = h

-- ---- the place

abbrev row_fits : placed.Place → (is_alone : Bool) → Row → Bool
row_fits q is_alone a_program = fits q placed.never
row_fits q is_alone a_class_declaration = fits q placed.never
row_fits q is_alone a_default_class = fits q placed.never
row_fits q is_alone a_class_expression = fits q placed.never
row_fits q is_alone a_property_definition = fits q placed.never
row_fits q is_alone a_static_block = fits q placed.never
row_fits q is_alone a_with_statement = fits q placed.never
row_fits q is_alone a_for_in_statement = fits q placed.never
row_fits q is_alone a_for_of_statement = fits q placed.never
row_fits q is_alone a_variable_declaration = fits q placed.plain && (is_alone || fits q placed.a_declaration)
row_fits q is_alone a_function_declaration = is_alone || fits q placed.a_declaration
row_fits q is_alone a_default_function = is_alone || fits q placed.a_declaration
row_fits q is_alone a_binding_name = fits q placed.a_name
row_fits q is_alone a_variable_declarator = fits q placed.a_declarator
row_fits q is_alone an_import_declaration = fits q placed.an_import
row_fits q is_alone an_import_specifier = fits q placed.an_imported
row_fits q is_alone an_import_default_specifier = fits q placed.an_imported
row_fits q is_alone an_import_namespace_specifier = fits q placed.an_imported
row_fits q is_alone a_function_body = fits q placed.a_body
row_fits q is_alone a_switch_case = fits q placed.a_case
row_fits q is_alone an_export_list = fits q placed.an_export
row_fits q is_alone an_export_declaration = fits q placed.an_export
row_fits q is_alone an_export_from = fits q placed.an_export
row_fits q is_alone an_export_default_declaration = fits q placed.an_export
row_fits q is_alone r = fits q placed.plain

not_alone : (is_alone b : Bool) → (is_alone || b) ≡ true → not (is_alone && true) ≡ true → b ≡ true
not_alone true b h g = absurd cc
not_alone false b h g = h

variable_fits : (q : placed.Place) (is_alone : Bool) (how : VariableKind) → (fits q placed.plain && (is_alone || fits q placed.a_declaration)) ≡ true → not (is_alone && is_declaration (Kind.VariableDeclaration how)) ≡ true
    → fits q (sort_of (Kind.VariableDeclaration how)) ≡ true
variable_fits q is_alone variable.Let h g = not_alone is_alone (fits q placed.a_declaration) (second_of_both (fits q placed.plain) (is_alone || fits q placed.a_declaration) h) g
variable_fits q is_alone variable.Const h g = not_alone is_alone (fits q placed.a_declaration) (second_of_both (fits q placed.plain) (is_alone || fits q placed.a_declaration) h) g
variable_fits q is_alone how h g = first_of_both (fits q placed.plain) (is_alone || fits q placed.a_declaration) h

row_right : (q : placed.Place) (is_alone : Bool) (r : Row) (vs : Values (fields_of r)) → row_fits q is_alone (first_of r) ≡ true → not (is_alone && is_declaration (kind_in r vs)) ≡ true → fits q (sort_of (kind_in r vs)) ≡ true
row_right q is_alone a_variable_declaration vs h g = variable_fits q is_alone vs.0 h g
row_right q is_alone a_function_declaration vs h g = not_alone is_alone (fits q placed.a_declaration) h g
row_right q is_alone a_default_function vs h g = not_alone is_alone (fits q placed.a_declaration) h g
row_right q is_alone r vs h g = h

first_core : (r : Row) → (not (core_row r) || core_row (first_of r)) ≡ true
first_core a_program = refl
first_core r = refl

-- ---- both

abbrev pub takes_row : Kind → placed.Place → (is_alone : Bool) → Row → Bool
takes_row k q is_alone r = holds_row k r && (not (core_row r) || row_fits q is_alone r)

abbrev pub takes : Kind → placed.Place → (is_alone : Bool) → Class → Bool
takes k q is_alone c = takes_such (λ r. takes_row k q is_alone r) c

module _ (k : Kind) (q : placed.Place) (is_alone : Bool) (c : Class) (h : takes k q is_alone c ≡ true) (r : Row) (vs : Values (fields_of r)) (is : stands c (type_of r) ≡ Some (first_of r)) where
  row_taken : takes_row k q is_alone (first_of r) ≡ true
  row_taken = taken (λ r. takes_row k q is_alone r) c r h is

  pub is_held : may_hold k (kind_in r vs) ≡ true
  is_held = holds_right k r vs (first_of_both (holds_row k (first_of r)) (not (core_row (first_of r)) || row_fits q is_alone (first_of r)) row_taken)

  pub is_fit : is_core (kind_in r vs) ≡ true → not (is_alone && is_declaration (kind_in r vs)) ≡ true → fits q (sort_of (kind_in r vs)) ≡ true
  is_fit core g =
      row_right q is_alone r vs
      (if_so (core_row (first_of r)) (row_fits q is_alone (first_of r)) (second_of_both (holds_row k (first_of r)) (not (core_row (first_of r)) || row_fits q is_alone (first_of r)) row_taken)
      (if_so (core_row r) (core_row (first_of r)) (first_core r) (core_right r vs core))) g

-- ---- places and plans

abbrev pub takes_list : Kind → placed.Place → Kind → Bool
takes_list k q kind = is_list_kind kind && (may_hold k kind && fits q (sort_of kind))

abbrev pub suits : Kind → placed.Place → (is_alone : Bool) → Place → Bool
suits k q is_alone (one c) = takes k q is_alone c
suits k q is_alone (maybe_one c) = takes k q is_alone c
suits k q is_alone beyond = true
suits k q is_alone (key_apart may) = true
suits k q is_alone (key_node keys private) = takes k q is_alone private_key && takes k q is_alone expression
suits k q is_alone (list kind c) = takes_list k q kind && takes kind (place_below q kind 0) false c
suits k q is_alone (list_with_holes kind c) = takes_list k q kind && takes kind (place_below q kind 0) false c
suits k q is_alone (body c) = takes_list k q Kind.Statements && (takes Kind.Statements (place_below q Kind.Statements 0) false c && takes Kind.Statements (place_below q Kind.Statements 0) false a_prologue)
suits k q is_alone (item_or_hole c) = takes k q is_alone c
suits k q is_alone (item_of_body c) = takes k q is_alone c && takes k q is_alone a_prologue

module _ (k : Kind) (q : ℕ → placed.Place) (context : ℕ → Context) where
  abbrev pub suits_at : ℕ → Place → Bool
  suits_at at p = suits k (q at) (context at).is_alone p

  abbrev pub Suits : ℕ → Plan → Type 0
  Suits at (these ps) = places_pass (λ i p. suits_at i p) at ps ≡ true
  Suits at (all c) = (i : ℕ) → takes k (q i) (context i).is_alone c ≡ true
  Suits at (all_or_holes c) = (i : ℕ) → takes k (q i) (context i).is_alone c ≡ true
  Suits at (all_of_body c) = (i : ℕ) → (takes k (q i) (context i).is_alone c && takes k (q i) (context i).is_alone a_prologue) ≡ true

  pub first_suits : (at : ℕ) (plan : Plan) → Suits at plan → suits_at at (first_place plan) ≡ true
  first_suits at (these []) h = refl
  first_suits at (these (p ∷ ps)) h = first_of_both (suits_at at p) (places_pass (λ i p. suits_at i p) (suc at) ps) h
  first_suits at (all c) h = h at
  first_suits at (all_or_holes c) h = h at
  first_suits at (all_of_body c) h = h at

  after_suits : (at : ℕ) (c : Class) (b : Bool) → Suits at (all_of_body c) → Suits (suc at) (after_body_item c b)
  after_suits at c true h = h
  after_suits at c false h = λ i. first_of_both (takes k (q i) (context i).is_alone c) (takes k (q i) (context i).is_alone a_prologue) (h i)

  pub behind_suits : (at : ℕ) (plan : Plan) (l : Kind) → Suits at plan → Suits (suc at) (behind plan l)
  behind_suits at (these []) l h = refl
  behind_suits at (these (p ∷ ps)) l h = second_of_both (suits_at at p) (places_pass (λ i p. suits_at i p) (suc at) ps) h
  behind_suits at (all c) l h = h
  behind_suits at (all_or_holes c) l h = h
  behind_suits at (all_of_body c) l h = after_suits at c (is_directive_kind l) h

-- ---- what a row of the table makes has its fields where they suit

row_suits : (q : placed.Place) (c : Context) (a : Forest) (r : Row) (vs : Values (fields_of r))
    → (not (core_row r) || fields_pass (λ i p. suits_at (kind_in r vs) (place_below q (kind_in r vs)) (inside c (kind_in r vs) a) i p) 0 (fields_of r)) ≡ true
row_suits q c a a_program vs = refl
row_suits q c a r vs = refl

pub made_suits : (q : placed.Place) (c : Context) (a : Forest) (r : Row) (vs : Values (fields_of r)) → is_core (kind_in r vs) ≡ true
    → fields_pass (λ i p. suits_at (kind_in r vs) (place_below q (kind_in r vs)) (inside c (kind_in r vs) a) i p) 0 (fields_of r) ≡ true
made_suits q c a r vs core =
    if_so (core_row r) (fields_pass (λ i p. suits_at (kind_in r vs) (place_below q (kind_in r vs)) (inside c (kind_in r vs) a) i p) 0 (fields_of r)) (row_suits q c a r vs) (core_right r vs core)

-- ---- lists

pub list_place : (q : placed.Place) (kind : Kind) (i : ℕ) → is_list_kind kind ≡ true → place_below q kind i ≡ place_below q kind 0
list_place q Kind.VariableDeclarator i h = absurd cc
list_place q (Kind.Function f pure) i h = absurd cc
list_place q Kind.CatchClause i h = absurd cc
list_place q Kind.ForStatement i h = absurd cc
list_place q Kind.SwitchStatement i h = absurd cc
list_place q (Kind.ExportNamedDeclaration source) i h = absurd cc
list_place q (Kind.ImportSpecifier name) i h = absurd cc
list_place q Kind.ImportDefaultSpecifier i h = absurd cc
list_place q Kind.ImportNamespaceSpecifier i h = absurd cc
list_place q kind i h = refl

pub list_not_alone : (c : Context) (a : Forest) (kind : Kind) (i : ℕ) → is_list_kind kind ≡ true → (inside c kind a i).is_alone ≡ false
list_not_alone c a (Kind.Function f pure) i h = absurd cc
list_not_alone c a (Kind.MethodDefinition how is_static key) i h = absurd cc
list_not_alone c a (Kind.PropertyDefinition is_static key) i h = absurd cc
list_not_alone c a (Kind.Property how is_one key) i h = absurd cc
list_not_alone c a (Kind.LabeledStatement label) i h = absurd cc
list_not_alone c a Kind.IfStatement i h = absurd cc
list_not_alone c a Kind.WithStatement i h = absurd cc
list_not_alone c a Kind.WhileStatement i h = absurd cc
list_not_alone c a Kind.DoWhileStatement i h = absurd cc
list_not_alone c a Kind.ForStatement i h = absurd cc
list_not_alone c a Kind.ForInStatement i h = absurd cc
list_not_alone c a Kind.ForOfStatement i h = absurd cc
list_not_alone c a Kind.SwitchStatement i h = absurd cc
list_not_alone c a kind i h = refl

-- they declare nothing themselves
list_such : (a : Forest) (kind : Kind) → (not (is_list_kind kind) || (heads kind a && has_plain_value kind a)) ≡ true
list_such a Kind.Statements = refl
list_such a kind = refl

pub list_heads : (a : Forest) (kind : Kind) → is_list_kind kind ≡ true → heads kind a ≡ true
list_heads a kind h = first_of_both (heads kind a) (has_plain_value kind a) (if_so (is_list_kind kind) (heads kind a && has_plain_value kind a) (list_such a kind) h)

pub list_values : (a : Forest) (kind : Kind) → is_list_kind kind ≡ true → has_plain_value kind a ≡ true
list_values a kind h = second_of_both (heads kind a) (has_plain_value kind a) (if_so (is_list_kind kind) (heads kind a && has_plain_value kind a) (list_such a kind) h)

-- all nodes of a list stand alike
pub list_takes : (q : placed.Place) (c : Context) (a : Forest) (kind : Kind) (l : Class) (i : ℕ) → is_list_kind kind ≡ true → takes kind (place_below q kind 0) false l ≡ true → takes kind (place_below q kind i) (inside c kind a i).is_alone l ≡ true
list_takes q c a kind l i is h =
    ap (λ p. takes kind p (inside c kind a i).is_alone l) (list_place q kind i is) ∙ ap (λ b. takes kind (place_below q kind 0) b l) (list_not_alone c a kind i is) ∙ h
