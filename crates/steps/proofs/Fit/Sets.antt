-- Where no name is declared around it, and where no `var`: sets of classes and of rows that are closed, but for what a node's kind shuts
-- off.
use Rattle.std.proofs.Common.{◌≡◌, ℕ, Bool, true, false, not, ◌&&◌, ◌||◌, refl}
use Rattle.js_syntax.specs.Class.{Class, root, declarator_item, declared_name, binding, binding_value, binding_element, binding_item, import_item}
use Rattle.js_syntax.specs.declared.node_kind.NodeKind.{NodeKind as Kind}
use Rattle.js_syntax.specs.declared.node_kind.NodeKind.TheVariants.{BindingName as binding_name, VariableDeclaration as variable_declaration}
use Rattle.js_syntax.specs.Node.{Forest}
use Rattle.js_syntax.specs.Table.{Row, a_program, a_block_statement, a_function_body, a_with_statement, a_labeled_statement, an_if_statement, a_switch_statement, a_switch_case, a_try_statement, a_catch_clause, a_while_statement, a_do_while_statement, a_for_statement, a_for_in_statement, a_for_of_statement, a_variable_declaration, a_variable_declarator, a_binding_name, a_binding_rest, a_binding_object, a_binding_array, a_binding_property, a_binding_default, an_import_specifier, an_import_default_specifier, an_import_namespace_specifier, an_export_list, an_export_declaration, fields_of}
use Rattle.json_shape.specs.Shape.{Values, kind_in, first_of, places, these, Stand}
use Rattle.json_shape.proofs.Choice.{is_list_kind}
use Rattle.steps.proofs.Fit.CoreRows.{takes_such, if_so, fields_pass}
use Rattle.steps.proofs.Fit.Calm.{is_calm_class}
use Rattle.steps.specs.Fit.Enclosed.{is_binding, is_var, inherits, passes}
use Rattle.steps.proofs.Fit.Shut.{shut, takes_marked, row_passing, shut_as_planned}
use Rattle.steps.proofs.Fit.CoreCalm.{rows_of}

-- ---- a set is closed

abbrev IsClosed : (of_set : Class → Bool) → (in_set : Row → Bool) → Type 0
IsClosed of_set in_set = (c : Class) → (not (of_set c) || takes_such in_set c) ≡ true

abbrev HasOthers : (in_set : Row → Bool) → Type 0
HasOthers in_set = (r : Row) → (not (in_set (first_of r)) || in_set r) ≡ true

abbrev keeps_it : (bad : Kind → Bool) → (lets : Kind → (at : ℕ) → Bool) → (of_set : Class → Bool) → Row → Kind → Bool
keeps_it bad lets of_set r k = not (bad k) && fields_pass (takes_marked of_set (lets k)) 0 (fields_of r)

-- ---- names

abbrev pub is_nameless : Class → Bool
is_nameless declarator_item = false
is_nameless declared_name = false
is_nameless binding = false
is_nameless binding_value = false
is_nameless binding_element = false
is_nameless binding_item = false
is_nameless import_item = false
is_nameless c = true

abbrev in_nameless : Row → Bool
in_nameless a_variable_declarator = false
in_nameless a_binding_name = false
in_nameless a_binding_rest = false
in_nameless a_binding_object = false
in_nameless a_binding_array = false
in_nameless a_binding_property = false
in_nameless a_binding_default = false
in_nameless an_import_specifier = false
in_nameless an_import_default_specifier = false
in_nameless an_import_namespace_specifier = false
in_nameless r = true

nameless_closed : IsClosed is_nameless in_nameless
nameless_closed root = refl
nameless_closed c = refl

nameless_others : HasOthers in_nameless
nameless_others a_program = refl
nameless_others r = refl

nameless_keep : (r : Row) (vs : Values (fields_of r)) → (not (in_nameless r) || keeps_it is_binding inherits is_nameless r (kind_in r vs)) ≡ true
nameless_keep a_program vs = refl
nameless_keep r vs = refl

nameless_lists : (kind : Kind) → is_list_kind kind ≡ true → not (is_binding kind) ≡ true
nameless_lists (binding_name x) h = absurd cc
nameless_lists kind h = refl

nameless_fields : (r : Row) (vs : Values (fields_of r)) → in_nameless r ≡ true → keeps_it is_binding inherits is_nameless r (kind_in r vs) ≡ true
nameless_fields r vs h = if_so (in_nameless r) (keeps_it is_binding inherits is_nameless r (kind_in r vs)) (nameless_keep r vs) h

-- what lies below a row whose fields declare no name at the places that are marked
pub row_names : (marks : ℕ → Bool) (r : Row) (vs : Values (fields_of r)) (private : Bool) (a : Forest) → fields_pass (takes_marked is_nameless marks) 0 (fields_of r) ≡ true → Stand (these (places private (fields_of r) vs)) a → shut is_binding inherits marks 0 a ≡ true
row_names marks r vs private a h st =
    shut_as_planned is_binding inherits is_nameless in_nameless nameless_lists refl (rows_of is_nameless in_nameless nameless_closed nameless_others) nameless_fields
    a marks 0 (these (places private (fields_of r) vs)) (row_passing is_nameless marks r vs private h) st

-- ---- variables

abbrev in_calm : Row → Bool
in_calm a_block_statement = false
in_calm a_function_body = false
in_calm a_with_statement = false
in_calm a_labeled_statement = false
in_calm an_if_statement = false
in_calm a_switch_statement = false
in_calm a_switch_case = false
in_calm a_try_statement = false
in_calm a_catch_clause = false
in_calm a_while_statement = false
in_calm a_do_while_statement = false
in_calm a_for_statement = false
in_calm a_for_in_statement = false
in_calm a_for_of_statement = false
in_calm a_variable_declaration = false
in_calm an_export_list = false
in_calm an_export_declaration = false
in_calm r = true

calm_closed : IsClosed is_calm_class in_calm
calm_closed root = refl
calm_closed c = refl

calm_others : HasOthers in_calm
calm_others a_program = refl
calm_others r = refl

calm_keep : (r : Row) (vs : Values (fields_of r)) → (not (in_calm r) || keeps_it is_var passes is_calm_class r (kind_in r vs)) ≡ true
calm_keep a_program vs = refl
calm_keep r vs = refl

calm_lists : (kind : Kind) → is_list_kind kind ≡ true → not (is_var kind) ≡ true
calm_lists (variable_declaration how) h = absurd cc
calm_lists kind h = refl

calm_fields : (r : Row) (vs : Values (fields_of r)) → in_calm r ≡ true → keeps_it is_var passes is_calm_class r (kind_in r vs) ≡ true
calm_fields r vs h = if_so (in_calm r) (keeps_it is_var passes is_calm_class r (kind_in r vs)) (calm_keep r vs) h

-- what lies below a row whose fields take no statement at the places that are marked
pub row_vars : (marks : ℕ → Bool) (r : Row) (vs : Values (fields_of r)) (private : Bool) (a : Forest) → fields_pass (takes_marked is_calm_class marks) 0 (fields_of r) ≡ true → Stand (these (places private (fields_of r) vs)) a → shut is_var passes marks 0 a ≡ true
row_vars marks r vs private a h st =
    shut_as_planned is_var passes is_calm_class in_calm calm_lists refl (rows_of is_calm_class in_calm calm_closed calm_others) calm_fields
    a marks 0 (these (places private (fields_of r) vs)) (row_passing is_calm_class marks r vs private h) st
