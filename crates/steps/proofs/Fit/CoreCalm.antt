-- Where names are declared there are no statements, and expressions declare no names, but inside of functions.
use Rattle.std.proofs.Common.{◌≡◌, List, [], ◌∷◌, Bool, true, false, not, ◌&&◌, ◌||◌, Some, refl}
use Rattle.js_syntax.specs.Class.{Class, root, declarator_item, for_init, declaration, default_export, method_value, declared_name, read_name, private_key, expression, expression_or_private, callee, argument, object_item, binding, binding_value, binding_element, simple_target, target, import_item, export_item, foreign_item, no_node}
use Rattle.js_syntax.specs.declared.node_kind.NodeKind.{NodeKind as Kind}
use Rattle.js_syntax.specs.Facts.{is_core}
use Rattle.js_syntax.specs.declared.kind.VariableKind.TheVariants as variable
use Rattle.js_syntax.specs.Node.{Forest, nothing, node, absent}
use Rattle.js_syntax.specs.Table.{Row, a_program, a_function_declaration, a_default_function, a_function_expression, an_arrow_function, a_variable_declaration, a_variable_declarator, a_class_declaration, a_default_class, a_class_expression, a_binding_name, a_reference_name, a_target_name, a_private_name, a_literal, a_reg_exp, a_this_expression, a_super, an_array_expression, an_object_expression, a_property, a_method_property, a_sequence_expression, a_unary_expression, an_update_expression, a_binary_expression, an_in_expression, a_logical_expression, an_assignment_expression, a_compound_assignment, a_conditional_expression, a_call_expression, a_new_expression, a_member_expression, a_chain_expression, a_parenthesized_expression, a_parenthesized_target, a_template_literal, a_tagged_template_expression, a_spread_element, a_binding_rest, a_binding_object, a_target_object, a_binding_array, a_target_array, a_binding_default, a_new_target, an_import_meta, an_import_expression, an_import_specifier, an_import_default_specifier, an_import_namespace_specifier, an_export_specifier, a_foreign_specifier, fields_of, type_of, stands}
use Rattle.js_meaning.specs.Value.{Text}
use Rattle.js_meaning.specs.Scope as scope
use Rattle.js_meaning.specs.Scope.{names_of, bound_names}
use Rattle.steps.specs.Steps.{all_core}
use Rattle.steps.specs.KeepRuns.Formed.{is_function, is_plain, still, calm_at, calm}
use Rattle.json_shape.specs.Shape.{Values, kind_in, first_of, Place, Plan, these, Stand}
use Rattle.steps.proofs.KeepForm.Rules.{both_empty}
use Rattle.steps.proofs.Fit.CoreRows.{takes_such, taken, core_row, if_so, core_right, fields_pass}
use Rattle.steps.proofs.Fit.Held.{held, place_held, plan_held, held_as_planned, first_as_planned}
use Rattle.js_syntax.proofs.Truth.{first_of_both, second_of_both, both}

-- ---- sets of classes and of rows

-- expressions, and what they are made of
abbrev pub of_expression : Class → Bool
of_expression method_value = true
of_expression private_key = true
of_expression expression = true
of_expression expression_or_private = true
of_expression callee = true
of_expression argument = true
of_expression object_item = true
of_expression simple_target = true
of_expression target = true
of_expression c = false

abbrev in_expression : Row → Bool
in_expression a_function_expression = true
in_expression an_arrow_function = true
in_expression a_class_expression = true
in_expression a_reference_name = true
in_expression a_target_name = true
in_expression a_private_name = true
in_expression a_literal = true
in_expression a_reg_exp = true
in_expression a_this_expression = true
in_expression a_super = true
in_expression an_array_expression = true
in_expression an_object_expression = true
in_expression a_property = true
in_expression a_method_property = true
in_expression a_sequence_expression = true
in_expression a_unary_expression = true
in_expression an_update_expression = true
in_expression a_binary_expression = true
in_expression an_in_expression = true
in_expression a_logical_expression = true
in_expression an_assignment_expression = true
in_expression a_compound_assignment = true
in_expression a_conditional_expression = true
in_expression a_call_expression = true
in_expression a_new_expression = true
in_expression a_member_expression = true
in_expression a_chain_expression = true
in_expression a_parenthesized_expression = true
in_expression a_parenthesized_target = true
in_expression a_template_literal = true
in_expression a_tagged_template_expression = true
in_expression a_spread_element = true
in_expression a_target_object = true
in_expression a_target_array = true
in_expression a_new_target = true
in_expression an_import_meta = true
in_expression an_import_expression = true
in_expression r = false

-- and what declares names
abbrev pub of_calm : Class → Bool
of_calm declarator_item = true
of_calm for_init = true
of_calm declaration = true
of_calm default_export = true
of_calm declared_name = true
of_calm read_name = true
of_calm binding = true
of_calm import_item = true
of_calm export_item = true
of_calm foreign_item = true
of_calm no_node = true
of_calm c = of_expression c

abbrev in_calm : Row → Bool
in_calm a_function_declaration = true
in_calm a_default_function = true
in_calm a_class_declaration = true
in_calm a_default_class = true
in_calm a_variable_declaration = true
in_calm a_variable_declarator = true
in_calm a_binding_name = true
in_calm a_binding_object = true
in_calm a_binding_array = true
in_calm an_import_specifier = true
in_calm an_import_default_specifier = true
in_calm an_import_namespace_specifier = true
in_calm an_export_specifier = true
in_calm a_foreign_specifier = true
in_calm r = in_expression r

-- names that are declared
abbrev pub of_still : Class → Bool
of_still declared_name = true
of_still binding = true
of_still binding_value = true
of_still binding_element = true
of_still import_item = true
of_still no_node = true
of_still c = false

abbrev in_still : Row → Bool
in_still a_binding_name = true
in_still a_binding_rest = true
in_still a_binding_object = true
in_still a_binding_array = true
in_still a_binding_default = true
in_still an_import_specifier = true
in_still an_import_default_specifier = true
in_still an_import_namespace_specifier = true
in_still r = false

-- ---- a set is closed

abbrev IsClosed : (of_set : Class → Bool) → (in_set : Row → Bool) → Type 0
IsClosed of_set in_set = (c : Class) → (not (of_set c) || takes_such in_set c) ≡ true

abbrev HasOthers : (in_set : Row → Bool) → Type 0
HasOthers in_set = (r : Row) → (not (in_set (first_of r)) || in_set r) ≡ true

pub rows_of : (of_set : Class → Bool) (in_set : Row → Bool) → IsClosed of_set in_set → HasOthers in_set → (c : Class) (r : Row) → of_set c ≡ true → stands c (type_of r) ≡ Some (first_of r) → in_set r ≡ true
rows_of of_set in_set closed also c r h is = if_so (in_set (first_of r)) (in_set r) (also r) (taken in_set c r (if_so (of_set c) (takes_such in_set c) (closed c) h) is)

abbrev keeps_it : (stop good : Kind → Bool) → (of_set : Class → Bool) → (in_set : Row → Bool) → Row → Bool → Bool → Bool
keeps_it stop good of_set in_set r stops goods = not (in_set r && core_row r) || (stops || (goods && fields_pass (λ i p. place_held good of_set p) 0 (fields_of r)))

fields_of_it : (stop good : Kind → Bool) (of_set : Class → Bool) (in_set : Row → Bool) → ((r : Row) (vs : Values (fields_of r)) → keeps_it stop good of_set in_set r (stop (kind_in r vs)) (good (kind_in r vs)) ≡ true)
    → (r : Row) (vs : Values (fields_of r)) → in_set r ≡ true → is_core (kind_in r vs) ≡ true → (stop (kind_in r vs) || (good (kind_in r vs) && fields_pass (λ i p. place_held good of_set p) 0 (fields_of r))) ≡ true
fields_of_it stop good of_set in_set keep r vs h g =
    if_so (in_set r && core_row r) (stop (kind_in r vs) || (good (kind_in r vs) && fields_pass (λ i p. place_held good of_set p) 0 (fields_of r))) (keep r vs) (both (in_set r) (core_row r) h (core_right r vs g))

-- ---- expressions declare no names

abbrev is_nameless : Kind → Bool
is_nameless (Kind.BindingName x) = false
is_nameless k = true

expressions_closed : IsClosed of_expression in_expression
expressions_closed root = refl
expressions_closed c = refl

expressions_others : HasOthers in_expression
expressions_others a_program = refl
expressions_others r = refl

expressions_keep : (r : Row) (vs : Values (fields_of r)) → keeps_it is_function is_nameless of_expression in_expression r (is_function (kind_in r vs)) (is_nameless (kind_in r vs)) ≡ true
expressions_keep a_program vs = refl
expressions_keep r vs = refl

names_below : (k : Kind) (b : Bool) (xs : List Text) → (b ≡ true → xs ≡ []) → (is_function k || (is_nameless k && b)) ≡ true → names_of k xs ≡ []
names_below (Kind.BindingName x) b xs to h = absurd cc
names_below (Kind.VariableDeclaration variable.Let) b xs to h = refl
names_below (Kind.VariableDeclaration variable.Const) b xs to h = refl
names_below (Kind.Function f pure) b xs to h = refl
names_below (Kind.Class c) b xs to h = refl
names_below k b xs to h = to h

no_names : (t : Forest) → held is_function is_nameless t ≡ true → bound_names t ≡ []
no_names nothing h = refl
no_names (absent r) h = no_names r h
no_names (node k n a r) h =
    both_empty (names_of k (bound_names a)) (bound_names r)
    (names_below k (held is_function is_nameless a) (bound_names a) (no_names a) (first_of_both (is_function k || (is_nameless k && held is_function is_nameless a)) (held is_function is_nameless r) h))
    (no_names r (second_of_both (is_function k || (is_nameless k && held is_function is_nameless a)) (held is_function is_nameless r) h))

pub nameless_as_planned : (t : Forest) (plan : Plan) → plan_held is_nameless of_expression plan ≡ true → Stand plan t → all_core t ≡ true → bound_names t ≡ []
nameless_as_planned t plan h st core =
    no_names t (held_as_planned is_function is_nameless of_expression in_expression (rows_of of_expression in_expression expressions_closed expressions_others) (fields_of_it is_function is_nameless of_expression in_expression expressions_keep) t plan h st core)

-- ---- where names are declared there are no statements, but inside of functions

calm_closed : IsClosed of_calm in_calm
calm_closed root = refl
calm_closed c = refl

calm_others : HasOthers in_calm
calm_others a_program = refl
calm_others r = refl

calm_keep : (r : Row) (vs : Values (fields_of r)) → keeps_it is_function is_plain of_calm in_calm r (is_function (kind_in r vs)) (is_plain (kind_in r vs)) ≡ true
calm_keep a_program vs = refl
calm_keep r vs = refl

calm_here : (k : Kind) (b c : Bool) → (b ≡ true → c ≡ true) → (is_function k || (is_plain k && b)) ≡ true → calm_at k c ≡ true
calm_here (Kind.Function f pure) b c to h = refl
calm_here k b c to h = both (is_plain k) c (first_of_both (is_plain k) b h) (to (second_of_both (is_plain k) b h))

is_calm : (t : Forest) → held is_function is_plain t ≡ true → calm t ≡ true
is_calm nothing h = refl
is_calm (absent r) h = is_calm r h
is_calm (node k n a r) h =
    both (calm_at k (calm a)) (calm r)
    (calm_here k (held is_function is_plain a) (calm a) (is_calm a) (first_of_both (is_function k || (is_plain k && held is_function is_plain a)) (held is_function is_plain r) h))
    (is_calm r (second_of_both (is_function k || (is_plain k && held is_function is_plain a)) (held is_function is_plain r) h))

pub calm_as_planned : (t : Forest) (plan : Plan) → plan_held is_plain of_calm plan ≡ true → Stand plan t → all_core t ≡ true → calm t ≡ true
calm_as_planned t plan h st core =
    is_calm t (held_as_planned is_function is_plain of_calm in_calm (rows_of of_calm in_calm calm_closed calm_others) (fields_of_it is_function is_plain of_calm in_calm calm_keep) t plan h st core)

pub first_is_calm : (p : Place) (ps : List Place) (a : Forest) → place_held is_plain of_calm p ≡ true → Stand (these (p ∷ ps)) a → all_core a ≡ true → calm (scope.first_of a) ≡ true
first_is_calm p ps a h st core =
    is_calm (scope.first_of a) (first_as_planned is_function is_plain of_calm in_calm (rows_of of_calm in_calm calm_closed calm_others) (fields_of_it is_function is_plain of_calm in_calm calm_keep) p ps a h st core)

-- ---- names alone

abbrev nowhere : Kind → Bool
nowhere k = false

still_closed : IsClosed of_still in_still
still_closed root = refl
still_closed c = refl

still_others : HasOthers in_still
still_others a_program = refl
still_others r = refl

still_keep : (r : Row) (vs : Values (fields_of r)) → keeps_it nowhere is_plain of_still in_still r (nowhere (kind_in r vs)) (is_plain (kind_in r vs)) ≡ true
still_keep a_program vs = refl
still_keep r vs = refl

is_still : (t : Forest) → held nowhere is_plain t ≡ true → still t ≡ true
is_still nothing h = refl
is_still (absent r) h = is_still r h
is_still (node k n a r) h =
    both (is_plain k && still a) (still r)
    (both (is_plain k) (still a) (first_of_both (is_plain k) (held nowhere is_plain a) (first_of_both (is_plain k && held nowhere is_plain a) (held nowhere is_plain r) h))
    (is_still a (second_of_both (is_plain k) (held nowhere is_plain a) (first_of_both (is_plain k && held nowhere is_plain a) (held nowhere is_plain r) h))))
    (is_still r (second_of_both (is_plain k && held nowhere is_plain a) (held nowhere is_plain r) h))

pub still_as_planned : (t : Forest) (plan : Plan) → plan_held is_plain of_still plan ≡ true → Stand plan t → all_core t ≡ true → still t ≡ true
still_as_planned t plan h st core =
    is_still t (held_as_planned nowhere is_plain of_still in_still (rows_of of_still in_still still_closed still_others) (fields_of_it nowhere is_plain of_still in_still still_keep) t plan h st core)

pub first_is_still : (p : Place) (ps : List Place) (a : Forest) → place_held is_plain of_still p ≡ true → Stand (these (p ∷ ps)) a → all_core a ≡ true → still (scope.first_of a) ≡ true
first_is_still p ps a h st core =
    is_still (scope.first_of a) (first_as_planned nowhere is_plain of_still in_still (rows_of of_still in_still still_closed still_others) (fields_of_it nowhere is_plain of_still in_still still_keep) p ps a h st core)
