-- Sets of classes, and of rows of the table: expressions, patterns, what holds no `var`, statements.
use Rattle.std.specs.Prelude.{Bool, true, false}
use Rattle.js_syntax.specs.Class.{Class, statement, block, handler, case_item, declarator_item, for_init, for_left, declared_name, method_value, private_key, expression, expression_or_private, callee, argument, object_item, chain_part, template, quasi_item, binding, binding_value, binding_element, binding_item, simple_target, target, target_value, target_element, target_item}
use Rattle.js_syntax.specs.Table.{Row, an_expression_statement, a_block_statement, an_empty_statement, a_debugger_statement, a_with_statement, a_return_statement, a_labeled_statement, a_break_statement, a_continue_statement, an_if_statement, a_switch_statement, a_switch_case, a_throw_statement, a_try_statement, a_catch_clause, a_while_statement, a_do_while_statement, a_for_statement, a_for_in_statement, a_for_of_statement, a_function_declaration, a_function_expression, an_arrow_function, a_variable_declaration, a_variable_declarator, a_class_declaration, a_class_expression, a_binding_name, a_reference_name, a_target_name, a_private_name, a_literal, a_reg_exp, a_this_expression, a_super, an_array_expression, an_object_expression, a_property, a_method_property, a_sequence_expression, a_unary_expression, an_update_expression, a_binary_expression, an_in_expression, a_logical_expression, an_assignment_expression, a_compound_assignment, a_conditional_expression, a_call_expression, a_new_expression, a_member_expression, a_chain_expression, a_parenthesized_expression, a_parenthesized_target, a_template_literal, a_template_element, a_tagged_template_expression, a_spread_element, a_binding_rest, a_target_rest, a_binding_object, a_target_object, a_binding_array, a_target_array, a_binding_property, a_target_property, a_binding_default, a_target_default, a_new_target, an_import_meta, an_import_expression}

-- expressions, and what they are made of down to functions and classes
abbrev pub of_expression : Class → Bool
of_expression method_value = true
of_expression private_key = true
of_expression expression = true
of_expression expression_or_private = true
of_expression callee = true
of_expression argument = true
of_expression object_item = true
of_expression chain_part = true
of_expression template = true
of_expression quasi_item = true
of_expression simple_target = true
of_expression target = true
of_expression target_value = true
of_expression target_element = true
of_expression target_item = true
of_expression c = false

abbrev pub in_expression : Row → Bool
in_expression a_function_expression = true
in_expression an_arrow_function = true
in_expression a_class_expression = true
in_expression a_reference_name = true
in_expression a_target_name = true
in_expression a_private_name = true
in_expression a_literal = true
in_expression a_reg_exp = true
in_expression a_this_expression = true
in_expression a_super = true
in_expression an_array_expression = true
in_expression an_object_expression = true
in_expression a_property = true
in_expression a_method_property = true
in_expression a_sequence_expression = true
in_expression a_unary_expression = true
in_expression an_update_expression = true
in_expression a_binary_expression = true
in_expression an_in_expression = true
in_expression a_logical_expression = true
in_expression an_assignment_expression = true
in_expression a_compound_assignment = true
in_expression a_conditional_expression = true
in_expression a_call_expression = true
in_expression a_new_expression = true
in_expression a_member_expression = true
in_expression a_chain_expression = true
in_expression a_parenthesized_expression = true
in_expression a_parenthesized_target = true
in_expression a_template_literal = true
in_expression a_template_element = true
in_expression a_tagged_template_expression = true
in_expression a_spread_element = true
in_expression a_target_rest = true
in_expression a_target_object = true
in_expression a_target_array = true
in_expression a_target_property = true
in_expression a_target_default = true
in_expression a_new_target = true
in_expression an_import_meta = true
in_expression an_import_expression = true
in_expression r = false

-- what is declared
abbrev pub of_pattern : Class → Bool
of_pattern declared_name = true
of_pattern binding = true
of_pattern binding_value = true
of_pattern binding_element = true
of_pattern binding_item = true
of_pattern c = false

abbrev pub in_pattern : Row → Bool
in_pattern a_binding_name = true
in_pattern a_binding_rest = true
in_pattern a_binding_object = true
in_pattern a_binding_array = true
in_pattern a_binding_property = true
in_pattern a_binding_default = true
in_pattern r = false

-- what holds no `var`: those, declarators, and statements of which no part is a statement
abbrev pub of_free : Class → Bool
of_free declarator_item = true
of_free declared_name = true
of_free binding = true
of_free binding_value = true
of_free binding_element = true
of_free binding_item = true
of_free c = of_expression c

abbrev pub in_free : Row → Bool
in_free a_variable_declarator = true
in_free a_binding_name = true
in_free a_binding_rest = true
in_free a_binding_object = true
in_free a_binding_array = true
in_free a_binding_property = true
in_free a_binding_default = true
in_free an_expression_statement = true
in_free an_empty_statement = true
in_free a_debugger_statement = true
in_free a_return_statement = true
in_free a_break_statement = true
in_free a_continue_statement = true
in_free a_throw_statement = true
in_free a_function_declaration = true
in_free a_class_declaration = true
in_free r = in_expression r

-- statements, and what they are made of
abbrev pub of_statement : Class → Bool
of_statement statement = true
of_statement block = true
of_statement handler = true
of_statement case_item = true
of_statement for_init = true
of_statement for_left = true
of_statement c = of_free c

abbrev pub in_statement : Row → Bool
in_statement a_block_statement = true
in_statement a_with_statement = true
in_statement a_labeled_statement = true
in_statement an_if_statement = true
in_statement a_switch_statement = true
in_statement a_switch_case = true
in_statement a_try_statement = true
in_statement a_catch_clause = true
in_statement a_while_statement = true
in_statement a_do_while_statement = true
in_statement a_for_statement = true
in_statement a_for_in_statement = true
in_statement a_for_of_statement = true
in_statement a_variable_declaration = true
in_statement r = in_free r
