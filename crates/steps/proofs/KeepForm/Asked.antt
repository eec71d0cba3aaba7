-- What the rules of form see of a node that none of them asks for.
use Rattle.std.proofs.Common.{◌≡◌, ℕ, List, [], true, false, not, ◌||◌, refl, sym, ap, ◌∙◌}
use Rattle.js_syntax.specs.declared.node_kind.NodeKind.{NodeKind as Kind}
use Rattle.js_syntax.specs.declared.node_kind.NodeKind.TheVariants.{Program as program, Directive as directive, Statements as statements, FunctionBody as function_body, BlockStatement as block_statement, Cases as cases, SwitchCase as switch_case, SwitchStatement as switch_statement, LabeledStatement as labeled_statement, TryStatement as try_statement, CatchClause as catch_clause, IfStatement as if_statement, WithStatement as with_statement, WhileStatement as while_statement, DoWhileStatement as do_while_statement, ForStatement as for_statement, ForInStatement as for_in_statement, ForOfStatement as for_of_statement, Class as class, ClassBody as class_body, Members as members, MethodDefinition as method_definition, PropertyDefinition as property_definition, BindingName as binding_name, ReferenceName as reference_name, PrivateName as private_name, Super as super, ParenthesizedExpression as parenthesized_expression, ConditionalExpression as conditional_expression, UnaryExpression as unary_expression, BinaryExpression as binary_expression, LogicalExpression as logical_expression, VariableDeclaration as variable_declaration, Declarators as declarators, VariableDeclarator as variable_declarator, Parameters as parameters, Properties as properties, Elements as elements, Specifiers as specifiers, BindingRest as binding_rest, TargetRest as target_rest, BindingObject as binding_object, BindingArray as binding_array, BindingProperty as binding_property, BindingDefault as binding_default, ImportDeclaration as import_declaration, ImportSpecifier as import_specifier, ImportDefaultSpecifier as import_default_specifier, ImportNamespaceSpecifier as import_namespace_specifier, ExportNamedDeclaration as export_named_declaration, ExportSpecifier as export_specifier, ForeignSpecifier as foreign_specifier, ExportDefaultDeclaration as export_default_declaration, ExportAllDeclaration as export_all_declaration, Function as function}
use Rattle.js_syntax.specs.Node.{Note, Forest, node, alone}
use Rattle.js_syntax.specs.declared.kind.FunctionKind.TheVariants as function_kind
use Rattle.js_syntax.specs.declared.kind.ClassKind.TheVariants as class_kind
use Rattle.js_syntax.specs.declared.kind.VariableKind.TheVariants as variable_kind
use Rattle.form_rules.specs.declared.sought.Sort.{Sort}
use Rattle.form_rules.specs.declared.sought.Sort.TheVariants.{CatchParameter as catch_parameter}
use Rattle.form_rules.specs.declared.sought.Sought.{Sought}
use Rattle.form_rules.specs.declared.sought.Sought.TheVariants.{Nothing as none_sought, Names as names, Bound as bound, Scope as scope, Variables as variables, FunctionScope as function_scope, CatchScope as catch_scope}
use Rattle.form_rules.specs.Context.{has_use_strict, is_strict_list, is_strict_function, private_key_of, privates_of, is_loop}
use Rattle.form_rules.specs.Scope.{bound_below, variables_below, scope_below, function_below, sought_below, declared_here}
use Rattle.form_rules.specs.Rules.{are_names, have_plain_parameters, private_of, first_is_super, is_bare_name, is_name_first, is_rest, is_default, is_constructor, named_by, locals_named, locals_by, exported_by}
use Rattle.steps.specs.VarNames.Texts.{is_of_catch}
use Rattle.steps.specs.KeepForm.Part.{gives_way, is_statement, may_be_idle, is_asked_for, asks_further, is_tested, Replaces, by_part, by_parts, by_test, without_alternate}
use Rattle.steps.specs.KeepForm.Sheds.{Row, parts, items, of_item, of_declarators, of_head, of_import, of_specifiers, other, asked_below, may_empty, Around, may_give_way, sought_inside}
use Rattle.js_syntax.proofs.Truth.{not_true, first_of_both, second_of_both}

-- ---- what holds of each kind of statement that may do nothing

pub idle_kinds : (P : Kind → Type 0) → P block_statement → P if_statement → P try_statement → P while_statement → P for_statement → ((label : List ℕ) → P (labeled_statement label)) → (k : Kind) → may_be_idle k ≡ true → P k
idle_kinds P block choice tried looping counting labels block_statement h = block
idle_kinds P block choice tried looping counting labels (labeled_statement label) h = labels label
idle_kinds P block choice tried looping counting labels if_statement h = choice
idle_kinds P block choice tried looping counting labels try_statement h = tried
idle_kinds P block choice tried looping counting labels while_statement h = looping
idle_kinds P block choice tried looping counting labels for_statement h = counting
idle_kinds P block choice tried looping counting labels k h = absurd cc

-- ---- what is seen of such a node in its row

pub given_not : (k : Kind) → gives_way k ≡ true → is_asked_for k ≡ false
given_not if_statement h = refl
given_not try_statement h = refl
given_not conditional_expression h = refl
given_not (logical_expression operator) h = refl
given_not (unary_expression operator) h = refl
given_not (binary_expression operator) h = refl
given_not k h = absurd cc

pub tested_kinds : (P : Kind → Type 0) → P if_statement → (k : Kind) → is_tested k ≡ true → P k
tested_kinds P choice if_statement h = choice
tested_kinds P choice k h = absurd cc

pub tested_gives : (k : Kind) → is_tested k ≡ true → gives_way k ≡ true
tested_gives k = tested_kinds (λ z. gives_way z ≡ true) refl k

pub old_unasked : {k l : Kind} {n m : Note} {a b : Forest} → Replaces k n a l m b → is_asked_for k ≡ false
old_unasked {k = k} (by_part part) = given_not k part.gives
old_unasked (by_parts made) = made.old_unasked
old_unasked {k = k} (by_test tested unasked is none) = tested_kinds (λ z. is_asked_for z ≡ false) refl k tested
old_unasked without_alternate = refl

pub new_unasked : {k l : Kind} {n m : Note} {a b : Forest} → Replaces k n a l m b → is_asked_for l ≡ false
new_unasked (by_part part) = part.unasked
new_unasked (by_parts made) = made.unasked
new_unasked (by_test tested unasked is none) = refl
new_unasked without_alternate = refl

pub alike : {k l : Kind} {n m : Note} {a b : Forest} → Replaces k n a l m b → is_statement l ≡ is_statement k
alike (by_part part) = part.alike
alike (by_parts made) = made.expression ∙ sym made.old_expression
alike {k = k} (by_test tested unasked is none) = tested_kinds (λ z. true ≡ is_statement z) refl k tested
alike without_alternate = refl

pub not_strict : (k : Kind) (n : Note) (a r : Forest) → is_asked_for k ≡ false → has_use_strict (node k n a r) ≡ false
not_strict (directive written) n a r h = absurd cc
not_strict k n a r h = refl

pub no_strict_list : (k : Kind) (n : Note) (a r : Forest) → is_asked_for k ≡ false → is_strict_list (node k n a r) ≡ false
no_strict_list statements n a r h = absurd cc
no_strict_list k n a r h = refl

pub no_body : (k : Kind) (n : Note) (a r : Forest) → is_asked_for k ≡ false → is_strict_function (node k n a r) ≡ is_strict_function r
no_body function_body n a r h = absurd cc
no_body k n a r h = refl

pub no_name : (k : Kind) (n : Note) (a r : Forest) → is_asked_for k ≡ false → are_names (node k n a r) ≡ false
no_name (binding_name x) n a r h = absurd cc
no_name k n a r h = refl

pub no_parameters : (k : Kind) (n : Note) (a r : Forest) → is_asked_for k ≡ false → have_plain_parameters (node k n a r) ≡ have_plain_parameters r
no_parameters parameters n a r h = absurd cc
no_parameters k n a r h = refl

pub no_private_key : (k : Kind) (n : Note) (a r : Forest) → is_asked_for k ≡ false → private_key_of (node k n a r) ≡ []
no_private_key (private_name x) n a r h = absurd cc
no_private_key k n a r h = refl

pub no_privates : (k : Kind) (n : Note) (a r : Forest) → is_asked_for k ≡ false → privates_of (node k n a r) ≡ privates_of r
no_privates class_body n a r h = absurd cc
no_privates members n a r h = absurd cc
no_privates (method_definition how is_static key) n a r h = absurd cc
no_privates (property_definition is_static key) n a r h = absurd cc
no_privates k n a r h = refl

pub no_private : (k : Kind) (p : ℕ) (a : Forest) → is_asked_for k ≡ false → private_of k p a ≡ []
no_private (method_definition how is_static key) p a h = absurd cc
no_private (property_definition is_static key) p a h = absurd cc
no_private k p a h = refl

pub no_loop : (k : Kind) (n : Note) (a r : Forest) → is_asked_for k ≡ false → is_loop (node k n a r) ≡ false
no_loop (labeled_statement label) n a r h = absurd cc
no_loop while_statement n a r h = absurd cc
no_loop do_while_statement n a r h = absurd cc
no_loop for_statement n a r h = absurd cc
no_loop for_in_statement n a r h = absurd cc
no_loop for_of_statement n a r h = absurd cc
no_loop k n a r h = refl

pub no_super : (k : Kind) (n : Note) (a r : Forest) → is_asked_for k ≡ false → first_is_super (node k n a r) ≡ false
no_super super n a r h = absurd cc
no_super k n a r h = refl

-- whether a name stands first, parentheses aside, what stands behind it doesn't matter
pub bare_alone : (k : Kind) (n : Note) (a r : Forest) → is_bare_name (node k n a r) ≡ is_bare_name (alone k n a)
bare_alone (reference_name x) n a r = refl
bare_alone parenthesized_expression n a r = refl
bare_alone k n a r = refl

pub no_bound_name : (k : Kind) (n : Note) (a r : Forest) → is_asked_for k ≡ false → is_name_first (node k n a r) ≡ false
no_bound_name (binding_name x) n a r h = absurd cc
no_bound_name k n a r h = refl

pub no_rest : (k : Kind) → is_asked_for k ≡ false → is_rest k ≡ false
no_rest binding_rest h = absurd cc
no_rest target_rest h = absurd cc
no_rest k h = refl

pub no_default : (k : Kind) (a : Forest) → is_asked_for k ≡ false → is_default k a ≡ false
no_default switch_case a h = absurd cc
no_default k a h = refl

pub no_constructor : (k : Kind) (a : Forest) → is_asked_for k ≡ false → is_constructor k a ≡ false
no_constructor (method_definition how is_static key) a h = absurd cc
no_constructor k a h = refl

-- ---- names

pub no_name_here : (s : Sought) (p : ℕ) (k : Kind) → is_asked_for k ≡ false → declared_here s p k ≡ []
no_name_here s p (binding_name x) h = absurd cc
no_name_here none_sought p k h = refl
no_name_here (names f) p k h = refl
no_name_here (bound f) p k h = refl
no_name_here (scope f) p k h = refl
no_name_here variables p k h = refl
no_name_here function_scope p k h = refl
no_name_here (catch_scope f) p k h = refl

pub no_export_named : (k : Kind) (n : Note) (p : ℕ) (a r : Forest) → is_asked_for k ≡ false → named_by p (node k n a r) ≡ named_by p r
no_export_named (export_specifier exported) n p a r h = absurd cc
no_export_named (foreign_specifier local exported) n p a r h = absurd cc
no_export_named k n p a r h = refl

pub no_local_named : (k : Kind) (n : Note) (p : ℕ) (a r : Forest) → is_asked_for k ≡ false → locals_named p (node k n a r) ≡ locals_named p r
no_local_named (export_specifier exported) n p a r h = absurd cc
no_local_named k n p a r h = refl

pub exports_nothing : (k : Kind) (p : ℕ) (a : Forest) → is_asked_for k ≡ false → exported_by k p a ≡ []
exports_nothing (export_named_declaration source) p a h = absurd cc
exports_nothing export_default_declaration p a h = absurd cc
exports_nothing (export_all_declaration exported source) p a h = absurd cc
exports_nothing k p a h = refl

pub exports_no_local : (k : Kind) (p : ℕ) (a : Forest) → is_asked_for k ≡ false → locals_by k p a ≡ []
exports_no_local (export_named_declaration source) p a h = absurd cc
exports_no_local k p a h = refl

-- ---- what is sought below such a node

binds_nothing : (f : Sort) (k : Kind) → is_asked_for k ≡ false → bound_below f k ≡ none_sought
binds_nothing f declarators h = absurd cc
binds_nothing f variable_declarator h = absurd cc
binds_nothing f parameters h = absurd cc
binds_nothing f binding_object h = absurd cc
binds_nothing f properties h = absurd cc
binds_nothing f (binding_property key) h = absurd cc
binds_nothing f binding_array h = absurd cc
binds_nothing f elements h = absurd cc
binds_nothing f binding_default h = absurd cc
binds_nothing f binding_rest h = absurd cc
binds_nothing f specifiers h = absurd cc
binds_nothing f (import_specifier imported) h = absurd cc
binds_nothing f import_default_specifier h = absurd cc
binds_nothing f import_namespace_specifier h = absurd cc
binds_nothing f k h = refl

-- in a scope nothing but variables is sought below it
as_variables : (f : Sort) (k : Kind) → is_asked_for k ≡ false → scope_below f k ≡ variables_below k
as_variables f statements h = absurd cc
as_variables f switch_case h = absurd cc
as_variables f (export_named_declaration source) h = absurd cc
as_variables f export_default_declaration h = absurd cc
as_variables f (variable_declaration how) h = absurd cc
as_variables f (import_declaration source) h = absurd cc
as_variables f (class how) h = absurd cc
as_variables f (function how pure) h = absurd cc
as_variables f k h = refl

no_variables : (k : Kind) → is_asked_for k ≡ false → is_statement k ≡ false → variables_below k ≡ none_sought
no_variables (variable_declaration how) h g = absurd cc
no_variables statements h g = absurd cc
no_variables block_statement h g = absurd cc
no_variables if_statement h g = absurd cc
no_variables with_statement h g = absurd cc
no_variables (labeled_statement label) h g = absurd cc
no_variables switch_statement h g = absurd cc
no_variables cases h g = absurd cc
no_variables switch_case h g = absurd cc
no_variables try_statement h g = absurd cc
no_variables catch_clause h g = absurd cc
no_variables while_statement h g = absurd cc
no_variables do_while_statement h g = absurd cc
no_variables for_statement h g = absurd cc
no_variables for_in_statement h g = absurd cc
no_variables for_of_statement h g = absurd cc
no_variables (export_named_declaration source) h g = absurd cc
no_variables k h g = refl

no_parameter : (k : Kind) → is_asked_for k ≡ false → function_below k ≡ none_sought
no_parameter parameters h = absurd cc
no_parameter function_body h = absurd cc
no_parameter k h = refl

-- below a part that stands for a node the same is sought as below the part in the node
variables_alike : (k l : Kind) → gives_way k ≡ true → is_asked_for l ≡ false → is_statement l ≡ is_statement k → variables_below l ≡ sought_below (variables_below k) l
variables_alike if_statement l gives unasked alike = refl
variables_alike try_statement l gives unasked alike = refl
variables_alike conditional_expression l gives unasked alike = no_variables l unasked alike
variables_alike (logical_expression operator) l gives unasked alike = no_variables l unasked alike
variables_alike (unary_expression operator) l gives unasked alike = no_variables l unasked alike
variables_alike (binary_expression operator) l gives unasked alike = no_variables l unasked alike
variables_alike k l gives unasked alike = absurd cc

pub sought_alike : (s : Sought) (k l : Kind) → is_of_catch s ≡ false → gives_way k ≡ true → is_asked_for l ≡ false → is_statement l ≡ is_statement k → sought_below s l ≡ sought_below (sought_below s k) l
sought_alike none_sought k l calm gives unasked alike = refl
sought_alike (names f) k l calm gives unasked alike = refl
sought_alike (bound f) k l calm gives unasked alike = binds_nothing f l unasked ∙ ap (λ s. sought_below s l) (sym (binds_nothing f k (given_not k gives)))
sought_alike (scope f) k l calm gives unasked alike = as_variables f l unasked ∙ variables_alike k l gives unasked alike ∙ ap (λ s. sought_below s l) (sym (as_variables f k (given_not k gives)))
sought_alike variables k l calm gives unasked alike = variables_alike k l gives unasked alike
sought_alike function_scope k l calm gives unasked alike = no_parameter l unasked ∙ ap (λ s. sought_below s l) (sym (no_parameter k (given_not k gives)))
sought_alike (catch_scope f) k l calm gives unasked alike = absurd cc

-- a catch's parameters are sought nowhere but in a catch
no_catch_of_names : (f : Sort) (k : Kind) → is_of_catch (bound_below f k) ≡ false
no_catch_of_names f declarators = refl
no_catch_of_names f variable_declarator = refl
no_catch_of_names f parameters = refl
no_catch_of_names f binding_object = refl
no_catch_of_names f properties = refl
no_catch_of_names f (binding_property key) = refl
no_catch_of_names f binding_array = refl
no_catch_of_names f elements = refl
no_catch_of_names f binding_default = refl
no_catch_of_names f binding_rest = refl
no_catch_of_names f specifiers = refl
no_catch_of_names f (import_specifier imported) = refl
no_catch_of_names f import_default_specifier = refl
no_catch_of_names f import_namespace_specifier = refl
no_catch_of_names f k = refl

no_catch_of_variables : (k : Kind) → is_of_catch (variables_below k) ≡ false
no_catch_of_variables (variable_declaration variable_kind.Var) = refl
no_catch_of_variables (variable_declaration how) = refl
no_catch_of_variables k = refl

no_catch_of_scope : (f : Sort) (k : Kind) → is_of_catch (scope_below f k) ≡ false
no_catch_of_scope f (variable_declaration variable_kind.Var) = refl
no_catch_of_scope f (variable_declaration how) = refl
no_catch_of_scope f (class class_kind.Declaration) = refl
no_catch_of_scope f (class how) = refl
no_catch_of_scope f (function function_kind.Declaration pure) = refl
no_catch_of_scope f (function how pure) = refl
no_catch_of_scope f k = refl

no_catch_of_function : (k : Kind) → is_of_catch (function_below k) ≡ false
no_catch_of_function parameters = refl
no_catch_of_function k = refl

pub no_catch_below : (s : Sought) (k : Kind) → is_of_catch (sought_below s k) ≡ false
no_catch_below none_sought k = refl
no_catch_below (names f) k = refl
no_catch_below (bound f) k = no_catch_of_names f k
no_catch_below (scope f) k = no_catch_of_scope f k
no_catch_below variables k = no_catch_of_variables k
no_catch_below function_scope k = no_catch_of_function k
no_catch_below (catch_scope f) block_statement = refl
no_catch_below (catch_scope f) k = no_catch_of_names catch_parameter k

pub no_catch_inside : (s : Sought) (k : Kind) → is_of_catch (sought_inside s k) ≡ false
no_catch_inside s (program source) = refl
no_catch_inside s k = no_catch_below s k

-- ---- rows

-- where a part may stand for a node no rule asks further, and a statement may become empty
pub not_asked : (w : Around) (k : Kind) → may_give_way w.row w.is_asked k ≡ true → w.is_asked ≡ false
not_asked w k h = not_true w.is_asked (first_of_both (not w.is_asked) (not (is_statement k) || may_empty w.row) h)

pub statement_may : (w : Around) (k : Kind) → may_give_way w.row w.is_asked k ≡ true → is_statement k ≡ true → may_empty w.row ≡ true
statement_may w k h is = ap (λ x. not x || may_empty w.row) (sym is) ∙ second_of_both (not w.is_asked) (not (is_statement k) || may_empty w.row) h

pub asked_there : (row : Row) (k : Kind) → asks_further k ≡ true → asked_below row k ≡ true
asked_there parts k h = h
asked_there items k h = h
asked_there of_item k h = refl
asked_there of_declarators k h = h
asked_there of_head k h = refl
asked_there of_import k h = h
asked_there of_specifiers k h = h
asked_there other k h = h
