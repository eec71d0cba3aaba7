-- What may stand in a node's place, as far as the rules of form ask: a part of it, what is built of its parts, a statement of its test, or
-- an `if` without its alternate.
use Rattle.std.specs.Prelude.{◌≡◌, ℕ, ◌+◌, List, [], ◌++◌, Bool, true, false}
use Rattle.js_syntax.specs.declared.node_kind.NodeKind.{NodeKind as Kind}
use Rattle.js_syntax.specs.declared.node_kind.NodeKind.TheVariants.{Program as program, Directive as directive, Statements as statements, FunctionBody as function_body, ExpressionStatement as expression_statement, EmptyStatement as empty_statement, DebuggerStatement as debugger_statement, BlockStatement as block_statement, StaticBlock as static_block, Cases as cases, SwitchCase as switch_case, SwitchStatement as switch_statement, LabeledStatement as labeled_statement, BreakStatement as break_statement, ContinueStatement as continue_statement, ReturnStatement as return_statement, ThrowStatement as throw_statement, TryStatement as try_statement, CatchClause as catch_clause, IfStatement as if_statement, WithStatement as with_statement, WhileStatement as while_statement, DoWhileStatement as do_while_statement, ForStatement as for_statement, ForInStatement as for_in_statement, ForOfStatement as for_of_statement, Function as function, Class as class, ClassBody as class_body, Members as members, MethodDefinition as method_definition, PropertyDefinition as property_definition, BindingName as binding_name, PrivateName as private_name, Super as super, ConditionalExpression as conditional_expression, UnaryExpression as unary_expression, BinaryExpression as binary_expression, LogicalExpression as logical_expression, SequenceExpression as sequence_expression, TemplateLiteral as template_literal, VariableDeclaration as variable_declaration, Declarators as declarators, VariableDeclarator as variable_declarator, Parameters as parameters, Properties as properties, Elements as elements, Specifiers as specifiers, BindingRest as binding_rest, TargetRest as target_rest, BindingObject as binding_object, BindingArray as binding_array, BindingProperty as binding_property, BindingDefault as binding_default, ImportDeclaration as import_declaration, ImportSpecifier as import_specifier, ImportDefaultSpecifier as import_default_specifier, ImportNamespaceSpecifier as import_namespace_specifier, ExportNamedDeclaration as export_named_declaration, ExportSpecifier as export_specifier, ForeignSpecifier as foreign_specifier, ExportDefaultDeclaration as export_default_declaration, ExportAllDeclaration as export_all_declaration}
use Rattle.js_syntax.specs.Node.{Note, Forest, nothing, node, absent, joined, alone}
use Rattle.js_syntax.specs.declared.kind.VariableKind.TheVariants as variable
use Rattle.js_rebuilt.specs.Rebuilt.{Rebuilt}
use Rattle.js_tree.specs.Count.{one_each}
use Rattle.form_rules.specs.Context.{Context}
use Rattle.form_rules.specs.Form.{broken_in}
use Rattle.form_rules.specs.declared.sought.Sought.{Sought}
use Rattle.form_rules.specs.Scope.{sought_below, declared_here, declared}
use Rattle.steps.specs.KeepForm.Row.{of_item, other}
use Rattle.steps.specs.KeepForm.Layout.{is_laid_out}
use Rattle.steps.specs.VarNames.Texts.{named, is_of_catch}

-- Nodes in whose place a part of them may stand: what lies below one is in the context and the scope that the node is in.
abbrev pub gives_way : Kind → Bool
gives_way if_statement = true
gives_way try_statement = true
gives_way conditional_expression = true
gives_way (logical_expression operator) = true
gives_way (unary_expression operator) = true
gives_way (binary_expression operator) = true
gives_way k = false

abbrev pub is_statement : Kind → Bool
is_statement expression_statement = true
is_statement empty_statement = true
is_statement debugger_statement = true
is_statement block_statement = true
is_statement with_statement = true
is_statement return_statement = true
is_statement (labeled_statement label) = true
is_statement (break_statement label) = true
is_statement (continue_statement label) = true
is_statement if_statement = true
is_statement switch_statement = true
is_statement throw_statement = true
is_statement try_statement = true
is_statement while_statement = true
is_statement do_while_statement = true
is_statement for_statement = true
is_statement for_in_statement = true
is_statement for_of_statement = true
is_statement k = false

-- statements that may do nothing, whatever stands around them
abbrev pub may_be_idle : Kind → Bool
may_be_idle block_statement = true
may_be_idle (labeled_statement label) = true
may_be_idle if_statement = true
may_be_idle try_statement = true
may_be_idle while_statement = true
may_be_idle for_statement = true
may_be_idle k = false

-- Nodes for which rules of the nodes around them ask, by what they are or by what they declare; and those for which it matters
-- whether they are a method's function, stand alone as the body of a statement, or stand in the head of a loop. Of a name, in
-- parentheses or not, `delete` asks, where it stands.
abbrev pub is_asked_for : Kind → Bool
is_asked_for (program source) = true
is_asked_for (directive written) = true
is_asked_for statements = true
is_asked_for function_body = true
is_asked_for static_block = true
is_asked_for cases = true
is_asked_for switch_case = true
is_asked_for catch_clause = true
is_asked_for (labeled_statement label) = true
is_asked_for while_statement = true
is_asked_for do_while_statement = true
is_asked_for for_statement = true
is_asked_for for_in_statement = true
is_asked_for for_of_statement = true
is_asked_for (function how pure) = true
is_asked_for (class how) = true
is_asked_for class_body = true
is_asked_for members = true
is_asked_for (method_definition how is_static key) = true
is_asked_for (property_definition is_static key) = true
is_asked_for (binding_name x) = true
is_asked_for (private_name x) = true
is_asked_for super = true
is_asked_for (variable_declaration how) = true
is_asked_for declarators = true
is_asked_for variable_declarator = true
is_asked_for parameters = true
is_asked_for properties = true
is_asked_for elements = true
is_asked_for specifiers = true
is_asked_for binding_rest = true
is_asked_for target_rest = true
is_asked_for binding_object = true
is_asked_for binding_array = true
is_asked_for (binding_property key) = true
is_asked_for binding_default = true
is_asked_for (import_declaration source) = true
is_asked_for (import_specifier imported) = true
is_asked_for import_default_specifier = true
is_asked_for import_namespace_specifier = true
is_asked_for (export_named_declaration source) = true
is_asked_for (export_specifier exported) = true
is_asked_for (foreign_specifier local exported) = true
is_asked_for export_default_declaration = true
is_asked_for (export_all_declaration exported source) = true
is_asked_for k = false

-- nodes whose rules ask what lies below their parts
abbrev pub asks_further : Kind → Bool
asks_further (program source) = true
asks_further catch_clause = true
asks_further (variable_declaration how) = true
asks_further sequence_expression = true
asks_further template_literal = true
asks_further (export_named_declaration source) = true
asks_further (export_specifier exported) = true
asks_further k = false

-- A part may stand for the whole: a statement for a statement, and an expression for an expression. The other parts declare
-- nothing.
pub record StandsFor (whole : Kind) (below : Forest) (part : Kind) (inner : Forest) : Type 0 where
  pub before : Forest
  pub after : Forest
  pub note : Note
  pub is_part : below ≡ joined before (node part note inner after)
  pub gives : gives_way whole ≡ true
  pub unasked : is_asked_for part ≡ false
  pub alike : is_statement part ≡ is_statement whole
  pub none_before : (s : Sought) (place : ℕ) → declared (sought_below s whole) place before ≡ []
  pub none_after : (s : Sought) (place : ℕ) → declared (sought_below s whole) place after ≡ []

-- An expression is rebuilt of its parts. Neither what it was nor what it is declares a name.
pub record RebuildsTo (old : Kind) (n : Note) (below : Forest) (new : Kind) (m : Note) (inner : Forest) : Type 0 where
  pub rebuilt : Rebuilt (alone old n below) (alone new m inner)
  pub old_unasked : is_asked_for old ≡ false
  pub unasked : is_asked_for new ≡ false
  pub old_expression : is_statement old ≡ false
  pub expression : is_statement new ≡ false
  pub none : (s : Sought) (place : ℕ) → declared s place (alone old n below) ≡ []
  pub still_none : (s : Sought) (place : ℕ) → declared s place (alone new m inner) ≡ []
  pub laid_out : is_laid_out other inner ≡ true

-- what lies below a declaration of one name with a value
abbrev pub declares_one : (m l j : Note) → List ℕ → (value : Forest) → Forest
declares_one m l j x value = alone declarators m (alone variable_declarator l (node (binding_name x) j nothing value))

-- a declaration by `var`
abbrev pub a_var : Kind
a_var = variable_declaration variable.Var

-- statements of which a declaration of the names may be left that they declare by `var`
abbrev pub leaves_names_of : Kind → Bool
leaves_names_of (labeled_statement label) = true
leaves_names_of if_statement = true
leaves_names_of with_statement = true
leaves_names_of while_statement = true
leaves_names_of do_while_statement = true
leaves_names_of for_statement = true
leaves_names_of for_in_statement = true
leaves_names_of for_of_statement = true
leaves_names_of switch_statement = true
leaves_names_of try_statement = true
leaves_names_of k = false

-- A declaration of names is left of a statement: it declares what that did, wherever it is sought, and breaks no rule where that broke none.
pub record NamesStay (k : Kind) (n : Note) (a : Forest) (m : Note) (b : Forest) : Type 0 where
  pub holds : leaves_names_of k ≡ true
  pub declares : (s : Sought) (p q : ℕ) → is_of_catch s ≡ false
      → named (declared_here s p k ++ declared (sought_below s k) (p + one_each k) a) ≡ named (declared_here s q a_var ++ declared (sought_below s a_var) (q + one_each a_var) b)
  pub keeps : (f g : ℕ → Context) (i j p q : ℕ) → g j ≡ f i → (f i).is_head ≡ false → broken_in f i p (alone k n a) ≡ [] → broken_in g j q (alone a_var m b) ≡ []
  pub laid_out : is_laid_out of_item b ≡ true

-- statements whose test is an expression in the context that they are in
abbrev pub is_tested : Kind → Bool
is_tested if_statement = true
is_tested k = false

pub data Replaces : (old : Kind) (n : Note) (below : Forest) (new : Kind) (m : Note) (inner : Forest) → Type 0 where
  by_part : {old new : Kind} {n m : Note} {below inner : Forest} → StandsFor old below new inner → Replaces old n below new m inner
  by_parts : {old new : Kind} {n m : Note} {below inner : Forest} → RebuildsTo old n below new m inner → Replaces old n below new m inner
  -- a statement that declares nothing comes to one of its test
  by_test : {k l : Kind} {n m i : Note} {b after : Forest} → is_tested k ≡ true → is_asked_for l ≡ false → is_statement l ≡ false → ((s : Sought) (place : ℕ) → declared s place (alone k n (node l i b after)) ≡ [])
      → Replaces k n (node l i b after) expression_statement m (node l i b nothing)
  -- an `if` loses an alternate that is empty
  without_alternate : {t l : Kind} {n m i j o : Note} {d b : Forest} → Replaces if_statement n (node t i d (node l j b (node empty_statement o nothing nothing))) if_statement m (node t i d (node l j b (absent nothing)))
