-- What is asked of each row of the table that a class takes, and of each place in a row's nodes.
use Rattle.std.proofs.Common.{◌≡◌, ℕ, zero, suc, List, [], ◌∷◌, Bool, true, false, not, ◌&&◌, ◌||◌, Some, None, refl, sym, ap, ◌∙◌}
use Rattle.std.specs.Prelude.{Option}
use Rattle.js_syntax.specs.declared.value.Key.{Key}
use Rattle.js_syntax.specs.declared.value.Key.TheVariants.{Name as key_name, Text as key_text, Number as key_number, Below as key_below}
use Rattle.js_syntax.specs.declared.node_type.NodeType.{NodeType}
use Rattle.js_syntax.specs.declared.node_type.NodeType.TheVariants as type
use Rattle.js_syntax.specs.Class.{Class}
use Rattle.js_syntax.specs.Facts.{is_core}
use Rattle.js_syntax.specs.Field.{Keys, keeps, checks, a_key, child, maybe, each, each_or_hole, a_body, Field, field}
use Rattle.js_syntax.specs.Table.{Row, a_program, a_with_statement, a_for_in_statement, a_for_of_statement, a_class_declaration, a_default_class, a_class_expression, a_class_body, a_method_definition, a_property_definition, a_static_block, a_private_name, a_reg_exp, a_super, a_chain_expression, a_template_literal, a_template_element, a_tagged_template_expression, a_spread_element, a_binding_rest, a_target_rest, a_binding_object, a_target_object, a_binding_array, a_target_array, a_binding_property, a_target_property, a_binding_default, a_target_default, a_new_target, an_import_meta, an_import_expression, fields_of, type_of, stands}
use Rattle.json_text.specs.Plain.{takes_literal}
use Rattle.json_shape.specs.Shape.{Values, kind_in, first_of, Place, one, maybe_one, key_node, key_apart, key_place, list, list_with_holes, body, places}
use Rattle.js_syntax.proofs.Truth.{first_of_both, second_of_both, both}

-- ---- every type at once

abbrev pub types : List NodeType
types = type.Program ∷ type.ExpressionStatement ∷ type.BlockStatement ∷ type.EmptyStatement ∷ type.DebuggerStatement ∷ type.WithStatement ∷ type.ReturnStatement ∷ type.LabeledStatement ∷ type.BreakStatement ∷ type.ContinueStatement ∷ type.IfStatement ∷ type.SwitchStatement ∷ type.SwitchCase ∷ type.ThrowStatement ∷ type.TryStatement ∷ type.CatchClause ∷ type.WhileStatement ∷ type.DoWhileStatement ∷ type.ForStatement ∷ type.ForInStatement ∷ type.ForOfStatement ∷ type.FunctionDeclaration ∷ type.FunctionExpression ∷ type.ArrowFunctionExpression ∷ type.VariableDeclaration ∷ type.VariableDeclarator ∷ type.ClassDeclaration ∷ type.ClassExpression ∷ type.ClassBody ∷ type.MethodDefinition ∷ type.PropertyDefinition ∷ type.StaticBlock ∷ type.Identifier ∷ type.PrivateIdentifier ∷ type.Literal ∷ type.ThisExpression ∷ type.Super ∷ type.ArrayExpression ∷ type.ObjectExpression ∷ type.Property ∷ type.SequenceExpression ∷ type.UnaryExpression ∷ type.UpdateExpression ∷ type.BinaryExpression ∷ type.LogicalExpression ∷ type.AssignmentExpression ∷ type.ConditionalExpression ∷ type.CallExpression ∷ type.NewExpression ∷ type.MemberExpression ∷ type.ChainExpression ∷ type.ParenthesizedExpression ∷ type.TemplateLiteral ∷ type.TemplateElement ∷ type.TaggedTemplateExpression ∷ type.SpreadElement ∷ type.RestElement ∷ type.ObjectPattern ∷ type.ArrayPattern ∷ type.AssignmentPattern ∷ type.MetaProperty ∷ type.ImportExpression ∷ type.ImportDeclaration ∷ type.ImportSpecifier ∷ type.ImportDefaultSpecifier ∷ type.ImportNamespaceSpecifier ∷ type.ExportNamedDeclaration ∷ type.ExportSpecifier ∷ type.ExportDefaultDeclaration ∷ type.ExportAllDeclaration ∷ []

abbrev pub each_of : (NodeType → Bool) → List NodeType → Bool
each_of f [] = true
each_of f (t ∷ ts) = f t && each_of f ts

abbrev item_at : ℕ → List NodeType → Option NodeType
item_at n [] = None
item_at zero (t ∷ ts) = Some t
item_at (suc n) (t ∷ ts) = item_at n ts

item_passes : (f : NodeType → Bool) (ts : List NodeType) (n : ℕ) (t : NodeType) → each_of f ts ≡ true → item_at n ts ≡ Some t → f t ≡ true
item_passes f [] n t h is = absurd cc
item_passes f (s ∷ ts) zero t h is = let first = first_of_both (f s) (each_of f ts) h in cc
item_passes f (s ∷ ts) (suc n) t h is = item_passes f ts n t (second_of_both (f s) (each_of f ts) h) is

abbrev number_of : NodeType → ℕ
number_of type.Program = 0
number_of type.ExpressionStatement = 1
number_of type.BlockStatement = 2
number_of type.EmptyStatement = 3
number_of type.DebuggerStatement = 4
number_of type.WithStatement = 5
number_of type.ReturnStatement = 6
number_of type.LabeledStatement = 7
number_of type.BreakStatement = 8
number_of type.ContinueStatement = 9
number_of type.IfStatement = 10
number_of type.SwitchStatement = 11
number_of type.SwitchCase = 12
number_of type.ThrowStatement = 13
number_of type.TryStatement = 14
number_of type.CatchClause = 15
number_of type.WhileStatement = 16
number_of type.DoWhileStatement = 17
number_of type.ForStatement = 18
number_of type.ForInStatement = 19
number_of type.ForOfStatement = 20
number_of type.FunctionDeclaration = 21
number_of type.FunctionExpression = 22
number_of type.ArrowFunctionExpression = 23
number_of type.VariableDeclaration = 24
number_of type.VariableDeclarator = 25
number_of type.ClassDeclaration = 26
number_of type.ClassExpression = 27
number_of type.ClassBody = 28
number_of type.MethodDefinition = 29
number_of type.PropertyDefinition = 30
number_of type.StaticBlock = 31
number_of type.Identifier = 32
number_of type.PrivateIdentifier = 33
number_of type.Literal = 34
number_of type.ThisExpression = 35
number_of type.Super = 36
number_of type.ArrayExpression = 37
number_of type.ObjectExpression = 38
number_of type.Property = 39
number_of type.SequenceExpression = 40
number_of type.UnaryExpression = 41
number_of type.UpdateExpression = 42
number_of type.BinaryExpression = 43
number_of type.LogicalExpression = 44
number_of type.AssignmentExpression = 45
number_of type.ConditionalExpression = 46
number_of type.CallExpression = 47
number_of type.NewExpression = 48
number_of type.MemberExpression = 49
number_of type.ChainExpression = 50
number_of type.ParenthesizedExpression = 51
number_of type.TemplateLiteral = 52
number_of type.TemplateElement = 53
number_of type.TaggedTemplateExpression = 54
number_of type.SpreadElement = 55
number_of type.RestElement = 56
number_of type.ObjectPattern = 57
number_of type.ArrayPattern = 58
number_of type.AssignmentPattern = 59
number_of type.MetaProperty = 60
number_of type.ImportExpression = 61
number_of type.ImportDeclaration = 62
number_of type.ImportSpecifier = 63
number_of type.ImportDefaultSpecifier = 64
number_of type.ImportNamespaceSpecifier = 65
number_of type.ExportNamedDeclaration = 66
number_of type.ExportSpecifier = 67
number_of type.ExportDefaultDeclaration = 68
number_of type.ExportAllDeclaration = 69

numbered : (t : NodeType) → item_at (number_of t) types ≡ Some t
numbered type.Program = refl
numbered t = refl

pub each_type : (f : NodeType → Bool) → each_of f types ≡ true → (t : NodeType) → f t ≡ true
each_type f h t = item_passes f types (number_of t) t h (numbered t)

-- ---- the rows that a class takes

abbrev pub passes : (Row → Bool) → Option Row → Bool
passes test None = true
passes test (Some r) = test r

abbrev pub takes_such : (Row → Bool) → Class → Bool
takes_such test c = each_of (λ t. passes test (stands c t)) types

pub taken : (test : Row → Bool) (c : Class) (r : Row) → takes_such test c ≡ true → stands c (type_of r) ≡ Some (first_of r) → test (first_of r) ≡ true
taken test c r h is = ap (passes test) (sym is) ∙ each_type (λ t. passes test (stands c t)) h (type_of r)

-- ---- the rows of core nodes

abbrev pub core_row : Row → Bool
core_row a_with_statement = false
core_row a_for_in_statement = false
core_row a_for_of_statement = false
core_row a_class_declaration = false
core_row a_default_class = false
core_row a_class_expression = false
core_row a_class_body = false
core_row a_method_definition = false
core_row a_property_definition = false
core_row a_static_block = false
core_row a_private_name = false
core_row a_reg_exp = false
core_row a_super = false
core_row a_chain_expression = false
core_row a_template_literal = false
core_row a_template_element = false
core_row a_tagged_template_expression = false
core_row a_spread_element = false
core_row a_binding_rest = false
core_row a_target_rest = false
core_row a_binding_object = false
core_row a_target_object = false
core_row a_binding_array = false
core_row a_target_array = false
core_row a_binding_property = false
core_row a_target_property = false
core_row a_binding_default = false
core_row a_target_default = false
core_row a_new_target = false
core_row an_import_meta = false
core_row an_import_expression = false
core_row r = true

pub then_so : (a b : Bool) → (a || not b) ≡ true → b ≡ true → a ≡ true
then_so true b h g = refl
then_so false true h g = h
then_so false false h g = g

pub if_so : (a b : Bool) → (not a || b) ≡ true → a ≡ true → b ≡ true
if_so true b h g = h
if_so false b h g = absurd cc

core_such : (r : Row) (vs : Values (fields_of r)) → (core_row r || not (is_core (kind_in r vs))) ≡ true
core_such a_program vs = refl
core_such r vs = refl

pub core_right : (r : Row) (vs : Values (fields_of r)) → is_core (kind_in r vs) ≡ true → core_row r ≡ true
core_right r vs h = then_so (core_row r) (is_core (kind_in r vs)) (core_such r vs) h

-- ---- the places of a row's fields

module _ (test : ℕ → Place → Bool) where
  abbrev pub keys_pass : ℕ → Keys → Bool
  keys_pass at keys = (test at (key_apart true) && test at (key_apart false)) && (test at (key_node keys true) && test at (key_node keys false))

  abbrev pub fields_pass : ℕ → List Field → Bool
  fields_pass at [] = true
  fields_pass at (field name (keeps k) ∷ fs) = fields_pass at fs
  fields_pass at (field name (checks c) ∷ fs) = fields_pass at fs
  fields_pass at (field name (a_key keys) ∷ fs) = keys_pass at keys && fields_pass (suc at) fs
  fields_pass at (field name (child c) ∷ fs) = test at (one c) && fields_pass (suc at) fs
  fields_pass at (field name (maybe c) ∷ fs) = test at (maybe_one c) && fields_pass (suc at) fs
  fields_pass at (field name (each kind c) ∷ fs) = test at (list kind c) && fields_pass (suc at) fs
  fields_pass at (field name (each_or_hole kind c) ∷ fs) = test at (list_with_holes kind c) && fields_pass (suc at) fs
  fields_pass at (field name (a_body c) ∷ fs) = test at (body c) && fields_pass (suc at) fs

  abbrev pub places_pass : ℕ → List Place → Bool
  places_pass at [] = true
  places_pass at (p ∷ ps) = test at p && places_pass (suc at) ps

  apart_passes : (at : ℕ) (x : Bool) → test at (key_apart true) ≡ true → test at (key_apart false) ≡ true → test at (key_apart x) ≡ true
  apart_passes at true h g = h
  apart_passes at false h g = g

  node_passes : (at : ℕ) (keys : Keys) (x : Bool) → test at (key_node keys true) ≡ true → test at (key_node keys false) ≡ true → test at (key_node keys x) ≡ true
  node_passes at keys true h g = h
  node_passes at keys false h g = g

  key_by : (at : ℕ) (keys : Keys) (private : Bool) (key : Key) → test at (key_apart true) ≡ true → test at (key_apart false) ≡ true → test at (key_node keys private) ≡ true → test at (key_place keys private key) ≡ true
  key_by at keys private key_below x y z = z
  key_by at keys private (key_name s) x y z = x
  key_by at keys private (key_text s) x y z = apart_passes at (takes_literal keys) x y
  key_by at keys private (key_number n) x y z = apart_passes at (takes_literal keys) x y

  key_passes : (at : ℕ) (keys : Keys) (private : Bool) (key : Key) → keys_pass at keys ≡ true → test at (key_place keys private key) ≡ true
  key_passes at keys private key h =
      let apart = first_of_both (test at (key_apart true) && test at (key_apart false)) (test at (key_node keys true) && test at (key_node keys false)) h in
      let a_node = second_of_both (test at (key_apart true) && test at (key_apart false)) (test at (key_node keys true) && test at (key_node keys false)) h in
      key_by at keys private key (first_of_both (test at (key_apart true)) (test at (key_apart false)) apart) (second_of_both (test at (key_apart true)) (test at (key_apart false)) apart)
      (node_passes at keys private (first_of_both (test at (key_node keys true)) (test at (key_node keys false)) a_node) (second_of_both (test at (key_node keys true)) (test at (key_node keys false)) a_node))

  pub places_so : (private : Bool) (at : ℕ) (fs : List Field) (vs : Values fs) → fields_pass at fs ≡ true → places_pass at (places private fs vs) ≡ true
  places_so private at [] vs h = refl
  places_so private at (field name (keeps k) ∷ fs) vs h = places_so private at fs vs.1 h
  places_so private at (field name (checks c) ∷ fs) vs h = places_so private at fs vs h
  places_so private at (field name (a_key keys) ∷ fs) vs h = both _ _ (key_passes at keys private vs.0 (first_of_both (keys_pass at keys) (fields_pass (suc at) fs) h)) (places_so private (suc at) fs vs.1 (second_of_both (keys_pass at keys) (fields_pass (suc at) fs) h))
  places_so private at (field name (child c) ∷ fs) vs h = both _ _ (first_of_both _ _ h) (places_so private (suc at) fs vs (second_of_both _ _ h))
  places_so private at (field name (maybe c) ∷ fs) vs h = both _ _ (first_of_both _ _ h) (places_so private (suc at) fs vs (second_of_both _ _ h))
  places_so private at (field name (each kind c) ∷ fs) vs h = both _ _ (first_of_both _ _ h) (places_so private (suc at) fs vs (second_of_both _ _ h))
  places_so private at (field name (each_or_hole kind c) ∷ fs) vs h = both _ _ (first_of_both _ _ h) (places_so private (suc at) fs vs (second_of_both _ _ h))
  places_so private at (field name (a_body c) ∷ fs) vs h = both _ _ (first_of_both _ _ h) (places_so private (suc at) fs vs (second_of_both _ _ h))
