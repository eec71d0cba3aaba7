-- What the row that a node is read by says of its values.
use Rattle.std.proofs.Common.{◌≡◌, ℕ, List, [], ◌∷◌, Bool, true, false, ◌&&◌, ◌||◌, Option, Some, None, Result, Ok, Err, if◌then◌else◌, refl, sym, ap, ap₂, ◌∙◌}
use Rattle.std.specs.Prelude.{codes}
use Rattle.std.specs.Str.{bytes_eq}
use Rattle.std.proofs.lemmas.Slice.Eq.{bytes_eq-Decides}
use Rattle.serde_json.specs.Data.{Data, boolean, string}
use Rattle.serde_json.specs.Find.{get}
use Rattle.js_syntax.specs.Word.{Words, property_kinds, binary_operators, assignment_operators, Word, word_name, word_among, all_words, word_named}
use Rattle.js_syntax.specs.Class.{Class, root, a_prologue, module_item, statement, block, function_block, arrow_body, handler, case_item, declarator_item, for_init, for_left, declaration, default_export, class_block, class_item, method_value, declared_name, read_name, private_key, expression, expression_or_private, callee, argument, object_item, chain_part, template, quasi_item, directive_text, binding, binding_value, binding_element, binding_item, simple_target, target, target_value, target_element, target_item, import_item, export_item, foreign_item, no_node}
use Rattle.js_syntax.specs.declared.value.LiteralValue.{LiteralValue as Value}
use Rattle.js_syntax.specs.Field.{a_word, a_flag, keeps, checks, a_key, child, maybe, each, each_or_hole, a_body, Field, field}
use Rattle.js_syntax.specs.Table.{Row, a_literal, a_text_literal, a_reg_exp, a_property, a_method_property, a_binary_expression, an_in_expression, an_assignment_expression, a_compound_assignment, a_new_target, an_import_meta, an_export_list, an_export_declaration, an_export_from, a_parenthesized_target, fields_of, type_of, stands}
use Rattle.js_syntax.specs.declared.node_type.NodeType.{NodeType}
use Rattle.js_syntax.specs.declared.node_type.NodeType.TheVariants as type
use Rattle.json_text.specs.Fault.{Fault}
use Rattle.json_text.specs.Plain.{is_true_at, is_this, is_text_at, read_flag, some_word, read_word, read_value, read_kept}
use Rattle.json_text.specs.Reading.{is_reg_exp, is_named, row_here}
use Rattle.json_text.specs.Reading as reading
use Rattle.json_shape.specs.Shape.{Values, first_of, is_method, is_text, IsChosen}

-- ---- the table

-- no row but the first of several stands in the table of places
abbrev pub is_first : Option Row → Bool
is_first (Some a_reg_exp) = false
is_first (Some an_in_expression) = false
is_first (Some a_compound_assignment) = false
is_first (Some a_method_property) = false
is_first (Some an_import_meta) = false
is_first (Some an_export_declaration) = false
is_first (Some an_export_from) = false
is_first r = true

-- and each row stands at its type
abbrev pub type_in : NodeType → Option Row → NodeType
type_in t (Some r) = type_of r
type_in t None = t

pub stand_so : (c : Class) (t : NodeType) → (is_first (stands c t) ≡ true) × (type_in t (stands c t) ≡ t)
stand_so root type.Program = (refl, refl)
stand_so a_prologue type.Program = (refl, refl)
stand_so module_item type.Program = (refl, refl)
stand_so statement type.Program = (refl, refl)
stand_so block type.Program = (refl, refl)
stand_so function_block type.Program = (refl, refl)
stand_so arrow_body type.Program = (refl, refl)
stand_so handler type.Program = (refl, refl)
stand_so case_item type.Program = (refl, refl)
stand_so declarator_item type.Program = (refl, refl)
stand_so for_init type.Program = (refl, refl)
stand_so for_left type.Program = (refl, refl)
stand_so declaration type.Program = (refl, refl)
stand_so default_export type.Program = (refl, refl)
stand_so class_block type.Program = (refl, refl)
stand_so class_item type.Program = (refl, refl)
stand_so method_value type.Program = (refl, refl)
stand_so declared_name type.Program = (refl, refl)
stand_so read_name type.Program = (refl, refl)
stand_so private_key type.Program = (refl, refl)
stand_so expression type.Program = (refl, refl)
stand_so expression_or_private type.Program = (refl, refl)
stand_so callee type.Program = (refl, refl)
stand_so argument type.Program = (refl, refl)
stand_so object_item type.Program = (refl, refl)
stand_so chain_part type.Program = (refl, refl)
stand_so template type.Program = (refl, refl)
stand_so quasi_item type.Program = (refl, refl)
stand_so directive_text type.Program = (refl, refl)
stand_so binding type.Program = (refl, refl)
stand_so binding_value type.Program = (refl, refl)
stand_so binding_element type.Program = (refl, refl)
stand_so binding_item type.Program = (refl, refl)
stand_so simple_target type.Program = (refl, refl)
stand_so target type.Program = (refl, refl)
stand_so target_value type.Program = (refl, refl)
stand_so target_element type.Program = (refl, refl)
stand_so target_item type.Program = (refl, refl)
stand_so import_item type.Program = (refl, refl)
stand_so export_item type.Program = (refl, refl)
stand_so foreign_item type.Program = (refl, refl)
stand_so no_node type.Program = (refl, refl)
stand_so c t = (refl, refl)

-- ---- what was read of a row's values

abbrev pub From : NodeType → Data → (fs : List Field) → Values fs → Type 0
From t d [] vs = Unit {0}
From t d (field name (keeps k) ∷ fs) vs = (read_kept k t name d ≡ Ok vs.0) × From t d fs vs.1
From t d (field name (a_key keys) ∷ fs) vs = From t d fs vs.1
From t d (field name (checks c) ∷ fs) vs = From t d fs vs
From t d (field name (child c) ∷ fs) vs = From t d fs vs
From t d (field name (maybe c) ∷ fs) vs = From t d fs vs
From t d (field name (each list c) ∷ fs) vs = From t d fs vs
From t d (field name (each_or_hole list c) ∷ fs) vs = From t d fs vs
From t d (field name (a_body c) ∷ fs) vs = From t d fs vs

word_found_at : (w : Words) (s : List ℕ) (y x : Word w) (rest : Option (Word w)) (b : Bool) → bytes_eq s (word_name w y) ≡ b → (rest ≡ Some x → s ≡ word_name w x) → (if b then Some y else rest) ≡ Some x → s ≡ word_name w x
word_found_at w s y x rest true same later h = (bytes_eq-Decides s (word_name w y)).0 same ∙ ap (word_name w) cc
word_found_at w s y x rest false same later h = later h

word_found : (w : Words) (s : List ℕ) (x : Word w) (xs : List (Word w)) → word_among w s xs ≡ Some x → s ≡ word_name w x
word_found w s x [] h = absurd cc
word_found w s x (y ∷ ys) h = word_found_at w s y x (word_among w s ys) (bytes_eq s (word_name w y)) refl (word_found w s x ys) h

some_word_found : {A : Type 0} (bad : Fault) (found : Option A) (x : A) → some_word bad found ≡ Ok x → found ≡ Some x
some_word_found bad (Some y) x h = cc
some_word_found bad None x h = absurd cc

-- a word says what its text says
word_is : (w : Words) (bad : Fault) (found : Option Data) (x : Word w) (s : List ℕ) → read_word w bad found ≡ Ok x → is_this s found ≡ bytes_eq (word_name w x) s
unfolding read_word word_named
word_is w bad (Some (string q)) x s h = ap (λ (r : List ℕ). bytes_eq r s) (word_found w q x (all_words w) (some_word_found bad (word_named w q) x h))
word_is w bad found x s h = absurd cc

flag_is : (bad : Fault) (found : Option Data) (b : Bool) → read_flag bad found ≡ Ok b → is_true_at found ≡ b
unfolding read_flag
flag_is bad (Some (boolean c)) b h = cc
flag_is bad None b h = cc
flag_is bad found b h = absurd cc

abbrev gives_text : Result Value Fault → Bool
gives_text (Ok v) = is_text v
gives_text (Err e) = true

text_is : (bad : Fault) (raw found : Option Data) (v : Value) → is_text_at found ≡ true → read_value bad raw found ≡ Ok v → is_text v ≡ true
unfolding read_value
text_is bad raw (Some (string s)) v text h = ap gives_text (sym h)
text_is bad raw found v text h = absurd cc

-- ---- the row

-- parentheses around a name or member that is assigned are dropped
abbrev pub is_dropped : Row → Bool
is_dropped a_parenthesized_target = true
is_dropped r = false

-- what holds of the row that a node is read by, where this row stands in the table of places
abbrev pub Decision : Row → NodeType → Data → Option Row → Type 0
Decision r t d None = Unit {0}
Decision r t d (Some found) = (first_of found ≡ r) × (type_of found ≡ type_of r) × ((vs : Values (fields_of found)) → From t d (fields_of found) vs → is_dropped found ≡ false → IsChosen found vs)

module _ (t : NodeType) (d : Data) where
  text_decision : (b c : Bool) → is_text_at (get (codes "value") d) ≡ b → Decision a_text_literal t d (if b && c then Some a_text_literal else None)
  text_decision true true h = (refl, refl, λ vs from stays. text_is _ _ _ vs.0 h from.0)
  text_decision true false h = tt
  text_decision false c h = tt

  literal_decision : (b : Bool) → Decision a_literal t d (if b then Some a_reg_exp else Some a_literal)
  literal_decision true = (refl, refl, λ vs from stays. tt)
  literal_decision false = (refl, refl, λ vs from stays. tt)

  binary_decision : (b : Bool) → is_this (codes "in") (get (codes "operator") d) ≡ b → Decision a_binary_expression t d (if b then Some an_in_expression else Some a_binary_expression)
  binary_decision true h = (refl, refl, λ vs from stays. sym (word_is binary_operators _ _ vs.0 (codes "in") from.0) ∙ h)
  binary_decision false h = (refl, refl, λ vs from stays. sym (word_is binary_operators _ _ vs.0 (codes "in") from.0) ∙ h)

  assignment_decision : (b : Bool) → is_this (codes "=") (get (codes "operator") d) ≡ b → Decision an_assignment_expression t d (if b then Some an_assignment_expression else Some a_compound_assignment)
  assignment_decision true h = (refl, refl, λ vs from stays. sym (word_is assignment_operators _ _ vs.0 (codes "=") from.0) ∙ h)
  assignment_decision false h = (refl, refl, λ vs from stays. sym (word_is assignment_operators _ _ vs.0 (codes "=") from.0) ∙ h)

  method_is : (how : Word property_kinds) (method : Bool) → read_kept (a_word property_kinds) t (codes "kind") d ≡ Ok how → read_kept a_flag t (codes "method") d ≡ Ok method → reading.is_method d ≡ is_method how method
  method_is how method from_how from_method =
      ap₂ (λ (x y : Bool). x || y)
      (ap₂ (λ (x y : Bool). x || y) (word_is property_kinds _ _ how (codes "get") from_how) (word_is property_kinds _ _ how (codes "set") from_how)) (flag_is _ _ method from_method)

  property_decision : (b : Bool) → reading.is_method d ≡ b → Decision a_property t d (if b then Some a_method_property else Some a_property)
  property_decision true h = (refl, refl, λ vs from stays. sym (method_is vs.0 vs.1.0 from.0 from.1.0) ∙ h)
  property_decision false h = (refl, refl, λ vs from stays. sym (method_is vs.0 vs.1.0 from.0 from.1.0) ∙ h)

  meta_decision : (b : Bool) → Decision a_new_target t d (if b then Some an_import_meta else Some a_new_target)
  meta_decision true = (refl, refl, λ vs from stays. tt)
  meta_decision false = (refl, refl, λ vs from stays. tt)

  export_decision : (b c : Bool) → Decision an_export_list t d (if b then Some an_export_declaration else if c then Some an_export_from else Some an_export_list)
  export_decision true c = (refl, refl, λ vs from stays. tt)
  export_decision false true = (refl, refl, λ vs from stays. tt)
  export_decision false false = (refl, refl, λ vs from stays. tt)

  pub decision : (r : Row) → is_first (Some r) ≡ true → Decision r t d (row_here d (Some r))
  unfolding row_here
  decision a_text_literal h = text_decision _ _ refl
  decision a_literal h = literal_decision _
  decision a_binary_expression h = binary_decision _ refl
  decision an_assignment_expression h = assignment_decision _ refl
  decision a_property h = property_decision _ refl
  decision a_new_target h = meta_decision _
  decision an_export_list h = export_decision _ _
  decision a_reg_exp h = absurd cc
  decision an_in_expression h = absurd cc
  decision a_compound_assignment h = absurd cc
  decision a_method_property h = absurd cc
  decision an_import_meta h = absurd cc
  decision an_export_declaration h = absurd cc
  decision an_export_from h = absurd cc
  decision a_parenthesized_target h = (refl, refl, λ vs from stays. absurd cc)
  decision r h = (refl, refl, λ vs from stays. tt)
