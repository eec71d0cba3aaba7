-- What a program may lose so that no rule of form is broken by it: items of lists of statements, declarators of such items, names of
-- imports, expressions that are statements, statements that do nothing and declare nothing, what declares a name around its value, and what
-- stands around a part of a node, around those of an expression, or behind a statement's test.
use Rattle.std.specs.Prelude.{◌≡◌, ℕ, List, [], ◌∷◌, Bool, true, false, not, ◌&&◌, ◌||◌, ◌==◌}
use Rattle.js_syntax.specs.declared.node_kind.NodeKind.{NodeKind as Kind}
use Rattle.js_syntax.specs.declared.node_kind.NodeKind.TheVariants.{Program as program, ExpressionStatement as expression_statement, EmptyStatement as empty_statement, VariableDeclaration as variable_declaration, LabeledStatement as labeled_statement, UnaryExpression as unary_expression, ParenthesizedExpression as parenthesized_expression}
use Rattle.js_syntax.specs.declared.kind.VariableKind.{VariableKind}
use Rattle.js_syntax.specs.declared.operator.UnaryOperator.TheVariants as unary
use Rattle.js_syntax.specs.Node.{Note, Forest, nothing, node, absent, alone}
use Rattle.form_rules.specs.declared.sought.Sought.{Sought}
use Rattle.form_rules.specs.declared.sought.Sought.TheVariants.{Nothing as none, Scope as scope}
use Rattle.form_rules.specs.Context.{has_use_strict, is_loop}
use Rattle.form_rules.specs.Scope.{Declared, sought_below, declared}
use Rattle.form_rules.specs.Rules.{Exported, first_below, length_of, at_top, locals_among, is_exported, is_bare_name}
pub use Rattle.steps.specs.KeepForm.Row.{Row, parts, items, of_item, of_declarators, of_head, of_import, of_specifiers, other, has_statements, row_below, may_leave, may_empty}
use Rattle.steps.specs.KeepForm.Part.{is_statement, may_be_idle, asks_further, declares_one, Replaces, a_var, NamesStay}

-- whether a rule asks what lies below the nodes of a row
abbrev pub asked_below : Row → Kind → Bool
asked_below of_item k = true
asked_below of_head k = true
asked_below row k = asks_further k

-- whether `delete` takes the nodes of a row, parentheses aside
abbrev pub deleted_below : (is_deleted : Bool) → Kind → Bool
deleted_below is_deleted (unary_expression unary.Delete) = true
deleted_below is_deleted parenthesized_expression = is_deleted
deleted_below is_deleted k = false

-- whether the nodes of a row are what a label stands before
abbrev pub labeled_below : Kind → Bool
labeled_below (labeled_statement label) = true
labeled_below k = false

-- What stands around a place: its row, and whether a rule asks what lies below the nodes there; whether they are the operand of a
-- `delete`, of which one asks for a name, or stand behind a label, of which one asks for a loop; the names that the program around
-- exports without declaring them there, and what is sought at the place for the names that are declared at the top of that program.
pub record Around : Type 0 where
  pub row : Row
  pub is_asked : Bool
  pub is_deleted : Bool
  pub is_labeled : Bool
  pub exported : List Exported
  pub sought : Sought

abbrev pub exported_below : List Exported → Kind → (below : Forest) → List Exported
exported_below es (program source) below = locals_among 0 (first_below below)
exported_below es k below = es

abbrev pub sought_inside : Sought → Kind → Sought
sought_inside s (program source) = scope (at_top source)
sought_inside s k = sought_below s k

abbrev pub entered : Around → Kind → (below : Forest) → Around
entered w k below = record { row = row_below w.row k; is_asked = asked_below w.row k; is_deleted = deleted_below w.is_deleted k; is_labeled = labeled_below k; exported = exported_below w.exported k below; sought = sought_inside w.sought k }

abbrev pub outermost : Around
outermost = record { row = other; is_asked = false; is_deleted = false; is_labeled = false; exported = []; sought = none }

-- none of these declares a name that is exported
abbrev pub exports_none : List Exported → List Declared → Bool
exports_none es [] = true
exports_none es (d ∷ ds) = not (is_exported d.name es) && exports_none es ds

-- a declaration that has declarators keeps one
abbrev pub keeps_one : Row → (before after : Forest) → Bool
keeps_one of_declarators a b = length_of a == 0 || not (length_of b == 0)
keeps_one row a b = true

-- where a part may stand for a node of this kind: a statement's where statements may become empty
abbrev pub may_give_way : Row → (is_asked : Bool) → Kind → Bool
may_give_way row is_asked whole = not is_asked && (not (is_statement whole) || may_empty row)

-- no name comes out where `delete` takes it, in parentheses or not (ECMA-262 13.5.1.1)
abbrev pub may_come_out : (is_deleted : Bool) → (part : Forest) → Bool
may_come_out is_deleted part = not (is_deleted && is_bare_name part)

-- What is left of a row, by what stands around it.
pub data Sheds : Around → (t u : Forest) → Type 0 where
  ends : {w : Around} → Sheds w nothing nothing
  keeps_absent : {w : Around} {r s : Forest} → Sheds w r s → Sheds w (absent r) (absent s)
  -- a node is kept
  keeps : {w : Around} {k : Kind} {n m : Note} {a b r s : Forest} → keeps_one (row_below w.row k) a b ≡ true → Sheds (entered w k a) a b → Sheds w r s → Sheds w (node k n a r) (node k m b s)
  -- a node leaves that declares no exported name, and without which code is as strict as with it
  leaves : {w : Around} {k : Kind} {n : Note} {a r s : Forest} → may_leave w.row ≡ true → exports_none w.exported (declared w.sought 0 (alone k n a)) ≡ true → has_use_strict r ≡ has_use_strict (node k n a r) → Sheds w r s
      → Sheds w (node k n a r) s
  -- a statement of an expression becomes empty
  empties : {w : Around} {n m : Note} {a r s : Forest} → may_empty w.row ≡ true → Sheds w r s → Sheds w (node expression_statement n a r) (node empty_statement m nothing s)
  -- a statement that declares nothing becomes empty, but for a loop behind its label, which `continue` may ask for (ECMA-262 14.8.1)
  empties_idle : {w : Around} {k : Kind} {n m : Note} {a r s : Forest} → may_be_idle k ≡ true → (w.is_labeled ≡ true → is_loop (node k n a r) ≡ false) → may_empty w.row ≡ true
      → ((place : ℕ) → declared w.sought place (alone k n a) ≡ []) → Sheds w r s → Sheds w (node k n a r) (node empty_statement m nothing s)
  -- an item that declares one name, which isn't exported, becomes a statement of its value
  states : {w : Around} {how : VariableKind} {x : List ℕ} {k : Kind} {n m l j i o : Note} {b r s : Forest} → w.row ≡ items → w.is_asked ≡ false → exports_none w.exported (declared w.sought 0 (alone (variable_declaration how) n (declares_one m l j x (alone k i b)))) ≡ true → Sheds w r s
      → Sheds w (node (variable_declaration how) n (declares_one m l j x (alone k i b)) r) (node expression_statement o (alone k i b) s)
  -- a part of a node stands for it, an expression is rebuilt of its parts, or a statement comes to one of its test
  becomes : {w : Around} {k l : Kind} {n m : Note} {a b r s : Forest} → Replaces k n a l m b → may_give_way w.row w.is_asked k ≡ true → may_come_out w.is_deleted (alone l m b) ≡ true → Sheds w r s
      → Sheds w (node k n a r) (node l m b s)
  -- of an item a declaration of the names is left that it declares by `var`
  leaves_names : {w : Around} {k : Kind} {n m : Note} {a b r s : Forest} → w.row ≡ items → w.is_asked ≡ false → NamesStay k n a m b → Sheds w r s → Sheds w (node k n a r) (node a_var m b s)
