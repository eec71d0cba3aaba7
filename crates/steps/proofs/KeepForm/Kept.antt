-- Wherever a declaration of a name may lie that the program exports, the scopes refer to the name.
use Rattle.std.proofs.Common.{◌≡◌, ℕ, List, [], ◌∷◌, ◌++◌, Bool, true, false, ◌||◌, ◌+◌, if◌then◌else◌, None, refl, sym, ◌∙◌}
use Rattle.std.specs.Str.{bytes_eq}
use Rattle.js_tree.specs.Count.{node_count}
use Rattle.js_syntax.specs.declared.node_kind.NodeKind.{NodeKind as Kind}
use Rattle.js_syntax.specs.declared.node_kind.NodeKind.TheVariants.{Program as program, Statements as statements, BlockStatement as block_statement, WithStatement as with_statement, LabeledStatement as labeled_statement, IfStatement as if_statement, SwitchStatement as switch_statement, Cases as cases, SwitchCase as switch_case, TryStatement as try_statement, CatchClause as catch_clause, WhileStatement as while_statement, DoWhileStatement as do_while_statement, ForStatement as for_statement, ForInStatement as for_in_statement, ForOfStatement as for_of_statement, Function as function, Class as class, VariableDeclaration as variable_declaration, Declarators as declarators, VariableDeclarator as variable_declarator, Parameters as parameters, BindingRest as binding_rest, BindingObject as binding_object, BindingArray as binding_array, BindingProperty as binding_property, BindingDefault as binding_default, Properties as properties, Elements as elements, ImportDeclaration as import_declaration, Specifiers as specifiers, ImportSpecifier as import_specifier, ImportDefaultSpecifier as import_default_specifier, ImportNamespaceSpecifier as import_namespace_specifier, ExportNamedDeclaration as export_named_declaration, ExportDefaultDeclaration as export_default_declaration, ExportSpecifier as export_specifier, ReferenceName as reference_name}
use Rattle.js_syntax.specs.Node.{Note, Forest, nothing, node, absent}
use Rattle.js_syntax.specs.declared.kind.FunctionKind.TheVariants as function_kind
use Rattle.js_syntax.specs.declared.kind.ClassKind.TheVariants as class_kind
use Rattle.js_syntax.specs.declared.kind.VariableKind.{VariableKind}
use Rattle.js_syntax.specs.declared.kind.VariableKind.TheVariants as variable_kind
use Rattle.form_rules.specs.declared.sought.Sought.{Sought}
use Rattle.form_rules.specs.declared.sought.Sought.TheVariants.{Nothing as none, Names as names, Bound as bound, Scope as scope, Variables as variables, FunctionScope as function_scope, CatchScope as catch_scope}
use Rattle.form_rules.specs.Rules.{Exported, is_exported, first_below, behind, local_of, locals_named, locals_by, locals_among}
use Rattle.steps.specs.Names.{refers, refers_at, is_among, names_exported}
use Rattle.steps.specs.Steps as step
use Rattle.steps.specs.Steps.{items, of_item, other, is_single, row_below}
use Rattle.steps.specs.KeepForm.Sheds as shed
use Rattle.steps.specs.KeepForm.Sheds.{exported_below, sought_inside}
use Rattle.steps.proofs.KeepForm.ShedNames.{one_of_both}
use Rattle.steps.specs.KeepForm.Layout.{is_list_first, are_specifiers_first, is_laid_out, stands_right}
use Rattle.steps.proofs.KeepForm.Laid.{laid_absent, laid_right, laid_below, laid_behind}
use Rattle.js_syntax.proofs.Truth.{first_of_either, or_false, second_of_either}

-- ---- where exported names may be declared

abbrev pub AllRefer : List Exported → Forest → Type 0
AllRefer es t = (x : List ℕ) → is_exported x es ≡ true → refers x t ≡ true

abbrev pub scope_of : VariableKind → (block variables : Forest) → Forest
scope_of variable_kind.Var block inner = inner
scope_of how block inner = block

abbrev pub KeptIn : step.Row → List Exported → (block variables : Forest) → Type 0
KeptIn (of_item how) es block inner = AllRefer es (scope_of how block inner)
KeptIn (step.declarators how) es block inner = AllRefer es (scope_of how block inner)
KeptIn row es block inner = Unit {0}

-- by what is sought at the place for the top of the program
abbrev pub Kept : Sought → List Exported → step.Around → Type 0
Kept (scope f) es w = AllRefer es w.block × AllRefer es w.variables
Kept variables es w = AllRefer es w.variables
Kept (bound f) es w = KeptIn w.row es w.block w.variables
Kept function_scope es w = ⊥
Kept (catch_scope f) es w = ⊥
Kept s es w = Unit {0}

-- ---- further in

abbrev is_variables : Kind → Bool
is_variables (variable_declaration how) = true
is_variables k = false

declarators_kept : (single : Bool) (how : VariableKind) (es : List Exported) (block inner : Forest) → AllRefer es (scope_of how block inner) → KeptIn (if single then other else step.declarators how) es block inner
declarators_kept true how es block inner h = tt
declarators_kept false how es block inner h = h

bound_kept : (row : step.Row) (k : Kind) (a : Forest) (es : List Exported) (block inner : Forest) → is_variables k ≡ false → KeptIn row es block inner → KeptIn (row_below row k a) es block inner
bound_kept row (variable_declaration how) a es block inner no_variables h = absurd cc
bound_kept (of_item how) declarators a es block inner no_variables h = declarators_kept (is_single a) how es block inner h
bound_kept items statements a es block inner no_variables h = tt
bound_kept items k a es block inner no_variables h = tt
bound_kept (of_item how) k a es block inner no_variables h = tt
bound_kept (step.declarators how) k a es block inner no_variables h = tt
bound_kept other k a es block inner no_variables h = tt

variables_kept : (row : step.Row) (how : VariableKind) (a : Forest) (es : List Exported) (block inner : Forest) → AllRefer es (scope_of how block inner) → KeptIn (row_below row (variable_declaration how) a) es block inner
variables_kept items how a es block inner h = h
variables_kept (of_item kind) how a es block inner h = tt
variables_kept (step.declarators kind) how a es block inner h = tt
variables_kept other how a es block inner h = tt

imports_kept : (row : step.Row) (source : List ℕ) (a : Forest) (es : List Exported) (block inner : Forest) → KeptIn (row_below row (import_declaration source) a) es block inner
imports_kept items source a es block inner = tt
imports_kept (of_item how) source a es block inner = tt
imports_kept (step.declarators how) source a es block inner = tt
imports_kept other source a es block inner = tt

abbrev is_program : Kind → Bool
is_program (program source) = true
is_program k = false

pub kept_inside : (s : Sought) (es : List Exported) (w : step.Around) (k : Kind) (a : Forest) → (is_program k ≡ true → AllRefer (locals_among 0 (first_below a)) a) → Kept s es w → Kept (sought_inside s k) (exported_below es k a) (step.entered w k a)
kept_inside s es w (program source) a top h = (top refl, top refl)
kept_inside none es w k a top h = tt
kept_inside (names f) es w k a top h = tt
kept_inside (bound f) es w declarators a top h = bound_kept w.row declarators a es w.block w.variables refl h
kept_inside (bound f) es w variable_declarator a top h = bound_kept w.row variable_declarator a es w.block w.variables refl h
kept_inside (bound f) es w parameters a top h = bound_kept w.row parameters a es w.block w.variables refl h
kept_inside (bound f) es w binding_object a top h = bound_kept w.row binding_object a es w.block w.variables refl h
kept_inside (bound f) es w properties a top h = bound_kept w.row properties a es w.block w.variables refl h
kept_inside (bound f) es w (binding_property key) a top h = bound_kept w.row (binding_property key) a es w.block w.variables refl h
kept_inside (bound f) es w binding_array a top h = bound_kept w.row binding_array a es w.block w.variables refl h
kept_inside (bound f) es w elements a top h = bound_kept w.row elements a es w.block w.variables refl h
kept_inside (bound f) es w binding_default a top h = bound_kept w.row binding_default a es w.block w.variables refl h
kept_inside (bound f) es w binding_rest a top h = bound_kept w.row binding_rest a es w.block w.variables refl h
kept_inside (bound f) es w specifiers a top h = bound_kept w.row specifiers a es w.block w.variables refl h
kept_inside (bound f) es w (import_specifier imported) a top h = bound_kept w.row (import_specifier imported) a es w.block w.variables refl h
kept_inside (bound f) es w import_default_specifier a top h = bound_kept w.row import_default_specifier a es w.block w.variables refl h
kept_inside (bound f) es w import_namespace_specifier a top h = bound_kept w.row import_namespace_specifier a es w.block w.variables refl h
kept_inside (bound f) es w k a top h = tt
kept_inside (scope f) es w statements a top h = h
kept_inside (scope f) es w switch_case a top h = h
kept_inside (scope f) es w (export_named_declaration source) a top h = h
kept_inside (scope f) es w export_default_declaration a top h = h
kept_inside (scope f) es w (variable_declaration variable_kind.Var) a top h = variables_kept w.row variable_kind.Var a es w.block w.variables h.1
kept_inside (scope f) es w (variable_declaration variable_kind.Let) a top h = variables_kept w.row variable_kind.Let a es w.block w.variables h.0
kept_inside (scope f) es w (variable_declaration variable_kind.Const) a top h = variables_kept w.row variable_kind.Const a es w.block w.variables h.0
kept_inside (scope f) es w (import_declaration source) a top h = imports_kept w.row source a es w.block w.variables
kept_inside (scope f) es w block_statement a top h = h.1
kept_inside (scope f) es w if_statement a top h = h.1
kept_inside (scope f) es w with_statement a top h = h.1
kept_inside (scope f) es w (labeled_statement label) a top h = h.1
kept_inside (scope f) es w switch_statement a top h = h.1
kept_inside (scope f) es w cases a top h = h.1
kept_inside (scope f) es w try_statement a top h = h.1
kept_inside (scope f) es w catch_clause a top h = h.1
kept_inside (scope f) es w while_statement a top h = h.1
kept_inside (scope f) es w do_while_statement a top h = h.1
kept_inside (scope f) es w for_statement a top h = h.1
kept_inside (scope f) es w for_in_statement a top h = h.1
kept_inside (scope f) es w for_of_statement a top h = h.1
kept_inside (scope f) es w (function function_kind.Declaration pure) a top h = tt
kept_inside (scope f) es w (class class_kind.Declaration) a top h = tt
kept_inside (scope f) es w k a top h = tt
kept_inside variables es w (variable_declaration variable_kind.Var) a top h = variables_kept w.row variable_kind.Var a es w.block w.variables h
kept_inside variables es w statements a top h = h
kept_inside variables es w switch_case a top h = h
kept_inside variables es w (export_named_declaration source) a top h = h
kept_inside variables es w block_statement a top h = h
kept_inside variables es w if_statement a top h = h
kept_inside variables es w with_statement a top h = h
kept_inside variables es w (labeled_statement label) a top h = h
kept_inside variables es w switch_statement a top h = h
kept_inside variables es w cases a top h = h
kept_inside variables es w try_statement a top h = h
kept_inside variables es w catch_clause a top h = h
kept_inside variables es w while_statement a top h = h
kept_inside variables es w do_while_statement a top h = h
kept_inside variables es w for_statement a top h = h
kept_inside variables es w for_in_statement a top h = h
kept_inside variables es w for_of_statement a top h = h
kept_inside variables es w k a top h = tt
kept_inside function_scope es w k a top h = absurd h
kept_inside (catch_scope f) es w k a top h = absurd h

-- ---- the names that a program exports without declaring them there, it refers to

exported_append : (x : List ℕ) (ds es : List Exported) → is_exported x (ds ++ es) ≡ true → is_exported x ds || is_exported x es ≡ true
exported_append x [] es h = h
exported_append x (d ∷ ds) es h = or_assoc (bytes_eq d.name x) (is_exported x (ds ++ es)) (is_exported x ds) (is_exported x es) (exported_append x ds es) h
  where
    or_assoc : (a b c d : Bool) → (b ≡ true → c || d ≡ true) → a || b ≡ true → (a || c) || d ≡ true
    or_assoc true b c d f h = refl
    or_assoc false b c d f h = f h

local_refers : (x : List ℕ) (p : ℕ) (t : Forest) → is_exported x (local_of p t) ≡ true → refers x t ≡ true
local_refers x p (node (reference_name y) n a r) h = first_of_either (bytes_eq y x || refers x a) (refers x r) (first_of_either (bytes_eq y x) (refers x a) (sym (or_false (bytes_eq y x)) ∙ h))
local_refers x p nothing h = absurd cc
local_refers x p (absent r) h = absurd cc
local_refers x p (node k n a r) h = absurd cc

specifier_refers : (x : List ℕ) (p : ℕ) (k : Kind) (n : Note) (a r : Forest) → (is_exported x (locals_named p r) ≡ true → refers x r ≡ true) → is_exported x (locals_named p (node k n a r)) ≡ true → refers x (node k n a r) ≡ true
specifier_refers x p (export_specifier exported) n a r f h =
    one_of_both (is_exported x (local_of p a)) (is_exported x (locals_named p r)) (refers x a) (refers x r) (local_refers x p a) f (exported_append x (local_of p a) (locals_named p r) h)
specifier_refers x p k n a r f h = second_of_either (refers_at x k a (refers x a)) (refers x r) (f h)

specifiers_refer : (x : List ℕ) (p : ℕ) (t : Forest) → is_exported x (locals_named p t) ≡ true → refers x t ≡ true
specifiers_refer x p nothing h = absurd cc
specifiers_refer x p (absent r) h = specifiers_refer x p r h
specifiers_refer x p (node k n a r) h = specifier_refers x p k n a r (specifiers_refer x p r) h

refers_behind : (x : List ℕ) (t : Forest) → refers x (behind t) ≡ true → refers x t ≡ true
refers_behind x nothing h = h
refers_behind x (absent r) h = h
refers_behind x (node k n a r) h = second_of_either (refers_at x k a (refers x a)) (refers x r) h

refers_below : (x : List ℕ) (t : Forest) → are_specifiers_first t ≡ true → refers x (first_below t) ≡ true → refers x t ≡ true
refers_below x (node specifiers n a r) is h = first_of_either (refers x a) (refers x r) h
refers_below x nothing is h = absurd cc
refers_below x (absent r) is h = absurd cc
refers_below x (node k n a r) is h = absurd cc

export_refers : (x : List ℕ) (p : ℕ) (row : shed.Row) (k : Kind) (a : Forest) → stands_right row k a ≡ true → is_exported x (locals_by k p a) ≡ true → refers_at x k a (refers x a) ≡ true
export_refers x p row (export_named_declaration None) a right h =
    second_of_either (is_among (names_exported a) x) (refers x a) (refers_behind x a (refers_below x (behind a) right (specifiers_refer x p (first_below (behind a)) h)))
export_refers x p row k a right h = absurd cc

exports_refer : (x : List ℕ) (p : ℕ) (row : shed.Row) (t : Forest) → is_laid_out row t ≡ true → is_exported x (locals_among p t) ≡ true → refers x t ≡ true
exports_refer x p row nothing laid h = absurd cc
exports_refer x p row (absent r) laid h = exports_refer x p row r (laid_absent row r laid) h
exports_refer x p row (node k n a r) laid h =
    one_of_both (is_exported x (locals_by k p a)) (is_exported x (locals_among (p + node_count (node k n a nothing)) r)) (refers_at x k a (refers x a)) (refers x r) (export_refers x p row k a (laid_right row k n a r laid))
    (exports_refer x (p + node_count (node k n a nothing)) row r (laid_behind row k n a r laid)) (exported_append x (locals_by k p a) (locals_among (p + node_count (node k n a nothing)) r) h)

-- of a list, which is what a program is
list_refers : (x : List ℕ) (row : shed.Row) (a : Forest) → is_list_first a ≡ true → is_laid_out row a ≡ true → is_exported x (locals_among 0 (first_below a)) ≡ true → refers x a ≡ true
list_refers x row (node statements n a r) is laid h = first_of_either (refers x a) (refers x r) (exports_refer x 0 (shed.row_below row statements) a (laid_below row statements n a r laid) h)
list_refers x row nothing is laid h = absurd cc
list_refers x row (absent r) is laid h = absurd cc
list_refers x row (node k n a r) is laid h = absurd cc

pub program_refers : (row : shed.Row) (k : Kind) (a : Forest) → stands_right row k a ≡ true → is_laid_out (shed.row_below row k) a ≡ true → is_program k ≡ true → AllRefer (locals_among 0 (first_below a)) a
program_refers row (program source) a right laid is x h = list_refers x (shed.row_below row (program source)) a right laid h
program_refers row k a right laid is x h = absurd cc
