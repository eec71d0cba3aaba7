-- Small programs of which flags tell too much behind an edit.
use Rattle.std.specs.Prelude.{[], ◌∷◌, Some, codes}
use Rattle.js_syntax.specs.declared.node_kind.NodeKind.{NodeKind as Kind}
use Rattle.js_syntax.specs.Node.{Forest}
use Rattle.js_syntax.specs.declared.kind.FunctionKind.TheVariants as function_kind
use Rattle.form_rules.specs.Samples.{leaf, no, a_module, a_script, does, block, function_of}
use Rattle.scope_rules.specs.Table.{Scoping}
use Rattle.scope_table.specs.Editing.{with_parent}
use Rattle.scope_counts.specs.Tried.{with_marks}
use Rattle.steps.specs.Allowed.Rows.{call_of_eval, null, conditional}
use Rattle.steps.specs.Marked.Samples.{table_of, without_first}

-- null ? eval() : null;
abbrev pub asks_for_a_call : Forest
asks_for_a_call = with_marks (a_module (does (conditional null call_of_eval null) ∷ []))

-- what an edit leaves of it: null;
abbrev pub without_the_call : Forest
without_the_call = with_marks (a_module (does null ∷ []))

abbrev pub table_with_the_call : Scoping
table_with_the_call = table_of asks_for_a_call

-- () => { eval(); };
abbrev pub makes_a_function : Forest
makes_a_function = with_marks (a_module (does (function_of function_kind.Arrow no [] (does call_of_eval ∷ [])) ∷ []))

-- what an edit leaves of it, since the function isn't called: ;
abbrev pub makes_nothing : Forest
makes_nothing = with_marks (a_module (leaf Kind.EmptyStatement ∷ []))

-- { } eval();
abbrev pub beside_a_call : Forest
beside_a_call = with_marks (a_module (block [] ∷ does call_of_eval ∷ []))

-- a table that says that the block is around the program
abbrev pub table_inside_out : Scoping
table_inside_out = with_parent 0 (Some 1) (table_of beside_a_call)

-- ; 'use strict'; { } in a script, as no text is read: there the second were no directive (ECMA-262 11.2.1)
abbrev pub behind_a_statement : Forest
behind_a_statement = with_marks (a_script (leaf Kind.EmptyStatement ∷ leaf (Kind.Directive (codes "use strict")) ∷ block [] ∷ []))

-- 'use strict'; { }
abbrev pub in_front : Forest
in_front = without_first behind_a_statement
