-- Worked rows for each rule.
use Rattle.std.specs.Prelude.{pos, negsuc, List, [], ◌∷◌, false, Some, None, codes}
use Rattle.js_syntax.specs.declared.node_kind.NodeKind.{NodeKind as Kind}
use Rattle.js_syntax.specs.declared.value.LiteralValue.TheVariants as value
use Rattle.js_syntax.specs.declared.value.Key.TheVariants.{Name as key_name, Below as key_below}
use Rattle.js_syntax.specs.declared.kind.VariableKind.TheVariants as variable
use Rattle.js_syntax.specs.declared.kind.FunctionKind.TheVariants as function_kind
use Rattle.js_syntax.specs.declared.kind.MethodKind.TheVariants as method_kind
use Rattle.js_syntax.specs.declared.operator.UnaryOperator.TheVariants as unary
use Rattle.js_syntax.specs.Node.{joined}
use Rattle.form_rules.specs.Samples.{Row, kept, breaks, over, leaf, row, listed, no, a_module, a_script, a_commonjs, a, binds, reads, one, does, declares, let_, var_, block, function_of, function_a, use_strict, class_of, method_of, method_b, private_b, static_block, labels, loops, catches, calls, super_member, exports}

-- let a; let a; and once more; let a; { let a; } var a; { let a; } let a; { var a; } { var a; } let a;
-- function a(a) { let a; } function a(a) { var a; } { let a; { var a; } }
-- as a script: function a() { } function a() { } and { function a() { } function a() { } }; as a module neither
abbrev pub lexical_names : List Row
lexical_names =
    breaks 1 6 (a_module (let_ a ∷ let_ a ∷ []))
    ∷ breaks 1 6 (a_module (let_ a ∷ let_ a ∷ let_ a ∷ []))
    ∷ kept (a_module (let_ a ∷ block (let_ a ∷ []) ∷ []))
    ∷ kept (a_module (var_ a ∷ block (let_ a ∷ []) ∷ var_ a ∷ []))
    ∷ breaks 1 7 (a_module (let_ a ∷ block (var_ a ∷ []) ∷ []))
    ∷ breaks 1 7 (a_module (block (var_ a ∷ []) ∷ let_ a ∷ []))
    ∷ breaks 1 7 (a_module (function_a (binds a ∷ []) (let_ a ∷ []) ∷ []))
    ∷ kept (a_module (function_a (binds a ∷ []) (var_ a ∷ []) ∷ []))
    ∷ kept (a_script (function_a [] [] ∷ function_a [] [] ∷ []))
    ∷ breaks 1 5 (a_module (function_a [] [] ∷ function_a [] [] ∷ []))
    ∷ kept (a_script (block (function_a [] [] ∷ function_a [] [] ∷ []) ∷ []))
    ∷ breaks 1 6 (a_module (block (function_a [] [] ∷ function_a [] [] ∷ []) ∷ []))
    ∷ breaks 1 8 (a_module (catches (binds a) (let_ a ∷ []) ∷ []))
    ∷ []

-- function a(a, a) { } in a script, in a module, behind 'use strict', and as an arrow; function a([a], a) { }
abbrev pub parameters : List Row
parameters =
    kept (a_script (function_a (binds a ∷ binds a ∷ []) [] ∷ []))
    ∷ breaks 2 4 (a_module (function_a (binds a ∷ binds a ∷ []) [] ∷ []))
    ∷ breaks 2 4 (a_script (function_a (binds a ∷ binds a ∷ []) (use_strict ∷ []) ∷ []))
    ∷ breaks 2 4 (a_script (does (function_of function_kind.Arrow no (binds a ∷ binds a ∷ []) []) ∷ []))
    ∷ breaks 2 5 (a_script (function_a (over Kind.BindingArray (listed Kind.Elements (binds a ∷ [])) ∷ binds a ∷ []) [] ∷ []))
    ∷ kept (a_module (function_a (binds a ∷ binds (codes "b") ∷ []) [] ∷ []))
    ∷ []

-- break; while (1) break; while (1) continue; a: { break a; } a: { continue a; } a: while (1) continue a; a: a: ;
-- a: { (function () { a: ; }); } and a border: a: { class a { static { break a; } } }
abbrev pub targets : List Row
targets =
    breaks 3 1 (a_module (leaf (Kind.BreakStatement None) ∷ []))
    ∷ kept (a_module (loops (leaf (Kind.BreakStatement None)) ∷ []))
    ∷ kept (a_module (loops (leaf (Kind.ContinueStatement None)) ∷ []))
    ∷ kept (a_module (labels a (block (leaf (Kind.BreakStatement (Some a)) ∷ [])) ∷ []))
    ∷ breaks 3 3 (a_module (labels a (block (leaf (Kind.ContinueStatement (Some a)) ∷ [])) ∷ []))
    ∷ kept (a_module (labels a (loops (leaf (Kind.ContinueStatement (Some a)))) ∷ []))
    ∷ breaks 3 2 (a_module (labels a (labels a (leaf Kind.EmptyStatement)) ∷ []))
    ∷ kept (a_module (labels a (block (does (function_of function_kind.Expression no [] (labels a (leaf Kind.EmptyStatement) ∷ [])) ∷ [])) ∷ []))
    ∷ breaks 3 7 (a_module (labels a (block (class_of no (static_block (leaf (Kind.BreakStatement (Some a)) ∷ []) ∷ []) ∷ [])) ∷ []))
    ∷ breaks 3 6 (a_module (loops (does (function_of function_kind.Expression no [] (leaf (Kind.BreakStatement None) ∷ []))) ∷ []))
    ∷ []

-- class a { #b() { } } and with it twice, as a getter and a setter, as two getters; this.#b outside and inside; this.#1, which breaks two rules at one place
abbrev pub private_names : List Row
private_names =
    kept (a_module (class_of no (method_of method_kind.Method key_below private_b [] ∷ []) ∷ []))
    ∷ breaks 4 9 (a_module (class_of no (method_of method_kind.Method key_below private_b [] ∷ method_of method_kind.Method key_below private_b [] ∷ []) ∷ []))
    ∷ kept (a_module (class_of no (method_of method_kind.Get key_below private_b [] ∷ method_of method_kind.Set key_below private_b [] ∷ []) ∷ []))
    ∷ breaks 4 9 (a_module (class_of no (method_of method_kind.Get key_below private_b [] ∷ method_of method_kind.Get key_below private_b [] ∷ []) ∷ []))
    ∷ breaks 4 4 (a_module (does (over (Kind.MemberExpression key_below false) (joined (leaf Kind.ThisExpression) private_b)) ∷ []))
    ∷ kept (a_module (class_of no (method_of method_kind.Method key_below private_b (does (over (Kind.MemberExpression key_below false) (joined (leaf Kind.ThisExpression) private_b)) ∷ []) ∷ []) ∷ []))
    ∷ breaks 4 4 (a_module (does (over (Kind.MemberExpression key_below false) (joined (leaf Kind.ThisExpression) (leaf (Kind.PrivateName (codes "1"))))) ∷ []))
    ∷ []

abbrev pub names : List Row
names =
    breaks 5 2 (a_script (does (reads (codes "if")) ∷ []))
    ∷ kept (a_script (does (reads (codes "let")) ∷ []))
    ∷ breaks 5 2 (a_module (does (reads (codes "let")) ∷ []))
    ∷ kept (a_script (does (reads (codes "await")) ∷ []))
    ∷ breaks 5 2 (a_module (does (reads (codes "await")) ∷ []))
    ∷ breaks 5 2 (a_script (does (reads (codes "1a")) ∷ []))
    ∷ breaks 5 2 (a_script (does (reads []) ∷ []))
    ∷ kept (a_script (does (reads (195 ∷ 164 ∷ [])) ∷ []))
    ∷ kept (a_script (var_ (codes "eval") ∷ []))
    ∷ breaks 5 3 (a_module (var_ (codes "eval") ∷ []))
    ∷ kept (a_module (does (reads (codes "eval")) ∷ []))
    ∷ breaks 5 2 (a_script (function_of function_kind.Declaration (binds (codes "arguments")) [] (use_strict ∷ []) ∷ []))
    ∷ []

-- return; in each sort of program, in a function, and in a static block of CommonJS
abbrev pub returned : List Row
returned =
    breaks 6 1 (a_script (over Kind.ReturnStatement no ∷ []))
    ∷ breaks 6 1 (a_module (over Kind.ReturnStatement no ∷ []))
    ∷ kept (a_commonjs (over Kind.ReturnStatement no ∷ []))
    ∷ kept (a_script (function_a [] (over Kind.ReturnStatement no ∷ []) ∷ []))
    ∷ breaks 6 5 (a_commonjs (class_of no (static_block (over Kind.ReturnStatement no ∷ []) ∷ []) ∷ []))
    ∷ kept (a_commonjs (block (over Kind.ReturnStatement no ∷ []) ∷ []))
    ∷ []

-- export { a }; with and without a declaration, twice, and in a script
abbrev pub exported_names : List Row
exported_names =
    breaks 7 1 (a_module (exports a a ∷ []))
    ∷ kept (a_module (let_ a ∷ exports a a ∷ []))
    ∷ breaks 7 7 (a_module (let_ a ∷ exports a a ∷ exports a a ∷ []))
    ∷ kept (a_module (let_ a ∷ exports a a ∷ exports a (codes "b") ∷ []))
    ∷ breaks 7 1 (a_script (exports a a ∷ []))
    ∷ breaks 7 1 (a_commonjs (over (Kind.ImportDeclaration a) (listed Kind.Specifiers []) ∷ []))
    ∷ breaks 7 5 (a_module (over (Kind.ExportNamedDeclaration None) (joined (function_a [] []) (listed Kind.Specifiers [])) ∷ exports a a ∷ []))
    ∷ []

-- super.b and super() in a function, a method, a constructor with and without heritage, and in an arrow there; new.target and
-- import.meta
abbrev pub meanings : List Row
meanings =
    breaks 8 5 (a_module (function_a [] (does super_member ∷ []) ∷ []))
    ∷ kept (a_module (class_of no (method_b method_kind.Method (does super_member ∷ []) ∷ []) ∷ []))
    ∷ breaks 8 8 (a_module (class_of no (method_b method_kind.Constructor (does (calls (leaf Kind.Super)) ∷ []) ∷ []) ∷ []))
    ∷ kept (a_module (class_of (reads a) (method_b method_kind.Constructor (does (calls (leaf Kind.Super)) ∷ []) ∷ []) ∷ []))
    ∷ kept (a_module (class_of (reads a) (method_b method_kind.Constructor (does (function_of function_kind.Arrow no [] (does (calls (leaf Kind.Super)) ∷ [])) ∷ []) ∷ []) ∷ []))
    ∷ breaks 8 9 (a_module (class_of (reads a) (method_b method_kind.Method (does (calls (leaf Kind.Super)) ∷ []) ∷ []) ∷ []))
    ∷ breaks 8 2 (a_module (does (leaf Kind.NewTarget) ∷ []))
    ∷ kept (a_module (function_a [] (does (leaf Kind.NewTarget) ∷ []) ∷ []))
    ∷ breaks 8 2 (a_script (does (leaf Kind.ImportMeta) ∷ []))
    ∷ kept (a_module (does (leaf Kind.ImportMeta) ∷ []))
    ∷ []

-- try { } catch (a) { var a; } and with another name, in a function, and with a pattern
abbrev pub caught : List Row
caught =
    breaks 9 8 (a_module (catches (binds a) (var_ a ∷ []) ∷ []))
    ∷ kept (a_module (catches (binds a) (var_ (codes "b") ∷ []) ∷ []))
    ∷ breaks 9 9 (a_module (catches (binds a) (block (var_ a ∷ []) ∷ []) ∷ []))
    ∷ kept (a_module (catches (binds a) (function_of function_kind.Declaration (binds (codes "b")) [] (var_ a ∷ []) ∷ []) ∷ []))
    ∷ breaks 9 9 (a_module (catches (over Kind.BindingArray (listed Kind.Elements (binds a ∷ []))) (var_ a ∷ []) ∷ []))
    ∷ kept (a_module (catches no (var_ a ∷ []) ∷ []))
    ∷ []

-- with (1) ; delete a; delete (a); delete a.b;
abbrev pub strict_code : List Row
strict_code =
    kept (a_script (over Kind.WithStatement (joined one (leaf Kind.EmptyStatement)) ∷ []))
    ∷ breaks 10 1 (a_module (over Kind.WithStatement (joined one (leaf Kind.EmptyStatement)) ∷ []))
    ∷ breaks 10 4 (a_script (use_strict ∷ does (over (Kind.UnaryExpression unary.Delete) (reads a)) ∷ []))
    ∷ kept (a_script (does (over (Kind.UnaryExpression unary.Delete) (reads a)) ∷ []))
    ∷ breaks 10 2 (a_module (does (over (Kind.UnaryExpression unary.Delete) (over Kind.ParenthesizedExpression (reads a))) ∷ []))
    ∷ kept (a_module (does (over (Kind.UnaryExpression unary.Delete) (over (Kind.MemberExpression (key_name a) false) (joined (reads a) no))) ∷ []))
    ∷ []

abbrev pub parts : List Row
parts =
    breaks 11 4 (a_module (over Kind.SwitchStatement (joined one (listed Kind.Cases (over Kind.SwitchCase (joined no (listed Kind.Statements [])) ∷ over Kind.SwitchCase (joined no (listed Kind.Statements [])) ∷ []))) ∷ []))
    ∷ breaks 11 7 (a_module (class_of no (method_b method_kind.Constructor [] ∷ method_b method_kind.Constructor [] ∷ []) ∷ []))
    ∷ breaks 11 1 (a_module (over (Kind.VariableDeclaration variable.Var) (listed Kind.Declarators []) ∷ []))
    ∷ breaks 11 2 (a_module (declares variable.Const (binds a) no ∷ []))
    ∷ kept (a_module (declares variable.Const (binds a) one ∷ []))
    ∷ breaks 11 2 (a_module (declares variable.Let (over Kind.BindingArray (listed Kind.Elements [])) no ∷ []))
    ∷ kept (a_module (over Kind.ForOfStatement (row (declares variable.Const (binds a) no ∷ one ∷ leaf Kind.EmptyStatement ∷ [])) ∷ []))
    ∷ breaks 11 3 (a_module (over Kind.ForOfStatement (row (declares variable.Const (binds a) one ∷ one ∷ leaf Kind.EmptyStatement ∷ [])) ∷ []))
    ∷ breaks 11 2 (a_module (does (over Kind.SequenceExpression (listed Kind.Expressions (one ∷ []))) ∷ []))
    ∷ breaks 11 2 (a_module (does (over Kind.TemplateLiteral (joined (listed Kind.Quasis []) (listed Kind.Expressions []))) ∷ []))
    ∷ breaks 11 3 (a_module (function_a (over Kind.BindingRest (binds a) ∷ binds (codes "b") ∷ []) [] ∷ []))
    ∷ breaks 11 1 (a_module (over Kind.TryStatement (row (block [] ∷ no ∷ no ∷ [])) ∷ []))
    ∷ breaks 11 3 (a_module (over Kind.IfStatement (row (one ∷ let_ a ∷ no ∷ [])) ∷ []))
    ∷ kept (a_module (over Kind.IfStatement (row (one ∷ var_ a ∷ no ∷ [])) ∷ []))
    ∷ []

abbrev pub numbers : List Row
numbers =
    kept (a_module (does (leaf (Kind.Literal (value.Number (pos 9007199254740991)))) ∷ []))
    ∷ breaks 12 2 (a_module (does (leaf (Kind.Literal (value.Number (pos 9007199254740992)))) ∷ []))
    ∷ kept (a_module (does (leaf (Kind.Literal (value.Number (negsuc 9007199254740990)))) ∷ []))
    ∷ breaks 12 2 (a_module (does (leaf (Kind.Literal (value.Number (negsuc 9007199254740991)))) ∷ []))
    ∷ kept (a_module (does one ∷ []))
    ∷ kept (a_module (does (leaf (Kind.Literal (value.Text a))) ∷ []))
    ∷ []
