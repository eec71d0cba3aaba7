-- Worked rows.
use Rattle.std.specs.Prelude.{◌+◌, List, [], ◌∷◌, false, None, codes}
use Rattle.js_syntax.specs.declared.node_kind.NodeKind.{NodeKind as Kind}
use Rattle.js_syntax.specs.declared.kind.VariableKind.TheVariants as variable
use Rattle.js_syntax.specs.declared.kind.FunctionKind.TheVariants as function_kind
use Rattle.js_syntax.specs.declared.kind.MethodKind.TheVariants as method_kind
use Rattle.js_syntax.specs.declared.operator.AssignmentOperator.TheVariants as assignment
use Rattle.js_syntax.specs.declared.operator.UpdateOperator.TheVariants as update
use Rattle.js_syntax.specs.Node.{joined}
use Rattle.form_rules.specs.Samples.{over, leaf, row, listed, no, a_module, a_script, a, binds, reads, one, does, declares, let_, var_, block, function_of, function_a, use_strict, class_of, method_b, static_block, catches, calls, exports}
use Rattle.scope_rules.specs.declared.layer.Part.TheVariants.{OwnName as own_name, Parameters as parameters, Body as body}
use Rattle.scope_rules.specs.ScopeFlags as scope_flag
use Rattle.scope_rules.specs.SymbolFlags as symbol_flag
use Rattle.scope_rules.specs.ReferenceFlags as reference_flag
use Rattle.scope_rules.specs.Samples.{Row, named, uses, program_of, inside_of, bound, bound_to_own, b, writes, assigns, member, defaults, class_expression, field, switches, imports}

-- a; { var a; let b; } b;
-- { function a() { } } a; in a script
-- let a; { const a = 1; a; } a;
abbrev pub blocks : List Row
blocks =
    record {
      tree = a_module (does (reads a) ∷ block (var_ a ∷ let_ b ∷ []) ∷ does (reads b) ∷ []);
      scopes = program_of (scope_flag.strict_mode + scope_flag.top) ∷ inside_of 0 (scope_flag.strict_mode + scope_flag.block) ∷ [];
      bindings = named a 0 body symbol_flag.function_scoped_variable ∷ named b 1 body symbol_flag.block_scoped_variable ∷ [];
      references = uses a 0 reference_flag.read (bound a 0) ∷ uses b 0 reference_flag.read None ∷ [];
    }
    ∷ record {
      tree = a_script (block (function_a [] [] ∷ []) ∷ does (reads a) ∷ []);
      scopes = program_of scope_flag.top ∷ inside_of 0 scope_flag.block ∷ inside_of 1 scope_flag.function ∷ [];
      bindings = named a 1 body symbol_flag.function ∷ [];
      references = uses a 0 reference_flag.read None ∷ [];
    }
    ∷ record {
      tree = a_module (let_ a ∷ block (declares variable.Const (binds a) one ∷ does (reads a) ∷ []) ∷ does (reads a) ∷ []);
      scopes = program_of (scope_flag.strict_mode + scope_flag.top) ∷ inside_of 0 (scope_flag.strict_mode + scope_flag.block) ∷ [];
      bindings = named a 0 body symbol_flag.block_scoped_variable ∷ named a 1 body (symbol_flag.block_scoped_variable + symbol_flag.const_variable) ∷ [];
      references = uses a 1 reference_flag.read (bound a 1) ∷ uses a 0 reference_flag.read (bound a 0) ∷ [];
    }
    ∷ []

-- function a(b) { var b; b; a; }
-- (function a() { a; }); (function a(a) { a; }); (function a(b = a) { var a; a; });
-- function a(b = a) { 'use strict'; var a; } in a script
-- (() => this) and (b => b)
abbrev pub functions : List Row
functions =
    record {
      tree = a_module (function_a (binds b ∷ []) (var_ b ∷ does (reads b) ∷ does (reads a) ∷ []) ∷ []);
      scopes = program_of (scope_flag.strict_mode + scope_flag.top) ∷ inside_of 0 (scope_flag.strict_mode + scope_flag.function) ∷ [];
      bindings = named a 0 body symbol_flag.function ∷ named b 1 parameters symbol_flag.function_scoped_variable ∷ named b 1 body symbol_flag.function_scoped_variable ∷ [];
      references = uses b 1 reference_flag.read (bound b 1) ∷ uses a 1 reference_flag.read (bound a 0) ∷ [];
    }
    ∷ record {
      tree = a_module (does (function_of function_kind.Expression (binds a) [] (does (reads a) ∷ [])) ∷ []);
      scopes = program_of (scope_flag.strict_mode + scope_flag.top) ∷ inside_of 0 (scope_flag.strict_mode + scope_flag.function) ∷ [];
      bindings = named a 1 own_name symbol_flag.function ∷ [];
      references = uses a 1 reference_flag.read (bound_to_own a 1) ∷ [];
    }
    ∷ record {
      tree = a_module (does (function_of function_kind.Expression (binds a) (binds a ∷ []) (does (reads a) ∷ [])) ∷ []);
      scopes = program_of (scope_flag.strict_mode + scope_flag.top) ∷ inside_of 0 (scope_flag.strict_mode + scope_flag.function) ∷ [];
      bindings = named a 1 own_name symbol_flag.function ∷ named a 1 parameters symbol_flag.function_scoped_variable ∷ [];
      references = uses a 1 reference_flag.read (bound a 1) ∷ [];
    }
    ∷ record {
      tree = a_module (does (function_of function_kind.Expression (binds a) (defaults (binds b) (reads a) ∷ []) (var_ a ∷ does (reads a) ∷ [])) ∷ []);
      scopes = program_of (scope_flag.strict_mode + scope_flag.top) ∷ inside_of 0 (scope_flag.strict_mode + scope_flag.function) ∷ [];
      bindings = named a 1 own_name symbol_flag.function ∷ named b 1 parameters symbol_flag.function_scoped_variable ∷ named a 1 body symbol_flag.function_scoped_variable ∷ [];
      references = uses a 1 reference_flag.read (bound_to_own a 1) ∷ uses a 1 reference_flag.read (bound a 1) ∷ [];
    }
    ∷ record {
      tree = a_script (function_a (defaults (binds b) (reads a) ∷ []) (use_strict ∷ var_ a ∷ []) ∷ []);
      scopes = program_of scope_flag.top ∷ inside_of 0 (scope_flag.strict_mode + scope_flag.function) ∷ [];
      bindings = named a 0 body symbol_flag.function ∷ named b 1 parameters symbol_flag.function_scoped_variable ∷ named a 1 body symbol_flag.function_scoped_variable ∷ [];
      references = uses a 1 reference_flag.read (bound a 0) ∷ [];
    }
    ∷ record {
      tree = a_script (does (over (Kind.Function function_kind.Arrow false) (row (no ∷ listed Kind.Parameters (binds b ∷ []) ∷ reads b ∷ []))) ∷ []);
      scopes = program_of scope_flag.top ∷ inside_of 0 (scope_flag.function + scope_flag.arrow) ∷ [];
      bindings = named b 1 parameters symbol_flag.function_scoped_variable ∷ [];
      references = uses b 1 reference_flag.read (bound b 1) ∷ [];
    }
    ∷ []

-- class a extends a { constructor() { } static { var a; a; } }
-- (class a { b = a; }); and a field without a value
abbrev pub classes : List Row
classes =
    record {
      tree = a_module (class_of (reads a) (method_b method_kind.Constructor [] ∷ static_block (var_ a ∷ does (reads a) ∷ []) ∷ []) ∷ []);
      scopes = program_of (scope_flag.strict_mode + scope_flag.top) ∷ inside_of 0 scope_flag.strict_mode ∷ inside_of 1 (scope_flag.strict_mode + scope_flag.function + scope_flag.constructor) ∷ inside_of 1 (scope_flag.strict_mode + scope_flag.class_static_block) ∷ [];
      bindings = named a 0 body symbol_flag.class ∷ named a 3 body symbol_flag.function_scoped_variable ∷ [];
      references = uses a 1 reference_flag.read (bound a 0) ∷ uses a 3 reference_flag.read (bound a 3) ∷ [];
    }
    ∷ record {
      tree = a_script (does (class_expression (binds a) (field (reads a) ∷ field no ∷ [])) ∷ []);
      scopes = program_of scope_flag.top ∷ inside_of 0 scope_flag.strict_mode ∷ inside_of 1 scope_flag.strict_mode ∷ [];
      bindings = named a 1 body symbol_flag.class ∷ [];
      references = uses a 2 reference_flag.read (bound a 1) ∷ [];
    }
    ∷ []

-- try { } catch (a) { var a; a; }
-- switch (a) { case 1: let a; a; }
-- for (let a; a; ) a; and for (a of a) ;
-- with (a) b; in a script
abbrev pub statements : List Row
statements =
    record {
      tree = a_module (catches (binds a) (var_ a ∷ does (reads a) ∷ []) ∷ []);
      scopes = program_of (scope_flag.strict_mode + scope_flag.top) ∷ inside_of 0 (scope_flag.strict_mode + scope_flag.block) ∷ inside_of 0 (scope_flag.strict_mode + scope_flag.catch) ∷ inside_of 2 (scope_flag.strict_mode + scope_flag.block) ∷ [];
      bindings = named a 2 body symbol_flag.catch_variable ∷ named a 0 body symbol_flag.function_scoped_variable ∷ [];
      references = uses a 3 reference_flag.read (bound a 2) ∷ [];
    }
    ∷ record {
      tree = a_module (switches (reads a) (let_ a ∷ does (reads a) ∷ []) ∷ []);
      scopes = program_of (scope_flag.strict_mode + scope_flag.top) ∷ inside_of 0 (scope_flag.strict_mode + scope_flag.block) ∷ [];
      bindings = named a 1 body symbol_flag.block_scoped_variable ∷ [];
      references = uses a 0 reference_flag.read None ∷ uses a 1 reference_flag.read (bound a 1) ∷ [];
    }
    ∷ record {
      tree = a_module (over Kind.ForStatement (row (let_ a ∷ reads a ∷ no ∷ does (reads a) ∷ [])) ∷ []);
      scopes = program_of (scope_flag.strict_mode + scope_flag.top) ∷ inside_of 0 (scope_flag.strict_mode + scope_flag.block) ∷ [];
      bindings = named a 1 body symbol_flag.block_scoped_variable ∷ [];
      references = uses a 1 reference_flag.read (bound a 1) ∷ uses a 1 reference_flag.read (bound a 1) ∷ [];
    }
    ∷ record {
      tree = a_module (over Kind.ForOfStatement (row (writes a ∷ reads a ∷ leaf Kind.EmptyStatement ∷ [])) ∷ []);
      scopes = program_of (scope_flag.strict_mode + scope_flag.top) ∷ inside_of 0 (scope_flag.strict_mode + scope_flag.block) ∷ [];
      bindings = [];
      references = uses a 1 reference_flag.write None ∷ uses a 1 reference_flag.read None ∷ [];
    }
    ∷ record {
      tree = a_script (over Kind.WithStatement (joined (reads a) (does (reads b))) ∷ []);
      scopes = program_of scope_flag.top ∷ inside_of 0 scope_flag.with_statement ∷ [];
      bindings = [];
      references = uses a 0 reference_flag.read None ∷ uses b 1 reference_flag.read None ∷ [];
    }
    ∷ []

-- function a() { eval(); } { } and with (eval()) { } in a script
abbrev pub calls_of_eval : List Row
calls_of_eval =
    record {
      tree = a_module (function_a [] (does (calls (reads (codes "eval"))) ∷ []) ∷ block [] ∷ []);
      scopes = program_of (scope_flag.strict_mode + scope_flag.top + scope_flag.direct_eval) ∷ inside_of 0 (scope_flag.strict_mode + scope_flag.function + scope_flag.direct_eval) ∷ inside_of 0 (scope_flag.strict_mode + scope_flag.block) ∷ [];
      bindings = named a 0 body symbol_flag.function ∷ [];
      references = uses (codes "eval") 1 reference_flag.read None ∷ [];
    }
    ∷ record {
      tree = a_script (over Kind.WithStatement (joined (calls (reads (codes "eval"))) (block [])) ∷ []);
      scopes = program_of (scope_flag.top + scope_flag.direct_eval) ∷ inside_of 0 scope_flag.with_statement ∷ inside_of 1 scope_flag.block ∷ [];
      bindings = [];
      references = uses (codes "eval") 0 reference_flag.read None ∷ [];
    }
    ∷ []

-- a = a; a += 1; a++; a.b = 1; a.b.b = 1; (a).b = 1; [a = a] = a;
-- import b from 'm'; export { b as a };
abbrev pub uses_of_names : List Row
uses_of_names =
    record {
      tree = a_module (
          does (assigns assignment.Assign (writes a) (reads a))
          ∷ does (assigns assignment.Addition (writes a) one)
          ∷ does (over (Kind.UpdateExpression update.Increment false) (writes a))
          ∷ does (assigns assignment.Assign (member (reads a)) one)
          ∷ does (assigns assignment.Assign (member (member (reads a))) one)
          ∷ does (assigns assignment.Assign (member (over Kind.ParenthesizedExpression (reads a))) one)
          ∷ does (assigns assignment.Assign (over Kind.TargetArray (listed Kind.Elements (over Kind.TargetDefault (joined (writes a) (reads a)) ∷ []))) (reads a))
          ∷ []
          );
      scopes = program_of (scope_flag.strict_mode + scope_flag.top) ∷ [];
      bindings = [];
      references =
          uses a 0 reference_flag.write None ∷ uses a 0 reference_flag.read None ∷ uses a 0 (reference_flag.read + reference_flag.write) None ∷ uses a 0 (reference_flag.read + reference_flag.write) None ∷ uses a 0 (reference_flag.read + reference_flag.member_write_target) None ∷ uses a 0 reference_flag.read None ∷ uses a 0 (reference_flag.read + reference_flag.member_write_target) None ∷ uses a 0 reference_flag.write None ∷ uses a 0 reference_flag.read None ∷ uses a 0 reference_flag.read None ∷ [];
    }
    ∷ record {
      tree = a_module (imports b ∷ exports b a ∷ []);
      scopes = program_of (scope_flag.strict_mode + scope_flag.top) ∷ [];
      bindings = named b 0 body symbol_flag.import ∷ [];
      references = uses b 0 reference_flag.read (bound b 0) ∷ [];
    }
    ∷ []
