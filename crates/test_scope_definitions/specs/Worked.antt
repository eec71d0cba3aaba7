-- Small programs with their tables, told by hand.
use Rattle.std.specs.Prelude.{◌+◌, List, [], ◌∷◌, Some, None, codes}
use Rattle.js_syntax.specs.declared.node_kind.NodeKind.{NodeKind as Kind}
use Rattle.js_syntax.specs.Node.{joined}
use Rattle.form_rules.specs.Samples.{over, row, a_module, a_script, a, binds, reads, does, let_, var_, block, function_a, static_block, calls}
use Rattle.scope_rules.specs.ScopeFlags as scope_flag
use Rattle.scope_rules.specs.SymbolFlags as symbol_flag
use Rattle.scope_rules.specs.ReferenceFlags as reference_flag
use Rattle.scope_rules.specs.Table.{Scoping}
use Rattle.scope_rules.specs.Samples.{b, class_expression, field, switches}
use Rattle.js_scoping.specs.Worked.{Row, named, scope, symbol, reference, unresolved}

-- for (let a in b) a;
-- (class a { static { var b; b; } b = a; });
-- function a() { eval(); } with (a) { } in a script
-- switch (a) { case 1: let a; a; }
abbrev pub rows : List Row
rows =
    record {
      tree = a_module (over Kind.ForInStatement (row (let_ a ∷ reads b ∷ does (reads a) ∷ [])) ∷ []);
      table = record {
        scopes = scope None (scope_flag.strict_mode + scope_flag.top) [] ∷ scope (Some 0) (scope_flag.strict_mode + scope_flag.block) (named a 0 ∷ []) ∷ [];
        symbols = symbol a 1 symbol_flag.block_scoped_variable (1 ∷ []) ∷ [];
        references = reference 1 None reference_flag.read ∷ reference 1 (Some 0) reference_flag.read ∷ [];
        unresolved = unresolved b (0 ∷ []) ∷ [];
      };
    }
    ∷ record {
      tree = a_module (does (class_expression (binds a) (static_block (var_ b ∷ does (reads b) ∷ []) ∷ field (reads a) ∷ [])) ∷ []);
      table = record {
        scopes = scope None (scope_flag.strict_mode + scope_flag.top) [] ∷ scope (Some 0) scope_flag.strict_mode (named a 0 ∷ []) ∷ scope (Some 1) (scope_flag.strict_mode + scope_flag.class_static_block) (named b 1 ∷ []) ∷ scope (Some 1) scope_flag.strict_mode [] ∷ [];
        symbols = symbol a 1 symbol_flag.class (1 ∷ []) ∷ symbol b 2 symbol_flag.function_scoped_variable (0 ∷ []) ∷ [];
        references = reference 2 (Some 1) reference_flag.read ∷ reference 3 (Some 0) reference_flag.read ∷ [];
        unresolved = [];
      };
    }
    ∷ record {
      tree = a_script (function_a [] (does (calls (reads (codes "eval"))) ∷ []) ∷ over Kind.WithStatement (joined (reads a) (block [])) ∷ []);
      table = record {
        scopes = scope None (scope_flag.top + scope_flag.direct_eval) (named a 0 ∷ []) ∷ scope (Some 0) (scope_flag.function + scope_flag.direct_eval) [] ∷ scope (Some 0) scope_flag.with_statement [] ∷ scope (Some 2) scope_flag.block [] ∷ [];
        symbols = symbol a 0 symbol_flag.function (1 ∷ []) ∷ [];
        references = reference 1 None reference_flag.read ∷ reference 0 (Some 0) reference_flag.read ∷ [];
        unresolved = unresolved (codes "eval") (0 ∷ []) ∷ [];
      };
    }
    ∷ record {
      tree = a_module (switches (reads a) (let_ a ∷ does (reads a) ∷ []) ∷ []);
      table = record {
        scopes = scope None (scope_flag.strict_mode + scope_flag.top) [] ∷ scope (Some 0) (scope_flag.strict_mode + scope_flag.block) (named a 0 ∷ []) ∷ [];
        symbols = symbol a 1 symbol_flag.block_scoped_variable (1 ∷ []) ∷ [];
        references = reference 0 None reference_flag.read ∷ reference 1 (Some 0) reference_flag.read ∷ [];
        unresolved = unresolved a (0 ∷ []) ∷ [];
      };
    }
    ∷ []

-- a table that was edited: scope 3 was put between scopes 1 and 2
abbrev pub edited : Scoping
edited = record {
  scopes = scope None (scope_flag.strict_mode + scope_flag.top) (named a 0 ∷ []) ∷ scope (Some 0) (scope_flag.strict_mode + scope_flag.block) [] ∷ scope (Some 3) (scope_flag.strict_mode + scope_flag.block) [] ∷ scope (Some 1) (scope_flag.strict_mode + scope_flag.block) (named b 1 ∷ []) ∷ [];
  symbols = symbol a 0 symbol_flag.block_scoped_variable [] ∷ symbol b 3 symbol_flag.block_scoped_variable [] ∷ [];
  references = [];
  unresolved = [];
}
