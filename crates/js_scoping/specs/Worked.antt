-- Small programs with their tables, told by hand.
use Rattle.std.specs.Prelude.{◌≡◌, ℕ, ◌+◌, List, [], ◌∷◌, true, false, Option, Some, None, codes}
use Rattle.js_syntax.specs.declared.node_kind.NodeKind.{NodeKind as Kind}
use Rattle.js_syntax.specs.declared.kind.FunctionKind.TheVariants as function_kind
use Rattle.js_syntax.specs.declared.operator.AssignmentOperator.TheVariants as assignment
use Rattle.js_syntax.specs.Node.{Forest, nowhere}
use Rattle.form_rules.specs.Samples.{over, row, listed, a_module, a_script, a, binds, reads, one, does, var_, function_of, function_a, catches}
use Rattle.scope_rules.specs.ScopeFlags as scope_flag
use Rattle.scope_rules.specs.SymbolFlags as symbol_flag
use Rattle.scope_rules.specs.ReferenceFlags as reference_flag
use Rattle.scope_rules.specs.Samples.{b, writes, assigns}
use Rattle.scope_rules.specs.Table.{Named, Scope, Symbol, Reference, Redeclaration, Unresolved, Scoping}
use Rattle.js_scoping.specs.Build.{table_of}

pub record Row : Type 0 where
  pub tree : Forest
  pub table : Scoping

abbrev pub AreRight : List Row → Type 0
AreRight [] = Unit {0}
AreRight (r ∷ rs) = (table_of r.tree ≡ r.table) × AreRight rs

-- ---- words of rows

abbrev pub named : List ℕ → ℕ → Named
named x symbol = record { name = x; symbol = symbol }

abbrev pub scope : Option ℕ → ℕ → List Named → Scope
scope parent flags bindings = record { parent = parent; flags = flags; bindings = bindings }

-- declared once
abbrev pub symbol : List ℕ → (scope flags : ℕ) → (references : List ℕ) → Symbol
symbol x s flags references = record { name = x; flags = flags; scope = s; redeclarations = []; references = references; is_pure = false }

abbrev pub declared_as : ℕ → Redeclaration
declared_as flags = record { span = nowhere.span; flags = flags; is_pure = false }

abbrev pub reference : (scope : ℕ) → Option ℕ → ℕ → Reference
reference s bound flags = record { scope = s; symbol = bound; flags = flags }

abbrev pub unresolved : List ℕ → List ℕ → Unresolved
unresolved x references = record { name = x; references = references }

abbrev pub c : List ℕ
c = codes "c"

-- function a(b) { var b; b; c; b = 1; }
-- (function a(a) { a; }); and (function a() { a; });
-- /* without side effects */ function a() { }
-- try { } catch (a) { var a; a; } b; b;
abbrev pub rows : List Row
rows =
    record {
      tree = a_module (function_a (binds b ∷ []) (var_ b ∷ does (reads b) ∷ does (reads c) ∷ does (assigns assignment.Assign (writes b) one) ∷ []) ∷ []);
      table = record {
        scopes = scope None (scope_flag.strict_mode + scope_flag.top) (named a 0 ∷ []) ∷ scope (Some 0) (scope_flag.strict_mode + scope_flag.function) (named b 1 ∷ []) ∷ [];
        symbols = symbol a 0 symbol_flag.function [] ∷ record { name = b; flags = symbol_flag.function_scoped_variable; scope = 1; redeclarations = declared_as symbol_flag.function_scoped_variable ∷ declared_as symbol_flag.function_scoped_variable ∷ []; references = 0 ∷ 2 ∷ []; is_pure = false } ∷ [];
        references = reference 1 (Some 1) reference_flag.read ∷ reference 1 None reference_flag.read ∷ reference 1 (Some 1) reference_flag.write ∷ [];
        unresolved = unresolved c (1 ∷ []) ∷ [];
      };
    }
    ∷ record {
      tree = a_module (does (function_of function_kind.Expression (binds a) (binds a ∷ []) (does (reads a) ∷ [])) ∷ []);
      table = record {
        scopes = scope None (scope_flag.strict_mode + scope_flag.top) [] ∷ scope (Some 0) (scope_flag.strict_mode + scope_flag.function) (named a 1 ∷ []) ∷ [];
        symbols = symbol a 1 symbol_flag.function [] ∷ symbol a 1 symbol_flag.function_scoped_variable (0 ∷ []) ∷ [];
        references = reference 1 (Some 1) reference_flag.read ∷ [];
        unresolved = [];
      };
    }
    ∷ record {
      tree = a_module (does (function_of function_kind.Expression (binds a) [] (does (reads a) ∷ [])) ∷ []);
      table = record {
        scopes = scope None (scope_flag.strict_mode + scope_flag.top) [] ∷ scope (Some 0) (scope_flag.strict_mode + scope_flag.function) (named a 0 ∷ []) ∷ [];
        symbols = symbol a 1 symbol_flag.function (0 ∷ []) ∷ [];
        references = reference 1 (Some 0) reference_flag.read ∷ [];
        unresolved = [];
      };
    }
    ∷ record {
      tree = a_script (over (Kind.Function function_kind.Declaration true) (row (binds a ∷ listed Kind.Parameters [] ∷ over Kind.FunctionBody (listed Kind.Statements []) ∷ [])) ∷ []);
      table = record {
        scopes = scope None scope_flag.top (named a 0 ∷ []) ∷ scope (Some 0) scope_flag.function [] ∷ [];
        symbols = record { name = a; flags = symbol_flag.function; scope = 0; redeclarations = []; references = []; is_pure = true } ∷ [];
        references = [];
        unresolved = [];
      };
    }
    ∷ record {
      tree = a_module (catches (binds a) (var_ a ∷ does (reads a) ∷ []) ∷ does (reads b) ∷ does (reads b) ∷ []);
      table = record {
        scopes = scope None (scope_flag.strict_mode + scope_flag.top) (named a 1 ∷ []) ∷ scope (Some 0) (scope_flag.strict_mode + scope_flag.block) [] ∷ scope (Some 0) (scope_flag.strict_mode + scope_flag.catch) (named a 0 ∷ []) ∷ scope (Some 2) (scope_flag.strict_mode + scope_flag.block) [] ∷ [];
        symbols = symbol a 2 symbol_flag.catch_variable (0 ∷ []) ∷ symbol a 0 symbol_flag.function_scoped_variable [] ∷ [];
        references = reference 3 (Some 0) reference_flag.read ∷ reference 0 None reference_flag.read ∷ reference 0 None reference_flag.read ∷ [];
        unresolved = unresolved b (1 ∷ 2 ∷ []) ∷ [];
      };
    }
    ∷ []
