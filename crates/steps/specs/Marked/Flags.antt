-- What the flags of a table's scopes tell of a tree whose nodes say which scopes they make: the table may have scopes that the tree
-- has no more.
use Rattle.std.specs.Prelude.{◌≡◌, ℕ, suc, Bool, true, false, not, ◌&&◌, ◌||◌, ◌==◌, Option, Some, None, if◌then◌else◌}
use Rattle.std.specs.Int.RustNames.{bit_and}
use Rattle.js_syntax.specs.declared.node_kind.NodeKind.{NodeKind as Kind}
use Rattle.js_syntax.specs.declared.node_kind.NodeKind.TheVariants.{Program as program, Function as function, Class as class, PropertyDefinition as property_definition, StaticBlock as static_block, BlockStatement as block_statement, WithStatement as with_statement, SwitchStatement as switch_statement, CatchClause as catch_clause, ForStatement as for_statement, ForInStatement as for_in_statement, ForOfStatement as for_of_statement, VariableDeclaration as variable_declaration, ImportDeclaration as import_declaration}
use Rattle.js_syntax.specs.declared.kind.FunctionKind.TheVariants as function_kind
use Rattle.js_syntax.specs.declared.kind.ClassKind.TheVariants as class_kind
use Rattle.js_syntax.specs.declared.kind.VariableKind.{VariableKind}
use Rattle.js_syntax.specs.declared.kind.VariableKind.TheVariants as variable
use Rattle.js_syntax.specs.Node.{Forest, Note, Tree, nothing, node, absent}
use Rattle.scope_rules.specs.Context.{has_second}
use Rattle.scope_rules.specs.ScopeFlags as scope_flag
use Rattle.scope_rules.specs.Table.{Scoping}
use Rattle.scope_table.specs.Reading.{scope_at}
use Rattle.scope_laws.specs.Place.{Around, first, behind, behind_none, under, plug}
use Rattle.steps.specs.Allowed.Exposure.{Exposure, exposed_inside, exposed_of, is_script}

-- ---- bits

abbrev pub has_bits : (flags bits : ℕ) → Bool
has_bits flags bits = bit_and flags bits == bits

abbrev pub scope_has : Scoping → (scope bits : ℕ) → Bool
scope_has s scope bits = has_bits (scope_at s scope).flags bits

-- the flags are of a block of code that is not strict
abbrev pub is_sloppy_block : Scoping → (scope : ℕ) → Bool
is_sloppy_block s scope = not (scope_has s scope scope_flag.strict_mode || scope_has s scope scope_flag.top || scope_has s scope scope_flag.function || scope_has s scope scope_flag.class_static_block)

-- ---- places

-- What is exposed at a place, and the marks of three nodes around it: of the one that makes the innermost scope, of the one
-- that makes the innermost scope in which `var` declares, and of the one in whose scope the declaration around declares.
pub record Stand : Type 0 where
  pub exposure : Exposure
  pub scope : Option ℕ
  pub variables : Option ℕ
  pub declaring : Option ℕ

-- whether a child stands in the scope that the node makes: a function's or class's name doesn't, nor does the key of a field
abbrev pub is_within : Kind → (below : Forest) → (at : ℕ) → Bool
is_within (program source) below at = true
is_within (function how pure) below at = not (at == 0)
is_within (class how) below at = not (at == 0)
is_within static_block below at = true
is_within (property_definition is_static key) below at = has_second below && at == 1
is_within block_statement below at = true
is_within switch_statement below at = at == 1
is_within with_statement below at = at == 1
is_within catch_clause below at = true
is_within for_statement below at = true
is_within for_in_statement below at = true
is_within for_of_statement below at = true
is_within k below at = false

-- whether `var` declares in that scope (ECMA-262 8.2.6)
abbrev pub holds_variables : Kind → (at : ℕ) → Bool
holds_variables (program source) at = true
holds_variables (function how pure) at = not (at == 0)
holds_variables static_block at = true
holds_variables k at = false

abbrev pub declares_in : Stand → VariableKind → Option ℕ
declares_in p variable.Var = p.variables
declares_in p how = p.scope

-- where the declaration declares that the node is, or else the one around it
abbrev pub declaring_inside : Stand → Kind → (at : ℕ) → Option ℕ
declaring_inside p (variable_declaration how) at = declares_in p how
declaring_inside p (import_declaration source) at = p.scope
declaring_inside p (function function_kind.Declaration pure) at = if at == 0 then p.scope else p.declaring
declaring_inside p (class class_kind.Declaration) at = if at == 0 then p.scope else p.declaring
declaring_inside p k at = p.declaring

-- at the child at a place below a node
abbrev pub stand_inside : Stand → Kind → Note → (below : Forest) → (at : ℕ) → Stand
stand_inside p k n below at = record {
  exposure = exposed_inside p.exposure k below at;
  scope = if is_within k below at then n.id else p.scope;
  variables = if holds_variables k at then n.id else p.variables;
  declaring = declaring_inside p k at;
}

abbrev pub first_mark : Forest → Option ℕ
first_mark (node k n below rest) = n.id
first_mark t = None

-- at the program, and beside it
abbrev pub stands_of : (t : Forest) → (at : ℕ) → Stand
stands_of t at = record { exposure = exposed_of t at; scope = first_mark t; variables = first_mark t; declaring = first_mark t }

abbrev pub stand_at : (ℕ → Stand) → (at : ℕ) → Around → Option Tree → Stand
stand_at ps at (first rest) x = ps at
stand_at ps at (behind k n below a) x = stand_at ps (suc at) a x
stand_at ps at (behind_none a) x = stand_at ps (suc at) a x
stand_at ps at (under k n a rest) x = stand_at (stand_inside (ps at) k n (plug a x)) 0 a x

-- at a place of a whole tree
abbrev pub stand : Around → Option Tree → Stand
stand a x = stand_at (stands_of (plug a x)) 0 a x

-- ---- the table

-- The three scopes have numbers, and where names are exposed their flags and numbers say so.
pub record Tells (s : Scoping) (script : Bool) (p : Stand) : Type 0 where
  pub scope : ℕ
  pub scope_is : p.scope ≡ Some scope
  pub variables : ℕ
  pub variables_is : p.variables ≡ Some variables
  pub declaring : ℕ
  pub declaring_is : p.declaring ≡ Some declaring
  pub evaluates : p.exposure.evaluates ≡ true → scope_has s scope scope_flag.direct_eval ≡ true
  pub sloppy : p.exposure.in_sloppy_block ≡ true → is_sloppy_block s scope ≡ true
  pub names : p.exposure.names_shared ≡ true → script && scope == 0 ≡ true
  pub variable_names : p.exposure.variables_shared ≡ true → script && variables == 0 ≡ true
  pub declared : p.exposure.declared_shared ≡ true → script && declaring == 0 ≡ true

-- at each node of a row, whose first stands at a place among its parent's children, and at each below them
abbrev pub Told : Scoping → (script : Bool) → (stands : ℕ → Stand) → (at : ℕ) → Forest → Type 0
Told s script ps at nothing = Unit {0}
Told s script ps at (absent rest) = Told s script ps (suc at) rest
Told s script ps at (node k n below rest) = Tells s script (ps at) × Told s script (stand_inside (ps at) k n below) 0 below × Told s script ps (suc at) rest

-- in a whole tree
abbrev pub FlagsTell : Scoping → Forest → Type 0
FlagsTell s t = Told s (is_script t) (stands_of t) 0 t
