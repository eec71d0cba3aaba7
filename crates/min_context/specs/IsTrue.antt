-- When what the context of a walk tells is true of the program.
use Rattle.std.specs.Prelude.{◌≡◌, ℕ, ◌+◌, ◌<◌, ◌≤◌, length, [], Bool, true, false, Option, Some, None}
use Rattle.js_syntax.specs.declared.node_kind.NodeKind.{NodeKind as Kind}
use Rattle.js_syntax.specs.declared.node_kind.NodeKind.TheVariants.{Function as function, VariableDeclarator as variable_declarator, BindingName as binding_name, Literal as literal}
use Rattle.js_syntax.specs.declared.kind.FunctionKind.TheVariants as function_kind
use Rattle.js_syntax.specs.declared.value.LiteralValue.{LiteralValue}
use Rattle.js_syntax.specs.Class.{root}
use Rattle.js_syntax.specs.Node.{Forest, Note, nothing, node, absent}
use Rattle.js_effects.specs.Silence.{outside, may_have_effects}
use Rattle.json_shape.specs.Shape.{Fits}
use Rattle.scope_laws.specs.Exact.{Among}
use Rattle.scope_table.specs.Reading.{reference_at, is_write}
use Rattle.scope_counts.specs.Counts.{is_id, ids}
use Rattle.scope_counts.specs.Exact.{lists_of}
use Rattle.scope_counts.specs.Scopes.{ExactButMarks}
use Rattle.scope_counts.specs.Walks.{to_symbol, living, is_dead}
use Rattle.symbol_sets.specs.Numbers.{has}
use Rattle.min_context.specs.Seen.{Seen}

-- ---- what the context tells of a symbol: nothing yet

-- whether its functions are held dead
abbrev pub held_dead : Seen → (symbol : ℕ) → Bool
held_dead c symbol = false

-- the literal that it always is
abbrev pub constant_of : Seen → (symbol : ℕ) → Option LiteralValue
constant_of c symbol = None

-- what a call of its function does
pub data Summary : Type 0 where
  unknown : Summary
  silent : Summary

abbrev pub summary_of : Seen → (symbol : ℕ) → Summary
summary_of c symbol = unknown

-- ---- what that says of the program, as far as what declares the symbol stands there still

-- how often a node of a kind, with what lies below it, counts in a tree
abbrev pub counted : (Kind → Note → Forest → ℕ) → Forest → ℕ
counted f nothing = 0
counted f (absent rest) = counted f rest
counted f (node k n below rest) = f k n below + counted f below + counted f rest

-- each of them is so
abbrev pub Each : (Kind → Note → Forest → Type 0) → Forest → Type 0
Each P nothing = Unit {0}
Each P (absent rest) = Each P rest
Each P (node k n below rest) = P k n below × Each P below × Each P rest

abbrev pub declares : (symbol : ℕ) → Kind → Note → Forest → ℕ
declares symbol (binding_name x) n below = is_id symbol n.id
declares symbol k n below = 0

-- a declarator, and a function declaration, whose name has the symbol
abbrev pub names : (symbol : ℕ) → Forest → ℕ
names symbol (node (binding_name x) n inner rest) = is_id symbol n.id
names symbol t = 0

abbrev pub is_declarator : (symbol : ℕ) → Kind → Note → Forest → ℕ
is_declarator symbol variable_declarator n below = names symbol below
is_declarator symbol k n below = 0

abbrev pub is_function : (symbol : ℕ) → Kind → Note → Forest → ℕ
is_function symbol (function function_kind.Declaration pure) n below = names symbol below
is_function symbol k n below = 0

abbrev pub behind_name : Forest → Forest
behind_name (node k n inner rest) = rest
behind_name t = nothing

pub data IsLiteral (value : LiteralValue) : Forest → Type 0 where
  a_literal : (n : Note) (below : Forest) → IsLiteral value (node (literal value) n below nothing)

-- its one declaration is a declarator with this literal, and no reference to it writes
pub record IsConstant (c : Seen) (t : Forest) (symbol : ℕ) (value : LiteralValue) : Type 0 where
  pub once : counted (declares symbol) t ≤ 1
  pub declarators : counted (declares symbol) t ≡ counted (is_declarator symbol) t
  pub initial : Each (λ k n below. 1 ≤ is_declarator symbol k n below → IsLiteral value (behind_name below)) t
  pub unwritten : (r : ℕ) → Among r (lists_of c.scoping symbol) → is_write (reference_at c.scoping r) ≡ false

-- its one declaration is a function whose parameters and body have no effect, whatever names are bound
pub record IsSilent (t : Forest) (symbol : ℕ) : Type 0 where
  pub once : counted (declares symbol) t ≤ 1
  pub functions : counted (declares symbol) t ≡ counted (is_function symbol) t
  pub body : Each (λ k n below. 1 ≤ is_function symbol k n below → may_have_effects [] outside (behind_name below) ≡ false) t

abbrev pub Does : Summary → Forest → (symbol : ℕ) → Type 0
Does unknown t symbol = Unit {0}
Does silent t symbol = IsSilent t symbol

pub record IsTrue (c : Seen) (t : Forest) : Type 0 where
  -- the table tells what stands there, but that its lists hold the marked references still
  pub lists : ExactButMarks c.scoping (has c.marked) t
  -- each reference can be marked
  pub room : (r : ℕ) → 0 < ids r t → r < length c.marked
  -- it is a tree of the table of node types
  pub fits : Fits root t
  -- nothing that is not below a function held dead refers to one
  pub dead : (symbol : ℕ) → held_dead c symbol ≡ true → living (is_dead (held_dead c)) (to_symbol symbol) t ≡ 0
  pub constants : (symbol : ℕ) (value : LiteralValue) → constant_of c symbol ≡ Some value → IsConstant c t symbol value
  pub summaries : (symbol : ℕ) → Does (summary_of c symbol) t symbol
