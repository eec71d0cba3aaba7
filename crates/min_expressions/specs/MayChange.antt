-- Whether an expression may refer to something else when it is evaluated again.
use Rattle.std.specs.Prelude.{ℕ, ◌==◌, ◌||◌, nat_lt, length, Bool, true, false, Option, Some, None, if◌then◌else◌}
use Rattle.std.specs.List.{list_any}
use Rattle.std.specs.Int.RustNames.{bit_and}
use Rattle.js_syntax.specs.declared.node_kind.NodeKind.{NodeKind as Kind}
use Rattle.js_syntax.specs.declared.node_kind.NodeKind.TheVariants.{ReferenceName as reference_name, ThisExpression as this_expression, MemberExpression as member_expression, ParenthesizedExpression as parenthesized_expression}
use Rattle.js_syntax.specs.declared.scalar.SourceType.{SourceType}
use Rattle.js_syntax.specs.declared.scalar.SourceType.TheVariants as source_type
use Rattle.js_syntax.specs.Node.{Forest, Note, node}
use Rattle.scope_rules.specs.SymbolFlags as symbol_flag
use Rattle.scope_rules.specs.Table.{Scoping, Symbol}
use Rattle.scope_table.specs.Reading.{reference_at, symbol_at, is_write}
use Rattle.min_context.specs.Seen.{Seen}

-- ---- a symbol

-- the module that declares it may write to it (ECMA-262 9.1.1.5)
abbrev pub is_import : Symbol → Bool
is_import s = bit_and s.flags symbol_flag.import == symbol_flag.import

-- other scripts may write to the names of a script's own scope (16.1.7)
abbrev pub is_script_global : SourceType → Symbol → Bool
is_script_global source_type.Script s = s.scope == 0
is_script_global how s = false

abbrev pub is_written : Scoping → Symbol → Bool
is_written t s = list_any (λ r. is_write (reference_at t r)) s.references

abbrev pub may_be_written : Seen → Symbol → Bool
may_be_written c s = is_import s || (is_script_global c.source_type s || is_written c.scoping s)

-- a number past the last is that of no symbol
abbrev pub symbol_may_change : Seen → (symbol : Option ℕ) → Bool
symbol_may_change c None = true
symbol_may_change c (Some n) = if nat_lt n (length c.scoping.symbols) then may_be_written c (symbol_at c.scoping n) else true

-- ---- an expression, parentheses aside

abbrev pub symbol_of : Scoping → (id : Option ℕ) → Option ℕ
symbol_of t None = None
symbol_of t (Some r) = (reference_at t r).symbol

abbrev pub may_change : Seen → Kind → Note → (below : Forest) → Bool
may_change c this_expression n below = false
may_change c (reference_name x) n below = symbol_may_change c (symbol_of c.scoping n.id)
may_change c parenthesized_expression n (node k m inner rest) = may_change c k m inner
may_change c k n below = true

-- ---- what is assigned, parentheses aside

abbrev pub object_may_change : Seen → (below : Forest) → Bool
object_may_change c (node k n inner rest) = may_change c k n inner
object_may_change c below = false

-- of a member that is assigned, its object
abbrev pub target_may_change : Seen → Kind → (below : Forest) → Bool
target_may_change c (member_expression key optional) below = object_may_change c below
target_may_change c parenthesized_expression (node k n inner rest) = target_may_change c k inner
target_may_change c k below = false
