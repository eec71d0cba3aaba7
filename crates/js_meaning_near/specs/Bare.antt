-- Expressions that may stand in the place of a choice that gives their value.
use Rattle.std.specs.Prelude.{Bool, true, false, not, codes}
use Rattle.std.specs.Str.{bytes_eq}
use Rattle.js_syntax.specs.declared.node_kind.NodeKind.{NodeKind as Kind}
use Rattle.js_syntax.specs.declared.kind.FunctionKind.TheVariants as function_kind
use Rattle.js_syntax.specs.Node.{Forest, node}
use Rattle.js_meaning.specs.Value.{Text}
use Rattle.js_meaning.specs.Node.{Wanted, itself, to_call, for_typeof}
use Rattle.js_meaning_near.specs.Near.{is_blunt}

-- a choice gives a value, and no name that may be missing for `typeof` (13.5.3.1), or of which a call is a direct one
-- (13.3.6.1, step 6)
abbrev pub name_stands_bare : Wanted → Text → Bool
name_stands_bare itself x = true
name_stands_bare to_call x = not (bytes_eq x (codes "eval"))
name_stands_bare for_typeof x = false

-- and no receiver for a call (13.3.6.2)
abbrev pub member_stands_bare : Wanted → Bool
member_stands_bare itself = true
member_stands_bare to_call = false
member_stands_bare for_typeof = true

-- By what is wanted there, the kind, and what lies below it. Parentheses are looked through (13.2.9.3).
abbrev pub stands_bare : Wanted → Kind → Forest → Bool
stands_bare w (Kind.ReferenceName x) a = name_stands_bare w x
stands_bare w (Kind.MemberExpression key optional) a = member_stands_bare w
stands_bare w Kind.ParenthesizedExpression (node k n a r) = stands_bare w k a
stands_bare w (Kind.Function function_kind.Expression pure) a = true
stands_bare w (Kind.Function function_kind.Arrow pure) a = true
stands_bare w k a = is_blunt k
