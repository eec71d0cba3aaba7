-- Of a sequence the parts leave that don't act, but for the last, whose value counts (ECMA-262 13.16.1). Where that is left alone it
-- stands there itself, if that doesn't matter, and else behind a zero, as in `(0, o.f)()`.
use Rattle.std.specs.Prelude.{◌≡◌, zero, Bool, true, false, not, ◌&&◌, ◌||◌, pos, Option, Some, None, if◌then◌else◌}
use Rattle.js_syntax.specs.declared.node_kind.NodeKind.{NodeKind as Kind}
use Rattle.js_syntax.specs.declared.node_kind.NodeKind.TheVariants.{SequenceExpression as sequence_expression, Expressions as expressions, ParenthesizedExpression as parenthesized_expression, Literal as literal, Hole as hole, ClassBody as class_body}
use Rattle.js_syntax.specs.declared.value.LiteralValue.{LiteralValue}
use Rattle.js_syntax.specs.declared.value.LiteralValue.TheVariants as value
use Rattle.js_syntax.specs.Node.{Forest, Tree, Note, nothing, node, absent}
use Rattle.js_tree.specs.Walk.{is_list}
use Rattle.min_pass.specs.Around.{outermost as asked_of_program}
use Rattle.scope_laws.specs.Place.{Around}
use Rattle.steps.specs.Allowed.IndirectChoice.{behind_zero}
use Rattle.steps.specs.Allowed.Places.{asked_at}
use Rattle.steps.specs.Allowed.UnusedOperation.{acts}
use Rattle.steps.specs.Allowed.Uses.{Use, use_at, stands_bare}

-- what stays in front of another part
abbrev pub stays_before : Kind → Note → (below : Forest) → Bool
stays_before k n below = acts k n below || is_list k

-- what is left of the parts
abbrev pub counting : (parts : Forest) → Forest
counting nothing = nothing
counting (absent rest) = absent (counting rest)
counting (node k n a nothing) = node k n a nothing
counting (node k n a rest) = if stays_before k n a then node k n a (counting rest) else counting rest

-- whether all stay
abbrev pub all_count : (parts : Forest) → Bool
all_count nothing = true
all_count (absent rest) = all_count rest
all_count (node k n a nothing) = true
all_count (node k n a rest) = stays_before k n a && all_count rest

abbrev pub is_zero : LiteralValue → Bool
is_zero (value.Number (pos zero)) = true
is_zero v = false

-- Whether a part is more than a zero in its place. A hole, the body of a class and parentheses around nothing or a list aren't, and stand
-- in no sequence by the table of node types.
abbrev pub is_more : Kind → (below : Forest) → Bool
is_more (literal v) below = not (is_zero v)
is_more hole below = false
is_more class_body below = false
is_more parenthesized_expression (node k n a rest) = not (is_list k)
is_more parenthesized_expression below = false
is_more k below = true

-- whether the parts before the last are more than a zero
abbrev pub more_before : (parts : Forest) → Bool
more_before (node k n a (node l m b nothing)) = is_more k a
more_before parts = true

-- one part itself, or behind a zero that is less than what leaves
abbrev pub itself_or_behind : (bare more : Bool) → (n : Note) → (part : Tree) → Option Tree
itself_or_behind true more n part = Some part
itself_or_behind false true n part = Some (behind_zero n n n part)
itself_or_behind false false n part = None

-- a sequence of them, or the last one, where it is used so, and more than a zero or not before it
abbrev pub as_value_of : Use → (in_with more : Bool) → (n m : Note) → (parts : Forest) → Option Tree
as_value_of u in_with more n m nothing = None
as_value_of u in_with more n m (node k i a nothing) = itself_or_behind (stands_bare u in_with k a) more n (record { kind = k; note = i; below = a })
as_value_of u in_with more n m parts = Some (record { kind = sequence_expression; note = n; below = node expressions m parts nothing })

abbrev pub sequence_becomes : Use → (in_with : Bool) → (n m : Note) → Kind → (below : Forest) → Option Tree
sequence_becomes u in_with n m sequence_expression (node expressions i parts nothing) = if all_count parts then None else as_value_of u in_with (more_before parts) n m (counting parts)
sequence_becomes u in_with n m k below = None

pub data IdleParts (a : Around) : (x y : Tree) → Type 0 where
  idle_parts_leave : (n m : Note) (x y : Tree) → sequence_becomes (use_at a) (asked_at (asked_of_program true) a).in_with n m x.kind x.below ≡ Some y → IdleParts a x y
