-- A statement that does nothing, whatever it holds, leaves its list where it declares no name around it: a loop of which the test is false
-- from the start (ECMA-262 14.7.3.2, 14.7.4.3), a `try` around nothing (14.15.3), such a statement behind labels, and one behind a label
-- that a jump leaves at once (14.13.4).
use Rattle.std.specs.Prelude.{◌≡◌, Bool, true, false, not, ◌&&◌, ◌||◌, Some}
use Rattle.std.specs.Str.{bytes_eq}
use Rattle.js_syntax.specs.declared.node_kind.NodeKind.{NodeKind as Kind}
use Rattle.js_syntax.specs.declared.node_kind.NodeKind.TheVariants.{Statements as statements, BlockStatement as block_statement, BreakStatement as break_statement, LabeledStatement as labeled_statement, WhileStatement as while_statement, ForStatement as for_statement, TryStatement as try_statement}
use Rattle.js_syntax.specs.Node.{Forest, Tree, nothing, node, absent, forest_of}
use Rattle.js_meaning.specs.Value.{Text}
use Rattle.scope_laws.specs.Place.{Around}
use Rattle.steps.specs.Allowed.Branches.{declares_none}
use Rattle.steps.specs.Allowed.EmptyBlock.{is_idle, idles}
use Rattle.steps.specs.Allowed.KnownConditional.{truth_known}
use Rattle.steps.specs.Allowed.Places.{IsItem}
use Rattle.steps.specs.Allowed.Untaken.{is_known}

-- what stands behind the block of a `try`: a handler or none, and a finalizer or none, which does nothing
abbrev pub finalizer_idles : Forest → Bool
finalizer_idles nothing = false
finalizer_idles (absent rest) = idles rest
finalizer_idles (node k n below rest) = idles rest

-- Whether a statement only leaves the one with this label: a jump that does, a block or a list that begins with such a statement, and one
-- behind another label.
abbrev pub leaves_at_once : (label : Text) → Kind → (below : Forest) → Bool
leaves_at_once l (break_statement (Some m)) below = bytes_eq l m
leaves_at_once l (labeled_statement m) (node k n below rest) = not (bytes_eq m l) && leaves_at_once l k below
leaves_at_once l block_statement (node k n below rest) = leaves_at_once l k below
leaves_at_once l statements (node k n below rest) = leaves_at_once l k below
leaves_at_once l k below = false

abbrev pub does_nothing : Kind → (below : Forest) → Bool
does_nothing while_statement (node t m d rest) = is_known (Some false) (truth_known t m d)
does_nothing for_statement (absent (node t m d rest)) = is_known (Some false) (truth_known t m d)
does_nothing try_statement (node k n block rest) = (is_idle k && idles block) && finalizer_idles rest
does_nothing (labeled_statement label) (node k n below rest) = does_nothing k below || leaves_at_once label k below
does_nothing k below = false

pub data IdleStatement (a : Around) (x : Tree) : Type 0 where
  idle_leaves : IsItem a → does_nothing x.kind x.below ≡ true → declares_none (forest_of x) ≡ true → IdleStatement a x
