-- A statement behind a jump in its list, or behind what cuts off as one does, leaves it, where it declares no name around it: it never
-- runs (ECMA-262 14.2.2).
use Rattle.std.specs.Prelude.{◌≡◌, Bool, true, false, ◌||◌}
use Rattle.js_syntax.specs.declared.node_kind.NodeKind.{NodeKind as Kind}
use Rattle.js_syntax.specs.declared.node_kind.NodeKind.TheVariants.{ExpressionStatement as expression_statement, BlockStatement as block_statement, LabeledStatement as labeled_statement, IfStatement as if_statement, BreakStatement as break_statement, ContinueStatement as continue_statement, ReturnStatement as return_statement, ThrowStatement as throw_statement, WhileStatement as while_statement, DoWhileStatement as do_while_statement, ForStatement as for_statement, ForInStatement as for_in_statement, ForOfStatement as for_of_statement, WithStatement as with_statement, DebuggerStatement as debugger_statement, SwitchStatement as switch_statement, TryStatement as try_statement}
use Rattle.js_syntax.specs.Node.{Tree, forest_of}
use Rattle.js_meaning_near.specs.Near.{cuts_off}
use Rattle.scope_laws.specs.Place.{Around, first, behind, behind_none, under}
use Rattle.steps.specs.Allowed.Branches.{declares_none}
use Rattle.steps.specs.Allowed.Places.{IsItem}

-- whether a jump, or what cuts off as one does, stands before it in its row, or stood before this part of that
abbrev pub is_behind_jump : (jumped : Bool) → Around → Bool
is_behind_jump jumped (first rest) = jumped
is_behind_jump jumped (behind k n below a) = is_behind_jump (jumped || cuts_off k below) a
is_behind_jump jumped (behind_none a) = is_behind_jump jumped a
is_behind_jump jumped (under k n a rest) = is_behind_jump false a

-- statements that are no declarations
abbrev pub only_runs : Kind → Bool
only_runs expression_statement = true
only_runs block_statement = true
only_runs (labeled_statement label) = true
only_runs if_statement = true
only_runs (break_statement label) = true
only_runs (continue_statement label) = true
only_runs return_statement = true
only_runs throw_statement = true
only_runs while_statement = true
only_runs do_while_statement = true
only_runs for_statement = true
only_runs for_in_statement = true
only_runs for_of_statement = true
only_runs with_statement = true
only_runs debugger_statement = true
only_runs switch_statement = true
only_runs try_statement = true
only_runs k = false

pub data Unreached (a : Around) (x : Tree) : Type 0 where
  never_runs : IsItem a → is_behind_jump false a ≡ true → only_runs x.kind ≡ true → declares_none (forest_of x) ≡ true → Unreached a x
