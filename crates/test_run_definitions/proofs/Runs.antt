-- Rows of the table, computed.
use Rattle.std.proofs.Common.{ℕ, refl}
use Rattle.js_meaning.specs.State.{bind, done, stop, choose, alloc, read, store, identity, get_global, set_global, get_import, set_import, spend, with_moves, set_moves, with_exports, set_exports, put_event}
use Rattle.js_meaning.specs.Show.{show, show_all, show_exports, emit, resolve, resolve_all}
use Rattle.js_meaning.specs.Operator.{compare}
use Rattle.js_meaning.specs.Scope.{declare, start, copy}
use Rattle.js_meaning.specs.Host.{play}
use Rattle.js_meaning.specs.Node.{need, may, each, values}
use Rattle.js_meaning.specs.Expression.{in_turn}
use Rattle.js_meaning.specs.Statement.{choose_case}
use Rattle.js_meaning.specs.Module.{load_all, resolve_entries}
use Rattle.js_meaning.specs.Meaning.{take_each, eval, task_does, enter}
use Rattle.js_meaning.specs.Run.{module_does, run_within, run}
use Rattle.js_meaning.specs.Examples.{Holds}
use Rattle.test_run_definitions.specs.Worked as row

-- opens every act, so that a run computes
computes : ℕ
unfolding bind done stop choose alloc read store identity get_global set_global get_import set_import spend with_moves set_moves with_exports set_exports put_event show show_all show_exports emit resolve resolve_all compare declare start copy play need may each values in_turn choose_case load_all resolve_entries take_each eval task_does enter module_does run_within run
computes = 0

pub continue_through_finally : Holds row.continue_through_finally
unfolding computes
continue_through_finally = refl

pub break_over_return : Holds row.break_over_return
unfolding computes
break_over_return = refl

pub constant_not_written : Holds row.constant_not_written
unfolding computes
constant_not_written = refl

pub old_value_first : Holds row.old_value_first
unfolding computes
old_value_first = refl

pub own_name_written : Holds row.own_name_written
unfolding computes
own_name_written = refl

pub import_changes : Holds row.import_changes
unfolding computes
import_changes = refl

pub host_asked : Holds row.host_asked
unfolding computes
host_asked = refl

pub no_truth_value : Holds row.no_truth_value
unfolding computes
no_truth_value = refl

pub call_back_throws : Holds row.call_back_throws
unfolding computes
call_back_throws = refl

pub global_comes_too_late : Holds row.global_comes_too_late
unfolding computes
global_comes_too_late = refl

pub cells_of_the_head : Holds row.cells_of_the_head
unfolding computes
cells_of_the_head = refl

pub passed_on : Holds row.passed_on
unfolding computes
passed_on = refl

pub logic_on_others : Holds row.logic_on_others
unfolding computes
logic_on_others = refl

pub others_have_properties : Holds row.others_have_properties
unfolding computes
others_have_properties = refl

pub others_are_not_called : Holds row.others_are_not_called
unfolding computes
others_are_not_called = refl

pub others_are_thrown : Holds row.others_are_thrown
unfolding computes
others_are_thrown = refl

pub added : Holds row.added
unfolding computes
added = refl

pub compared : Holds row.compared
unfolding computes
compared = refl

pub compared_with_null : Holds row.compared_with_null
unfolding computes
compared_with_null = refl

pub put_in_order : Holds row.put_in_order
unfolding computes
put_in_order = refl

pub made_a_text : Holds row.made_a_text
unfolding computes
made_a_text = refl

pub asked_for : Holds row.asked_for
unfolding computes
asked_for = refl

pub negated : Holds row.negated
unfolding computes
negated = refl

pub constructed : Holds row.constructed
unfolding computes
constructed = refl

pub taken_as_a_key : Holds row.taken_as_a_key
unfolding computes
taken_as_a_key = refl

pub switched_on : Holds row.switched_on
unfolding computes
switched_on = refl
