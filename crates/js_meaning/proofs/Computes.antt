-- Runs that compute.
use Rattle.std.proofs.Common.{ℕ, refl}
use Rattle.js_meaning.specs.State.{bind, done, stop, choose, alloc, read, store, identity, get_global, set_global, get_import, set_import, spend, with_moves, set_moves, with_exports, set_exports, put_event}
use Rattle.js_meaning.specs.Show.{show, show_all, show_exports, emit, resolve, resolve_all}
use Rattle.js_meaning.specs.Operator.{compare}
use Rattle.js_meaning.specs.Scope.{declare, start, copy}
use Rattle.js_meaning.specs.Host.{play}
use Rattle.js_meaning.specs.Node.{need, may, each, values}
use Rattle.js_meaning.specs.Expression.{in_turn}
use Rattle.js_meaning.specs.Statement.{choose_case}
use Rattle.js_meaning.specs.Module.{load_all, resolve_entries}
use Rattle.js_meaning.specs.Meaning.{take_each, eval, task_does, enter}
use Rattle.js_meaning.specs.Run.{module_does, run_within, run}
use Rattle.js_meaning.specs.Examples as example
use Rattle.js_meaning.specs.Examples.{Holds}

-- opens every act, so that a run computes
computes : ℕ
unfolding bind done stop choose alloc read store identity get_global set_global get_import set_import spend with_moves set_moves with_exports set_exports put_event show show_all show_exports emit resolve resolve_all compare declare start copy play need may each values in_turn choose_case load_all resolve_entries take_each eval task_does enter module_does run_within run
computes = 0

pub member_call : Holds example.member_call
unfolding computes
member_call = refl

pub indirect_call : Holds example.indirect_call
unfolding computes
indirect_call = refl

pub finally_wins : Holds example.finally_wins
unfolding computes
finally_wins = refl

pub default_in_the_middle : Holds example.default_in_the_middle
unfolding computes
default_in_the_middle = refl

pub default_is_last : Holds example.default_is_last
unfolding computes
default_is_last = refl

pub cells_of_a_loop : Holds example.cells_of_a_loop
unfolding computes
cells_of_a_loop = refl

pub read_too_early : Holds example.read_too_early
unfolding computes
read_too_early = refl

pub constant_written : Holds example.constant_written
unfolding computes
constant_written = refl

pub typeof_of_nothing : Holds example.typeof_of_nothing
unfolding computes
typeof_of_nothing = refl

pub no_room : Holds example.no_room
unfolding computes
no_room = refl

pub exports_are_live : Holds example.exports_are_live
unfolding computes
exports_are_live = refl

pub called_back : Holds example.called_back
unfolding computes
called_back = refl

pub keys_once : Holds example.keys_once
unfolding computes
keys_once = refl
