-- The runs of the small modules, computed.
use Rattle.std.proofs.Common.{◌≡◌, ℕ, [], ◌∷◌, true, false, codes, refl}
use Rattle.js_meaning.specs.Value.{host, plainly, first, Sort, Parts}
use Rattle.js_meaning.specs.Trace.{Act, Ending, ended, Script}
use Rattle.js_meaning.specs.State.{bind, done, stop, choose, alloc, read, store, identity, get_global, set_global, get_import, set_import, spend, with_moves, set_moves, with_exports, set_exports, put_event}
use Rattle.js_meaning.specs.Show.{show, show_all, show_exports, emit, resolve, resolve_all}
use Rattle.js_meaning.specs.Operator.{compare}
use Rattle.js_meaning.specs.Scope.{declare, start, copy}
use Rattle.js_meaning.specs.Host.{play}
use Rattle.js_meaning.specs.Node.{need, may, each, values}
use Rattle.js_meaning.specs.Expression.{in_turn}
use Rattle.js_meaning.specs.Module.{load_all, resolve_entries}
use Rattle.js_meaning.specs.Meaning.{take_each, eval, task_does, enter}
use Rattle.js_meaning.specs.Run.{module_does, run_within, run}
use Rattle.js_meaning.specs.Samples as sample
use Rattle.js_meaning.specs.Examples.{exporting_number, said_number, member_moves, got_member}
use Rattle.form_rules.specs.Samples.{a_module, a}
use Rattle.scope_rules.specs.Samples.{imports}
use Rattle.test_headline.specs.Rows as row

-- opens every act, so that a run computes
computes : ℕ
unfolding bind done stop choose alloc read store identity get_global set_global get_import set_import spend with_moves set_moves with_exports set_exports put_event show show_all show_exports emit resolve resolve_all compare declare start copy play need may each values in_turn load_all resolve_entries take_each eval task_does enter module_does run_within run
computes = 0

-- a host that answers undefined once
abbrev pub answers : Script
answers = sample.with_moves (sample.fine ∷ [])

pub empty_runs : (n : ℕ) → run row.empty answers n ≡ sample.over_with []
unfolding computes
empty_runs n = refl

pub export_runs : run row.exports_one answers 0 ≡ record { trace = record { act = Act.finished; exports = exporting_number 1 } ∷ []; ending = ended (exporting_number 1) }
unfolding computes
export_runs = refl

pub call_runs : run row.calls_host answers 0 ≡ sample.over_with (said_number 1 ∷ [])
unfolding computes
call_runs = refl

pub import_runs : run (a_module (imports a ∷ [])) answers 0 ≡ sample.over_with (sample.bare (Act.load (codes "m")) ∷ [])
unfolding computes
import_runs = refl

pub own_call_runs : run row.calls_own answers 1 ≡ sample.over_with []
unfolding computes
own_call_runs = refl

pub no_call_runs : run row.calls_nothing answers 1 ≡ record { trace = sample.bare (Act.failed (first 0 Sort.a_reference_error Parts.no_parts)) ∷ []; ending = ended sample.no_exports }
unfolding computes
no_call_runs = refl

-- a host that answers with a function of its own, and then undefined
abbrev pub gives_function : Script
gives_function = sample.with_moves member_moves

pub chosen_runs : run row.calls_chosen gives_function 0 ≡ sample.over_with (got_member ∷ sample.bare (Act.call (plainly (host 9 true)) sample.nothing_shown []) ∷ [])
unfolding computes
chosen_runs = refl

pub member_runs : run row.calls_member gives_function 0 ≡ sample.over_with (got_member ∷ sample.bare (Act.call (plainly (host 9 true)) (plainly (host 2 false)) []) ∷ [])
unfolding computes
member_runs = refl

pub loop_runs : run row.never_ends answers 0 ≡ record { trace = []; ending = Ending.out }
unfolding computes
loop_runs = refl
