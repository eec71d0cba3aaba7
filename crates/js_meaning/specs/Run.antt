-- The run of a module (ECMA-262 16.2.1.6.5): what `run` gives is what users are promised something about.
use Rattle.std.specs.Prelude.{ℕ, [], true, false, Option, Some, None}
use Rattle.js_syntax.specs.declared.node_kind.NodeKind.{NodeKind as Kind}
use Rattle.js_syntax.specs.Node.{Forest, nothing, node}
use Rattle.js_syntax.specs.declared.scalar.SourceType.TheVariants as source_type
use Rattle.js_meaning.specs.Value.{Plain, Value, plain}
use Rattle.js_meaning.specs.Trace.{Act, Script, Ending, ended, Run}
use Rattle.js_meaning.specs.State.{State, Cell, cell, M, Out, goes, stops, Completion, normal, throws, bind, stop, unknown, seq}
use Rattle.js_meaning.specs.Show.{show, emit, with_shown_exports}
use Rattle.js_meaning.specs.Scope.{declare, start, module_decls}
use Rattle.js_meaning.specs.Module.{requests, distinct, load_all, exporting}
use Rattle.js_meaning.specs.Host.{Enter, host_moves}
use Rattle.js_meaning.specs.Node.{run as run_under, each}
use Rattle.js_meaning.specs.Meaning.{eval, enter}

-- what was done is shown, and the host makes the rest of its moves
abbrev pub finish : Enter → Completion → M
finish E normal = emit Act.finished (host_moves E false)
finish E (throws v) = show v (λ x. emit (Act.failed x) (host_moves E false))
finish E _ = unknown

abbrev pub finally : Completion → M
finally normal = with_shown_exports (λ exports. stop (ended exports))
finally _ = unknown

-- A module: its functions are there first, then its requests are made, then its body runs.
unfoldable pub module_does : Enter → Forest → M
module_does E a =
    bind (bind
    (declare (module_decls a) [] (λ env. exporting a env (start a env (seq (load_all E (distinct (requests a))) (each (run_under []) (eval E a) env)))))
    (finish E)) finally

-- only modules have runs here
abbrev pub program_does : Enter → Forest → M
program_does E (node (Kind.Program source_type.Module) n (node Kind.Statements m a nothing) nothing) = module_does E a
program_does E _ = unknown

abbrev pub no_cells : ℕ → Cell
no_cells i = cell true None

abbrev pub as_value : Option Plain → Option Value
as_value None = None
as_value (Some p) = Some (plain p)

abbrev pub first_state : Script → ℕ → State
first_state script n =
    record { budget = n; fresh = 0; store = no_cells; globals = λ x. as_value (script.globals x); imports = λ source x. None; shown = []; moves = script.moves; exports = []; stars = [] }

abbrev pub seen : Out → Run
seen (goes es s c) = record { trace = es; ending = Ending.uncovered }
seen (stops es e) = record { trace = es; ending = e }

-- with entries nested at most this deep
unfoldable pub run_within : ℕ → Forest → Script → ℕ → Run
run_within depth t script n = seen (program_does (enter depth) t (first_state script n))

-- The run of a tree with a script and a bound: its events, and how it ends.
unfoldable pub run : Forest → Script → ℕ → Run
run t script n = run_within n t script n
