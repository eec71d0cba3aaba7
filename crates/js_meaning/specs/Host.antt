-- What costs an entry, and how the host is asked and answers.
use Rattle.std.specs.Prelude.{Bool, true, false, List, [], ◌∷◌, Some, None}
use Rattle.js_syntax.specs.Node.{Forest}
use Rattle.js_syntax.specs.declared.kind.FunctionKind.{FunctionKind}
use Rattle.js_meaning.specs.Value.{Text, Env, Value, closure, undef, given_own}
use Rattle.js_meaning.specs.Trace.{Act, Move, call_own, set_global_to, remove_global, set_import_to, answer, refuse, Ending}
use Rattle.js_meaning.specs.State.{M, Completion, normal, gives, throws, done, stop, unknown, choose, give, with_value, set_global, set_import, with_moves, set_moves}
use Rattle.js_meaning.specs.Show.{show, emit, resolve, resolve_all, resolve_maybe}

pub data Loop : Type 0 where
  while_loop do_loop for_loop : Loop

-- Each of these costs one.
pub data Task : Type 0 where
  -- a call of a closure, with its receiver and arguments
  body : FunctionKind → Forest → Env → Value → List Value → Task
  -- an entry of a loop's body, by what lies below the loop's node and under which labels it stands
  turn : Loop → Forest → List Text → Env → Task
  -- a call of a closure that the host makes; then the host goes on, and where `awaited` owes an answer still
  called_back : (awaited : Bool) → FunctionKind → Forest → Env → Value → List Value → Task

abbrev pub Enter : Type 0
Enter = Task → M

abbrev pub call_back : Enter → Bool → Value → List Value → Value → M
call_back E awaited this vs (closure i f a env) = E (called_back awaited f a env this vs)
call_back E awaited this vs _ = stop Ending.host_stopped

-- no move is left
abbrev pub moves_end : Bool → M
moves_end true = stop Ending.host_stopped
moves_end false = done normal

-- an answer or throw that nothing waits for is skipped
abbrev pub answered : Bool → Completion → M → M
answered true c m = done c
answered false c m = m

-- The host's moves: to an answer or throw where one is awaited, else to their end.
unfoldable pub play : Enter → Bool → List Move → M
play E awaited [] = moves_end awaited
play E awaited (call_own n this xs ∷ ms) =
    set_moves ms (resolve (given_own n) (λ f. resolve this (λ this. resolve_all xs (λ vs. call_back E awaited this vs f))))
play E awaited (set_global_to x v ∷ ms) = resolve v (λ v. set_global x (Some v) (play E awaited ms))
play E awaited (remove_global x ∷ ms) = set_global x None (play E awaited ms)
play E awaited (set_import_to source x v ∷ ms) = resolve_maybe v (λ v. set_import source x v (play E awaited ms))
play E awaited (answer v ∷ ms) = resolve v (λ v. set_moves ms (answered awaited (gives v undef) (play E awaited ms)))
play E awaited (refuse v ∷ ms) = resolve v (λ v. set_moves ms (answered awaited (throws v) (play E awaited ms)))

abbrev pub host_moves : Enter → Bool → M
host_moves E awaited = with_moves (play E awaited)

-- an act whose outcome the host gives
abbrev pub consult : Enter → Act → M
consult E act = emit act (host_moves E true)

-- an outcome of this sort, or the run stops
abbrev pub only : (Value → Bool) → M → M
only test m = with_value m (λ v. choose (test v) (give v) (stop Ending.host_stopped))

-- what the host sees of a call that it made
abbrev pub report : M → Completion → M
report m (gives v r) = show v (λ x. emit (Act.returned x) m)
report m (throws v) = show v (λ x. emit (Act.threw x) m)
report m _ = unknown
