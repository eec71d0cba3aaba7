-- A source and a sink in memory, as their callers see them.
use Rattle.std.specs.Prelude.{◌≡◌, ℕ, ◌+◌, ◌-◌, ◌<◌, ◌⊎◌, List, [], ◌++◌, length, drop, min, Ok}
use Rattle.std.specs.List.{Contains}
use Rattle.shake_streams.specs.Past.{Past, with_bytes, with_fault, with_pull}
use Rattle.shake_streams.specs.Moves.{last_count}

-- the bytes still to come, the numbers of the calls that are to fail, how many calls were made, how many of them failed, and what they have given
pub record SourceState : Type 0 where
  pub left : List ℕ
  pub failing : List ℕ
  pub calls : ℕ
  pub faults : ℕ
  pub given : Past

-- the bytes that were written, for how many more there is room, and the rest as above
pub record SinkState : Type 0 where
  pub written : List ℕ
  pub room : ℕ
  pub failing : List ℕ
  pub calls : ℕ
  pub faults : ℕ
  pub taken : Past

-- a count stands still at the last value of its type
abbrev pub next_count : ℕ → ℕ
next_count count = min (count + 1) last_count

abbrev pub new_source : List ℕ → List ℕ → SourceState
new_source bytes failing = record { left = bytes; failing = failing; calls = 0; faults = 0; given = [] }

abbrev pub new_sink : ℕ → List ℕ → SinkState
new_sink room failing = record { written = []; room = room; failing = failing; calls = 0; faults = 0; taken = [] }

-- after a pull for a piece with so much room, which left this in the piece
abbrev pub after_pull : SourceState → ℕ → (room : ℕ) → (piece : List ℕ) → SourceState
after_pull s n room piece = record s { left = drop n s.left; calls = next_count s.calls; given = with_pull s.given (Ok n) room piece }

abbrev pub after_failed_pull : SourceState → SourceState
after_failed_pull s = record s { calls = next_count s.calls; faults = next_count s.faults; given = with_fault s.given }

-- the call is to fail, or there is no room for any of the piece
abbrev pub Refuses : SinkState → List ℕ → Type 0
Refuses s piece = Contains s.failing (next_count s.calls) ⊎ ((0 < length piece) × (s.room ≡ 0))

abbrev pub after_push : SinkState → List ℕ → SinkState
after_push s taken = record s { written = s.written ++ taken; room = s.room - length taken; calls = next_count s.calls; taken = with_bytes s.taken taken }

abbrev pub after_failed_push : SinkState → SinkState
after_failed_push s = record s { calls = next_count s.calls; faults = next_count s.faults; taken = with_fault s.taken }
